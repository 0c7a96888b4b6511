-- The numbers of the last line.
use Rattle.std.proofs.Common.{◌≡◌, suc, ◌+◌, List, [], ◌∷◌, length, refl, ap, ◌∙◌, arith}
use Rattle.std.proofs.lemmas.List.{length-map}
use Rattle.book_keys.specs.Rows.{Table}
use Rattle.book_captures.specs.Captures.{CapturePacket}
use Rattle.book_cmd_check.specs.declared.given.GivenIsns.{GivenIsns}
use Rattle.book_cmd_check.specs.Captures.{Connection}
use Rattle.book_cmd_check.specs.Handshakes.{given_after}
use Rattle.book_sessions.specs.Sessions.{stored_of_packet}
use Rattle.book_sessions.specs.declared.class.PacketClass.{PacketClass}
use Rattle.book_sessions.specs.declared.class.PacketClass.TheVariants as class
use Rattle.book_sessions.specs.CheckedLines.{is_foreign_class, is_other_class, is_passing_class, is_refused_class, class_count}
use Rattle.book_sessions.specs.CheckedPackets.{CheckedPacket, checked_from, checked_packets, class_of, classes_of, held_after}

checked_each : (tables : List Table) (packets : List CapturePacket) (held : List Connection) → length (checked_from tables held packets) ≡ length packets
checked_each tables [] held = refl
checked_each tables (p ∷ ps) held = ap suc (checked_each tables ps (held_after tables held (stored_of_packet p)))

pub packets_counted : (tables : List Table) (given : List GivenIsns) (packets : List CapturePacket) → length (classes_of tables (checked_packets tables given packets)) ≡ length packets
packets_counted tables given packets =
    length-map (checked_packets tables given packets) (λ (p : CheckedPacket). class_of tables p.content) ∙ checked_each tables packets (given_after [] given)

pub numbers_counted : (classes : List PacketClass)
    → class_count is_passing_class classes + class_count is_refused_class classes + class_count is_foreign_class classes + class_count is_other_class classes ≡ length classes
numbers_counted [] = refl
numbers_counted (class.Passes ∷ cs) = omega (arith, numbers_counted cs)
numbers_counted (class.Refused ∷ cs) = omega (arith, numbers_counted cs)
numbers_counted (class.Foreign ∷ cs) = omega (arith, numbers_counted cs)
numbers_counted (class.Other ∷ cs) = omega (arith, numbers_counted cs)
numbers_counted (class.Doubtful ∷ cs) = omega (arith, numbers_counted cs)
