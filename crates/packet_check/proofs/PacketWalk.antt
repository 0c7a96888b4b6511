-- Packets, checked one after another.
use Rattle.std.proofs.Common.{◌≡◌, ℕ, ◌||◌, Bool, not, List, [], ◌∷◌, ◌++◌, Result, if◌then◌else◌, refl, sym, ap, subst, ◌∙◌}
use Rattle.std.proofs.lemmas.List.{append-nil, map-append}
use Rattle.std.proofs.lemmas.Grind.{flat_map-append}
use Rattle.ao_base.specs.Outside.{Side}
use Rattle.book_base.specs.declared.address.Pair.{Pair}
use Rattle.book_keys.specs.Rows.{Table}
use Rattle.book_captures.specs.Captures.{CapturePacket}
use Rattle.book_cmd_check.specs.Captures.{Connection}
use Rattle.book_sessions.specs.Sessions.{stored_of_packet}
use Rattle.book_sessions.specs.declared.class.PacketClass.{PacketClass}
use Rattle.book_sessions.specs.CheckedLines.{checked_line, is_foreign_class, listed_line, listed_lines}
use Rattle.book_sessions.specs.CheckedPackets.{CheckedPacket, checked_from, checked_packet, class_of, classes_of, held_after}
use Rattle.capture_check.specs.declared.flows.Flows.{Flows}
use Rattle.capture_walk.specs.declared.hearer.Heard.{Heard}
use Rattle.capture_walk.specs.declared.hearer.HearHalt.{HearHalt}
use Rattle.capture_walk.specs.Hearing.{Hears, Tells}
use Rattle.capture_walk.proofs.Telling.{hears_told}
use Rattle.packet_check.specs.declared.tally.Tally.{Tally}
use Rattle.packet_check.specs.Checking.{ChecksPacket}
use Rattle.packet_check.specs.Tallies.{Tallies}
use Rattle.packet_check.specs.Reading.{CheckAsked, HearsPacket, StandsAfter, held_from, lines_from}

held_more : (tables : List Table) (packets : List CapturePacket) (held : List Connection) (p : CapturePacket) → held_from tables held (packets ++ p ∷ []) ≡ held_after tables (held_from tables held packets) (stored_of_packet p)
held_more tables [] held p = refl
held_more tables (x ∷ xs) held p = held_more tables xs (held_after tables held (stored_of_packet x)) p

checked_more : (tables : List Table) (packets : List CapturePacket) (held : List Connection) (p : CapturePacket)
    → checked_from tables held (packets ++ p ∷ []) ≡ checked_from tables held packets ++ checked_packet tables (held_from tables held packets) p ∷ []
checked_more tables [] held p = refl
checked_more tables (x ∷ xs) held p = ap (λ (l : List CheckedPacket). checked_packet tables held x ∷ l) (checked_more tables xs (held_after tables held (stored_of_packet x)) p)

-- a packet adds its line, if it is listed
pub lines_more : (all : Bool) (tables : List Table) (held : List Connection) (packets : List CapturePacket) (p : CapturePacket)
    → lines_from all tables held (packets ++ p ∷ []) ≡ lines_from all tables held packets ++ listed_line all tables (checked_packet tables (held_from tables held packets) p)
lines_more all tables held packets p =
    let one = checked_packet tables (held_from tables held packets) p in
    ap (listed_lines all tables) (checked_more tables packets held p)
    ∙ (flat_map-append (listed_line all tables) (checked_from tables held packets) (one ∷ [])
    ∙ ap (λ (l : List ℕ). lines_from all tables held packets ++ l) (append-nil (listed_line all tables one)))

classes_more : (tables : List Table) (held : List Connection) (packets : List CapturePacket) (p : CapturePacket)
    → classes_of tables (checked_from tables held (packets ++ p ∷ [])) ≡ classes_of tables (checked_from tables held packets) ++ class_of tables (checked_packet tables (held_from tables held packets) p).content ∷ []
classes_more tables held packets p =
    ap (classes_of tables) (checked_more tables packets held p)
    ∙ map-append (λ (c : CheckedPacket). class_of tables c.content) (checked_from tables held packets) (checked_packet tables (held_from tables held packets) p ∷ [])

-- one packet more was checked, and its line written, or a part of it
pub packet_heard : (q : CheckAsked) (before : List CapturePacket) (p : CapturePacket) (tables tables_now : List Table) (all all_now : Bool) (entries entries_now : List (Pair × Flows)) (tally tally_now : Tally) (line : List ℕ) (o s : Side)
    (how : Result Heard HearHalt) → StandsAfter q tables all entries tally before
    → HearsPacket tables all (held_from q.tables q.held before) p (classes_of q.tables (checked_from q.tables q.held before)) entries_now tally_now line → tables_now ≡ tables → all_now ≡ all → Tells line o s how
    → Hears (lines_from q.all q.tables q.held) (λ packets. StandsAfter q tables_now all_now entries_now tally_now packets) (λ packets last. ⊥) before p o s how
packet_heard q before p tables tables_now all all_now entries entries_now tally tally_now line o s how stood hears same_tables same_all tells =
    let one : HearsPacket q.tables q.all (held_from q.tables q.held before) p (classes_of q.tables (checked_from q.tables q.held before)) entries_now tally_now line = rw (stood.tables_are, stood.all_is) at hears in
    hears_told (lines_from q.all q.tables q.held) (λ packets. StandsAfter q tables_now all_now entries_now tally_now packets) (λ packets last. ⊥) before p o s line how
    (lines_more q.all q.tables q.held before p ∙ ap (λ (l : List ℕ). lines_from q.all q.tables q.held before ++ l) (sym one.line_is))
    (record {
      tables_are = same_tables ∙ stood.tables_are;
      all_is = same_all ∙ stood.all_is;
      stands = rw (held_more q.tables before q.held p) one.stands;
      tallies = rw (classes_more q.tables q.held before p) one.tallies;
    }) tells

listed_as : (listed : Bool) (class own : PacketClass) (all : Bool) (line text : List ℕ) → own ≡ class → listed ≡ (all || not (is_foreign_class class)) → line ≡ text
    → (if listed then line else []) ≡ (if all || not (is_foreign_class own) then text else [])
listed_as listed class own all line text same listed_is line_is = rw (same, sym listed_is, line_is) refl

-- a packet was checked and counted, and its line kept if it is listed
pub packet_kept : (tables : List Table) (all : Bool) (held : List Connection) (p : CapturePacket) (classes : List PacketClass) (entries : List (Pair × Flows)) (tally : Tally) (line kept : List ℕ) (class : PacketClass) (listed : Bool)
    → ChecksPacket tables held p entries line class → Tallies tally (classes ++ class ∷ []) → listed ≡ (all || not (is_foreign_class class)) → kept ≡ (if listed then line else []) → HearsPacket tables all held p classes entries tally kept
packet_kept tables all held p classes entries tally line kept class listed checks tallies listed_is kept_is =
    let own = class_of tables (checked_packet tables held p).content in
    record {
      stands = checks.stands;
      tallies = subst (λ (c : PacketClass). Tallies tally (classes ++ c ∷ [])) checks.class_is tallies;
      line_is = kept_is ∙ listed_as listed class own all line (checked_line (checked_packet tables held p)) (sym checks.class_is) listed_is checks.line_is;
    }
