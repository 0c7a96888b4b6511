-- The lines of the packets that were heard.
use Rattle.std.proofs.Common.{◌≡◌, ℕ, ◌<◌, List, [], ◌∷◌, ◌++◌, length, take, Option, Some, Result, Ok, Err, IfSome, refl, sym, ap, ◌∙◌, arith}
use Rattle.std.proofs.lemmas.List.{append-nil, append_cancel_left}
use Rattle.std.proofs.lemmas.Grind.{flat_map-append}
use Rattle.ao_base.specs.Outside.{Side}
use Rattle.ao_base.proofs.Sides.{gave_none, took_none}
use Rattle.book_captures.specs.Captures.{CapturePacket}
use Rattle.book_captures.specs.PacketLines.{packet_line, packet_lines}
use Rattle.capture_walk.specs.Reads.{Reading, new_reading}
use Rattle.capture_walk.specs.declared.hearer.Heard.{Heard}
use Rattle.capture_walk.specs.declared.hearer.HearHalt.{HearHalt}
use Rattle.capture_walk.specs.declared.walking.WalkEnd.{WalkEnd}
use Rattle.capture_walk.specs.declared.walking.WalkEnd.TheVariants as end
use Rattle.capture_walk.specs.declared.walking.WalkHalt.{WalkHalt}
use Rattle.capture_walk.specs.declared.walking.WalkHalt.TheVariants as walk_halt
use Rattle.capture_walk.specs.Hearing.{Hears, Tells}
use Rattle.capture_walk.specs.Walks.{Walks}
use Rattle.capture_walk.proofs.Showing.{read_now, shown_none}
use Rattle.capture_walk.proofs.Taken.{all_none}
use Rattle.capture_walk.proofs.Telling.{hears_told}
use Rattle.scope_lines.specs.declared.write.LinesHalt.TheVariants as halt
use Rattle.scope_lines.specs.Writes.{Writes, lines_ended}

-- memory ran out before the first part
pub ends_none : (source out : Side) → Writes [] source source out out (Err halt.Memory)
ends_none source out = record {
  gave = gave_none source;
  bytes = all_none;
  ends = record { read = []; later = []; one = omega arith; has_read = read_now new_reading [] [] shown_none; near = omega arith; wrote = took_none out };
}

-- a packet adds its line
line_more : (shown : List CapturePacket) (p : CapturePacket) → packet_lines (shown ++ p ∷ []) ≡ packet_lines shown ++ (packet_line p ++ 10 ∷ [])
line_more shown p = flat_map-append (λ p. packet_line p ++ 10 ∷ []) shown (p ∷ []) ∙ ap (λ xs. packet_lines shown ++ xs) (append-nil (packet_line p ++ 10 ∷ []))

-- its line was written, or a part of it
pub line_told : (before : List CapturePacket) (packet : Option CapturePacket) (p : CapturePacket) (line : List ℕ) (o q : Side) (how : Result Heard HearHalt) → packet ≡ Some p → IfSome packet (λ p. line ≡ packet_line p ++ 10 ∷ []) → Tells line o q how
    → Hears packet_lines (λ packets. Unit {0}) (λ packets last. ⊥) before p o q how
line_told before packet p line o q how is line_is tells =
    let same : line ≡ packet_line p ++ 10 ∷ [] = rw is at line_is in
    hears_told packet_lines (λ packets. Unit {0}) (λ packets last. ⊥) before p o q line how (line_more before p ∙ ap (λ xs. packet_lines before ++ xs) (sym same)) tt tells

-- what was written of a capture that was heard
pub lines_of : (reader : Reading) (given : List ℕ) (a c o q : Side) (result : Result WalkEnd WalkHalt) → Walks packet_lines (λ packets. Unit {0}) (λ packets last. ⊥) reader given a c o q result → Writes given a c o q (lines_ended result)
lines_of reader given a c o q (Ok end.End) w = record { gave = w.gave; bytes = w.bytes; ends = record { at_end = w.ends.at_end; faultless = w.ends.faultless; wrote = w.ends.wrote } }
lines_of reader given a c o q (Ok end.Done) w = absurd w.ends.here
lines_of reader given a c o q (Err (walk_halt.Broken fault)) w = record { gave = w.gave; bytes = w.bytes; ends = record { has_read = w.ends.has_read; fault_is = w.ends.fault_is; all = w.ends.all; wrote = w.ends.wrote } }
lines_of reader given a c o q (Err walk_halt.TooLong) w = record { gave = w.gave; bytes = w.bytes; ends = (w.ends.0, record { read = w.ends.1.read; has_read = w.ends.1.has_read; wrote = w.ends.1.wrote }) }
lines_of reader given a c o q (Err walk_halt.Read) w = record { gave = w.gave; bytes = w.bytes; ends = (w.ends.0, record { read = w.ends.1.read; has_read = w.ends.1.has_read; wrote = w.ends.1.wrote }) }
lines_of reader given a c o q (Err walk_halt.Memory) w = record { gave = w.gave; bytes = w.bytes; ends = record { read = w.ends.read; later = w.ends.later; one = w.ends.one; has_read = w.ends.has_read; near = w.ends.near; wrote = w.ends.wrote } }
lines_of reader given a c o q (Err walk_halt.Write) w =
    let line : w.ends.text ≡ packet_line w.ends.last ++ 10 ∷ [] = append_cancel_left (packet_lines w.ends.read) w.ends.text (packet_line w.ends.last ++ 10 ∷ []) (sym w.ends.adds ∙ line_more w.ends.read w.ends.last) in
    record {
      gave = w.gave;
      bytes = w.bytes;
      ends = record {
        read = w.ends.read;
        last = w.ends.last;
        n = w.ends.n;
        has_read = w.ends.has_read;
        near = w.ends.near;
        not_all = rw line at w.ends.not_all;
        wrote = rw line at w.ends.wrote;
        rose = w.ends.rose;
      };
    }
