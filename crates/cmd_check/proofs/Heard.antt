-- One more packet behind those that were heard.
use Rattle.std.proofs.Common.{◌≡◌, ℕ, ◌<◌, List, [], ◌∷◌, ◌++◌, length, map, Result, Ok, Err, refl, sym, ap, ◌∙◌, arith}
use Rattle.std.proofs.lemmas.Bool.{eq-eqb, ne_eqb}
use Rattle.std.proofs.lemmas.List.{append-nil}
use Rattle.book_keys.specs.Rows.{Table}
use Rattle.book_pcap.specs.Packets.{Packet}
use Rattle.book_cmd_check.specs.StoredPackets.{stored_packet}
use Rattle.book_cmd_check.specs.Captures.{Stored, capture_run}
use Rattle.pcap_file.specs.Reads.{and_packet}
use Rattle.cmd_check.specs.Judges.{Gathers, HasHeard, Judging, line_after}
use Rattle.cmd_check.proofs.RunLaws.{run_more}
use Rattle.cmd_check.specs.CheckedPackets.{JudgedPacket, JudgesPacket, written_of}

map_more : (shown : List Packet) (p : Packet) → map stored_packet (shown ++ p ∷ []) ≡ map stored_packet shown ++ stored_packet p ∷ []
map_more [] p = refl
map_more (q ∷ shown) p = ap (λ xs. stored_packet q ∷ xs) (map_more shown p)

and_passed : (shown : List Packet) (p : Packet) → length p.datagram ≡ 0 → and_packet shown p ≡ shown
and_passed shown p none = rw (eq-eqb (length p.datagram) 0 none) refl

and_judged : (shown : List Packet) (p : Packet) → 0 < length p.datagram → and_packet shown p ≡ shown ++ p ∷ []
and_judged shown p some = rw (ne_eqb (length p.datagram) 0 (λ e. omega arith)) refl

written_more : (tables : List Table) (shown : List Packet) (p : Packet) →
    written_of tables (shown ++ p ∷ []) ≡ written_of tables shown ++ line_after tables (map stored_packet shown) (stored_packet p)
written_more tables shown p = ap (capture_run tables) (map_more shown p) ∙ run_more tables (map stored_packet shown) (stored_packet p)

-- a packet without a datagram is passed over
pub packet_passed : (before : Judging) (shown : List Packet) (p : Packet) (lines : List ℕ) → length p.datagram ≡ 0 → HasHeard before (map stored_packet shown) → JudgedPacket before before shown p lines lines
packet_passed before shown p lines none heard =
    let same = and_passed shown p none in
    record {
      text = [];
      tables_same = refl;
      heard = rw same heard;
      whole = ap (written_of before.checking.tables) same ∙ sym (append-nil (written_of before.checking.tables shown));
      one = λ some. absurd (omega arith);
      gathered = sym (append-nil lines);
    }

same_stored : (p : Packet) (number time : ℕ) (bytes : List ℕ) → number ≡ p.number → time ≡ p.seconds → bytes ≡ p.datagram →
    record { number = number; time = time; bytes = bytes } ≡ stored_packet p
same_stored p number time bytes a b d = rw (a, b, d) refl

-- another is judged
packet_judged : (before now : Judging) (shown : List Packet) (p : Packet) (number time : ℕ) (bytes lines lines_now : List ℕ) → number ≡ p.number → time ≡ p.seconds → bytes ≡ p.datagram → 0 < length bytes →
    {E : Type 0} (u : Unit {0}) → Gathers {E = E} before now (map stored_packet shown) (record { number = number; time = time; bytes = bytes }) lines lines_now (Ok u) → JudgedPacket before now shown p lines lines_now
packet_judged before now shown p number time bytes lines lines_now number_is time_is bytes_are some u gathers =
    let some_datagram : 0 < length p.datagram = rw bytes_are at some in
    let same = and_judged shown p some_datagram in
    let stored = same_stored p number time bytes number_is time_is bytes_are in
    let tables = before.checking.tables in
    record {
      text = line_after tables (map stored_packet shown) (stored_packet p);
      tables_same = gathers.tables;
      heard = rw (same, map_more shown p, ← stored) gathers.heard;
      whole = ap (written_of tables) same ∙ written_more tables shown p;
      one = λ some_text. same;
      gathered = gathers.lines ∙ ap (λ (s : Stored). lines ++ line_after tables (map stored_packet shown) s) stored;
    }

pub packet_result : (before now : Judging) (shown : List Packet) (p : Packet) (number time : ℕ) (bytes lines lines_now : List ℕ) → number ≡ p.number → time ≡ p.seconds → bytes ≡ p.datagram → 0 < length bytes →
    {E : Type 0} (result : Result (Unit {0}) E) → Gathers before now (map stored_packet shown) (record { number = number; time = time; bytes = bytes }) lines lines_now result →
    JudgesPacket before now shown p lines lines_now result
packet_result before now shown p number time bytes lines lines_now number_is time_is bytes_are some (Ok u) gathers =
    packet_judged before now shown p number time bytes lines lines_now number_is time_is bytes_are some u gathers
packet_result before now shown p number time bytes lines lines_now number_is time_is bytes_are some (Err error) gathers = gathers.lines
