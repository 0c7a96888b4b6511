-- From one packet to the next, and to each end.
use Rattle.std.proofs.Common.{◌≡◌, ◌⊎◌, inr, ℕ, ◌+◌, ◌-◌, ◌<◌, ◌≤◌, ◌==◌, if◌then◌else◌, Bool, true, false, List, [], ◌∷◌, ◌++◌, length, map, take, Option, Some, None, Result, Ok, Err, IsOk, refl, sym, ap, ◌∙◌, append_assoc, arith}
use Rattle.std.proofs.lemmas.List.{append-nil, length-append, length-drop}
use Rattle.std.proofs.lemmas.List.Elements.{All-append, All-from_get_or}
use Rattle.std.specs.List.{All}
use Rattle.ao_base.specs.Outside.{Side, Gave, WasWritten, told}
use Rattle.ao_base.proofs.Sides.{gave_more, gave_none, rose_after, took_none}
use Rattle.book_keys.specs.Rows.{Table}
use Rattle.book_pcap.specs.declared.pcap_head.Head.{Head}
use Rattle.book_pcap.specs.declared.pcap_head.HeadFault.{HeadFault}
use Rattle.book_pcap.specs.Packets.{BadHead, BadRecord, FileFault, Packet, opened, packets_behind, packets_of}
use Rattle.book_cmd_check.specs.StoredPackets.{stored_packet}
use Rattle.pcap_file.specs.declared.packets.PacketStep.{PacketStep}
use Rattle.pcap_file.specs.declared.packets.PacketStep.TheVariants as step
use Rattle.book_base.specs.Hexadecimal.{IsByte}
use Rattle.pcap_file.specs.Reads.{Reading, Steps, GoesOn, Stops as PcapStops, and_packet, header_length, in_front, packets_at, passed}
use Rattle.pcap_file.proofs.Going.{head_told, record_told}
use Rattle.pcap_file.proofs.Shorter.{head_more}
use Rattle.pcap_file.proofs.Showing.{HasShown, none_in_front, shown_all, shown_alone, shown_more, shown_none}
use Rattle.cmd_check.specs.Judges.{HasHeard, Judging}
use Rattle.cmd_check.specs.declared.halt.Halt.{Halt}
use Rattle.cmd_check.specs.declared.halt.Halt.TheVariants as halt
use Rattle.cmd_check.specs.CheckedPackets.{Checks, HasRead, InTime, JudgedPacket, Refuses, Sticks, Stops, Wait, segments_of, written_of}
use Rattle.cmd_check.specs.Gatherings.{BreaksLines, RunsOut, Written}
use Rattle.cmd_check.proofs.Gathering.{Gathered, Place, gathered_broken, gathered_more, gathered_next, gathered_none, nothing_written, wrote_all}

-- between two packets: these bytes were given, these packets shown and judged, and their lines written but for those that are gathered
pub record Between (tables : List Table) (reader : Reading) (judging : Judging) (given : List ℕ) (shown : List Packet) (lines : List ℕ) (source_before source_now out_before out_now : Side) : Type 0 where
  pub gave : Gave given source_before source_now
  pub bytes : All IsByte given
  pub shows : HasShown reader given shown
  pub begun : reader.head ≡ None → given ≡ reader.kept
  pub near : length reader.kept ≤ 327696
  pub counted : length reader.kept ≤ reader.taken
  pub within : reader.taken - length reader.kept + header_length reader.head ≤ 268435456
  pub going : reader.over ≡ false
  pub tables_same : judging.checking.tables ≡ tables
  pub heard : HasHeard judging (map stored_packet shown)
  pub gathered : Gathered tables given shown lines out_before out_now

-- the lines that are gathered are written before the source is asked
pub written_in_time : (given lines later : List ℕ) (a b : Side) (next : PacketStep) → Written lines later a b → InTime given lines later a b next
written_in_time given lines later a b step.Packet written = inr written
written_in_time given lines later a b step.End written = written
written_in_time given lines later a b step.Fault written = written
written_in_time given lines later a b step.TooLong written = written
written_in_time given lines later a b (step.BadHead fault) written = written
written_in_time given lines later a b (step.BadRecord n) written = written

-- a file without a fault has a header
header_of : (r : Result (Head × List ℕ) HeadFault) → (packets_behind r).fault ≡ None → (head : Head) × (body : List ℕ) × (r ≡ Ok (head, body))
header_of (Ok found) none = (found.0, found.1, refl)
header_of (Err fault) none = absurd (cc)

all_none : All IsByte []
all_none = All-from_get_or IsByte [] 0 (λ i within. absurd (omega arith))

abbrev new_reader : Reading
new_reader = record { kept = []; taken = 0; count = 0; head = None; over = false; packet = None }

-- before the first packet
pub between_new : (tables : List Table) (reader : Reading) (judging : Judging) (lines : List ℕ) (source out : Side) → lines ≡ [] →
    reader ≡ record { kept = []; taken = 0; count = 0; head = None; over = false; packet = None } → judging.checking.tables ≡ tables → HasHeard judging [] →
    Between tables reader judging [] [] lines source source out out
between_new tables reader judging lines source out none is same heard = rw (is, none) (record {
  gave = gave_none source;
  bytes = all_none;
  shows = shown_none;
  begun = λ none. refl;
  near = omega arith;
  counted = omega arith;
  within = omega arith;
  going = refl;
  tables_same = same;
  heard = heard;
  gathered = gathered_none tables [] out;
})

passed_most : (before now : Option Head) → passed before now ≤ header_length before
passed_most before None = omega arith
passed_most (Some known) (Some head) = omega arith
passed_most None (Some head) = omega arith

header_most : (had : Option Head) → header_length had ≤ 24
header_most None = omega arith
header_most (Some known) = omega arith

later_by : (passed : Bool) (shown : List Packet) (p : Packet) → (later : List Packet) × (length later ≤ 1) × ((if passed then shown else shown ++ p ∷ []) ≡ shown ++ later)
later_by true shown p = ([], omega arith, sym (append-nil shown))
later_by false shown p = (p ∷ [], omega arith, refl)

and_later : (shown : List Packet) (p : Packet) → (later : List Packet) × (length later ≤ 1) × (and_packet shown p ≡ shown ++ later)
and_later shown p = later_by (length p.datagram == 0) shown p

module _ (tables : List Table) (reader next_reader : Reading) (judging : Judging) (given next : List ℕ) (shown : List Packet) (lines : List ℕ) (a b c o q : Side)
    (between : Between tables reader judging given shown lines a b o q) where
  size : length (given ++ next) ≡ length given + length next
  size = length-append given next

  gave_all : Gave next b c → Gave (given ++ next) a c
  gave_all gave = gave_more given next a b c between.gave gave

  bytes_all : All IsByte next → All IsByte (given ++ next)
  bytes_all bytes = All-append IsByte given next between.bytes bytes

  -- each packet's record has at least 16 bytes
  pub between_smaller : Steps reader next_reader b c next step.Packet → GoesOn reader next_reader (reader.kept ++ next) step.Packet →
      268435456 - (next_reader.taken - length next_reader.kept) < 268435456 - (reader.taken - length reader.kept)
  between_smaller steps goes =
      let within = steps.answers.within in
      let taken = steps.taken in
      let counted = steps.counted in
      let had = between.counted in
      let some = goes.4 in
      let whole : length (reader.kept ++ next) ≡ length (goes.0 ++ next_reader.kept) = ap length goes.2 in
      let left = length-append reader.kept next in
      let right = length-append goes.0 next_reader.kept in
      omega arith

  -- what a call took that shows no packet
  few_stopped : (result : PacketStep) → Steps reader next_reader b c next result → PcapStops reader next_reader next →
      (length (reader.kept ++ next) ≤ 327720) × (length (given ++ next) ≤ 268763152)
  few_stopped result steps stops =
      let bound = steps.bound in
      let had = between.counted in
      let within = between.within in
      let taken = between.shows.taken in
      let left = length-append reader.kept next in
      let kept : length next_reader.kept ≡ length (reader.kept ++ next) - passed reader.head next_reader.head = ap length stops.kept ∙ length-drop (passed reader.head next_reader.head) (reader.kept ++ next) in
      let most = passed_most reader.head next_reader.head in
      let header = header_most reader.head in
      let all = size in
      (omega arith, omega arith)

  has_read : length (reader.kept ++ next) ≤ 327720 → HasRead (given ++ next) shown
  has_read few = record {
    front = between.shows.front;
    rest = reader.kept ++ next;
    split = ap (λ xs. xs ++ next) between.shows.split ∙ append_assoc between.shows.front reader.kept next;
    few = few;
    reader = reader;
    goes_on = between.shows.packets;
  }

  -- all lines are written before the source is asked
  wrote_all_of : (later : List ℕ) (r : Side) → Written lines later q r → WasWritten (written_of tables shown) o r
  wrote_all_of later r written = wrote_all tables given shown lines o q r between.gathered written.wrote

  -- the end of the file
  pub ends_done : (later : List ℕ) (r : Side) → Written lines later q r → Steps reader next_reader b c next step.End → GoesOn reader next_reader (reader.kept ++ next) step.End → Checks tables (given ++ next) a c o r (Ok judging.amiss)
  ends_done later r written steps goes =
      let all : packets_of (given ++ next) ≡ record { list = shown; fault = None } = shown_all reader given next shown None between.shows goes in
      let segments : segments_of (given ++ next) ≡ map stored_packet shown = ap (λ ps. map stored_packet ps.list) all in
      let few = few_stopped step.End steps steps.answers.0 in
      let taken = steps.taken in
      let had = between.shows.taken in
      let most = steps.answers.4 in
      let count = size in
      record {
        gave = gave_all steps.gave;
        bytes = bytes_all steps.bytes;
        few = few.1;
        ends = record {
          at_end = steps.answers.2;
          within = omega arith;
          faultless = ap (λ ps. ps.fault) all;
          amiss_is = rw (segments, ← between.tables_same) between.heard.amiss;
          wrote = rw segments (wrote_all_of later r written);
        };
      }

  refuses : (later : List ℕ) (r : Side) → Written lines later q r → (fault : FileFault) → length (reader.kept ++ next) ≤ 327720 → packets_at reader (reader.kept ++ next) ≡ record { list = []; fault = Some fault } →
      packets_at reader ((reader.kept ++ next) ++ told c.bytes) ≡ record { list = []; fault = Some fault } → Refuses tables (given ++ next) c o r fault
  refuses later r written fault few goes tells =
      let left = told c.bytes in
      let all : packets_of (given ++ next) ≡ record { list = shown; fault = Some fault } = shown_all reader given next shown (Some fault) between.shows goes in
      let group : (reader.kept ++ next) ++ left ≡ reader.kept ++ (next ++ left) = append_assoc reader.kept next left in
      let more : packets_of (given ++ (next ++ left)) ≡ record { list = shown; fault = Some fault } = shown_all reader given (next ++ left) shown (Some fault) between.shows (rw group at tells) in
      let segments : segments_of (given ++ next) ≡ map stored_packet shown = ap (λ ps. map stored_packet ps.list) all in
      record {
        has_read = rw all (has_read few);
        fault_is = ap (λ ps. ps.fault) all;
        all = ap packets_of (append_assoc given next left) ∙ (more ∙ sym all);
        wrote = rw segments (wrote_all_of later r written);
      }

  -- a header that is refused
  pub ends_head : (later : List ℕ) (r : Side) → Written lines later q r → (fault : HeadFault) → Steps reader next_reader b c next (step.BadHead fault) → GoesOn reader next_reader (reader.kept ++ next) (step.BadHead fault) →
      Checks tables (given ++ next) a c o r (Err (halt.Head fault))
  ends_head later r written fault steps goes =
      let few = few_stopped (step.BadHead fault) steps steps.answers.0 in
      record { gave = gave_all steps.gave; bytes = bytes_all steps.bytes; few = few.1; ends = refuses later r written (BadHead fault) few.0 goes (head_told reader next_reader b c next fault steps) }

  -- a record that is refused
  pub ends_record : (later : List ℕ) (r : Side) → Written lines later q r → (n : ℕ) → Steps reader next_reader b c next (step.BadRecord n) → GoesOn reader next_reader (reader.kept ++ next) (step.BadRecord n) →
      Checks tables (given ++ next) a c o r (Err (halt.Record n))
  ends_record later r written n steps goes =
      let few = few_stopped (step.BadRecord n) steps steps.answers.0 in
      record { gave = gave_all steps.gave; bytes = bytes_all steps.bytes; few = few.1; ends = refuses later r written (BadRecord n) few.0 goes (record_told reader next_reader b c next n steps) }

  stopped : (later : List ℕ) (r : Side) → Written lines later q r → length (reader.kept ++ next) ≤ 327720 → Stops tables (given ++ next) o r
  stopped later r written few = record { read = shown; has_read = has_read few; wrote = wrote_all_of later r written }

  -- too many bytes
  header_known : (had : Option Head) → reader.head ≡ had → (length (reader.kept ++ next) ≤ 327720) → 268435456 < length (given ++ next) → IsOk (opened (given ++ next))
  header_known None is few many = let same : length (given ++ next) ≡ length (reader.kept ++ next) = ap (λ xs. length (xs ++ next)) (between.begun is) in absurd (omega (arith, same, few, many))
  header_known (Some head) is few many =
      let parts = header_of (opened between.shows.front) (ap (λ ps. ps.fault) (shown_alone reader given shown head between.shows is)) in
      let split : given ++ next ≡ between.shows.front ++ (reader.kept ++ next) = ap (λ xs. xs ++ next) between.shows.split ∙ append_assoc between.shows.front reader.kept next in
      rw (split, head_more None between.shows.front (reader.kept ++ next) (parts.0) (parts.1) parts.2) refl

  pub ends_long : (later : List ℕ) (r : Side) → Written lines later q r → Steps reader next_reader b c next step.TooLong → Checks tables (given ++ next) a c o r (Err halt.TooLong)
  unfolding has_read stopped
  ends_long later r written steps =
      let few = few_stopped step.TooLong steps steps.answers.0 in
      let taken = steps.taken in
      let had = between.shows.taken in
      let over = steps.answers.1 in
      let count = size in
      let many : 268435456 < length (given ++ next) = omega arith in
      let split : length given ≡ length between.shows.front + length reader.kept = ap length between.shows.split ∙ length-append between.shows.front reader.kept in
      let within = between.within in
      record {
        gave = gave_all steps.gave;
        bytes = bytes_all steps.bytes;
        few = few.1;
        ends = record { more = many; header = header_known reader.head refl few.0 many; stops = stopped later r written few.0; within = omega arith };
      }

  -- a read that failed
  pub ends_read : (later : List ℕ) (r : Side) → Written lines later q r → Steps reader next_reader b c next step.Fault → Checks tables (given ++ next) a c o r (Err halt.Read)
  ends_read later r written steps =
      let few = few_stopped step.Fault steps steps.answers.0 in
      record { gave = gave_all steps.gave; bytes = bytes_all steps.bytes; few = few.1; ends = (rose_after (length given) a b c between.gave.counts steps.answers.1, stopped later r written few.0) }

  -- the next packet was shown
  module _ (p : Packet) (steps : Steps reader next_reader b c next step.Packet) (goes : GoesOn reader next_reader (reader.kept ++ next) step.Packet) (is : next_reader.packet ≡ Some p) where
    shown_then : (more : HasShown next_reader (given ++ next) (and_packet shown p)) × ((n : ℕ) → n < length more.front → length (packets_of (take n more.front)).list ≤ length shown)
    shown_then = shown_more reader next_reader b c given next shown p between.shows steps goes is

    shows_more : HasShown next_reader (given ++ next) (and_packet shown p)
    shows_more = shown_then.0

    few_shown : length (given ++ next) ≤ 268763152
    few_shown =
        let bound = steps.bound in
        let within = steps.answers.within in
        let taken = shows_more.taken in
        omega arith

    read_to : (read : List Packet) → and_packet shown p ≡ read → HasRead (given ++ next) read
    read_to read same = record {
      front = shows_more.front;
      rest = next_reader.kept;
      split = shows_more.split;
      few = (let bound = steps.bound in omega arith);
      reader = next_reader;
      goes_on = λ more. shows_more.packets more ∙ ap (λ ps. in_front ps (packets_at next_reader more)) same;
    }

    place_of : (n : ℕ) → and_packet shown p ≡ shown ++ p ∷ [] → length (written_of tables shown) ≤ n → n < length (written_of tables (shown ++ p ∷ [])) →
        Place tables (given ++ next) (and_packet shown p) n
    unfolding read_to shows_more
    place_of n is before within = record {
      read = shown;
      last = p;
      has_read = read_to (shown ++ p ∷ []) is;
      alone = shown_alone next_reader (given ++ next) (and_packet shown p) steps.answers.head shows_more steps.answers.known ∙ ap (λ ps. record { list = ps; fault = None }) is;
      least = shown_then.1;
      near = steps.bound;
      all_before = before;
      not_all = within;
      same = ap (λ ps. take n (written_of tables ps)) (sym is);
    }

    module _ (later : List ℕ) (r : Side) (in_time : Wait next lines later q r ⊎ Written lines later q r) where
      gathered_now : Gathered tables (given ++ next) shown later o r
      gathered_now = gathered_next tables given shown lines o q r between.gathered next later in_time

      -- from one packet to the next
      pub between_more : (next_judging : Judging) (more : List ℕ) → JudgedPacket judging next_judging shown p later more → Between tables next_reader next_judging (given ++ next) (and_packet shown p) more a c o r
      between_more next_judging more judged =
          let shows = steps.answers in
          let within = shows.within in
          let whole : written_of tables (and_packet shown p) ≡ written_of tables shown ++ judged.text = rw between.tables_same at judged.whole in
          record {
            gave = gave_all steps.gave;
            bytes = bytes_all steps.bytes;
            shows = shows_more;
            begun = λ none. (let known = shows.known in absurd (cc));
            near = steps.bound;
            counted = steps.counted;
            within = rw (shows.known) (omega arith);
            going = shows.going;
            tables_same = judged.tables_same ∙ between.tables_same;
            heard = judged.heard;
            gathered = rw judged.gathered (gathered_more tables (given ++ next) shown later o r r gathered_now p judged.text whole judged.one place_of);
          }

      -- memory ran out for it
      ends_memory : (t : Side) → WasWritten later r t → Checks tables (given ++ next) a c o t (Err halt.Memory)
      ends_memory t wrote =
          let one = and_later shown p in
          record {
            gave = gave_all steps.gave;
            bytes = bytes_all steps.bytes;
            few = few_shown;
            ends = record { read = shown; later = one.0; one = one.1; has_read = read_to (shown ++ one.0) one.2; wrote = wrote_all tables (given ++ next) shown later o r t gathered_now wrote };
          }

      -- and the lines that are gathered weren't written whole
      ends_broken : (t : Side) → BreaksLines later r t → Checks tables (given ++ next) a c o t (Err halt.Write)
      ends_broken t breaks =
          record { gave = gave_all steps.gave; bytes = bytes_all steps.bytes; few = few_shown; ends = gathered_broken tables (given ++ next) shown later o r t gathered_now breaks }

      pub ends_without : (t : Side) (why : Halt) → RunsOut later r t why → Checks tables (given ++ next) a c o t (Err why)
      ends_without t (halt.Line n kind) ran = absurd ran
      ends_without t (halt.Head fault) ran = absurd ran
      ends_without t (halt.Record n) ran = absurd ran
      ends_without t halt.TooLong ran = absurd ran
      ends_without t halt.Read ran = absurd ran
      ends_without t halt.Write ran = ends_broken t ran
      ends_without t halt.Memory ran = ends_memory t ran

-- the lines that are gathered weren't written whole before the source was to be asked
pub ends_stuck : (tables : List Table) (reader : Reading) (judging : Judging) (given next : List ℕ) (shown : List Packet) (lines : List ℕ) (a b c o q r : Side) → Between tables reader judging given shown lines a b o q →
    Sticks b c next lines q r → Checks tables (given ++ next) a c o r (Err halt.Write)
ends_stuck tables reader judging given next shown lines a b c o q r between sticks =
    let same : given ++ next ≡ given = ap (λ xs. given ++ xs) sticks.nothing ∙ append-nil given in
    let near = between.near in
    let within = between.within in
    let counted = between.counted in
    let taken = between.shows.taken in
    rw (same, sticks.source)
    (record {
      gave = between.gave;
      bytes = between.bytes;
      few = omega arith;
      ends = gathered_broken tables given shown lines o q r between.gathered sticks.breaks;
    })

-- memory ran out before the first packet
pub ends_none : (tables : List Table) (source out : Side) → Checks tables [] source source out out (Err halt.Memory)
ends_none tables source out = record {
  gave = gave_none source;
  bytes = all_none;
  few = omega arith;
  ends = record {
    read = [];
    later = [];
    one = omega arith;
    has_read = record { front = []; rest = []; split = refl; few = omega arith; reader = new_reader; goes_on = λ more. none_in_front (opened more) };
    wrote = rw (nothing_written tables) (took_none out);
  };
}
