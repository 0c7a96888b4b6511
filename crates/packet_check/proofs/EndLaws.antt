-- How the checking of a capture ends, by how its walk ended and what became of the last line.
use Rattle.std.proofs.Common.{◌≡◌, ℕ, suc, ◌+◌, ◌<◌, Bool, List, [], ◌∷◌, ◌++◌, length, take, Option, Some, None, Result, Ok, Err, refl, ap, arith}
use Rattle.std.proofs.lemmas.List.{length-append}
use Rattle.std.specs.List.{All}
use Rattle.ao_base.specs.Outside.{Side, Gave, Rose, WasWritten}
use Rattle.ao_base.proofs.Sides.{gave_none, rose_after, took_and_none, took_more, took_none}
use Rattle.book_base.specs.Hexadecimal.{IsByte}
use Rattle.book_keys.specs.Rows.{Table}
use Rattle.book_captures.specs.declared.capture_parts.CaptureFault.{CaptureFault}
use Rattle.book_captures.specs.Captures.{CapturePacket, capture_of}
use Rattle.book_cmd_check.specs.declared.given.GivenIsns.{GivenIsns}
use Rattle.book_cmd_check.specs.Handshakes.{given_after}
use Rattle.book_sessions.specs.CheckedLines.{check_lines, check_text, is_amiss, total_line}
use Rattle.book_sessions.specs.CheckedPackets.{checked_packets, classes_of}
use Rattle.capture_walk.specs.Reads.{Reading, new_reading}
use Rattle.capture_walk.specs.declared.walking.WalkEnd.{WalkEnd}
use Rattle.capture_walk.specs.declared.walking.WalkEnd.TheVariants as end
use Rattle.capture_walk.specs.declared.walking.WalkHalt.{WalkHalt}
use Rattle.capture_walk.specs.declared.walking.WalkHalt.TheVariants as halt
use Rattle.capture_walk.specs.Walks as walks
use Rattle.capture_walk.proofs.Showing.{read_now, shown_none}
use Rattle.capture_walk.proofs.Taken.{all_none}
use Rattle.packet_check.specs.Reading.{BreaksText, Checks, EndsTotal, IsWhole, lines_from, ForPacket, ForTotal, AtPacket, AtTotal}

take_past : (xs ys : List ℕ) (n : ℕ) → take (length xs + n) (xs ++ ys) ≡ xs ++ take n ys
take_past [] ys n = let same : 0 + n ≡ n = omega arith in rw same refl
take_past (x ∷ xs) ys n =
    let same : length (x ∷ xs) + n ≡ suc (length xs + n) = omega arith in
    rw same (ap (λ (l : List ℕ). x ∷ l) (take_past xs ys n))

-- a front part of one more text was written after all of these
breaks_after : (front text whole : List ℕ) (n : ℕ) (o r s : Side) → whole ≡ front ++ text → n < length text → WasWritten front o r → WasWritten (take n text) r s → Rose r s → BreaksText front whole o s
breaks_after front text whole n o r s is low before wrote rose =
    let sum = length-append front text in
    rw is (record {
      n = length front + n;
      at_least = omega arith;
      not_all = omega (arith, sum, low);
      wrote = rw (take_past front text n) (took_more front (take n text) o r s before wrote);
      rose = rose_after (length front) o r s before.counts rose;
    })

-- the same, where it was told of at once
breaks_once : (front text whole : List ℕ) (n : ℕ) (o s : Side) → whole ≡ front ++ text → n < length text → WasWritten (front ++ take n text) o s → Rose o s → BreaksText front whole o s
breaks_once front text whole n o s is low wrote rose =
    let sum = length-append front text in
    rw is (record { n = length front + n; at_least = omega arith; not_all = omega (arith, sum, low); wrote = rw (take_past front text n) wrote; rose = rose })

-- memory ran out before the first part
pub ends_none : (all : Bool) (tables : List Table) (isns : List GivenIsns) (source out : Side) → Checks all tables isns [] source source out out (Err halt.Memory)
ends_none all tables isns source out = record {
  gave = gave_none source;
  bytes = all_none;
  ends = ForPacket (record { read = []; later = []; one = omega arith; has_read = read_now new_reading [] [] shown_none; near = omega arith; wrote = took_none out });
}

module _ (all : Bool) (tables : List Table) (isns : List GivenIsns) where
  whole_text : (packets : List CapturePacket) → check_text all tables isns packets ≡ check_lines all tables isns packets ++ total_line (classes_of tables (checked_packets tables isns packets))
  unfolding check_text
  whole_text packets = refl

  whole_written : (packets : List CapturePacket) (o r s : Side) → WasWritten (check_lines all tables isns packets) o r → WasWritten (total_line (classes_of tables (checked_packets tables isns packets))) r s
      → WasWritten (check_text all tables isns packets) o s
  whole_written packets o r s before wrote =
      rw (whole_text packets) (took_more (check_lines all tables isns packets) (total_line (classes_of tables (checked_packets tables isns packets))) o r s before wrote)

  -- the capture was read, and the last line written, or a part of it
  pub total_done : (given : List ℕ) (a c o r s : Side) (fault : Option CaptureFault) (result : Result Bool WalkHalt) → Gave given a c → All IsByte given → IsWhole given c fault → WasWritten (check_lines all tables isns (capture_of given).packets) o r
      → EndsTotal (classes_of tables (checked_packets tables isns (capture_of given).packets)) fault r s result → Checks all tables isns given a c o s result
  unfolding is_amiss
  total_done given a c o r s fault (Ok amiss) gave bytes whole before (none, (amiss_is, wrote)) =
      let over : IsWhole given c None = rw none at whole in
      record { gave = gave; bytes = bytes; ends = record { at_end = over.0; faultless = over.1; wrote = whole_written (capture_of given).packets o r s before wrote; amiss_is = amiss_is } }
  total_done given a c o r s fault (Err (halt.Broken why)) gave bytes whole before (is, wrote) =
      let faulty : IsWhole given c (Some why) = rw is at whole in
      record { gave = gave; bytes = bytes; ends = record { has_fault = faulty; wrote = whole_written (capture_of given).packets o r s before wrote } }
  total_done given a c o r s fault (Err halt.TooLong) gave bytes whole before ends = absurd ends
  total_done given a c o r s fault (Err halt.Read) gave bytes whole before ends = absurd ends
  total_done given a c o r s fault (Err halt.Write) gave bytes whole before breaks =
      let packets = (capture_of given).packets in
      record {
        gave = gave;
        bytes = bytes;
        ends = AtTotal (record {
          fault = fault;
          whole = whole;
          breaks = breaks_after (check_lines all tables isns packets) (total_line (classes_of tables (checked_packets tables isns packets))) (check_text all tables isns packets) breaks.n o r s (whole_text packets) breaks.not_all before breaks.wrote breaks.rose;
        });
      }
  total_done given a c o r s fault (Err halt.Memory) gave bytes whole before none =
      record { gave = gave; bytes = bytes; ends = ForTotal (record { fault = fault; whole = whole; wrote = took_and_none (check_lines all tables isns (capture_of given).packets) o r s before none }) }

  module _ (stands : List CapturePacket → Type 0) (reader : Reading) (given : List ℕ) (a c o r : Side) where
    abbrev walked : Result WalkEnd WalkHalt → Type 0
    walked result = walks.Walks (lines_from all tables (given_after [] isns)) stands (λ packets last. ⊥) reader given a c o r result

    -- the walk came to the capture's end
    pub ends_end : (how : WalkEnd) (s : Side) (result : Result Bool WalkHalt) → walked (Ok how)
        → (stands (capture_of given).packets → EndsTotal (classes_of tables (checked_packets tables isns (capture_of given).packets)) None r s result) → Checks all tables isns given a c o s result
    ends_end end.End s result w total = total_done given a c o r s None result w.gave w.bytes (w.ends.at_end, w.ends.faultless) w.ends.wrote (total w.ends.heard)
    ends_end end.Done s result w total = absurd w.ends.here

    -- the capture has a fault
    pub ends_broken : (why : CaptureFault) (s : Side) (result : Result Bool WalkHalt) → walked (Err (halt.Broken why))
        → (stands (capture_of given).packets → EndsTotal (classes_of tables (checked_packets tables isns (capture_of given).packets)) (Some why) r s result) → Checks all tables isns given a c o s result
    ends_broken why s result w total =
        total_done given a c o r s (Some why) result w.gave w.bytes (record { has_read = w.ends.has_read; fault_is = w.ends.fault_is; all = w.ends.all }) w.ends.wrote (total w.ends.heard)

    pub ends_long : walked (Err halt.TooLong) → Checks all tables isns given a c o r (Err halt.TooLong)
    ends_long w = record { gave = w.gave; bytes = w.bytes; ends = (w.ends.0, record { read = w.ends.1.read; has_read = w.ends.1.has_read; wrote = w.ends.1.wrote }) }

    pub ends_read : walked (Err halt.Read) → Checks all tables isns given a c o r (Err halt.Read)
    ends_read w = record { gave = w.gave; bytes = w.bytes; ends = (w.ends.0, record { read = w.ends.1.read; has_read = w.ends.1.has_read; wrote = w.ends.1.wrote }) }

    pub ends_write : walked (Err halt.Write) → Checks all tables isns given a c o r (Err halt.Write)
    ends_write w = record {
      gave = w.gave;
      bytes = w.bytes;
      ends = AtPacket (record {
        read = w.ends.read;
        last = w.ends.last;
        has_read = w.ends.has_read;
        near = w.ends.near;
        breaks = breaks_once (check_lines all tables isns w.ends.read) w.ends.text (check_lines all tables isns (w.ends.read ++ w.ends.last ∷ [])) w.ends.n o r w.ends.adds w.ends.not_all w.ends.wrote w.ends.rose;
      });
    }

    pub ends_memory : walked (Err halt.Memory) → Checks all tables isns given a c o r (Err halt.Memory)
    ends_memory w = record {
      gave = w.gave;
      bytes = w.bytes;
      ends = ForPacket (record { read = w.ends.read; later = w.ends.later; one = w.ends.one; has_read = w.ends.has_read; near = w.ends.near; wrote = w.ends.wrote });
    }
