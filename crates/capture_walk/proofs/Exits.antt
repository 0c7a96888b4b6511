-- How each call of a reader of captures ends.
use Rattle.std.proofs.Common.{◌≡◌, ℕ, Bool, if◌then◌else◌, ◌+◌, ◌-◌, ◌<◌, ◌≤◌, true, false, List, [], ◌++◌, length, drop, Option, None, Some, Result, Ok, Err, refl, sym, ap, ◌∙◌, arith}
use Rattle.std.proofs.lemmas.List.{append-nil, length-append, length-drop}
use Rattle.ao_base.specs.Buffered.{Buffered}
use Rattle.ao_base.specs.Outside.{Side, Gave, Rose, IsAtEnd, told}
use Rattle.ao_base.proofs.Sides.{rose_after}
use Rattle.book_captures.specs.declared.block_parts.Interface.{Interface}
use Rattle.book_captures.specs.declared.capture_parts.Cause.{Cause}
use Rattle.book_captures.specs.declared.capture_parts.Format.{Format}
use Rattle.book_captures.specs.declared.capture_parts.Format.TheVariants.{Pcapng}
use Rattle.book_captures.specs.declared.pcap_head.PcapHead.{PcapHead}
use Rattle.book_captures.specs.declared.pcap_head.PcapHeadFault.{PcapHeadFault}
use Rattle.book_captures.specs.PcapFiles.{pcap_head}
use Rattle.book_captures.specs.Parts.{FilePlace, OpenedFile, Part, behind_head, capture_opened, is_pcapng, part_by}
use Rattle.capture_reader.specs.declared.parts.FoundPart.{FoundPart}
use Rattle.capture_reader.specs.declared.sizes.FileFront.{FileFront}
use Rattle.capture_reader.specs.FoundParts.{seen_part, IsPartWithin}
use Rattle.capture_reader.proofs.FrontParts.{part_fronts}
use Rattle.capture_walk.specs.declared.fronts.Opened.TheVariants as opening
use Rattle.capture_walk.specs.declared.fronts.Found.{Found}
use Rattle.capture_walk.specs.declared.fronts.Found.TheVariants as found
use Rattle.capture_walk.specs.declared.reader.CaptureHalt.TheVariants as halt
use Rattle.capture_walk.specs.declared.reader.CaptureStep.TheVariants as step
use Rattle.capture_walk.specs.Fronts.{place_of, opened_from, Opens, Finds}
use Rattle.capture_walk.specs.Reads.{Reading, to_come, only_fault, Stops, Steps}
use Rattle.capture_walk.specs.Passes.{step_by, taken}
use Rattle.capture_walk.proofs.Calls.{Reached, reach, middle_reading, least_head, whole_passes, none_ends, faulty_ends, answers_part}

-- the reader behind a call that stopped it
abbrev pub stopped : Reading → Reading
stopped r = record { kept = r.kept; place = r.place; counts = r.counts; passed = r.passed; over = true; packet = None }

abbrev size_by : Result OpenedFile Cause → ℕ
size_by (Ok front) = front.size
size_by (Err why) = 0

same_size : (one two : OpenedFile) → ◌≡◌ {A = Result OpenedFile Cause} (Ok one) (Ok two) → one.size ≡ two.size
same_size one two e = ap (λ (r : Result OpenedFile Cause). size_by r) e

-- a file's header has at most 24 bytes
header_low : (pcapng : Bool) (head : Result PcapHead PcapHeadFault) (place : FilePlace) (size : ℕ)
    → (if pcapng then Ok (record { place = record { format = Pcapng None; interfaces = [] }; size = 0 }) else behind_head head) ≡ Ok (record { place = place; size = size }) → size ≤ 24
header_low true head place size e = let same = same_size _ _ e in omega arith
header_low false (Ok head) place size e = let same = same_size _ _ e in omega arith
header_low false (Err why) place size e = absurd (cc)

capture_low : (text : List ℕ) (place : FilePlace) (size : ℕ) → capture_opened text ≡ Ok (record { place = place; size = size }) → size ≤ 24
unfolding capture_opened
capture_low text place size e = header_low (is_pcapng text) (pcap_head text) place size e

front_low : (had : Option Format) (interfaces : List Interface) (text : List ℕ) (place : FilePlace) (size : ℕ) → opened_from (place_of had interfaces) text ≡ Ok (record { place = place; size = size }) → size ≤ 24
front_low None interfaces text place size e = capture_low text place size e
front_low (Some format) interfaces text place size e = let same = same_size _ _ e in omega arith

-- only the front was read
module _ (before : Reading) (had : Option Format) (interfaces : List Interface) (b0 now : Buffered) (a b : Side) (given : List ℕ) (kept : before.kept ≡ b0.kept) (size : b0.size ≡ 16842752) where
  pub read_first : Opens had interfaces b0 now a b given opening.Fault → (later : Reading) → Stops before later → later.kept ≡ now.kept → Steps before later a b given (Err halt.Read)
  read_first opens later stops same =
      let fits = opens.fits in
      let small = opens.size in
      let few = ap (λ (xs : List ℕ). length xs) same in
      let taken = opens.few in
      let text = ap (λ (xs : List ℕ). length (xs ++ given)) kept in
      record { gave = opens.gave; bytes = opens.bytes; bound = omega arith; few = omega arith; answers = (stops, opens.is) }

  pub long_first : (front : FileFront) → Opens had interfaces b0 now a b given (opening.At front) → 9223372036854775808 - before.counts.bytes < front.size
      → (later : Reading) → Stops before later → later.kept ≡ now.kept → Steps before later a b given (Err halt.TooLong)
  long_first front opens over later stops same =
      let fits = opens.fits in
      let small = opens.size in
      let few = ap (λ (xs : List ℕ). length xs) same in
      let text = ap (λ (xs : List ℕ). length (xs ++ given)) kept in
      let within = opens.is.3 in
      let taken = opens.few in
      record { gave = opens.gave; bytes = opens.bytes; bound = omega arith; few = omega arith; answers = (stops, omega arith) }

-- a part was read
module _ (before : Reading) (had : Option Format) (interfaces : List Interface) (front : FileFront) (result : Found) (b0 middle now : Buffered) (a s b : Side) (first second : List ℕ)
    (place : before.place ≡ place_of had interfaces) (kept : before.kept ≡ b0.kept) (size : b0.size ≡ 16842752)
    (opens : Opens had interfaces b0 middle a s first (opening.At front)) (finds : Finds front.format interfaces middle now s b second result) where
  abbrev given : List ℕ
  given = first ++ second

  reached : Reached had interfaces front b0 now a b (first ++ second)
  reached = reach had interfaces front result b0 middle now a s b first second opens finds

  bounded : length now.kept ≤ 16842752
  bounded = let r = reached in let fits = r.fits in let same = r.size in omega arith

  -- no more was taken than what is kept, and a header
  ahead : length (before.kept ++ (first ++ second)) ≤ 16842776
  ahead =
      let r = reached in
      let few = bounded in
      let header = front_low had interfaces (b0.kept ++ first) (record { format = front.format; interfaces = interfaces }) front.size opens.is.0 in
      let text = ap (λ (xs : List ℕ). length (xs ++ (first ++ second))) kept in
      let behind = ap (λ (xs : List ℕ). length xs) r.behind ∙ length-drop front.size (b0.kept ++ (first ++ second)) in
      let within = r.within in
      omega arith

  pub whole_step : (part : FoundPart) → part_by front.format interfaces now.kept ≡ Ok (seen_part interfaces now.kept part) → before.counts.bytes + front.size + part.size ≤ 9223372036854775808
      → Steps before (taken (middle_reading before interfaces front now.kept) (seen_part interfaces now.kept part)) a b (first ++ second) (Ok (step_by part.says))
  whole_step part is room =
      let r = reached in
      let few = bounded in
      let less = length-drop part.size now.kept in
      let passes = whole_passes before had interfaces front b0 now a b (first ++ second) place kept r (seen_part interfaces now.kept part) is room in
      record {
        gave = r.gave;
        bytes = r.bytes;
        bound = omega arith;
        few = ahead;
        answers = answers_part before (taken (middle_reading before interfaces front now.kept) (seen_part interfaces now.kept part)) a b (before.kept ++ (first ++ second)) interfaces now.kept part.says passes;
      }

  -- a call that shows nothing
  halted : (later : Reading) → later.kept ≡ now.kept → length later.kept ≤ 16842752
  halted later same = let few = ap (λ (xs : List ℕ). length xs) same in let most = bounded in omega arith

  pub end_step : now.kept ≡ [] → IsAtEnd b → (later : Reading) → Stops before later → later.kept ≡ now.kept → Steps before later a b (first ++ second) (Ok step.End)
  end_step none end later stops same =
      let r = reached in
      record { gave = r.gave; bytes = r.bytes; bound = halted later same; few = ahead; answers = (stops, end, none_ends before had interfaces front b0 now a b (first ++ second) place kept r none) }

  pub read_step : Rose s b → (later : Reading) → Stops before later → later.kept ≡ now.kept → Steps before later a b (first ++ second) (Err halt.Read)
  read_step rose later stops same =
      let r = reached in
      record { gave = r.gave; bytes = r.bytes; bound = halted later same; few = ahead; answers = (stops, rose_after (length first) a s b opens.gave.counts rose) }

  pub long_step : (part : FoundPart) → part.size ≤ length now.kept → 9223372036854775808 - (before.counts.bytes + front.size) < part.size
      → (later : Reading) → Stops before later → later.kept ≡ now.kept → Steps before later a b (first ++ second) (Err halt.TooLong)
  long_step part within over later stops same =
      let r = reached in
      let left = ap (λ (xs : List ℕ). length xs) r.behind ∙ length-drop front.size (b0.kept ++ (first ++ second)) in
      let text = ap (λ (xs : List ℕ). length (xs ++ (first ++ second))) kept in
      let all = r.within in
      record { gave = r.gave; bytes = r.bytes; bound = halted later same; few = ahead; answers = (stops, omega arith) }

  pub broken_step : (why : Cause) → 0 < length now.kept → part_by front.format interfaces now.kept ≡ Err why → part_by front.format interfaces (now.kept ++ told b.bytes) ≡ Err why
      → (later : Reading) → Stops before later → later.kept ≡ now.kept
      → Steps before later a b (first ++ second) (Err (halt.Broken (record { cause = why; number = before.counts.parts + 1; byte = before.counts.bytes + front.size })))
  broken_step why some here there later stops same =
      let r = reached in
      let ends : (more : List ℕ) → part_by front.format interfaces (now.kept ++ more) ≡ Err why
      → to_come before ((before.kept ++ (first ++ second)) ++ more) ≡ only_fault (record { cause = why; number = before.counts.parts + 1; byte = before.counts.bytes + front.size }) =
      λ more e. faulty_ends before had interfaces front b0 now a b (first ++ second) place kept r why more some e in
      record {
        gave = r.gave;
        bytes = r.bytes;
        bound = halted later same;
        few = ahead;
        answers = (
          stops,
          ap (to_come before) (sym (append-nil (before.kept ++ (first ++ second)))) ∙ ends [] (ap (part_by front.format interfaces) (append-nil now.kept) ∙ here),
          ends (told b.bytes) there,
        );
      }

-- a part that is read has a byte
pub some_size : (format : Format) (interfaces : List Interface) (kept : List ℕ) (part : FoundPart) → part_by format interfaces kept ≡ Ok (seen_part interfaces kept part) → 0 < part.size
some_size format interfaces kept part e =
    let f = part_fronts format interfaces kept (seen_part interfaces kept part) e in
    let least = f.least in let four = least_head format in omega arith
