-- One call of a reader of captures.
use Rattle.std.proofs.Common.{◌≡◌, ℕ, zero, suc, ◌+◌, ◌-◌, ◌<◌, ◌≤◌, Bool, true, false, List, [], ◌++◌, length, take, drop, Option, None, Some, Result, Ok, Err, refl, sym, ap, ◌∙◌, subst, append_assoc, arith}
use Rattle.std.specs.List.{All}
use Rattle.std.proofs.lemmas.List.{append-nil, length-append, length-drop, length-take-le, take-append-drop, drop-append-le, drop_at}
use Rattle.std.proofs.lemmas.List.Elements.{All-append}
use Rattle.ao_base.specs.Buffered.{Buffered}
use Rattle.ao_base.specs.Outside.{Side, Gave, Rose, IsAtEnd, told}
use Rattle.ao_base.proofs.Sides.{gave_more, nothing_told, rose_after}
use Rattle.book_captures.specs.declared.block_parts.Interface.{Interface}
use Rattle.book_captures.specs.declared.capture_parts.Cause.{Cause}
use Rattle.book_captures.specs.declared.capture_parts.Format.{Format}
use Rattle.book_captures.specs.declared.capture_parts.Format.TheVariants.{Pcap, Pcapng}
use Rattle.book_captures.specs.Parts.{PartSaid, FilePlace, Part, part_by, behind_part, OpenedFile, capture_opened}
use Rattle.book_captures.specs.Captures.{Capture, PartCounts, further, with_said, ended, broken, capture_at}
use Rattle.book_captures.proofs.Steps.{capture_none, capture_part, capture_faulty}
use Rattle.capture_reader.specs.declared.parts.FoundPart.{FoundPart}
use Rattle.capture_reader.specs.declared.parts.PartSays.{PartSays}
use Rattle.capture_reader.specs.declared.parts.PartSays.TheVariants as says
use Rattle.capture_reader.specs.declared.sizes.FileFront.{FileFront}
use Rattle.capture_reader.specs.FoundParts.{seen_part, seen_said}
use Rattle.capture_reader.specs.Sizes.{needed, head_length}
use Rattle.capture_reader.proofs.FrontParts.{part_fronts, opened_stays, opened_needs}
use Rattle.capture_walk.specs.declared.fronts.Opened.TheVariants as opening
use Rattle.capture_walk.specs.declared.fronts.Found.{Found}
use Rattle.capture_walk.specs.declared.fronts.Found.TheVariants as found
use Rattle.capture_walk.specs.declared.reader.CaptureHalt.{CaptureHalt}
use Rattle.capture_walk.specs.declared.reader.CaptureHalt.TheVariants as halt
use Rattle.capture_walk.specs.declared.reader.CaptureStep.{CaptureStep}
use Rattle.capture_walk.specs.declared.reader.CaptureStep.TheVariants as step
use Rattle.book_base.specs.Hexadecimal.{IsByte}
use Rattle.capture_walk.specs.Fronts.{place_of, opened_from, IsShown, Opens, Finds}
use Rattle.capture_walk.specs.Reads.{Reading, behind_header, to_come_by, to_come, packet_shown, passed_by, ShowsPacket, ShowsNone, Passes, Stops, only_fault, Answers, Steps}
use Rattle.capture_walk.specs.Passes.{step_by, taken}

-- a file goes on so, whatever stands behind the bytes that show it
goes_on_so : (had : Option Format) (interfaces : List Interface) (format : Format) (size : ℕ) (a b more : List ℕ)
    → opened_from (place_of had interfaces) (a ++ b) ≡ Ok (record { place = record { format = format; interfaces = interfaces }; size = size }) → IsShown had format a
    → opened_from (place_of had interfaces) (a ++ more) ≡ Ok (record { place = record { format = format; interfaces = interfaces }; size = size })
goes_on_so None interfaces format size a b more e shown = opened_stays a b more (record { place = record { format = format; interfaces = interfaces }; size = size }) e shown
goes_on_so (Some f) interfaces format size a b more e shown = e

-- bytes behind which a part stands show how the file goes on
shows_it : (had : Option Format) (interfaces : List Interface) (format : Format) (size : ℕ) (text past : List ℕ)
    → opened_from (place_of had interfaces) text ≡ Ok (record { place = record { format = format; interfaces = interfaces }; size = size })
    → size + 4 ≤ length past → IsShown had format past
shows_it None interfaces format size text past e le =
    let n = opened_needs text (record { place = record { format = format; interfaces = interfaces }; size = size }) e in omega arith
shows_it (Some f) interfaces format size text past e le = tt

pub least_head : (format : Format) → 4 ≤ head_length format
least_head (Pcap head) = omega arith
least_head (Pcapng section) = omega arith

-- what was read of the front and then of a part
pub record Reached (had : Option Format) (interfaces : List Interface) (front : FileFront) (before now : Buffered) (a b : Side) (given : List ℕ) : Type 0 where
  pub gave : Gave given a b
  pub bytes : All IsByte given
  pub size : now.size ≡ before.size
  pub fits : length now.kept ≤ now.size
  pub opens : (more : List ℕ) → opened_from (place_of had interfaces) ((before.kept ++ given) ++ more) ≡ Ok (record { place = record { format = front.format; interfaces = interfaces }; size = front.size })
  pub behind : now.kept ≡ drop front.size (before.kept ++ given)
  pub within : front.size ≤ length (before.kept ++ given)

pub reach : (had : Option Format) (interfaces : List Interface) (front : FileFront) (result : Found) (before middle now : Buffered) (a s b : Side) (first second : List ℕ)
    → Opens had interfaces before middle a s first (opening.At front) → Finds front.format interfaces middle now s b second result
    → Reached had interfaces front before now a b (first ++ second)
reach had interfaces front result before middle now a s b first second opens finds =
    let text : List ℕ = before.kept ++ first in
    let group : (before.kept ++ first) ++ second ≡ before.kept ++ (first ++ second) = append_assoc before.kept first second in
    let long = length-append text second in
    let le = opens.is.3 in
    record {
      gave = gave_more first second a s b opens.gave finds.gave;
      bytes = All-append IsByte first second opens.bytes finds.bytes;
      size = finds.size ∙ opens.size;
      fits = finds.fits;
      opens = λ more.
          ap (λ (xs : List ℕ). opened_from (place_of had interfaces) xs) (ap (λ (xs : List ℕ). xs ++ more) (sym group) ∙ append_assoc text second more)
          ∙ goes_on_so had interfaces front.format front.size text [] (second ++ more) (ap (λ (xs : List ℕ). opened_from (place_of had interfaces) xs) (append-nil text) ∙ opens.is.0) opens.is.1;
      behind = finds.kept ∙ (ap (λ (xs : List ℕ). xs ++ second) opens.is.2 ∙ (sym (drop-append-le front.size text second le) ∙ ap (drop front.size) group));
      within = let same = ap (λ (xs : List ℕ). length xs) group in omega arith;
    }

-- a reader is seen so behind the front
abbrev pub middle_reading : Reading → List Interface → FileFront → List ℕ → Reading
middle_reading before interfaces front kept = record {
  kept = kept;
  place = Some (record { format = front.format; interfaces = interfaces });
  counts = behind_header before.counts front.size;
  passed = before.passed;
  over = before.over;
  packet = before.packet;
}

-- no header more
no_header : (place : FilePlace) (counts : PartCounts) (text : List ℕ) → capture_at place (behind_header counts 0) text ≡ capture_at place counts text
no_header place counts text =
    let same : counts.bytes + 0 ≡ counts.bytes = omega arith in
    ap (λ (n : ℕ). capture_at place (record { packets = counts.packets; parts = counts.parts; bytes = n }) text) same

module _ (before : Reading) (had : Option Format) (interfaces : List Interface) (front : FileFront) (b0 now : Buffered) (a b : Side) (given : List ℕ)
    (place : before.place ≡ place_of had interfaces) (kept : before.kept ≡ b0.kept) (reached : Reached had interfaces front b0 now a b given) where
  abbrev file_place : FilePlace
  file_place = record { format = front.format; interfaces = interfaces }

  abbrev text : List ℕ
  text = before.kept ++ given

  text_is : text ≡ b0.kept ++ given
  text_is = ap (λ (xs : List ℕ). xs ++ given) kept

  opened_all : (more : List ℕ) → opened_from before.place (text ++ more) ≡ Ok (record { place = record { format = front.format; interfaces = interfaces }; size = front.size })
  opened_all more =
      ap (λ (p : Option FilePlace). opened_from p (text ++ more)) place
      ∙ (ap (λ (xs : List ℕ). opened_from (place_of had interfaces) (xs ++ more)) text_is ∙ reached.opens more)

  -- the same, by the format that was read
  opened_here : (more : List ℕ) → opened_from (place_of had interfaces) (text ++ more) ≡ Ok (record { place = record { format = front.format; interfaces = interfaces }; size = front.size })
  opened_here more = ap (λ (xs : List ℕ). opened_from (place_of had interfaces) (xs ++ more)) text_is ∙ reached.opens more

  left_is : now.kept ≡ drop front.size text
  left_is = reached.behind ∙ ap (drop front.size) (sym text_is)

  long : front.size ≤ length text
  long = let same = ap (λ (xs : List ℕ). length xs) text_is in let w = reached.within in omega arith

  -- the bytes in front of a part
  passing : (one rest : List ℕ) → now.kept ≡ one ++ rest → text ≡ (take front.size text ++ one) ++ rest
  passing one rest e = sym (take-append-drop front.size text) ∙ (ap (λ (xs : List ℕ). take front.size text ++ xs) (sym left_is ∙ e) ∙ sym (append_assoc (take front.size text) one rest))

  header_size : length (take front.size text) ≡ front.size
  header_size = length-take-le front.size text long

  -- the reader passes over a part
  pub whole_passes : (part : Part) → part_by front.format interfaces now.kept ≡ Ok part → before.counts.bytes + front.size + part.size ≤ 9223372036854775808 → Passes before (taken (middle_reading before interfaces front now.kept) part) text part.said
  whole_passes part is room =
      let f = part_fronts front.format interfaces now.kept part is in
      let header : List ℕ = take front.size text in
      let past : List ℕ = header ++ f.one in
      let size = length-append header f.one in
      let head = header_size in
      let one = f.size in
      let least = f.least in
      let four = least_head front.format in
      let parts : text ≡ past ++ f.rest = passing f.one f.rest f.split in
      let shown : IsShown had front.format past = shows_it had interfaces front.format front.size (text ++ []) past (opened_here []) (omega arith) in
      let opens : (more : List ℕ) → opened_from before.place (past ++ more) ≡ Ok (record { place = file_place; size = front.size }) =
      λ more. ap (λ (p : Option FilePlace). opened_from p (past ++ more)) place ∙ (goes_on_so had interfaces front.format front.size past f.rest more
      (ap (λ (xs : List ℕ). opened_from (place_of had interfaces) xs) (sym parts ∙ sym (append-nil text)) ∙ (opened_here [])) shown) in
      let rest : drop part.size now.kept ≡ f.rest = ap (drop part.size) f.split ∙ drop_at f.one f.rest part.size (f.size) in
      record {
        past = past;
        split = parts ∙ ap (λ (xs : List ℕ). past ++ xs) (sym rest);
        some = omega arith;
        shown = refl;
        passed = refl;
        bytes = omega arith;
        within = room;
        says = λ more.
            let inner : drop front.size (past ++ more) ≡ f.one ++ more = ap (drop front.size) (append_assoc header f.one more) ∙ drop_at header (f.one ++ more) front.size header_size in
            let more_size = length-append f.one more in
            let gone : drop part.size (f.one ++ more) ≡ more = drop_at f.one more part.size (f.size) in
            let counts : PartCounts = behind_header before.counts front.size in
            ap (λ (r : Result OpenedFile Cause). to_come_by before.counts r (past ++ more)) (opens more)
            ∙ (ap (capture_at file_place counts) inner
            ∙ (capture_part file_place counts (f.one ++ more) part (omega arith) (f.stays more)
            ∙ ap (with_said part.said before.counts.packets)
            (ap (capture_at (behind_part file_place part) (further counts part)) gone
            ∙ sym (no_header (behind_part file_place part) (further counts part) more))));
        going = refl;
      }

  -- nothing more is there
  pub none_ends : now.kept ≡ [] → to_come before text ≡ ended
  none_ends none =
      ap (λ (r : Result OpenedFile Cause). to_come_by before.counts r text) (ap (opened_from before.place) (sym (append-nil text)) ∙ opened_all [])
      ∙ (ap (capture_at file_place (behind_header before.counts front.size)) (sym left_is ∙ none)
      ∙ capture_none file_place (behind_header before.counts front.size))

  -- the part is faulty, in front of any bytes in front of which it is
  pub faulty_ends : (why : Cause) (more : List ℕ) → 0 < length now.kept → part_by front.format interfaces (now.kept ++ more) ≡ Err why
      → to_come before (text ++ more) ≡ only_fault (record { cause = why; number = before.counts.parts + 1; byte = before.counts.bytes + front.size })
  faulty_ends why more some e =
      let size = length-append now.kept more in
      let inner : drop front.size (text ++ more) ≡ now.kept ++ more = drop-append-le front.size text more long ∙ ap (λ (xs : List ℕ). xs ++ more) (sym left_is) in
      ap (λ (r : Result OpenedFile Cause). to_come_by before.counts r (text ++ more)) (opened_all more)
      ∙ (ap (capture_at file_place (behind_header before.counts front.size)) inner
      ∙ capture_faulty file_place (behind_header before.counts front.size) (now.kept ++ more) why (omega arith) e)

-- ---- the answers of a call

abbrev pub stopped : Reading → Reading
stopped r = record { kept = r.kept; place = r.place; counts = r.counts; passed = r.passed; over = true; packet = None }

-- the answer to a part is a packet exactly where it shows one
pub answers_part : (before now : Reading) (a b : Side) (text : List ℕ) (interfaces : List Interface) (kept : List ℕ) (s : PartSays)
    → Passes before now text (seen_said interfaces kept s) → Answers before now a b text (Ok (step_by s))
answers_part before now a b text interfaces kept (says.Packet f) passes = (seen_said interfaces kept (says.Packet f), passes, tt)
answers_part before now a b text interfaces kept says.Section passes = (seen_said interfaces kept says.Section, passes, tt)
answers_part before now a b text interfaces kept (says.Interface i) passes = (seen_said interfaces kept (says.Interface i), passes, tt)
answers_part before now a b text interfaces kept says.Other passes = (seen_said interfaces kept says.Other, passes, tt)

-- a header that is refused
pub bad_step : (before : Reading) (interfaces : List Interface) (had : Option Format) (why : Cause) (b0 now : Buffered) (a b : Side) (given : List ℕ) → before.place ≡ place_of had interfaces
    → before.kept ≡ b0.kept → now.size ≡ 16842752
    → Opens had interfaces b0 now a b given (opening.Bad why)
    → (later : Reading) → Stops before later → later.kept ≡ now.kept
    → Steps before later a b given (Err (halt.Broken (record { cause = why; number = 0; byte = 0 })))
bad_step before interfaces had why b0 now a b given place kept size opens later stops same =
    let none : before.place ≡ None = place ∙ ap (λ (h : Option Format). place_of h interfaces) opens.is.0 in
    let text : before.kept ++ given ≡ b0.kept ++ given = ap (λ (xs : List ℕ). xs ++ given) kept in
    let fits = opens.fits in
    let here : to_come before (before.kept ++ given) ≡ only_fault (record { cause = why; number = 0; byte = 0 }) = rw (none, text, opens.is.1) refl in
    let there : to_come before ((before.kept ++ given) ++ told b.bytes) ≡ only_fault (record { cause = why; number = 0; byte = 0 }) = rw (none, text, opens.is.2) refl in
    let few : length later.kept ≤ 16842752 = rw same (omega arith) in
    let taken = opens.few in
    let ahead : length (before.kept ++ given) ≤ 16842776 = rw text (omega arith) in
    record { gave = opens.gave; bytes = opens.bytes; bound = few; few = ahead; answers = (stops, here, there) }
