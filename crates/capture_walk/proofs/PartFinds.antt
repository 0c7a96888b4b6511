-- Taking bytes until a part is whole.
use Rattle.std.proofs.Common.{◌≡◌, ℕ, ◌<◌, ◌≤◌, ◌==◌, if◌then◌else◌, Bool, true, false, List, [], ◌++◌, length, Option, Some, None, Result, Ok, Err, refl, sym, ap, ◌∙◌, append_assoc, arith}
use Rattle.std.specs.List.{All}
use Rattle.std.proofs.lemmas.Bool.{eqb-true, eqb-false}
use Rattle.std.proofs.lemmas.List.{append-nil, length-append, nil_from_length}
use Rattle.std.proofs.lemmas.List.Elements.{All-append}
use Rattle.ao_base.specs.Buffered.{Buffered}
use Rattle.ao_base.specs.Outside.{Side, Gave, Rose, IsAtEnd, told}
use Rattle.ao_base.proofs.Sides.{gave_more, nothing_told, rose_after}
use Rattle.book_captures.specs.declared.block_parts.Interface.{Interface}
use Rattle.book_captures.specs.declared.capture_parts.Cause.{Cause}
use Rattle.book_captures.specs.declared.capture_parts.Format.{Format}
use Rattle.book_captures.specs.declared.capture_parts.Format.TheVariants.{Pcap, Pcapng}
use Rattle.book_captures.specs.Parts.{part_by}
use Rattle.capture_reader.specs.declared.parts.FoundPart.{FoundPart}
use Rattle.capture_reader.specs.FoundParts.{seen_part, IsPartWithin}
use Rattle.capture_reader.specs.Sizes.{head_length, short_of, told_size}
use Rattle.capture_reader.proofs.FrontParts.{front_short, front_refused, front_less, front_faulty, size_stays}
use Rattle.ao_base.specs.declared.refill.Filled.{Filled}
use Rattle.ao_base.specs.declared.refill.Filled.TheVariants as filled
use Rattle.capture_walk.specs.declared.fronts.Found.{Found}
use Rattle.capture_walk.specs.declared.fronts.Found.TheVariants as found
use Rattle.book_base.specs.Hexadecimal.{IsByte}
use Rattle.ao_base.specs.Fillings.{Fills}
use Rattle.capture_walk.specs.Fronts.{IsFound, Finds}

-- one filling finds this
finds_by : (format : Format) (interfaces : List Interface) (wanted : ℕ) (before now : Buffered) (a b : Side) (given : List ℕ) (how : Filled) (result : Found)
    → Fills wanted before now a b given how → IsFound format interfaces now.kept a b result → Finds format interfaces before now a b given result
finds_by format interfaces wanted before now a b given how result fills is =
    record { gave = fills.gave; bytes = fills.bytes; kept = fills.kept; size = fills.size; fits = fills.fits; is = is }

pub found_fault : (format : Format) (interfaces : List Interface) (before now : Buffered) (a b : Side) (given : List ℕ)
    → Fills (head_length format) before now a b given filled.Fault → Finds format interfaces before now a b given found.Fault
found_fault format interfaces before now a b given fills = finds_by format interfaces (head_length format) before now a b given filled.Fault found.Fault fills fills.fills

none_by : (empty : Bool) (format : Format) (interfaces : List Interface) (kept : List ℕ) (a b : Side) → (length kept == 0) ≡ empty → length kept < head_length format → IsAtEnd b
    → IsFound format interfaces kept a b (if empty then found.Done else found.Broken (short_of format))
none_by true format interfaces kept a b e lt end = (nil_from_length kept (eqb-true (length kept) 0 e), end)
none_by false format interfaces kept a b e lt end =
    let some = eqb-false (length kept) 0 e in
    let gone : told b.bytes ≡ [] = nothing_told b end in
    let short = front_short format interfaces kept lt in
    (omega (arith, some), short, rw (gone, append-nil kept) short)

pub found_none : (format : Format) (interfaces : List Interface) (before now : Buffered) (a b : Side) (given : List ℕ)
    → Fills (head_length format) before now a b given filled.Ended → Finds format interfaces before now a b given (if length now.kept == 0 then found.Done else found.Broken (short_of format))
found_none format interfaces before now a b given fills =
    finds_by format interfaces (head_length format) before now a b given filled.Ended (if length now.kept == 0 then found.Done else found.Broken (short_of format)) fills
    (none_by (length now.kept == 0) format interfaces now.kept a b refl fills.fills.0 fills.fills.1)

some_head : (format : Format) → 0 < head_length format
some_head (Pcap head) = omega arith
some_head (Pcapng section) = omega arith

pub found_refused : (format : Format) (interfaces : List Interface) (before now : Buffered) (a b : Side) (given : List ℕ) (why : Cause)
    → Fills (head_length format) before now a b given filled.Enough → told_size format now.kept ≡ Err why → Finds format interfaces before now a b given (found.Broken why)
found_refused format interfaces before now a b given why fills e =
    let enough : head_length format ≤ length now.kept = fills.fills in
    let more : List ℕ = told b.bytes in
    let size = length-append now.kept more in
    let some = some_head format in
    finds_by format interfaces (head_length format) before now a b given filled.Enough (found.Broken why) fills (
      omega arith,
      front_refused format interfaces now.kept why enough e,
      front_refused format interfaces (now.kept ++ more) why (omega arith) (size_stays format now.kept more enough ∙ e),
    )

module _ (format : Format) (interfaces : List Interface) (n : ℕ) (before middle now : Buffered) (a s b : Side) (first second : List ℕ)
    (one : Fills (head_length format) before middle a s first filled.Enough) (told_is : told_size format middle.kept ≡ Ok n) where
  -- two fillings find this
  finds_with : (how : Filled) (result : Found) → Fills n middle now s b second how → IsFound format interfaces now.kept a b result → Finds format interfaces before now a b (first ++ second) result
  finds_with how result two is = record {
    gave = gave_more first second a s b one.gave two.gave;
    bytes = All-append IsByte first second one.bytes two.bytes;
    kept = two.kept ∙ (ap (λ (xs : List ℕ). xs ++ second) one.kept ∙ append_assoc before.kept first second);
    size = two.size ∙ one.size;
    fits = two.fits;
    is = is;
  }

  pub found_fault_later : Fills n middle now s b second filled.Fault → Finds format interfaces before now a b (first ++ second) found.Fault
  found_fault_later two = finds_with filled.Fault found.Fault two (rose_after (length first) a s b one.gave.counts two.fills)

  still : (how : Filled) → Fills n middle now s b second how → told_size format now.kept ≡ Ok n
  still how two = ap (told_size format) two.kept ∙ (size_stays format middle.kept second one.fills ∙ told_is)

  longer : (how : Filled) → Fills n middle now s b second how → head_length format ≤ length now.kept
  longer how two =
      let enough : head_length format ≤ length middle.kept = one.fills in
      let size = ap (λ (xs : List ℕ). length xs) two.kept ∙ length-append middle.kept second in omega arith

  pub found_less : Fills n middle now s b second filled.Ended → Finds format interfaces before now a b (first ++ second) (found.Broken (short_of format))
  found_less two =
      let gone : told b.bytes ≡ [] = nothing_told b two.fills.1 in
      let less = front_less format interfaces n now.kept (longer filled.Ended two) (still filled.Ended two) two.fills.0 in
      let some = some_head format in
      let enough = longer filled.Ended two in
      finds_with filled.Ended (found.Broken (short_of format)) two (omega arith, less, rw (gone, append-nil now.kept) less)

  pub found_whole : (part : FoundPart) → Fills n middle now s b second filled.Enough → part_by format interfaces now.kept ≡ Ok (seen_part interfaces now.kept part)
      → IsPartWithin part (length interfaces) (length now.kept) → Finds format interfaces before now a b (first ++ second) (found.Whole part)
  found_whole part two is within = finds_with filled.Enough (found.Whole part) two (is, within)

  pub found_broken : (why : Cause) → Fills n middle now s b second filled.Enough → part_by format interfaces now.kept ≡ Err why → Finds format interfaces before now a b (first ++ second) (found.Broken why)
  found_broken why two is =
      let some = some_head format in
      let enough = longer filled.Enough two in
      finds_with filled.Enough (found.Broken why) two (omega arith, is, front_faulty format interfaces n now.kept (told b.bytes) why enough (still filled.Enough two) two.fills is)
