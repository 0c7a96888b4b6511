-- Reading the front of a file.
use Rattle.std.proofs.Common.{◌≡◌, ℕ, ◌+◌, ◌-◌, ◌<◌, ◌≤◌, List, [], ◌++◌, length, drop, Option, Some, None, Result, Ok, Err, refl, sym, ap, ◌∙◌, arith}
use Rattle.std.proofs.lemmas.List.{append-nil, length-drop}
use Rattle.std.proofs.lemmas.List.Elements.{All-nil}
use Rattle.ao_base.specs.Buffered.{Buffered}
use Rattle.ao_base.specs.Outside.{Side, Gave, Rose, IsAtEnd, told}
use Rattle.ao_base.proofs.Sides.{gave_none, nothing_told}
use Rattle.book_captures.specs.declared.block_parts.Interface.{Interface}
use Rattle.book_captures.specs.declared.capture_parts.Cause.{Cause}
use Rattle.book_captures.specs.declared.capture_parts.Format.{Format}
use Rattle.book_captures.specs.Parts.{OpenedFile, capture_opened}
use Rattle.capture_reader.specs.declared.sizes.FileFront.{FileFront}
use Rattle.capture_reader.proofs.FrontParts.{unopened_stays}
use Rattle.ao_base.specs.declared.refill.Filled.{Filled}
use Rattle.ao_base.specs.declared.refill.Filled.TheVariants as filled
use Rattle.capture_walk.specs.declared.fronts.Opened.{Opened}
use Rattle.capture_walk.specs.declared.fronts.Opened.TheVariants as opening
use Rattle.book_base.specs.Hexadecimal.{IsByte}
use Rattle.ao_base.specs.Fillings.{Fills}
use Rattle.capture_walk.specs.Fronts.{IsOpenedHere, Opens}

-- where the front was passed before
pub opened_before : (format : Format) (interfaces : List Interface) (buffer : Buffered) (a : Side) → length buffer.kept ≤ buffer.size
    → Opens (Some format) interfaces buffer buffer a a [] (opening.At (record { format = format; size = 0 }))
opened_before format interfaces buffer a fits = record {
  gave = gave_none a;
  bytes = All-nil IsByte;
  size = refl;
  fits = fits;
  few = rw (append-nil buffer.kept) fits;
  is = (refl, tt, sym (append-nil buffer.kept), omega arith);
}

pub opened_fault : (interfaces : List Interface) (before now : Buffered) (a b : Side) (given : List ℕ) → Fills 24 before now a b given filled.Fault → Opens None interfaces before now a b given opening.Fault
opened_fault interfaces before now a b given fills = record { gave = fills.gave; bytes = fills.bytes; size = fills.size; fits = fills.fits; few = rw (← fills.kept) fills.fits; is = fills.fills }

opened_at : (interfaces : List Interface) (before middle now : Buffered) (a b : Side) (given : List ℕ) (how : Filled) (front : FileFront) → interfaces ≡ [] → Fills 24 before middle a b given how
    → IsOpenedHere middle now (opening.At front) → Opens None interfaces before now a b given (opening.At front)
opened_at interfaces before middle now a b given how front none fills here =
    let fits = fills.fits in
    let size = here.4 in
    let rest = ap (λ (xs : List ℕ). length xs) here.3 ∙ length-drop front.size middle.kept in
    record {
      gave = fills.gave;
      bytes = fills.bytes;
      size = here.4 ∙ fills.size;
      fits = omega arith;
      few = rw (← fills.kept) (omega arith);
      is = (
        ap capture_opened (sym fills.kept) ∙ (here.0 ∙ ap (λ (known : List Interface). Ok (record { place = record { format = front.format; interfaces = known }; size = front.size })) (sym none)),
        rw (← fills.kept) here.1,
        here.3 ∙ ap (drop front.size) fills.kept,
        rw (← fills.kept) here.2,
      );
    }

opened_bad : (interfaces : List Interface) (before middle now : Buffered) (a b : Side) (given : List ℕ) (how : Filled) (why : Cause) → Fills 24 before middle a b given how
    → IsOpenedHere middle now (opening.Bad why) → capture_opened (middle.kept ++ told b.bytes) ≡ Err why → Opens None interfaces before now a b given (opening.Bad why)
opened_bad interfaces before middle now a b given how why fills here all =
    let fits = fills.fits in
    let room = ap (λ (x : Buffered). x.size) here.1 in
    record {
      gave = fills.gave;
      bytes = fills.bytes;
      size = ap (λ (x : Buffered). x.size) here.1 ∙ fills.size;
      fits = rw here.1 fits;
      few = rw (← fills.kept) (omega arith);
      is = (refl, ap capture_opened (sym fills.kept) ∙ here.0, ap (λ (xs : List ℕ). capture_opened (xs ++ told b.bytes)) (sym fills.kept) ∙ all);
    }

pub opened_ended : (interfaces : List Interface) (before middle now : Buffered) (a b : Side) (given : List ℕ) (result : Opened) → interfaces ≡ [] → Fills 24 before middle a b given filled.Ended
    → IsOpenedHere middle now result → Opens None interfaces before now a b given result
opened_ended interfaces before middle now a b given (opening.At front) none fills here = opened_at interfaces before middle now a b given filled.Ended front none fills here
opened_ended interfaces before middle now a b given (opening.Bad why) none fills here =
    let gone : told b.bytes ≡ [] = nothing_told b fills.fills.1 in
    opened_bad interfaces before middle now a b given filled.Ended why fills here (ap (λ (xs : List ℕ). capture_opened (middle.kept ++ xs)) gone ∙ (ap capture_opened (append-nil middle.kept) ∙ here.0))
opened_ended interfaces before middle now a b given opening.Fault none fills here = absurd here

pub opened_enough : (interfaces : List Interface) (before middle now : Buffered) (a b : Side) (given : List ℕ) (result : Opened) → interfaces ≡ [] → Fills 24 before middle a b given filled.Enough
    → IsOpenedHere middle now result → Opens None interfaces before now a b given result
opened_enough interfaces before middle now a b given (opening.At front) none fills here = opened_at interfaces before middle now a b given filled.Enough front none fills here
opened_enough interfaces before middle now a b given (opening.Bad why) none fills here =
    opened_bad interfaces before middle now a b given filled.Enough why fills here (unopened_stays middle.kept (told b.bytes) why here.0 fills.fills)
opened_enough interfaces before middle now a b given opening.Fault none fills here = absurd here
