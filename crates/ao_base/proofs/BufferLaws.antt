-- What the calls of a buffer keep, and what they hand out.
use Rattle.std.proofs.Common.{◌≡◌, ℕ, ◌+◌, ◌-◌, ◌<◌, ◌≤◌, min, List, [], ◌++◌, length, take, drop, Ok, Err, refl, sym, ◌∙◌, arith}
use Rattle.std.proofs.lemmas.List.{length-take, length-take-le, append-nil}
use Rattle.std.specs.Prelude.{slice_range}
use Rattle.ao_base.specs.Outside.{Side, Reads}
use Rattle.ao_base.specs.Buffered.{Buffered, TakesMore}
use Rattle.ao_base.proofs.Slices.{part_later, part_within}

-- two views are one
abbrev pub Same : Buffered → Buffered → Type 0
Same a b = a ≡ b

-- a part that was passed on
pub passed : (xs : List ℕ) (from to first after past size : ℕ) → from ≤ to → first ≤ after → after ≤ length (slice_range xs from to) → past ≤ length (slice_range xs from to) →
    Same (record { kept = slice_range xs (from + past) to; piece = slice_range xs (from + first) (from + after); size = size })
    (record { kept = drop past (slice_range xs from to); piece = slice_range (slice_range xs from to) first after; size = size })
passed xs from to first after past size le ordered after_in past_in =
    let len : length (slice_range xs from to) ≡ min (to - from) (length (drop from xs)) = length-take (to - from) (drop from xs) in
    rw (part_later xs from to past (omega arith), part_within xs from to first after ordered (omega arith)) refl

-- a call of `read` that gives bytes
pub taken_some : {E : Type 0} (before now : Buffered) (a b : Side) (new : List ℕ) (at n : ℕ) → now.kept ≡ before.kept ++ take n (drop at new) → now.piece ≡ [] → now.size ≡ before.size →
    length now.kept ≤ now.size → 0 < length (drop at new) → Reads {E = E} a b (drop at new) (Ok n) → TakesMore {E = E} before now a b (take n (drop at new)) (Ok n)
taken_some before now a b new at n kept piece size fits some reads =
    let count : length (take n (drop at new)) ≡ n = length-take-le n (drop at new) reads.room in
    record {
      gave = reads.gave;
      kept = kept;
      piece = piece;
      size = size;
      fits = fits;
      count = sym count;
      ends = λ none. reads.ends none some;
      failed = tt;
    }

-- a call of `read` that fails
pub taken_none : {E : Type 0} (before now : Buffered) (a b : Side) (new : List ℕ) (e : E) → now.kept ≡ before.kept → now.piece ≡ [] → now.size ≡ before.size →
    length now.kept ≤ now.size → Reads a b new (Err e) → TakesMore before now a b [] (Err e)
taken_none before now a b new e kept piece size fits reads =
    record {
      gave = reads.failed.0;
      kept = kept ∙ sym (append-nil before.kept);
      piece = piece;
      size = size;
      fits = fits;
      count = tt;
      ends = tt;
      failed = (refl, reads.failed.1);
    }
