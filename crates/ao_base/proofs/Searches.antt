-- A search for the next line that takes more bytes.
use Rattle.std.proofs.Common.{◌≡◌, ℕ, ◌+◌, ◌<◌, ◌≤◌, List, [], ◌++◌, length, take, Ok, Err, refl, sym, ap, ◌∙◌, append_assoc, arith}
use Rattle.std.proofs.lemmas.List.{length-append, append-nil, nil_from_length, take-append-le}
use Rattle.std.proofs.Math.Seq.{take-length}
use Rattle.std.specs.List.{position_or_len}
use Rattle.ao_base.specs.Buffered.{Buffered, TakesMore}
use Rattle.book_base.specs.Lines.{is_newline}
use Rattle.ao_base.specs.Outside.{Side}
use Rattle.ao_base.proofs.Sides.{gave_more, rose_after}
use Rattle.ao_base.specs.Found.{Finds, Searching}
use Rattle.ao_base.specs.declared.search.Found.TheVariants.{Line, End, Fault}

module _ (before middle now : Buffered) (first between last : Side) (given more : List ℕ) (seen : ℕ)
    (searching : Searching before middle first between given seen) (none : position_or_len is_newline middle.kept ≡ length middle.kept) where
  -- the bytes that were there have no newline
  pub search_on : {E : Type 0} (n : ℕ) → TakesMore {E = E} middle now between last more (Ok n) →
      Searching before now first last (given ++ more) (length middle.kept)
  search_on n takes =
      let size : length now.kept ≡ length middle.kept + length more = ap length takes.kept ∙ length-append middle.kept more in
      let front : take (length middle.kept) (middle.kept ++ more) ≡ middle.kept =
      take-append-le (length middle.kept) middle.kept more (omega arith) ∙ take-length middle.kept in
      record {
        gave = gave_more given more first between last searching.gave takes.gave;
        kept = takes.kept ∙ (ap (λ xs. xs ++ more) searching.kept ∙ append_assoc before.kept given more);
        size = takes.size ∙ searching.size;
        within = omega arith;
        none = rw (takes.kept, front) none;
      }

  pub search_failed : {E : Type 0} (longest allowed : ℕ) (e : E) → TakesMore {E = E} middle now between last more (Err e) →
      Finds longest allowed before now first last (given ++ more) Fault
  search_failed longest allowed e takes = record {
    gave = gave_more given more first between last searching.gave takes.gave;
    kept = takes.kept ∙ (ap (λ xs. xs ++ more) searching.kept ∙ append_assoc before.kept given more);
    size = takes.size ∙ searching.size;
    fits = takes.fits;
    found = rose_after (length given) first between last searching.gave.counts takes.failed.1;
  }

  nothing_more : {E : Type 0} → TakesMore {E = E} middle now between last more (Ok 0) → now.kept ≡ middle.kept
  nothing_more takes =
      let size : length now.kept ≡ length middle.kept + length more = ap length takes.kept ∙ length-append middle.kept more in
      let gone : more ≡ [] = nil_from_length more (sym takes.count) in
      takes.kept ∙ rw gone (append-nil middle.kept)

  -- at the end with nothing kept
  pub search_over : {E : Type 0} (longest allowed : ℕ) → TakesMore {E = E} middle now between last more (Ok 0) → length middle.kept ≡ 0 →
      Finds longest allowed before now first last (given ++ more) End
  search_over longest allowed takes empty =
      let on = search_on 0 takes in
      record {
        gave = on.gave;
        kept = on.kept;
        size = on.size;
        fits = takes.fits;
        found = (nothing_more takes ∙ nil_from_length middle.kept empty, takes.ends refl);
      }

  -- a last line without a newline
  pub search_last : {E : Type 0} (longest allowed : ℕ) → TakesMore {E = E} middle now between last more (Ok 0) →
      0 < length middle.kept → length middle.kept ≤ longest → length middle.kept ≤ allowed →
      Finds longest allowed before now first last (given ++ more) (Line (length middle.kept))
  search_last longest allowed takes some short few =
      let on = search_on 0 takes in
      let same : now.kept ≡ middle.kept = nothing_more takes in
      let size : length now.kept ≡ length middle.kept = ap length same in
      record {
        gave = on.gave;
        kept = on.kept;
        size = on.size;
        fits = takes.fits;
        found = (rw same (sym none), short, omega arith, (λ less. absurd (omega arith)), (λ all. (takes.ends refl, few)));
      }
