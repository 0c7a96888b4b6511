-- Taking bytes until enough are kept.
use Rattle.std.proofs.Common.{◌≡◌, ℕ, ◌<◌, ◌≤◌, List, [], ◌++◌, length, Ok, Err, refl, sym, ap, ◌∙◌, append_assoc}
use Rattle.std.proofs.lemmas.List.{append-nil, nil_from_length}
use Rattle.std.proofs.lemmas.List.Elements.{All-drop}
use Rattle.std.proofs.Math.Seq.{drop-append_seam}
use Rattle.std.specs.List.{All}
use Rattle.ao_base.specs.Buffered.{Buffered, TakesMore}
use Rattle.book_base.specs.Hexadecimal.{IsByte}
use Rattle.ao_base.specs.Outside.{Side}
use Rattle.ao_base.proofs.Sides.{gave_more, rose_after}
use Rattle.ao_base.specs.declared.refill.Filled.TheVariants.{Ended, Enough, Fault}
use Rattle.ao_base.specs.Fillings.{Filling, Fills}

-- all bytes that are kept are bytes, and so those that were given
given_bytes : (kept given all : List ℕ) → all ≡ kept ++ given → All IsByte all → All IsByte given
given_bytes kept given all is bytes = rw (drop-append_seam kept given) at (All-drop IsByte (length kept) (kept ++ given) (rw is at bytes))

pub fill_enough : (before now : Buffered) (a b : Side) (given : List ℕ) (wanted : ℕ) → Filling before now a b given → wanted ≤ length now.kept → length now.kept ≤ now.size → All IsByte now.kept →
    Fills wanted before now a b given Enough
fill_enough before now a b given wanted filling enough fits bytes =
    record { gave = filling.gave; bytes = given_bytes before.kept given now.kept filling.kept bytes; kept = filling.kept; size = filling.size; fits = fits; fills = enough }

-- without more bytes those that were given stay
still_bytes : (kept given more all : List ℕ) → all ≡ kept ++ given → All IsByte all → more ≡ [] → All IsByte (given ++ more)
still_bytes kept given more all is bytes gone = rw (gone, append-nil given) (given_bytes kept given all is bytes)

module _ {E : Type 0} (before middle now : Buffered) (first between last : Side) (given more : List ℕ) (filling : Filling before middle first between given) where
  pub fill_on : (n : ℕ) → TakesMore {E = E} middle now between last more (Ok n) → Filling before now first last (given ++ more)
  fill_on n takes = record {
    gave = gave_more given more first between last filling.gave takes.gave;
    kept = takes.kept ∙ (ap (λ xs. xs ++ more) filling.kept ∙ append_assoc before.kept given more);
    size = takes.size ∙ filling.size;
  }

  pub fill_failed : All IsByte middle.kept → (wanted : ℕ) (e : E) → TakesMore {E = E} middle now between last more (Err e) → Fills wanted before now first last (given ++ more) Fault
  fill_failed bytes wanted e takes = record {
    gave = gave_more given more first between last filling.gave takes.gave;
    bytes = still_bytes before.kept given more middle.kept filling.kept bytes (takes.failed.0);
    kept = takes.kept ∙ (ap (λ xs. xs ++ more) filling.kept ∙ append_assoc before.kept given more);
    size = takes.size ∙ filling.size;
    fits = takes.fits;
    fills = rose_after (length given) first between last filling.gave.counts takes.failed.1;
  }

  pub fill_ended : All IsByte middle.kept → (wanted : ℕ) → length middle.kept < wanted → TakesMore {E = E} middle now between last more (Ok 0) → Fills wanted before now first last (given ++ more) Ended
  fill_ended bytes wanted few takes =
      let on = fill_on 0 takes in
      let gone : more ≡ [] = nil_from_length more (sym takes.count) in
      let same : now.kept ≡ middle.kept = takes.kept ∙ rw gone (append-nil middle.kept) in
      record { gave = on.gave; bytes = still_bytes before.kept given more middle.kept filling.kept bytes gone; kept = on.kept; size = on.size; fits = takes.fits; fills = (rw same few, takes.ends refl) }
