-- What passes a test, one change after another.
use Rattle.std.proofs.Common.{◌≡◌, ℕ, zero, suc, ◌+◌, ◌<◌, Bool, true, false, cond, List, [], ◌∷◌, ◌++◌, length, drop, refl, sym, ap, ◌∙◌, append_assoc, add-one, arith}
use Rattle.std.specs.Prelude.{filter, if◌then◌else◌}
use Rattle.std.specs.List.{flat_map}
use Rattle.book_why.specs.declared.change.Change.{Change}
use Rattle.book_keys.specs.Rows.{Row}
use Rattle.book_why.specs.declared.change.Change.TheVariants.{AnotherRow}
use Rattle.book_why.specs.declared.change.SegmentNode.{SegmentNode}
use Rattle.book_why.specs.Changes.{row_changes}
use Rattle.scope_why.specs.MacsViews.{kept}

pub kept_all : (test : Change → Bool) (all : List Change) → flat_map (kept test) all ≡ filter test all
kept_all test [] = refl
kept_all test (c ∷ cs) = at (test c) (kept_all test cs)
  where
    at : (b : Bool) → flat_map (kept test) cs ≡ filter test cs → (if b then c ∷ [] else []) ++ flat_map (kept test) cs ≡ cond b (c ∷ filter test cs) (filter test cs)
    at true e = ap (λ (l : List Change). c ∷ l) e
    at false e = e

row_drop : (node : SegmentNode) (m i : ℕ) (rs : List Row) → i < length rs → row_changes node m (drop i rs) ≡ AnotherRow node m ∷ row_changes node (m + 1) (drop (suc i) rs)
row_drop node m i [] h = absurd (omega (arith, h))
row_drop node m zero (r ∷ rs) h = refl
row_drop node m (suc i) (r ∷ rs) h = row_drop node m i rs (omega (arith, h))

-- the change to one row more
pub row_more : (node : SegmentNode) (i : ℕ) (rs : List Row) (out now goal : List Change) → i < length rs → now ≡ out ++ AnotherRow node (i + 1) ∷ []
    → out ++ row_changes node (i + 1) (drop i rs) ≡ goal → now ++ row_changes node (i + 1 + 1) (drop (i + 1) rs) ≡ goal
row_more node i rs out now goal low is inv =
    let cut : row_changes node (i + 1) (drop i rs) ≡ AnotherRow node (i + 1) ∷ row_changes node (i + 1 + 1) (drop (suc i) rs) = row_drop node (i + 1) i rs low in
    let same : drop (i + 1) rs ≡ drop (suc i) rs = ap (λ (k : ℕ). drop k rs) (add-one i) in
    rw (is, same) (append_assoc out (AnotherRow node (i + 1) ∷ []) (row_changes node (i + 1 + 1) (drop (suc i) rs)) ∙ (ap (λ (l : List Change). out ++ l) (sym cut) ∙ inv))

-- two pieces, and three, as one
pub put_both : (front a now p q x : List Change) → p ++ q ≡ x → a ≡ front ++ p → now ≡ a ++ q → now ≡ front ++ x
put_both front a now p q x e one two = rw (two, one, ← e) (simp append_assoc)

pub put_all : (a b now p q r : List Change) → a ≡ p → b ≡ a ++ q → now ≡ b ++ r → now ≡ p ++ (q ++ r)
put_all a b now p q r one two three = rw (three, two, one) (simp append_assoc)
