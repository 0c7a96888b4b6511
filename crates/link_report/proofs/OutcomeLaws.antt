-- Outcomes written one after another, as a loop writes them.
use Rattle.std.proofs.Common.{◌≡◌, ℕ, zero, suc, ◌+◌, ◌<◌, List, [], ◌∷◌, ◌++◌, length, drop, get_or, refl, sym, ap, ◌∙◌, subst, append_assoc, arith, add-one}
use Rattle.std.proofs.lemmas.List.{append-nil}
use Rattle.book_link.specs.Outcomes as book
use Rattle.book_link.specs.Reports.{lines_from, outcome_line}
use Rattle.link_report.specs.declared.outcome.Outcome.{Outcome}
use Rattle.link_report.specs.Outcomes.{AreShown, Shows}

-- the outcome at a place, which is shown, and those behind it
record ShownAt (one : Outcome) (i : ℕ) (all : List book.Outcome) : Type 0 where
  is : book.Outcome
  cut : drop i all ≡ is ∷ drop (suc i) all
  shows : Shows one is

shown_at : (xs : List Outcome) (all : List book.Outcome) (i : ℕ) (d : Outcome) → AreShown xs all → i < length xs → ShownAt (get_or xs i d) i all
shown_at [] all i d h below = absurd (omega arith)
shown_at (x ∷ xs) [] i d h below = absurd h
shown_at (x ∷ xs) (is ∷ after) zero d h below = record { is = is; cut = refl; shows = h.0 }
shown_at (x ∷ xs) (is ∷ after) (suc i) d h below =
    let later = shown_at xs after i d h.1 (omega arith) in
    record { is = later.is; cut = later.cut; shows = later.shows }

line_more : (n : ℕ) (is : book.Outcome) (all rest : List book.Outcome) (before after whole : List ℕ) → all ≡ is ∷ rest
    → before ++ lines_from n all ≡ whole → after ≡ before ++ outcome_line n is → after ++ lines_from (suc n) rest ≡ whole
line_more n is all rest before after whole cut so_far more =
    rw more (append_assoc before (outcome_line n is) (lines_from (suc n) rest) ∙ (rw cut at so_far))

-- one more outcome is written
pub one_more : (xs : List Outcome) (all : List book.Outcome) (i : ℕ) (x : Outcome) (before after whole : List ℕ) → AreShown xs all → i < length xs
    → x ≡ get_or xs i x → ((is : book.Outcome) → Shows x is → after ≡ before ++ outcome_line (i + 1) is)
    → before ++ lines_from (i + 1) (drop i all) ≡ whole → after ++ lines_from (i + 1 + 1) (drop (i + 1) all) ≡ whole
one_more xs all i x before after whole h low here line so_far =
    let s : ShownAt x i all = subst (λ (y : Outcome). ShownAt y i all) (sym here) (shown_at xs all i x h low) in
    ap (λ (n : ℕ). after ++ lines_from n (drop (i + 1) all)) (add-one (i + 1))
    ∙ ap (λ (k : ℕ). after ++ lines_from (suc (i + 1)) (drop k all)) (add-one i)
    ∙ line_more (i + 1) s.is (drop i all) (drop (suc i) all) before after whole s.cut so_far (line s.is s.shows)

none_left : (xs : List Outcome) (all : List book.Outcome) → AreShown xs all → drop (length xs) all ≡ []
none_left [] [] h = refl
none_left [] (is ∷ after) h = absurd h
none_left (x ∷ xs) [] h = absurd h
none_left (x ∷ xs) (is ∷ after) h = none_left xs after h.1

-- all outcomes are written
pub all_written : (xs : List Outcome) (all : List book.Outcome) (i : ℕ) (out whole : List ℕ) → AreShown xs all → i ≡ length xs
    → out ++ lines_from (i + 1) (drop i all) ≡ whole → out ≡ whole
all_written xs all i out whole h end so_far =
    let none : drop i all ≡ [] = ap (λ (k : ℕ). drop k all) end ∙ none_left xs all h in
    sym (append-nil out) ∙ (rw none at so_far)
