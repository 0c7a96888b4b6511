-- What is said of ways out, part by part, as it is written.
use Rattle.std.proofs.Common.{◌≡◌, ℕ, ◌+◌, ◌≤◌, Bool, false, not, List, [], ◌++◌, length, drop, codes, ap, ◌∙◌, append_assoc}
use Rattle.std.proofs.lemmas.List.{drop_all}
use Rattle.book_keys.specs.Rows.{Row}
use Rattle.book_scope_plan.specs.FindingTexts.{Facing, text_if}
use Rattle.book_scope_plan.specs.WayTexts.{SentRow, accepting_lines}

pub two : (out a b one new : List ℕ) → one ≡ out ++ a → new ≡ one ++ b → new ≡ out ++ (a ++ b)
two out a b one new p q = q ∙ rw p (append_assoc out a b)

-- behind the last row nothing is left but to say whether a way out was told
pub no_row : (f : Facing) (s : SentRow) (told : Bool) (i : ℕ) (os rows : List Row) (old out new : List ℕ) → os ≡ rows → length os ≤ i →
    out ++ accepting_lines f s told (i + 1) (drop i os) ≡ old ++ accepting_lines f s false 1 os →
    new ≡ out ++ text_if (not told) (codes "    none of these changes will do\n") →
    new ≡ old ++ accepting_lines f s false 1 rows
no_row f s told i os rows old out new same all so_far put =
    let none : drop i os ≡ [] = drop_all i os all in
    put ∙ ((rw none at so_far) ∙ ap (λ l. old ++ accepting_lines f s false 1 l) same)
