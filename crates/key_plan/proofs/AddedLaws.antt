-- What is added to a list while a recursion goes on.
use Rattle.std.proofs.Common.{◌≡◌, List, [], ◌∷◌, ◌++◌, map, append_assoc, sym, ap, ◌∙◌, refl}
use Rattle.std.proofs.lemmas.List.{append-nil}
use Rattle.book_plans.specs.declared.finding.Finding.{Finding}
use Rattle.book_plans.specs.Findings.{Span}

-- nothing is left to be added
pub all_added : (items total : List Finding) (g : Span → Finding) (rest : List Span) → items ++ map g rest ≡ total → rest ≡ [] → items ≡ total
all_added items total g rest e none = sym (append-nil items) ∙ sym (ap (λ l. items ++ map g l) none) ∙ e

-- one more is added
pub one_added : (items total now : List Finding) (g : Span → Finding) (s : Span) (rest more : List Span) → items ++ map g rest ≡ total → rest ≡ s ∷ more
    → now ≡ items ++ (g s ∷ []) → now ++ map g more ≡ total
one_added items total now g s rest more e first pushed =
    ap (λ l. l ++ map g more) pushed ∙ append_assoc items (g s ∷ []) (map g more) ∙ sym (ap (λ l. items ++ map g l) first) ∙ e
