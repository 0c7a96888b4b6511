-- Texts put into a line one after another.
use Rattle.std.proofs.Common.{◌≡◌, ℕ, List, [], ◌∷◌, ◌++◌, Result, Ok, Err, OnOk, refl, sym, ap, ◌∙◌, append_assoc}
use Rattle.book_lines.specs.Texts.{line_text, spaced}
use Rattle.link_report.proofs.TextLaws.{spaced_more}

-- a first text, two lists of texts, and a newline
pub in_turn : {T E : Type 0} (r : Result T E) (out x y z line : List ℕ) (n : List ℕ) (p q : List (List ℕ)) → x ≡ out ++ n → y ≡ x ++ spaced p → z ≡ y ++ spaced q
    → OnOk r (line ≡ z ++ 10 ∷ []) → OnOk r (line ≡ out ++ line_text (n ∷ (p ++ q)))
in_turn (Ok v) out x y z line n p q f g h k =
    let end : List ℕ = 10 ∷ [] in
    k ∙ ap (λ t. t ++ end) (h ∙ ap (λ t. t ++ spaced q) (g ∙ ap (λ t. t ++ spaced p) f)) ∙ append_assoc ((out ++ n) ++ spaced p) (spaced q) end
    ∙ append_assoc (out ++ n) (spaced p) (spaced q ++ end) ∙ append_assoc out n (spaced p ++ (spaced q ++ end))
    ∙ ap (λ t. out ++ (n ++ t)) (sym (append_assoc (spaced p) (spaced q) end) ∙ ap (λ t. t ++ end) (spaced_more p q))
in_turn (Err e) out x y z line n p q f g h k = k
