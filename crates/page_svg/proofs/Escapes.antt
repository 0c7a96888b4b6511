-- That escaped text has no mark.
use Rattle.std.proofs.Common.{◌≡◌, ℕ, ◌==◌, ◌&&◌, Bool, true, false, List, [], ◌∷◌, refl, ap, ◌∙◌, if◌then◌else◌}
use Rattle.std.specs.Prelude.{codes}
use Rattle.std.specs.List.{list_all}
use Rattle.std.proofs.lemmas.List.Folds.{list_all-append}
use Rattle.page_svg.specs.Tags.{escaped, escaped_byte, is_plain}

-- a byte by the tests that are made of it
by_tests : (b : ℕ) (p q r s : Bool) → (b == 60) ≡ p → (b == 62) ≡ q → (b == 34) ≡ s
    → list_all is_plain (if p then codes "&lt;" else if q then codes "&gt;" else if r then codes "&amp;" else if s then codes "&quot;" else b ∷ []) ≡ true
by_tests b true q r s e f g = refl
by_tests b false true r s e f g = refl
by_tests b false false true s e f g = refl
by_tests b false false false true e f g = refl
by_tests b false false false false e f g = rw (e, f, g) refl

pub all_plain : (text : List ℕ) → list_all is_plain (escaped text) ≡ true
all_plain [] = refl
all_plain (b ∷ bs) =
    list_all-append is_plain (escaped_byte b) (escaped bs)
    ∙ (ap (λ c. c && list_all is_plain (escaped bs)) (by_tests b (b == 60) (b == 62) (b == 38) (b == 34) refl refl refl) ∙ all_plain bs)
