-- The words of `check`, without the number of their line.
use Rattle.std.proofs.Common.{◌≡◌, ℕ, List, [], ◌∷◌, ◌++◌, decimal, drop, if◌then◌else◌, OnOk, Result, Ok, Err, refl, ap, ◌∙◌}
use Rattle.std.specs.Fmt.{digits}
use Rattle.std.specs.Result.{is_ok}
use Rattle.book_lines.specs.Texts.{numbered_text, spaced}

zero_is : decimal 0 ≡ 48 ∷ []
unfolding digits
zero_is = refl

words_are : (out line words now : List ℕ) (texts : List (List ℕ)) → line ≡ numbered_text 0 texts → words ≡ drop 1 line → now ≡ out ++ words → now ≡ out ++ (spaced texts ++ 10 ∷ [])
words_are out line words now texts line_is words_is now_is =
    now_is ∙ ap (λ (l : List ℕ). out ++ l) (words_is ∙ ap (λ (l : List ℕ). drop 1 l) (line_is ∙ ap (λ (l : List ℕ). l ++ (spaced texts ++ 10 ∷ [])) zero_is))

-- the words of a line of number 0 were put behind a text
pub words_put : {A E : Type 0} (result : Result A E) (out line words now : List ℕ) (texts : List (List ℕ)) → line ≡ numbered_text 0 texts → words ≡ drop 1 line
    → now ≡ (if is_ok result then out ++ words else out) → OnOk result (now ≡ out ++ (spaced texts ++ 10 ∷ []))
words_put (Ok done) out line words now texts line_is words_is now_is = words_are out line words now texts line_is words_is now_is
words_put (Err e) out line words now texts line_is words_is now_is = tt
