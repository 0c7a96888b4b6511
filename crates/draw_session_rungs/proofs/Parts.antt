-- A name that has a line of its own, and where the samples of keys end.
use Rattle.std.proofs.Common.{◌≡◌, ◌≤◌, ◌<◌, ℕ, ◌+◌, Bool, true, false, List, [], ◌∷◌, ◌++◌, length, Option, Result, Ok, Err, OnOk, refl, sym, ap, ◌∙◌, append_assoc, arith, nat_lt, if◌then◌else◌}
use Rattle.std.proofs.lemmas.Bool.Decides.{nat_tests}
use Rattle.std.proofs.lemmas.List.{append-nil}
use Rattle.book_base.specs.declared.end.End.TheVariants.{A}
use Rattle.book_draw.specs.Ladders.{blank_way, line_at}
use Rattle.book_draw.specs.SessionLadders.{names_text}
use Rattle.page_draw_svg.specs.SessionPictures.{key_sample_svg, key_samples_from}

pub long_names : {E : Type 0} (result : Result (Unit {0}) E) (o l r a b n : List ℕ) → 27 < length l → a ≡ o ++ l → b ≡ a ++ 10 ∷ []
    → OnOk result (n ≡ b ++ line_at A [] blank_way r) → OnOk result (n ≡ o ++ names_text l r)
long_names (Ok done) o l r a b n long put ended last =
    let is : nat_lt 27 (length l) ≡ true = grind (arith, nat_tests) in
    last
    ∙ (ap (λ (xs : List ℕ). xs ++ line_at A [] blank_way r) (ended ∙ ap (λ (xs : List ℕ). xs ++ 10 ∷ []) put)
    ∙ (append_assoc (o ++ l) (10 ∷ []) (line_at A [] blank_way r)
    ∙ (append_assoc o l (10 ∷ line_at A [] blank_way r)
    ∙ ap (λ (c : Bool). o ++ (if c then l ++ (10 ∷ line_at A [] blank_way r) else line_at A l blank_way r)) (sym is))))
long_names (Err e) o l r a b n long put ended last = tt

past_eight : (place : ℕ) (keys : List (Option ℕ)) → nat_lt place 8 ≡ false → key_samples_from place keys ≡ []
past_eight place [] past = refl
past_eight place (key ∷ keys) past = ap (λ (c : Bool). if c then key_sample_svg place key ++ key_samples_from (place + 1) keys else []) past

pub samples_end : (n whole : List ℕ) (place : ℕ) (keys : List (Option ℕ)) → 8 ≤ place → n ++ key_samples_from place keys ≡ whole → n ≡ whole
samples_end n whole place keys past so_far =
    let is : nat_lt place 8 ≡ false = grind (arith, nat_tests) in
    sym (append-nil n) ∙ (ap (λ (xs : List ℕ). n ++ xs) (sym (past_eight place keys is)) ∙ so_far)
