-- What is told is the report.
use Rattle.std.proofs.Common.{◌≡◌, ℕ, ◌+◌, cond, Bool, true, false, List, [], ◌∷◌, ◌++◌, refl, ap, sym, ◌∙◌, append_assoc}
use Rattle.std.proofs.lemmas.List.{append-nil}
use Rattle.book_base.specs.Lines.{is_newline}
use Rattle.book_link.specs.declared.event.Event.{Event}
use Rattle.book_scope_run.specs.Echoes.{behind_line, echoes_from, first_line, told_text}

-- a text is its first line and what is behind it
cut_by : (newline : Bool) (b : ℕ) (bs first behind : List ℕ) → first ++ behind ≡ bs
    → cond newline (b ∷ []) (b ∷ first) ++ cond newline bs behind ≡ b ∷ bs
cut_by true b bs first behind h = refl
cut_by false b bs first behind h = ap (λ (x : List ℕ). b ∷ x) h

pub cut : (text : List ℕ) → first_line text ++ behind_line text ≡ text
unfolding first_line behind_line
cut [] = refl
cut (b ∷ bs) = cut_by (is_newline b) b bs (first_line bs) (behind_line bs) (cut bs)

pub told_is : (n : ℕ) (lines : List (List ℕ)) (events : List Event) (report : List ℕ) → told_text (echoes_from n lines events report) ≡ report
unfolding echoes_from
told_is n [] events report = append-nil report
told_is n (l ∷ ls) [] report = append-nil report
told_is n (l ∷ ls) (e ∷ es) report = ap (λ (x : List ℕ). first_line report ++ x) (told_is (n + 1) ls es (behind_line report)) ∙ cut report
