-- Connections judged one after another, as a loop judges them.
use Rattle.std.proofs.Common.{◌≡◌, ℕ, Bool, true, false, not, ◌||◌, List, [], ◌∷◌, ◌++◌, Result, Ok, Err, refl, sym, ap, ◌∙◌, append_assoc}
use Rattle.std.proofs.lemmas.List.{append-nil}
use Rattle.std.specs.List.{flat_map}
use Rattle.book_base.specs.declared.address.Pair.{Pair}
use Rattle.book_keys.specs.Rows.{Table}
use Rattle.book_lines.specs.declared.text_fault.TextFault.{TextFault}
use Rattle.book_lines.specs.declared.text_fault.TextFault.TheVariants as fault
use Rattle.book_lines.specs.Lines.{Line}
use Rattle.book_base.specs.Results.{◌>>=◌}
use Rattle.book_lines.specs.Said.{Said, at_number, said_by}
use Rattle.text_lines.specs.Readings.{Answers, Fails}
use Rattle.text_lines.proofs.SaidLaws.{said_few, same_fault}
use Rattle.book_keys.specs.declared.plan.Plan.{Plan}
use Rattle.book_cmd_link.specs.LintTexts.{lint_pair_of, has_misfit, is_aligned, lint_line, lint_said, lint_text}
use Rattle.cmd_show.specs.declared.judged.Judged.{Judged}
use Rattle.cmd_show.specs.Judgements.{judged_from}

same_answer : (t u : List ℕ) (x y : Bool) → t ≡ u → x ≡ y
    → ◌≡◌ {A = Result Judged TextFault} (Ok (record { text = t; has_misfit = x })) (Ok (record { text = u; has_misfit = y }))
same_answer t u x y e f = rw (e, f) refl

or_grouped : (a b c : Bool) → ((a || b) || c) ≡ (a || (b || c))
or_grouped true b c = refl
or_grouped false b c = refl

or_false : (a : Bool) → (a || false) ≡ a
or_false true = refl
or_false false = refl

-- the connection of a line
abbrev said_at : Line → Pair → Said Pair
said_at l pair = record { number = l.number; value = pair }

module _ (tables : List Table) (plan : Plan) where
  -- the connection of this line isn't aligned
  abbrev misfits : Said Pair → Bool
  misfits s = not (is_aligned (lint_said tables plan s))

  -- the answer so far, and then the connections of the lines
  abbrev from_lines : List ℕ → Bool → List Line → Result Judged TextFault
  from_lines out misfit ls = judged_from tables plan out misfit (said_by lint_pair_of ls)

  one_judged : (before out : List ℕ) (misfit now : Bool) (s : Said Pair) (others : Result (List (Said Pair)) TextFault)
      → out ≡ before ++ lint_line tables plan s → now ≡ (misfit || misfits s)
      → judged_from tables plan out now others ≡ judged_from tables plan before misfit (others >>= λ o. Ok (s ∷ o))
  unfolding lint_text
  one_judged before out misfit now s (Ok said) text also =
      same_answer _ _ _ _ (rw text (append_assoc before (lint_line tables plan s) (flat_map (lint_line tables plan) said)))
      (rw also (or_grouped misfit (misfits s) (has_misfit tables plan said)))
  one_judged before out misfit now s (Err e) text also = refl

  module _ (before : List ℕ) (misfit : Bool) (l : Line) (ls lines : List Line) (whole : Result Judged TextFault)
      (next : lines ≡ l ∷ ls) (so_far : from_lines before misfit lines ≡ whole) where
    step : from_lines before misfit (l ∷ ls) ≡ whole
    step = sym (ap (λ x. from_lines before misfit x) next) ∙ so_far

    pub line_judged : (pair : Pair) (out : List ℕ) (now : Bool) → Ok pair ≡ at_number l.number (lint_pair_of l.words)
        → out ≡ before ++ lint_line tables plan (said_at l pair) → now ≡ (misfit || misfits (said_at l pair)) → from_lines out now ls ≡ whole
    unfolding said_by
    line_judged pair out now h text also =
        one_judged before out misfit now (said_at l pair) (said_by lint_pair_of ls) text also ∙ (rw (sym h) at step)

    pub line_refused : (f : TextFault) → Err f ≡ at_number l.number (lint_pair_of l.words) → Fails f whole
    unfolding said_by
    line_refused fault.Memory h = tt
    line_refused fault.TooManyLines h = sym (rw (sym h) at step)
    line_refused (fault.Line n kind) h = sym (rw (sym h) at step)

  pub lines_judged : (out : List ℕ) (misfit : Bool) (lines : List Line) (whole : Result Judged TextFault)
      → lines ≡ [] → from_lines out misfit lines ≡ whole → whole ≡ Ok (record { text = out; has_misfit = misfit })
  unfolding said_by lint_text
  lines_judged out misfit lines whole none so_far = sym (rw none at so_far) ∙ same_answer _ _ _ _ (append-nil out) (or_false misfit)

  judged_few : (said : Result (List (Said Pair)) TextFault) → (said ≡ Err fault.TooManyLines → ⊥)
      → Fails fault.TooManyLines (judged_from tables plan [] false said) → ⊥
  judged_few (Ok said) few h = absurd (cc h)
  judged_few (Err e) few h = few (same_fault e fault.TooManyLines h)

  -- what lines say is never that they are too many
  pub never_too_many : (r : Result Judged TextFault) (ls : List Line) → Answers r (from_lines [] false ls) → r ≡ Err fault.TooManyLines → ⊥
  never_too_many r ls h is = judged_few (said_by lint_pair_of ls) (said_few lint_pair_of ls) (rw is at h)
