-- Connections told one after another, as a loop tells them.
use Rattle.std.proofs.Common.{◌≡◌, ℕ, suc, ◌+◌, Bool, true, false, not, ◌||◌, List, [], ◌∷◌, ◌++◌, length, Result, Ok, Err, refl, sym, ap, ◌∙◌, append_assoc, arith}
use Rattle.std.proofs.lemmas.List.{append-nil}
use Rattle.book_base.specs.declared.address.Pair.{Pair}
use Rattle.book_scope_plan.specs.AdminNames.{KeyFile}
use Rattle.book_lines.specs.declared.text_fault.TextFault.{TextFault}
use Rattle.book_lines.specs.declared.text_fault.TextFault.TheVariants as fault
use Rattle.book_lines.specs.Lines.{Line}
use Rattle.book_base.specs.Results.{◌>>=◌}
use Rattle.book_lines.specs.Said.{Said, at_number, said_by}
use Rattle.text_lines.specs.Readings.{Answers, Fails}
use Rattle.text_lines.proofs.SaidLaws.{said_few, same_fault}
use Rattle.book_scope_plan.specs.declared.form.PlanForm.{PlanForm}
use Rattle.book_keys.specs.declared.plan.Plan.{Plan}
use Rattle.book_scope_plan.specs.Connections.{plan_pair_of}
use Rattle.book_scope_plan.specs.Bars.{good_plans}
use Rattle.book_scope_plan.specs.FindingTexts.{one_if}
use Rattle.book_scope_plan.specs.PlanTexts.{has_wrong_plan, is_good_plan, is_right_plan}
use Rattle.scope_plan.specs.declared.planned.Planned.{Planned}
use Rattle.scope_plan.specs.Plannings.{body_as, connection_as, count_as, lines_as, no_plan, planned_from}

same_answer : (t u : List ℕ) (m n k l g h : ℕ) (x y : Bool) → t ≡ u → m ≡ n → k ≡ l → g ≡ h → x ≡ y
    → ◌≡◌ {A = Result Planned TextFault} (Ok (record { text = t; lines = m; all = k; good = g; has_wrong = x }))
    (Ok (record { text = u; lines = n; all = l; good = h; has_wrong = y }))
same_answer t u m n k l g h x y e f c d w = rw (e, f, c, d, w) refl

or_grouped : (a b c : Bool) → ((a || b) || c) ≡ (a || (b || c))
or_grouped true b c = refl
or_grouped false b c = refl

or_false : (a : Bool) → (a || false) ≡ a
or_false true = refl
or_false false = refl

-- the connection of a line
abbrev said_at : Line → Pair → Said Pair
said_at l pair = record { number = l.number; value = pair }

plus_grouped : (a b c : ℕ) → a + b + c ≡ a + (b + c)
plus_grouped a b c = omega arith

plus_one : (a b : ℕ) → a + 1 + b ≡ a + suc b
plus_one a b = omega arith

plus_none : (a : ℕ) → a + 0 ≡ a
plus_none a = omega arith

module _ (form : PlanForm) (keys : KeyFile) (plan : Plan) where
  -- something is wrong with the connection of this line
  abbrev is_wrong : Said Pair → Bool
  is_wrong s = not (is_right_plan keys.tables plan s.value)

  -- the answer so far, and later the connections of the lines
  abbrev from_lines : Planned → List Line → Result Planned TextFault
  from_lines p ls = planned_from form keys plan p (said_by plan_pair_of ls)

  -- what is planned once this connection is
  pub record IsNext (before after : Planned) (pair : Pair) : Type 0 where
    pub text : after.text ≡ before.text ++ connection_as form keys plan before.lines pair
    pub lines : after.lines ≡ before.lines + lines_as form keys plan pair
    pub all : after.all ≡ before.all + 1
    pub good : after.good ≡ before.good + one_if (is_good_plan keys.tables plan pair)
    pub wrong : after.has_wrong ≡ (before.has_wrong || not (is_right_plan keys.tables plan pair))

  one_planned : (before after : Planned) (s : Said Pair) (others : Result (List (Said Pair)) TextFault) → IsNext before after s.value
      → planned_from form keys plan after others ≡ planned_from form keys plan before (others >>= λ o. Ok (s ∷ o))
  one_planned before after s (Ok said) next =
      same_answer _ _ _ _ _ _ _ _ _ _
      (rw (next.text, next.lines) (append_assoc before.text (connection_as form keys plan before.lines s.value) (body_as form keys plan (before.lines + lines_as form keys plan s.value) said)))
      (rw next.lines (plus_grouped before.lines (lines_as form keys plan s.value) (count_as form keys plan said)))
      (rw next.all (plus_one before.all (length said)))
      (rw next.good (plus_grouped before.good (one_if (is_good_plan keys.tables plan s.value)) (good_plans keys.tables plan said)))
      (rw next.wrong (or_grouped before.has_wrong (is_wrong s) (has_wrong_plan keys.tables plan said)))
  one_planned before after s (Err e) next = refl

  module _ (before : Planned) (l : Line) (ls lines : List Line) (whole : Result Planned TextFault)
      (next : lines ≡ l ∷ ls) (so_far : from_lines before lines ≡ whole) where
    step : from_lines before (l ∷ ls) ≡ whole
    step = sym (ap (λ x. from_lines before x) next) ∙ so_far

    pub line_planned : (pair : Pair) (after : Planned) → Ok pair ≡ at_number l.number (plan_pair_of l.words)
        → IsNext before after pair → from_lines after ls ≡ whole
    unfolding said_by
    line_planned pair after h more =
        one_planned before after (said_at l pair) (said_by plan_pair_of ls) more ∙ (rw (sym h) at step)

    pub line_refused : (f : TextFault) → Err f ≡ at_number l.number (plan_pair_of l.words) → Fails f whole
    unfolding said_by
    line_refused fault.Memory h = tt
    line_refused fault.TooManyLines h = sym (rw (sym h) at step)
    line_refused (fault.Line n kind) h = sym (rw (sym h) at step)

  pub lines_planned : (p : Planned) (lines : List Line) (whole : Result Planned TextFault)
      → lines ≡ [] → from_lines p lines ≡ whole → whole ≡ Ok p
  unfolding said_by
  lines_planned p lines whole none so_far =
      sym (rw none at so_far) ∙ same_answer _ _ _ _ _ _ _ _ _ _ (append-nil p.text) (plus_none p.lines) (plus_none p.all) (plus_none p.good) (or_false p.has_wrong)

  planned_few : (said : Result (List (Said Pair)) TextFault) → (said ≡ Err fault.TooManyLines → ⊥)
      → Fails fault.TooManyLines (planned_from form keys plan no_plan said) → ⊥
  planned_few (Ok said) few h = absurd (cc h)
  planned_few (Err e) few h = few (same_fault e fault.TooManyLines h)

  -- what lines say is never that they are too many
  pub never_too_many : (r : Result Planned TextFault) (ls : List Line) → Answers r (from_lines no_plan ls) → r ≡ Err fault.TooManyLines → ⊥
  never_too_many r ls h is = planned_few (said_by plan_pair_of ls) (said_few plan_pair_of ls) (rw is at h)
