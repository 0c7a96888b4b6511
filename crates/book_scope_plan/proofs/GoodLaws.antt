-- A plan is good exactly where the judgement is that it is aligned, and then its text says so.
use Rattle.std.proofs.Common.{◌≡◌, ◌↔◌, ◌++◌, ◌&&◌, not, Bool, true, false, List, [], ◌∷◌, Some, refl, ap, ◌∙◌}
use Rattle.std.specs.Prelude.{is_some}
use Rattle.book_base.specs.declared.address.Pair.{Pair}
use Rattle.book_keys.specs.declared.plan.Plan.{Plan}
use Rattle.book_keys.specs.declared.lint.LintAnswer.TheVariants as answer
use Rattle.book_keys.specs.Plans.{lint_of, rows_at}
use Rattle.book_keys.specs.Rows.{Table}
use Rattle.book_plans.specs.declared.finding.Finding.{Finding}
use Rattle.book_plans.specs.Calendar.{calendar_of}
use Rattle.book_plans.specs.Margins.{AreOrdered, IsMargin, SaysAlignedAtLead, SaysAlignedAtLag, lead_margin_of, lag_margin_of}
use Rattle.book_plans.proofs.FindingLaws.{none_exactly}
use Rattle.book_plans.proofs.MarginLaws.{lead_judged, lag_judged}
use Rattle.book_scope_plan.specs.AdminNames.{KeyFile}
use Rattle.book_scope_plan.specs.CalendarTexts.{calendar_text}
use Rattle.book_scope_plan.specs.FindingTexts.{text_if}
use Rattle.book_scope_plan.specs.Notes.{notes_text}
use Rattle.book_scope_plan.specs.PlanTexts.{aligned_line, changes_key, connection_line, connection_text, facing, findings_text, has_none, is_good_plan, node_with, nodes_text, plan_findings, unchanged_line}

none_from : (fs : List Finding) → has_none fs ≡ true → fs ≡ []
none_from [] h = refl
none_from (f ∷ fs) h = absurd (cc)

to_none : (fs : List Finding) → fs ≡ [] → has_none fs ≡ true
to_none fs h = rw h refl

and_parts : (x y z : Bool) → ((x && y) && z) ≡ true → (x ≡ true) × ((y ≡ true) × (z ≡ true))
and_parts true true true h = (refl, (refl, refl))
and_parts true true false h = absurd (cc)
and_parts true false z h = absurd (cc)
and_parts false y z h = absurd (cc)

and_all : (x y z : Bool) → x ≡ true → y ≡ true → z ≡ true → ((x && y) && z) ≡ true
and_all x y z a b c = rw (a, b, c) refl

module _ (tables : List Table) (plan : Plan) (pair : Pair) where
  abbrev is_aligned : Type 0
  is_aligned = lint_of tables pair plan ≡ answer.Aligned

  abbrev exactly : (plan_findings tables plan pair ≡ []) ↔ is_aligned
  exactly = none_exactly (rows_at tables pair.local.address) (rows_at tables pair.remote.address) pair plan

  pub good_findings : is_good_plan tables plan pair ≡ true → plan_findings tables plan pair ≡ []
  unfolding is_good_plan
  good_findings good =
      none_from (plan_findings tables plan pair)
      (and_parts (is_some (node_with tables pair.local.address)) (is_some (node_with tables pair.remote.address)) (has_none (plan_findings tables plan pair)) good).1.1

  pub good_aligned : is_good_plan tables plan pair ≡ true → is_aligned
  good_aligned good = exactly.0 (good_findings good)

  pub good_exactly : (is_good_plan tables plan pair ≡ true)
      ↔ ((is_some (node_with tables pair.local.address) ≡ true) × (is_some (node_with tables pair.remote.address) ≡ true) × is_aligned)
  unfolding is_good_plan
  good_exactly = (
    (λ good.
        let parts = and_parts (is_some (node_with tables pair.local.address)) (is_some (node_with tables pair.remote.address)) (has_none (plan_findings tables plan pair)) good in
        (parts.0, parts.1.0, good_aligned good)),
    (λ all. and_all _ _ _ all.0 all.1 (to_none (plan_findings tables plan pair) (exactly.1 all.2))),
  )

  pub good_lead : AreOrdered (rows_at tables pair.local.address) → AreOrdered (rows_at tables pair.remote.address) → is_good_plan tables plan pair ≡ true
      → IsMargin (SaysAlignedAtLead tables pair plan) (lead_margin_of tables pair plan.lag)
  good_lead one two good = lead_judged tables pair plan one two (good_aligned good)

  pub good_lag : AreOrdered (rows_at tables pair.local.address) → AreOrdered (rows_at tables pair.remote.address) → is_good_plan tables plan pair ≡ true
      → IsMargin (SaysAlignedAtLag tables pair plan) (lag_margin_of tables pair plan.lead)
  good_lag one two good = lag_judged tables pair plan one two (good_aligned good)

pub good_text : (keys : KeyFile) (plan : Plan) (pair : Pair) (a b : Table)
    → node_with keys.tables pair.local.address ≡ Some a → node_with keys.tables pair.remote.address ≡ Some b
    → is_good_plan keys.tables plan pair ≡ true
    → connection_text keys plan pair
    ≡ connection_line pair ++ (calendar_text a b (calendar_of keys.tables pair plan.from plan.to)
    ++ (text_if (not (changes_key keys.tables plan pair)) (unchanged_line plan)
    ++ (aligned_line (lead_margin_of keys.tables pair plan.lag) (lag_margin_of keys.tables pair plan.lead)
    ++ notes_text (facing keys a b plan pair))))
unfolding connection_text
good_text keys plan pair a b at_a at_b good =
    ap (λ o. connection_line pair ++ nodes_text o (node_with keys.tables pair.remote.address) keys plan pair) at_a
    ∙ ap (λ o. connection_line pair ++ nodes_text (Some a) o keys plan pair) at_b
    ∙ ap (λ fs. connection_line pair ++ (calendar_text a b (calendar_of keys.tables pair plan.from plan.to)
    ++ (text_if (not (changes_key keys.tables plan pair)) (unchanged_line plan)
    ++ (findings_text (facing keys a b plan pair) keys.tables fs ++ notes_text (facing keys a b plan pair))))) (good_findings keys.tables plan pair good)
