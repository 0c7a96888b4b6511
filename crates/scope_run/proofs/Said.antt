-- What is said of planned rollovers, by what is said in lines.
use Rattle.std.proofs.Common.{◌≡◌, ◌≢◌, ℕ, zero, suc, ◌<◌, Bool, true, false, List, [], ◌∷◌, length, Result, Ok, Err, refl, sym, ap, ◌∙◌, arith, subst}
use Rattle.book_answer.specs.Answers.{Answer, done, if_read, refusal}
use Rattle.book_base.specs.declared.address.Pair.{Pair}
use Rattle.book_scope_plan.specs.declared.form.PlanForm.{PlanForm}
use Rattle.book_scope_plan.specs.declared.form.PlanForm.TheVariants.{Lines}
use Rattle.book_keys.specs.Rows.{Table}
use Rattle.book_keys.specs.declared.plan.Plan.{Plan}
use Rattle.book_lines.specs.Said.{Said, said_in}
use Rattle.book_lines.specs.declared.text_fault.TextFault.{TextFault}
use Rattle.book_lines.specs.declared.text_fault.TextFault.TheVariants as lines
use Rattle.book_scope_plan.specs.AdminNames.{KeyFile}
use Rattle.book_scope_plan.specs.Connections.{plan_pair_of}
use Rattle.book_scope_plan.specs.PlanTexts.{plans_text}
use Rattle.book_scope_run.specs.declared.halt.Halt.{Halt}
use Rattle.book_scope_run.specs.declared.halt.Halt.TheVariants as halt
use Rattle.command_report.specs.Reports.{Reports, Stopped}
use Rattle.command_report.specs.declared.report.Report.{Report}
use Rattle.command_report.specs.declared.stop.Stop.{Stop}
use Rattle.command_report.specs.declared.stop.Stop.TheVariants as stop
use Rattle.scope_plan.specs.Plannings.{planned_answer}
use Rattle.scope_run.specs.Answers.{Makes, connections_answer, ended, plan_answer, said_answer, tables_answer}
use Rattle.scope_run.specs.Halts.{halt_of_stop}

-- an answer that is done isn't refused
done_or_refused : {P : Type 0} (amiss : Bool) (text why : List ℕ) → done amiss text ≡ refusal 4 why → P
done_or_refused false text why is = absurd (let e : 0 ≡ 4 = ap (λ (a : Answer). a.status) is in omega (arith, e))
done_or_refused true text why is = absurd (let e : 1 ≡ 4 = ap (λ (a : Answer). a.status) is in omega (arith, e))

-- what a stop makes of an answer
pub stop_makes : (why : Stop) (a : Answer) → Stopped why a → Makes (Err (halt_of_stop why)) a
stop_makes (stop.Input lines.Memory) a is = tt
stop_makes (stop.Input lines.TooManyLines) a is = is
stop_makes (stop.Input (lines.Line n kind)) a is = is
stop_makes stop.TooManyEvents a is = is
stop_makes stop.Memory a is = tt

module _ (form : PlanForm) (keys : KeyFile) (plan : Plan) where
  -- in lines something was said
  some_said : (said : List (Said Pair)) (text : List ℕ) → text ≢ [] → said_answer form keys plan said text ≡ planned_answer form keys plan said
  some_said said [] some = absurd (some refl)
  some_said said (x ∷ xs) some = refl

  same_answer : (s : Result (List (Said Pair)) TextFault) (amiss : Bool) (text : List ℕ) → text ≢ [] → if_read (planned_answer Lines keys plan) s ≡ done amiss text →
      connections_answer form keys plan s ≡ if_read (planned_answer form keys plan) s
  same_answer (Ok said) amiss text some is =
      let same : plans_text keys plan said ≡ text = ap (λ (a : Answer). a.output) is in
      some_said said (plans_text keys plan said) (λ none. some (sym same ∙ none))
  same_answer (Err fault) amiss text some is = refl

  none_answer : (s : Result (List (Said Pair)) TextFault) (amiss : Bool) (text : List ℕ) → text ≡ [] → if_read (planned_answer Lines keys plan) s ≡ done amiss text →
      connections_answer form keys plan s ≡ ended halt.NoConnection
  none_answer (Ok said) amiss text none is =
      let same : plans_text keys plan said ≡ [] = ap (λ (a : Answer). a.output) is ∙ none in
      ap (said_answer form keys plan said) same
  none_answer (Err fault) amiss text none is = done_or_refused amiss text _ (sym is)

  refused_answer : (s : Result (List (Said Pair)) TextFault) (why : Stop) → Stopped why (if_read (planned_answer Lines keys plan) s) →
      Makes (Err (halt_of_stop why)) (connections_answer form keys plan s)
  refused_answer (Ok said) (stop.Input fault) is = done_or_refused _ _ _ is
  refused_answer (Ok said) stop.TooManyEvents is = done_or_refused _ _ _ is
  refused_answer (Ok said) stop.Memory is = tt
  refused_answer (Err fault) why is = stop_makes why _ is

  by_tables : (input : List ℕ) (tables : List Table) → length tables ≢ 0 → tables_answer form keys plan input tables ≡ connections_answer form keys plan (said_in plan_pair_of input)
  by_tables input [] some = absurd (some refl)
  by_tables input (t ∷ ts) some = refl

  no_tables : (input : List ℕ) (tables : List Table) → length tables ≡ 0 → tables_answer form keys plan input tables ≡ ended halt.NoNode
  no_tables input [] none = refl
  no_tables input (t ∷ ts) none = absurd (omega (arith, none))

  -- the key file has no node
  pub no_node : (input : List ℕ) → length keys.tables ≡ 0 → Makes (Err halt.NoNode) (plan_answer form keys plan input)
  no_node input none = no_tables input keys.tables none

  -- it has one
  pub with_node : (input : List ℕ) (made : Result Report Halt) → length keys.tables ≢ 0 →
      Makes made (connections_answer form keys plan (said_in plan_pair_of input)) → Makes made (plan_answer form keys plan input)
  with_node input made some makes = rw (by_tables input keys.tables some) makes

  -- the lines are refused
  pub refused : (s : Result (List (Said Pair)) TextFault) (why : Stop) → Reports (Err why) (if_read (planned_answer Lines keys plan) s) →
      Makes (Err (halt_of_stop why)) (connections_answer form keys plan s)
  refused s why is = refused_answer s why is

  -- nothing is said in lines
  pub nothing : (s : Result (List (Said Pair)) TextFault) (r : Report) → r.text ≡ [] → Reports (Ok r) (if_read (planned_answer Lines keys plan) s) →
      Makes (Err halt.NoConnection) (connections_answer form keys plan s)
  nothing s r none is = none_answer s r.is_amiss r.text none is

  -- something is
  pub something : (s : Result (List (Said Pair)) TextFault) (r : Report) (made : Result Report Halt) → r.text ≢ [] →
      Reports (Ok r) (if_read (planned_answer Lines keys plan) s) → Makes made (if_read (planned_answer form keys plan) s) → Makes made (connections_answer form keys plan s)
  something s r made some is makes = rw (same_answer s r.is_amiss r.text some is) makes
