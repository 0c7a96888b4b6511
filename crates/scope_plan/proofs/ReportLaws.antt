-- What is said of connections as the answer.
use Rattle.std.proofs.Common.{◌≡◌, ℕ, ◌+◌, List, [], ◌∷◌, ◌++◌, length, Result, Ok, Err, refl, sym, ap, ◌∙◌}
use Rattle.std.proofs.lemmas.List.{length-append}
use Rattle.book_base.specs.declared.address.Pair.{Pair}
use Rattle.book_scope_plan.specs.AdminNames.{KeyFile}
use Rattle.book_lines.specs.declared.text_fault.TextFault.{TextFault}
use Rattle.book_lines.specs.declared.text_fault.TextFault.TheVariants as text_fault
use Rattle.book_lines.specs.Said.{Said, said_in}
use Rattle.book_base.specs.Results.{◌>>=◌}
use Rattle.text_lines.specs.Readings.{Fails}
use Rattle.book_scope_plan.specs.declared.form.PlanForm.{PlanForm}
use Rattle.book_scope_plan.specs.declared.form.PlanForm.TheVariants.{Bars, Lines as FormOfLines, Picture}
use Rattle.std.specs.Prelude.{flat_map}
use Rattle.book_scope_plan.specs.Bars.{drawing_text, drawings_text, good_plans, summary_line}
use Rattle.page_draw_plan_svg.specs.PlanLines.{drawing_lines, drawings_lines}
use Rattle.page_draw_plan_svg.specs.PlanPictures.{lines_svg}
use Rattle.draw_plan.proofs.DrawsLaws.{lines_append}
use Rattle.book_keys.specs.declared.plan.Plan.{Plan}
use Rattle.book_answer.specs.Answers.{done, if_read}
use Rattle.book_scope_plan.specs.Connections.{plan_pair_of}
use Rattle.book_scope_plan.specs.PlanTexts.{connection_text, has_wrong_plan, plans_text}
use Rattle.command_report.specs.Reports.{Stopped, stop_of}
use Rattle.command_report.proofs.Reporting.{fails_stops}
use Rattle.scope_plan.specs.declared.planned.Planned.{Planned}
use Rattle.scope_plan.specs.Plannings.{body_as, count_as, framed_plan, planned_answer, planned_of, plannings, plans_as}

abbrev planning : PlanForm → KeyFile → Plan → Result (List (Said Pair)) TextFault → Result Planned TextFault
planning form keys plan r = r >>= λ said. Ok (planned_of form keys plan said)

-- ---- what is said in a form, as it is put together

lines_body : (keys : KeyFile) (plan : Plan) (n : ℕ) (said : List (Said Pair)) → body_as FormOfLines keys plan n said ≡ plans_text keys plan said
unfolding plans_text
lines_body keys plan n [] = refl
lines_body keys plan n (s ∷ said) = ap (λ (x : List ℕ). connection_text keys plan s.value ++ x) (lines_body keys plan (n + 0) said)

bars_body : (keys : KeyFile) (plan : Plan) (n : ℕ) (said : List (Said Pair)) → body_as Bars keys plan n said ≡ flat_map (λ s. drawing_text keys.tables plan s.value) said
bars_body keys plan n [] = refl
bars_body keys plan n (s ∷ said) = ap (λ (x : List ℕ). drawing_text keys.tables plan s.value ++ x) (bars_body keys plan (n + 0) said)

picture_body : (keys : KeyFile) (plan : Plan) (n : ℕ) (said : List (Said Pair))
    → body_as Picture keys plan n said ≡ lines_svg keys.document plan n (drawings_lines keys.tables plan said)
picture_body keys plan n [] = refl
picture_body keys plan n (s ∷ said) =
    let first = drawing_lines keys.tables plan s.value in
    ap (λ (x : List ℕ). lines_svg keys.document plan n first ++ x) (picture_body keys plan (n + length first) said)
    ∙ sym (lines_append keys.document plan n first (drawings_lines keys.tables plan said))

picture_count : (keys : KeyFile) (plan : Plan) (said : List (Said Pair))
    → count_as Picture keys plan said ≡ length (drawings_lines keys.tables plan said)
picture_count keys plan [] = refl
picture_count keys plan (s ∷ said) =
    rw (picture_count keys plan said) (sym (length-append (drawing_lines keys.tables plan s.value) (drawings_lines keys.tables plan said)))

all_framed : (form : PlanForm) (keys : KeyFile) (plan : Plan) (said : List (Said Pair))
    → plans_as form keys plan said ≡ framed_plan form keys (planned_of form keys plan said)
unfolding drawings_text
all_framed FormOfLines keys plan said = sym (lines_body keys plan 0 said)
all_framed Bars keys plan said =
    ap (λ (x : List ℕ). summary_line (length said) (good_plans keys.tables plan said) ++ x) (sym (bars_body keys plan 0 said))
all_framed Picture keys plan said = rw (picture_count keys plan said, picture_body keys plan 0 said) refl

made_of : (form : PlanForm) (keys : KeyFile) (plan : Plan) (r : Result (List (Said Pair)) TextFault) (j : Planned) → planning form keys plan r ≡ Ok j →
    if_read (planned_answer form keys plan) r ≡ done j.has_wrong (framed_plan form keys j)
made_of form keys plan (Err e) j is = absurd (cc)
made_of form keys plan (Ok said) j is =
    let same : planned_of form keys plan said ≡ j = cc in
    ap (λ (x : List ℕ). done (has_wrong_plan keys.tables plan said) x) (all_framed form keys plan said)
    ∙ ap (λ (x : Planned). done x.has_wrong (framed_plan form keys x)) same

-- what is said is the answer
pub planned_reports : (form : PlanForm) (keys : KeyFile) (plan : Plan) (text : List ℕ) (j : Planned) → plannings form keys plan text ≡ Ok j →
    if_read (planned_answer form keys plan) (said_in plan_pair_of text) ≡ done j.has_wrong (framed_plan form keys j)
unfolding plannings
planned_reports form keys plan text j is = made_of form keys plan (said_in plan_pair_of text) j is

fault_of : (form : PlanForm) (keys : KeyFile) (plan : Plan) (r : Result (List (Said Pair)) TextFault) (e : TextFault) → planning form keys plan r ≡ Err e → r ≡ Err e
fault_of form keys plan (Err f) e is = let same : f ≡ e = cc in ap (λ (x : TextFault). Err x) same
fault_of form keys plan (Ok said) e is = absurd (cc)

fails : (form : PlanForm) (keys : KeyFile) (plan : Plan) (r : Result (List (Said Pair)) TextFault) (e : TextFault) → Fails e (planning form keys plan r) → Fails e r
fails form keys plan r text_fault.Memory f = tt
fails form keys plan r text_fault.TooManyLines f = fault_of form keys plan r text_fault.TooManyLines f
fails form keys plan r (text_fault.Line n kind) f = fault_of form keys plan r (text_fault.Line n kind) f

-- a text that isn't read has no report
pub refused_reports : (form : PlanForm) (keys : KeyFile) (plan : Plan) (text : List ℕ) (e : TextFault) → Fails e (plannings form keys plan text) →
    Stopped (stop_of e) (if_read (planned_answer form keys plan) (said_in plan_pair_of text))
unfolding plannings
refused_reports form keys plan text e f =
    fails_stops (planned_answer form keys plan) (said_in plan_pair_of text) e (fails form keys plan (said_in plan_pair_of text) e f)
