-- The judgement on connections as the answer of `lint`.
use Rattle.std.proofs.Common.{◌≡◌, ℕ, List, Result, Ok, Err, ap}
use Rattle.book_base.specs.declared.address.Pair.{Pair}
use Rattle.book_keys.specs.Rows.{Table}
use Rattle.book_lines.specs.declared.text_fault.TextFault.{TextFault}
use Rattle.book_lines.specs.declared.text_fault.TextFault.TheVariants as text_fault
use Rattle.book_lines.specs.Said.{Said, said_in}
use Rattle.book_base.specs.Results.{◌>>=◌}
use Rattle.text_lines.specs.Readings.{Fails}
use Rattle.book_keys.specs.declared.plan.Plan.{Plan}
use Rattle.book_answer.specs.Answers.{done, if_read, linted}
use Rattle.book_cmd_link.specs.LintTexts.{lint_pair_of, has_misfit, lint_text}
use Rattle.command_report.specs.Reports.{Stopped, stop_of}
use Rattle.command_report.proofs.Reporting.{fails_stops}
use Rattle.cmd_show.specs.declared.judged.Judged.{Judged}
use Rattle.cmd_show.specs.Judgements.{judgements}

abbrev judging : List Table → Plan → Result (List (Said Pair)) TextFault → Result Judged TextFault
judging tables plan r = r >>= λ said. Ok (record { text = lint_text tables plan said; has_misfit = has_misfit tables plan said })

made_of : (tables : List Table) (plan : Plan) (r : Result (List (Said Pair)) TextFault) (j : Judged) → judging tables plan r ≡ Ok j →
    if_read (linted tables plan) r ≡ done j.has_misfit j.text
made_of tables plan (Err e) j is = absurd (cc)
made_of tables plan (Ok said) j is =
    let same : record { text = lint_text tables plan said; has_misfit = has_misfit tables plan said } ≡ j = cc in
    ap (λ (x : Judged). done x.has_misfit x.text) same

-- the judgements are the answer
pub judged_reports : (tables : List Table) (plan : Plan) (text : List ℕ) (j : Judged) → judgements tables plan text ≡ Ok j →
    if_read (linted tables plan) (said_in lint_pair_of text) ≡ done j.has_misfit j.text
unfolding judgements
judged_reports tables plan text j is = made_of tables plan (said_in lint_pair_of text) j is

fault_of : (tables : List Table) (plan : Plan) (r : Result (List (Said Pair)) TextFault) (e : TextFault) → judging tables plan r ≡ Err e → r ≡ Err e
fault_of tables plan (Err f) e is = let same : f ≡ e = cc in ap (λ (x : TextFault). Err x) same
fault_of tables plan (Ok said) e is = absurd (cc)

fails : (tables : List Table) (plan : Plan) (r : Result (List (Said Pair)) TextFault) (e : TextFault) → Fails e (judging tables plan r) → Fails e r
fails tables plan r text_fault.Memory f = tt
fails tables plan r text_fault.TooManyLines f = fault_of tables plan r text_fault.TooManyLines f
fails tables plan r (text_fault.Line n kind) f = fault_of tables plan r (text_fault.Line n kind) f

-- a text without judgements has no report
pub refused_reports : (tables : List Table) (plan : Plan) (text : List ℕ) (e : TextFault) → Fails e (judgements tables plan text) →
    Stopped (stop_of e) (if_read (linted tables plan) (said_in lint_pair_of text))
unfolding judgements
refused_reports tables plan text e f =
    fails_stops (linted tables plan) (said_in lint_pair_of text) e (fails tables plan (said_in lint_pair_of text) e f)
