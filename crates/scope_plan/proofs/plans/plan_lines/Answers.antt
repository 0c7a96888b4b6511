use Rattle.std.proofs.Common.{◌≡◌, ℕ, ◌+◌, ◌∙◌, ◌||◌, ◌&&◌, not, length, refl, ap, arith}
use Rattle.std.proofs.lemmas.Result.{err_from_is_err_and}
use Rattle.book_lines.specs.Said.{said_by}
use Rattle.book_scope_plan.specs.Connections.{plan_pair_of}
use Rattle.book_scope_plan.specs.FindingTexts.{one_if}
use Rattle.book_scope_plan.specs.PlanTexts.{changes_key}
use Rattle.scope_keys.specs.KeyFiles.{key_file_of}
use Rattle.scope_plan.specs.Plannings.{no_plan, planned_from}
use Rattle.scope_plan.proofs.PlannedLaws.{line_planned, line_refused, lines_planned}
use Rattle.scope_plan.proofs.plans.plan_lines.Goals as goal

pub returns-in_err-pair : goal.returns-in_err-pair
returns-in_err-pair c =
    let p = err_from_is_err_and c.from_residual.result c.from_residual.ensures.1 in
    let l = c.loop-line in
    rw (p.1, p.2) (line_refused c.args.form (key_file_of c.args.keys.now) c.args.plan.now
    (record { text = l.out.items; lines = l.count; all = l.all; good = l.good; has_wrong = l.has_wrong })
    (record { number = c.in-Some.line.number; words = c.in-Some.line.words }) c.next.new.self l.lines
    (planned_from c.args.form (key_file_of c.args.keys.now) c.args.plan.now no_plan (said_by plan_pair_of c.args.lines)) c.in-Some.ensures
    l.invariant.3 c.in_err-pair.field-0.0 c.in_err-pair.ensures)

pub loop-line-preserved : goal.loop-line-preserved
loop-line-preserved c =
    let shorter : length c.loop-line.lines ≡ length c.next.new.self + 1 = ap length c.in-Some.ensures ∙ omega arith in
    let l = c.loop-line in
    let w = c.in_ok-written.written in
    let pair = c.in_ok-pair.pair in (
      omega (arith, l.invariant.0, c.in_ok-written.ensures.few),
      omega (arith, l.invariant.1),
      omega (arith, l.invariant.2, c.one_if-good.ensures.range),
      line_planned c.args.form (key_file_of c.args.keys.now) c.args.plan.now
          (record { text = l.out.items; lines = l.count; all = l.all; good = l.good; has_wrong = l.has_wrong })
          (record { number = c.in-Some.line.number; words = c.in-Some.line.words }) c.next.new.self l.lines
          (planned_from c.args.form (key_file_of c.args.keys.now) c.args.plan.now no_plan (said_by plan_pair_of c.args.lines)) c.in-Some.ensures
          l.invariant.3 pair
          (record { text = c.push_connection_as.new.out.items; lines = w.next; all = l.all + 1; good = l.good + c.one_if-good.result; has_wrong = _ })
          c.in_ok-pair.ensures (record {
            text = c.in_ok-written.ensures.text;
            lines = c.in_ok-written.ensures.next;
            all = refl;
            good = ap (λ (n : ℕ). l.good + n) c.one_if-good.ensures.value ∙ ap (λ b. l.good + one_if b) c.in_ok-written.ensures.good;
            wrong = ap (λ b. l.has_wrong || not b)
                (c.in_ok-right.ensures ∙ ap (λ g. g && changes_key c.args.keys.now.tables c.args.plan.now pair) c.in_ok-written.ensures.good);
          }),
    )

pub returns : goal.returns
returns c =
    let l = c.loop-line in
    rw c.from_vec.ensures (lines_planned c.args.form (key_file_of c.args.keys.now) c.args.plan.now
    (record { text = l.out.items; lines = l.count; all = l.all; good = l.good; has_wrong = l.has_wrong }) l.lines
    (planned_from c.args.form (key_file_of c.args.keys.now) c.args.plan.now no_plan (said_by plan_pair_of c.args.lines)) c.in_default.ensures l.invariant.3)
