use Rattle.std.proofs.Common.{arith}
use Rattle.book_base.specs.Lines.{lines_of}
use Rattle.book_lines.specs.Lines.{saying_lines}
use Rattle.book_lines.proofs.SayingLaws.{saying_length}
use Rattle.scope_keys.specs.KeyFiles.{key_file_of}
use Rattle.scope_plan.proofs.PlannedLaws.{never_too_many}
use Rattle.scope_plan.proofs.plans.plan_input.Goals as goal

pub plan_lines-requires : goal.plan_lines-requires
plan_lines-requires c =
    let fewer = saying_length 1 (lines_of c.args.input.now) in
    rw c.new.ensures (omega (arith, fewer, c.in_ok-_count.ensures.counted, c.in_ok-_count.ensures.few))

pub returns-clause-too_many : goal.returns-clause-too_many
returns-clause-too_many c =
    let few = never_too_many c.args.form (key_file_of c.args.keys.now) c.args.plan.now c.plan_lines.result (saying_lines c.args.input.now) (rw c.new.ensures at c.plan_lines.ensures) in
    ((λ is. absurd (few is)), (λ many. absurd (omega (arith, c.in_ok-_count.ensures.counted, c.in_ok-_count.ensures.few, many))))
