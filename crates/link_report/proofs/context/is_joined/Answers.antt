use Rattle.std.proofs.Common.{arith}
use Rattle.ao_mac.proofs.InputLaws.{never, refused, holds, decides}
use Rattle.link_report.proofs.ContextLaws.{cut_is, joined, too_short}
use Rattle.link_report.proofs.context.is_joined.Goals as goal

pub returns-then-whole-front : goal.returns-then-whole-front
returns-then-whole-front c = (λ t. absurd (never t), λ e. absurd (too_short c.args.whole.now c.args.front.now c.args.back.now (omega arith) e))

pub returns-then-not-is_equal : goal.returns-then-not-is_equal
returns-then-not-is_equal c =
    refused c.is_equal.result c.if-not-is_equal.true (rw c.split_at.ensures.front at c.is_equal.ensures)
    (λ e. (cut_is c.args.whole.now c.args.front.now c.args.back.now (omega arith) e).0)

pub returns : goal.returns
returns c =
    let front = holds c.is_equal.result c.if-not-is_equal.false (rw c.split_at.ensures.front at c.is_equal.ensures) in
    decides c.is_equal-2.result (rw c.split_at.ensures.back at c.is_equal-2.ensures)
    (λ h. joined c.args.whole.now c.args.front.now c.args.back.now front h)
    (λ e. (cut_is c.args.whole.now c.args.front.now c.args.back.now (omega arith) e).1)
