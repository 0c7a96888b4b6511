use Rattle.ao_mac.proofs.InputLaws.{refused, holds, decides}
use Rattle.link_report.proofs.ContextLaws.{shorter_is, together}
use Rattle.link_report.proofs.context.is_same_from_shorter.Goals as goal

pub returns-then-not-is_equal : goal.returns-then-not-is_equal
returns-then-not-is_equal c =
    refused c.is_equal.result c.if-not-is_equal.true (rw c.split_at.ensures.front at c.is_equal.ensures)
    (λ e. (shorter_is c.args.one.now c.args.two.now c.args.three.now c.args.four.now c.requires e).0)

pub returns : goal.returns
returns c =
    let front = holds c.is_equal.result c.if-not-is_equal.false (rw c.split_at.ensures.front at c.is_equal.ensures) in
    decides c.is_joined.result (rw c.split_at.ensures.back at c.is_joined.ensures)
    (λ h. together c.args.one.now c.args.two.now c.args.three.now c.args.four.now front h)
    (λ e. (shorter_is c.args.one.now c.args.two.now c.args.three.now c.args.four.now c.requires e).1)
