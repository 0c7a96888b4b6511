use Rattle.packet_check.specs.Checking.{stored_as}
use Rattle.packet_check.proofs.ContentLaws.{packet_checked}
use Rattle.packet_check.proofs.checked.check_shown.Goals as goal

pub returns-clause-checks : goal.returns-clause-checks
returns-clause-checks g c = λ p held is stands.
    packet_checked c.check_captured.result c.args.checker.now.tables held c.args.reader.now.packet p c.number.result c.time.result (stored_as p.number c.stored_shown.result) _ _ _
    is c.number.ensures c.time.ensures (rw c.clear.ensures.items at c.in_ok-push_front.ensures) (c.stored_shown.ensures p is) (c.check_captured.ensures.checks held p.number stands)
