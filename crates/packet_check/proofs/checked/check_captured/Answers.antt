use Rattle.packet_check.proofs.ContentLaws.{other_found}
use Rattle.packet_check.proofs.checked.check_captured.Goals as goal

pub returns-in-Err-clause-checks : goal.returns-in-Err-clause-checks
returns-in-Err-clause-checks g c = λ held number stands.
    rw c.in-Err.is (other_found c.say_other.result c.args.checker.now.tables held c.in-Err.why c.args.checker.now.entries c.args.line.now.items _ stands (c.say_other.ensures c.args.checker.now.tables))

pub returns-in-Ok-clause-checks : goal.returns-in-Ok-clause-checks
returns-in-Ok-clause-checks g c = λ held number stands. rw c.in-Ok.is (c.check_stored.ensures.checks held number stands)
