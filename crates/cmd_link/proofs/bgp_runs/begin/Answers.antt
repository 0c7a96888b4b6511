use Rattle.cmd_link.proofs.FollowLaws.{follows_begun}
use Rattle.cmd_link.proofs.bgp_runs.begin.Goals as goal

pub returns : goal.returns
returns c = λ setup events event text faults stands is f.
    rw (c.renew.ensures, c.at_mut.ensures.value)
    (follows_begun setup events event c.args.end c.outcome.result.now c.is_done.result c.args.readers.now text faults f is
    (c.outcome.ensures setup events event stands) c.is_done.ensures)
