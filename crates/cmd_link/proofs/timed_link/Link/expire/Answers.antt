use Rattle.cmd_link.proofs.LinkLaws.{expires_at}
use Rattle.cmd_link.proofs.timed_link.Link.expire.Goals as goal

pub returns : goal.returns
returns c =
    expires_at c.args.self.now c.step.new.self c.step-2.new.self c.args.end c.args.at c.expire.new.self c.reading-reading.result
    c.in_ok-step.ensures c.in_ok-step-2.ensures (record { reads = c.reading-reading.ensures.reads }) (rw c.at_mut.ensures.value at c.expire.ensures)
