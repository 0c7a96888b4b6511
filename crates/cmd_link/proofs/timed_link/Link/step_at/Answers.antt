use Rattle.cmd_link.proofs.LinkLaws.{steps_at}
use Rattle.cmd_link.proofs.timed_link.Link.step_at.Goals as goal

pub returns : goal.returns
returns c =
    let stood = c.in_ok-step.ensures.stands in
    steps_at c.args.self.now c.args.event.now c.args.end c.step.new.self c.apply.new.self _ c.requires.end stood c.requires.few
    (λ setup past h. let after = stood setup past h in
    record {
      begins = c.is_begin.ensures;
      done = c.is_done.ensures _ (c.outcome-outcome.ensures setup past c.args.event.now after);
      transmission = c.transmission_of.ensures;
      sent = c.is_sent.ensures _ (c.outcome-outcome.ensures setup past c.args.event.now after);
      reading = c.reading.ensures.reads setup _ after;
      old = c.front-old.ensures setup past h;
      new = c.front.ensures setup _ after;
    })
    (rw c.at_mut.ensures.value at c.apply.ensures)
