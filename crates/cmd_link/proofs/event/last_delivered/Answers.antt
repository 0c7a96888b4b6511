use Rattle.book_link.specs.Runs.{run}
use Rattle.cmd_link.proofs.Lasts.{a_last, no_last}
use Rattle.cmd_link.proofs.event.last_delivered.Goals as goal

pub returns-then-made-eq0 : goal.returns-then-made-eq0
returns-then-made-eq0 c = λ setup events stands.
    no_last c.args.end (run setup events).history c.made-made.result (c.made-made.ensures.segments setup events stands) c.if-made-eq0.true

pub returns : goal.returns
returns c = λ setup events stands.
    rw c.other.ensures
    (a_last c.args.end c.maker-maker.result (run setup events).history c.made-made.result (c.made-made.ensures.segments setup events stands) (c.maker-maker.ensures setup events stands))
