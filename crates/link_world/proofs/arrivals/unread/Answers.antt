use Rattle.link_world.proofs.ComeLaws.{received_none, received_unread}
use Rattle.link_world.proofs.arrivals.unread.Goals as goal

pub returns-in-None : goal.returns-in-None
returns-in-None c = λ setup w at bytes read pair h. received_none setup w at c.args.side.now bytes (c.in-None.ensures setup w at bytes read pair h)

pub returns-in-Some : goal.returns-in-Some
returns-in-Some c = λ setup w at bytes read pair h.
    received_unread setup w at c.args.side.now bytes c.args.fault c.in-Some.arrived read (c.in-Some.ensures setup w at bytes read pair h)
