use Rattle.link_world.specs.Changes.{by_bytes}
use Rattle.link_world.proofs.ComeLaws.{counted}
use Rattle.link_world.proofs.arrivals.inject.Goals as goal

pub returns : goal.returns
returns c =
    counted c.args.at c.args.side.now c.come-answered.new.side c.args.log.now c.count.new.log (by_bytes c.args.at c.args.bytes.now) c.come-answered.result c.count.result
    c.come-answered.ensures.pair c.count.ensures.made c.count.ensures.most c.come-answered.ensures.received c.count.ensures.stands c.count.ensures.outcome
