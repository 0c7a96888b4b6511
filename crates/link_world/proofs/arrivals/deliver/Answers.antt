use Rattle.std.proofs.Common.{refl, sym, ◌∙◌}
use Rattle.book_link.specs.declared.event.Event.TheVariants.{At}
use Rattle.book_link.specs.declared.event.Action.TheVariants.{Deliver}
use Rattle.book_link.specs.Outcomes as book
use Rattle.link_report.specs.declared.outcome.Outcome.TheVariants as outcome
use Rattle.link_world.specs.Changes.{by_bytes, by_event}
use Rattle.link_world.proofs.ActLaws.{restated, still}
use Rattle.link_world.proofs.ComeLaws.{counted, delivered, undelivered}
use Rattle.link_world.proofs.arrivals.deliver.Goals as goal

pub returns-in-None : goal.returns-in-None
returns-in-None c =
    still c.args.at c.args.side.now c.args.log.now (by_event (At c.args.at (Deliver c.args.name))) outcome.NoSegment
    (λ setup w h. (book.NoSegment, undelivered c.args.at c.args.name setup w (c.in-None.ensures w.history h.log_is), refl))

pub returns-in-Some : goal.returns-in-Some
returns-in-Some c =
    let bytes = c.as_slice-bytes.result.now in
    restated c.args.at c.args.side.now c.come-answered.new.side c.args.log.now c.count.new.log (by_bytes c.args.at bytes)
    (by_event (At c.args.at (Deliver c.args.name))) c.count.result
    (λ setup w h.
    let m = c.in-Some.ensures w.history h.log_is in
    delivered c.args.at c.args.name bytes setup w m.0 m.1 (m.2.bytes ∙ sym c.as_slice-bytes.ensures))
    (counted c.args.at c.args.side.now c.come-answered.new.side c.args.log.now c.count.new.log (by_bytes c.args.at bytes)
    c.come-answered.result c.count.result c.come-answered.ensures.pair c.count.ensures.made c.count.ensures.most
    c.come-answered.ensures.received c.count.ensures.stands c.count.ensures.outcome)
