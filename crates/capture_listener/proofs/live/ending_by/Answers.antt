use Rattle.capture_listener.proofs.AtPlaceLaws.{ending_at}
use Rattle.capture_listener.proofs.live.ending_by.Goals as goal

pub returns : goal.returns
returns c =
    ending_at c.args.one.now c.args.index.now.uses c.uses-uses.result.now c.places_of.result.now c.ending_among.result
    c.requires c.uses-uses.ensures.one c.uses-uses.ensures.uses c.places_of.ensures c.ending_among.ensures
