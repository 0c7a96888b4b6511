use Rattle.capture_listener.proofs.AtPlaceLaws.{followed_at}
use Rattle.capture_listener.proofs.following.is_followed.Goals as goal

pub returns : goal.returns
returns c =
    followed_at c.args.one.now c.args.evidence.now.uses c.uses.result.now c.places_of.result.now c.is_followed_among.result
    c.requires c.uses.ensures.known c.uses.ensures.value c.places_of.ensures c.is_followed_among.ensures
