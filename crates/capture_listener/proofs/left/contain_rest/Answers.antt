use Rattle.capture_listener.proofs.LeftLaws.{rest_told}
use Rattle.capture_listener.proofs.left.contain_rest.Goals as goal

pub returns : goal.returns
returns c =
    rest_told c.args.lifetimes.now c.args.from c.max-low.result c.args.lifetime c.first_gap.result c.is_none.result
    c.max-low.ensures c.is_none.ensures c.first_gap.ensures.some c.first_gap.ensures.none
