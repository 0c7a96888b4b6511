use Rattle.std.proofs.Common.{refl}
use Rattle.scope_draw.proofs.PastLaws.{is_placed}
use Rattle.scope_draw.proofs.places.placed_at.Goals as goal

pub returns : goal.returns
returns c = λ rs earlier saw keeps.
    is_placed _ c.args.row c.args.past.now rs earlier c.args.rung.now keeps refl refl (c.in_ok-label.ensures c.args.row earlier keeps)
    (c.stroke_of.ensures rs earlier c.args.row saw keeps) (c.arrow_start.ensures c.args.row earlier keeps)
