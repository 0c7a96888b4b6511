use Rattle.std.specs.Prelude.{codes}
use Rattle.page_draw_svg.specs.SessionPictures.{arrow_tip_svg}
use Rattle.page_svg.proofs.Parts.{three}
use Rattle.draw_session_rungs.proofs.heads.push_tip.Goals as goal

pub returns : goal.returns
unfolding arrow_tip_svg
returns c =
    three c.args.out.now.items (codes "<defs><marker id=\"tip\" viewBox=\"0 0 10 10\" refX=\"9\" refY=\"5\" ")
    (codes "markerUnits=\"userSpaceOnUse\" markerWidth=\"10\" markerHeight=\"10\" ")
    (codes "orient=\"auto\"><path d=\"M0 0L10 5L0 10z\" stroke=\"none\"/></marker></defs>\n")
    c.extend_from_slice.new.self.items c.extend_from_slice-2.new.self.items _
    c.in_ok-extend_from_slice.ensures.items c.in_ok-extend_from_slice-2.ensures.items c.in_ok-extend_from_slice-3.ensures.items
