use Rattle.std.specs.Prelude.{codes}
use Rattle.page_draw_svg.specs.Pictures.{lost_tip_svg}
use Rattle.page_svg.proofs.Parts.{three}
use Rattle.scope_draw.proofs.heads.push_lost_tip.Goals as goal

pub returns : goal.returns
unfolding lost_tip_svg
returns c =
    three c.args.out.now.items (codes "<marker id=\"lost\" viewBox=\"0 0 10 10\" refX=\"5\" refY=\"5\" ")
    (codes "markerUnits=\"userSpaceOnUse\" markerWidth=\"10\" markerHeight=\"10\">")
    (codes "<path d=\"M1 1L9 9M9 1L1 9\" stroke=\"#000\" fill=\"none\"/></marker>")
    c.extend_from_slice.new.self.items c.extend_from_slice-2.new.self.items _
    c.in_ok-extend_from_slice.ensures.items c.in_ok-extend_from_slice-2.ensures.items c.in_ok-extend_from_slice-3.ensures.items
