use Rattle.std.specs.Prelude.{codes}
use Rattle.page_draw_svg.specs.Pictures.{dash_attribute}
use Rattle.page_svg.proofs.Parts.{two}
use Rattle.scope_draw.proofs.heads.push_black.Goals as goal

pub returns : goal.returns
returns c =
    two c.args.out.now.items (codes " stroke=\"#000\"") (dash_attribute c.args.stroke) c.extend_from_slice.new.self.items _
    c.in_ok-extend_from_slice.ensures.items (rw c.dash_attribute.ensures at c.in_ok-extend_from_slice-2.ensures.items)
