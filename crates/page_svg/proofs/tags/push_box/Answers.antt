use Rattle.std.specs.Prelude.{◌++◌, codes, decimal}
use Rattle.page_svg.specs.Tags.{box_tag}
use Rattle.page_svg.proofs.Parts.{seven}
use Rattle.page_svg.proofs.tags.push_box.Goals as goal

pub returns : goal.returns
unfolding box_tag
returns c =
    seven c.args.out.now.items (codes "<rect x=\"" ++ decimal c.args.at.x) (codes "\" y=\"" ++ decimal c.args.at.y)
    (codes "\" width=\"" ++ decimal c.args.width) (codes "\" height=\"" ++ decimal c.args.height) (codes "\"") c.args.attributes.now (codes "/>")
    c.push_numbered.new.out.items c.push_numbered-2.new.out.items c.push_numbered-3.new.out.items c.push_numbered-4.new.out.items
    c.extend_from_slice.new.self.items c.extend_from_slice-2.new.self.items _
    c.in_ok-push_numbered.ensures c.in_ok-push_numbered-2.ensures c.in_ok-push_numbered-3.ensures c.in_ok-push_numbered-4.ensures
    c.in_ok-extend_from_slice.ensures.items c.in_ok-extend_from_slice-2.ensures.items c.in_ok-extend_from_slice-3.ensures.items
