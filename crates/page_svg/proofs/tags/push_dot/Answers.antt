use Rattle.std.specs.Prelude.{◌++◌, codes, decimal}
use Rattle.page_svg.specs.Tags.{dot_tag}
use Rattle.page_svg.proofs.Parts.{three}
use Rattle.page_svg.proofs.tags.push_dot.Goals as goal

pub returns : goal.returns
unfolding dot_tag
returns c =
    three c.args.out.now.items (codes "<circle cx=\"" ++ decimal c.args.at.x) (codes "\" cy=\"" ++ decimal c.args.at.y)
    (codes "\" r=\"3\"/>") c.push_numbered.new.out.items c.push_numbered-2.new.out.items _
    c.in_ok-push_numbered.ensures c.in_ok-push_numbered-2.ensures c.in_ok-extend_from_slice.ensures.items
