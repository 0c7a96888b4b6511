use Rattle.std.specs.Prelude.{◌++◌, codes, decimal}
use Rattle.page_svg.specs.Tags.{head_svg, style_svg}
use Rattle.page_svg.proofs.Parts.{five}
use Rattle.page_svg.proofs.heads.push_head.Goals as goal

pub returns : goal.returns
unfolding head_svg
returns c =
    five c.args.out.now.items (codes "<svg xmlns=\"http://www.w3.org/2000/svg\" width=\"800\"")
    (codes " height=\"" ++ decimal c.args.height) (codes "\" viewBox=\"0 0 800 " ++ decimal c.args.height)
    (codes "\" font-family=\"monospace\" font-size=\"12\" stroke-width=\"1.5\">\n") style_svg
    c.extend_from_slice.new.self.items c.push_numbered.new.out.items c.push_numbered-2.new.out.items c.extend_from_slice-2.new.self.items _
    c.in_ok-extend_from_slice.ensures.items c.in_ok-push_numbered.ensures c.in_ok-push_numbered-2.ensures
    c.in_ok-extend_from_slice-2.ensures.items c.in_ok-push_style.ensures
