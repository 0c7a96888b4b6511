use Rattle.std.specs.Prelude.{codes}
use Rattle.page_svg.specs.Tags.{titled_tag, colour_text, escaped}
use Rattle.page_svg.proofs.Parts.{nine}
use Rattle.page_svg.proofs.tags.push_titled.Goals as goal

pub returns : goal.returns
unfolding titled_tag
returns c =
    nine c.args.out.now.items (codes "<g class=\"") c.args.class.now (codes "\" stroke=\"") (colour_text c.args.key_id) (codes "\"><title>")
    (escaped c.args.title.now) (codes "</title>") c.args.drawing.now (codes "</g>\n")
    c.extend_from_slice.new.self.items c.extend_from_slice-2.new.self.items c.extend_from_slice-3.new.self.items c.push_colour.new.out.items
    c.extend_from_slice-4.new.self.items c.push_escaped.new.out.items c.extend_from_slice-5.new.self.items c.extend_from_slice-6.new.self.items _
    c.in_ok-extend_from_slice.ensures.items c.in_ok-extend_from_slice-2.ensures.items c.in_ok-extend_from_slice-3.ensures.items c.in_ok-push_colour.ensures
    c.in_ok-extend_from_slice-4.ensures.items c.in_ok-push_escaped.ensures c.in_ok-extend_from_slice-5.ensures.items
    c.in_ok-extend_from_slice-6.ensures.items c.in_ok-extend_from_slice-7.ensures.items
