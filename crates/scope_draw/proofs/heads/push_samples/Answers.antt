use Rattle.std.specs.Prelude.{codes}
use Rattle.page_draw_svg.specs.declared.placed.Stroke.TheVariants as stroke
use Rattle.page_draw_svg.specs.Pictures.{sample_svg, samples_svg}
use Rattle.page_svg.proofs.Parts.{five}
use Rattle.scope_draw.proofs.heads.push_samples.Goals as goal

pub returns : goal.returns
unfolding samples_svg
returns c =
    five c.args.out.now.items (sample_svg 20 stroke.Whole (codes "comes")) (sample_svg 170 stroke.Lost (codes "is lost"))
    (sample_svg 320 stroke.Again (codes "comes again")) (sample_svg 490 stroke.Altered (codes "altered"))
    (sample_svg 640 stroke.Injected (codes "injected"))
    c.push_sample.new.out.items c.push_sample-2.new.out.items c.push_sample-3.new.out.items c.push_sample-4.new.out.items _
    c.in_ok-push_sample.ensures c.in_ok-push_sample-2.ensures c.in_ok-push_sample-3.ensures c.in_ok-push_sample-4.ensures c.in_ok-push_sample-5.ensures
