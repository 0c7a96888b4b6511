use Rattle.std.proofs.Common.{ℕ, ◌++◌, ap, ◌∙◌}
use Rattle.std.specs.Prelude.{codes, decimal}
use Rattle.book_scope_plan.specs.Bars.{scale_words}
use Rattle.book_scope_plan.specs.Slices.{slice_width}
use Rattle.book_scope_plan.specs.FindingTexts.{times_text}
use Rattle.plan_texts.proofs.Parts.{four}
use Rattle.draw_plan.proofs.picture.push_scale_words.Goals as goal

pub returns : goal.returns
unfolding scale_words
returns c =
    four c.args.out.now.items (times_text c.args.plan.now.from c.args.plan.now.to) (codes ", a column is ")
    (decimal (slice_width c.args.plan.now.from c.args.plan.now.to)) (codes " s")
    c.push_times.new.out.items c.extend_from_slice.new.self.items c.push_decimal.new.out.items _
    c.in_ok-push_times.ensures c.in_ok-extend_from_slice.ensures.items
    (c.in_ok-push_decimal.ensures ∙ ap (λ (n : ℕ). c.extend_from_slice.new.self.items ++ decimal n) c.slice_width.ensures.value)
    c.in_ok-extend_from_slice-2.ensures.items
