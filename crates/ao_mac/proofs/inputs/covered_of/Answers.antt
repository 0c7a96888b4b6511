use Rattle.std.proofs.Common.{length, ap, ◌∙◌, arith}
use Rattle.tcp_segment.specs.Views.{view_ao}
use Rattle.book_segments.proofs.Found.{found_within}
use Rattle.ao_mac.proofs.inputs.covered_of.Goals as goal

pub invariant_of-result : goal.invariant_of-result
invariant_of-result c = (
  rw c.area.ensures (found_within c.options-options.result (view_ao c.args.input.now.option) (rw c.options-options.ensures.value c.requires.found)),
  omega (arith, ap length (c.area.ensures ∙ c.options-options.ensures.value), c.options-options.ensures.fits.area.most),
)
