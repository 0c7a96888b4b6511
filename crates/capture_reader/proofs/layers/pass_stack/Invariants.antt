use Rattle.std.proofs.Common.{◌≡◌, length}
use Rattle.book_captures.specs.declared.link_type.Protocol.TheVariants.{Labels}
use Rattle.book_captures.specs.Frames.{behind_labels}
use Rattle.capture_reader.proofs.layers.pass_stack.Given as goal

abbrev pub invariant-labels : goal.invariant-labels
invariant-labels l = behind_labels Labels l.body ≡ behind_labels Labels l.fn.body

abbrev pub decreases-labels : goal.decreases-labels
decreases-labels l = length l.body
