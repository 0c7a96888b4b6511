use Rattle.std.proofs.Common.{◌≡◌, length}
use Rattle.book_captures.specs.Frames.{behind_tags}
use Rattle.capture_reader.proofs.layers.pass_tags.Given as goal

abbrev pub invariant-tags : goal.invariant-tags
invariant-tags l = behind_tags l.protocol l.body ≡ behind_tags l.fn.protocol l.fn.body

abbrev pub decreases-tags : goal.decreases-tags
decreases-tags l = length l.body
