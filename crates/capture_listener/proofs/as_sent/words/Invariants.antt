use Rattle.std.proofs.Common.{◌≡◌, ◌+◌, ◌*◌, ◌≤◌, length}
use Rattle.book_segments.specs.Segments.{words_sum}
use Rattle.capture_listener.proofs.as_sent.words.Given as goal

abbrev pub invariant-loop-rest : goal.invariant-loop-rest
invariant-loop-rest l = (l.sum + words_sum l.rest ≡ words_sum l.fn.bytes) × (l.sum + 65535 * length l.rest ≤ 65535 * length l.fn.bytes)

abbrev pub decreases-loop-rest : goal.decreases-loop-rest
decreases-loop-rest l = length l.rest
