use Rattle.std.proofs.Common.{◌≡◌, ◌+◌, ◌*◌, ◌%◌, ◌≤◌, length}
use Rattle.book_segments.specs.Segments.{words_sum}
use Rattle.tcp_segment.proofs.sums.words_modulo.Given as goal

abbrev pub invariant-loop-rest : goal.invariant-loop-rest
invariant-loop-rest l = ((l.sum + words_sum l.rest) % 65535 ≡ words_sum l.fn.bytes % 65535) × (l.sum + 4294967295 * length l.rest ≤ 4294967295 * length l.fn.bytes)

abbrev pub decreases-loop-rest : goal.decreases-loop-rest
decreases-loop-rest l = length l.rest
