use Rattle.std.proofs.Common.{◌≡◌, ◌++◌, drop}
use Rattle.book_segments.specs.Received.{bytes_from}
use Rattle.stream_buffers.specs.Kept.{byte_at}
use Rattle.stream_buffers.proofs.reassembly.Reassembly.take.Given as goal

abbrev pub invariant-loop-index : goal.invariant-loop-index
invariant-loop-index l = l.out ≡ bytes_from (byte_at l.fn.self) l.fn.self.from l.index ++ drop l.index l.fn.out
