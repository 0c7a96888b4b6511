use Rattle.std.proofs.Common.{◌≡◌, ℕ, ◌+◌, ◌<◌, length, get_or}
use Rattle.stream_buffers.proofs.slots.Slots.new.Given as goal

abbrev pub invariant-loop-index : goal.invariant-loop-index
invariant-loop-index g l = record {
  long : length l.next.items ≡ l.capacity + 1;
  each : (k : ℕ) → k < l.index → get_or l.next.items k 0 ≡ k + 1;
  last : get_or l.next.items l.capacity 0 ≡ l.capacity;
}
