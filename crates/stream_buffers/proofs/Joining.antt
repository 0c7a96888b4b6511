-- A piece joined to the runs that it touches.
use Rattle.std.proofs.Common.{◌≡◌, ℕ, ◌+◌, ◌-◌, ◌^◌, ◌<◌, ◌≤◌, max, List, ◌∷◌, ◌++◌, length, refl, ◌∙◌, ap, arith}
use Rattle.stream_buffers.specs.declared.slot.Slot.{Slot}
use Rattle.stream_buffers.specs.Pool.{At, Pool, pool}
use Rattle.stream_buffers.specs.declared.run.Run.{Run}
use Rattle.stream_buffers.specs.declared.run.Span.{Span}
use Rattle.stream_buffers.specs.Spans.{run_of, spans_of}
use Rattle.stream_buffers.specs.Walks.{IsReached, IsAbsorbed, IsJoined}
use Rattle.stream_buffers.proofs.SpanLaws.{Apart-order}
use Rattle.stream_buffers.proofs.Absorbing.{reached_apart}

module _ {at : ℕ} {buffer left : List ℕ} {capacity : ℕ} {between : Pool Run} {before : List (Slot × Run)} {slot : Slot} {run : Run} {after : List (Slot × Run)} {low : ℕ} {piece : List ℕ} {steps later : ℕ} {made : Span} where
  same_capacity : IsAbsorbed at buffer left capacity between before slot run after low piece steps later made → between.capacity ≡ capacity
  same_capacity a = ap (λ (p : Pool Run). p.capacity) a.pairs

  same_pairs : (a : IsAbsorbed at buffer left capacity between before slot run after low piece steps later made) → between.pairs ≡ before ++ (slot, run) ∷ a.rest
  same_pairs a = ap (λ (p : Pool Run). p.pairs) a.pairs

  -- the span that they make is shorter than a lap of the sequence numbers
  pub made_short : IsAbsorbed at buffer left capacity between before slot run after low piece steps later made → {base : Span} → IsReached at low (low + length piece) base run after → at ≤ low → made.end - made.first < 2 ^ 32
  made_short a r le =
      let last = Apart-order made.end (spans_of at a.rest) (max r.top (low + length piece)) (a.apart r.top (reached_apart r)) in
      omega (arith, a.first, r.near, last)

  pub joined_ready : IsAbsorbed at buffer left capacity between before slot run after low piece steps later made → low ≡ at → (runs : Pool Run) → At between.pairs slot (λ front x rest. runs ≡ pool between.capacity (front ++ rest))
      → IsJoined at buffer left capacity runs before slot run after low piece steps later made.end
  joined_ready a e runs taken = record {
    between = between;
    made = made;
    absorbed = a;
    ready = λ _. (taken before run a.rest (same_pairs a) ∙ ap (λ n. pool n (before ++ a.rest)) (same_capacity a), refl);
    kept = λ lt. absurd (omega arith);
  }

  pub joined_kept : IsAbsorbed at buffer left capacity between before slot run after low piece steps later made → at < low → (item : Run) → item ≡ run_of made → (runs : Pool Run) → At between.pairs slot (λ front x rest. runs ≡ pool between.capacity (front ++ (slot, item) ∷ rest))
      → IsJoined at buffer left capacity runs before slot run after low piece steps later at
  joined_kept a lt item is runs put = record {
    between = between;
    made = made;
    absorbed = a;
    ready = λ e. absurd (omega arith);
    kept = λ _. (put before run a.rest (same_pairs a) ∙ (ap (λ r. pool between.capacity (before ++ (slot, r) ∷ a.rest)) is ∙ ap (λ n. pool n (before ++ (slot, run_of made) ∷ a.rest)) (same_capacity a)), refl);
  }
