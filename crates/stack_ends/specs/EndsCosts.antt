-- What a datagram that comes to a node costs at most (own).
use Rattle.std.specs.Prelude.{◌≡◌, ℕ, List, Some}
use Rattle.book_base.specs.declared.address.Pair.{Pair}
use Rattle.book_segments.specs.Segments.{Segment, Reading, Read, Bad as Unread}
use Rattle.book_keys.specs.Rows.{Row}
use Rattle.tcp_endpoint.specs.declared.arrival.Arrived.{Arrived}
use Rattle.tcp_endpoint.specs.declared.endpoint.Endpoint.{Endpoint}
use Rattle.tcp_endpoint.specs.Arrivals.{Costs, IsBeforeCheck}
use Rattle.stack_ends.specs.declared.answer.NodeArrival.{NodeArrival}
use Rattle.stack_ends.specs.declared.answer.NodeArrival.TheVariants as answers
use Rattle.stack_ends.specs.Held.{Holding, end_at}

-- the work of the end of a pair that heard a segment: none before the check; else that of its check,
-- and of the links of the received runs (own)
pub record CostsEnd (rows : List Row) (now : ℕ) (d : Segment) (before after : Holding) (pair : Pair) (told : Arrived) (old new : ℕ) : Type 0 where
  pub heard : Endpoint
  pub next : Endpoint
  pub was : end_at before pair ≡ Some heard
  pub is : end_at after pair ≡ Some next
  pub untouched : IsBeforeCheck told.arrival → new ≡ old
  pub costs : Costs rows now d heard next told old new

-- the work of a segment: that of the end that heard it, and none where none is held (own)
abbrev pub CostsHeard : List Row → ℕ → Segment → Holding → Holding → NodeArrival → ℕ → ℕ → Type 0
CostsHeard rows now d before after (answers.At pair told) old new = CostsEnd rows now d before after pair told old new
CostsHeard rows now d before after _ old new = new ≡ old

-- the work of bytes that come: none where they are no datagram (own)
abbrev pub CostsRead : List Row → ℕ → Reading → Holding → Holding → NodeArrival → ℕ → ℕ → Type 0
CostsRead rows now (Unread fault) before after told old new = new ≡ old
CostsRead rows now (Read d) before after told old new = CostsHeard rows now d before after told old new
