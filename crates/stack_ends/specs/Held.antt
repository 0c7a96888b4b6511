-- The ends that a node holds. Our own format.
use Rattle.std.specs.Prelude.{◌≡◌, ℕ, ◌+◌, nat_le, Bool, List, length, Option, Some, None, is_some, Result, Ok, Err, if◌then◌else◌}
use Rattle.std.specs.Map.{lookup}
use Rattle.std.specs.BTreeMap.{is_at}
use Rattle.book_base.specs.declared.address.Pair.{Pair}
use Rattle.book_base.specs.Orders.{by_pair}
use Rattle.book_keys.specs.Rows.{Row}
use Rattle.book_endpoint.specs.States.{EndState, tick}
use Rattle.book_cmd_node.specs.NodeRuns.{same_pair}
use Rattle.tcp_endpoint.specs.declared.endpoint.Endpoint.{Endpoint}
use Rattle.tcp_endpoint.specs.Ends.{Stands, FitsEnd, pair_at_end}
use Rattle.stack_ends.specs.declared.answer.NodeRefusal.{NodeRefusal}
use Rattle.stack_ends.specs.declared.answer.NodeRefusal.TheVariants as refusals

-- a node is: how many ends it holds at most, and the ends by their pairs
pub record Holding : Type 0 where
  pub most : ℕ
  pub entries : List (Pair × Endpoint)

-- the end that is held for a pair
abbrev pub end_at : Holding → Pair → Option Endpoint
end_at n pair = lookup (is_at (by_pair pair)) n.entries

-- how many ends are held
abbrev pub ends : Holding → ℕ
ends n = length n.entries

-- an end is held for the pair
abbrev pub holds : Holding → Pair → Bool
holds n pair = is_some (end_at n pair)

-- why a node takes no end for a pair: it is held, else as many are as it holds at most
abbrev pub refusal : Holding → Pair → Option NodeRefusal
refusal n pair = if holds n pair then Some refusals.InUse else (if nat_le n.most (ends n) then Some refusals.Full else None)

-- the call is refused for this reason, or for none but want of memory
abbrev pub IsRefused : {A : Type 0} → Result A NodeRefusal → Option NodeRefusal → Type 0
IsRefused (Err why) (Some reason) = why ≡ reason
IsRefused (Err why) None = why ≡ refusals.Memory
IsRefused (Ok x) reason = reason ≡ None

-- this end is held for the pair from now on, one more than before, and all others stay
pub record Adds (before after : Holding) (pair : Pair) (e : Endpoint) : Type 0 where
  pub most : after.most ≡ before.most
  pub finds : (q : Pair) → end_at after q ≡ (if same_pair pair q then Some e else end_at before q)
  pub count : ends after ≡ ends before + 1

-- no end is held for the pair any more, and all others stay
pub record Removes (before after : Holding) (pair : Pair) : Type 0 where
  pub most : after.most ≡ before.most
  pub finds : (q : Pair) → end_at after q ≡ (if same_pair pair q then None else end_at before q)
  pub count : ends after + (if holds before pair then 1 else 0) ≡ ends before

-- an end that begins: it stands for this state, the table fits it, and its sockets are the pair
pub record Begins (rows : List Row) (pair : Pair) (s : EndState) (e : Endpoint) : Type 0 where
  pub stands : Stands e s
  pub fits : FitsEnd rows e
  pub pair_is : pair_at_end e ≡ pair

-- the table fits each end
abbrev pub FitsAll : List Row → Holding → Type 0
FitsAll rows n = (q : Pair) (e : Endpoint) → end_at n q ≡ Some e → FitsEnd rows e

-- an end ticks
pub record TicksEnd (now : ℕ) (before after : Endpoint) : Type 0 where
  pub stands : (s : EndState) → Stands before s → Stands after (tick now s)
  pub pair : pair_at_end after ≡ pair_at_end before
  pub fits : (rows : List Row) → FitsEnd rows before → FitsEnd rows after

-- what is held for a pair ticks
abbrev pub TicksAt : ℕ → Option Endpoint → Option Endpoint → Type 0
TicksAt now None after = after ≡ None
TicksAt now (Some e) after = (f : Endpoint) × (after ≡ Some f) × TicksEnd now e f

-- every end ticks
pub record Ticks (now : ℕ) (before after : Holding) : Type 0 where
  pub most : after.most ≡ before.most
  pub each : (q : Pair) → TicksAt now (end_at before q) (end_at after q)
  pub count : ends after ≡ ends before
