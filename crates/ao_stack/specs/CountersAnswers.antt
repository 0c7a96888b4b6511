-- What the calls of a stack that counts answer and leave, as the definitions do (own).
use Rattle.std.specs.Prelude.{◌≡◌, ℕ, Bool, Result, Err, option_map}
use Rattle.book_stack.specs.Counters.{StackCounts, arrival_counted, call_counted, stray_counted, tallied}
use Rattle.book_stack.specs.KeyIds.{key_ids_heard}
use Rattle.book_endpoint.specs.declared.arrival.Arrival.TheVariants.{Bad}
use Rattle.book_keys.specs.declared.new_row.AddRefusal.{AddRefusal}
use Rattle.book_keys.specs.declared.new_row.AddRefusal.TheVariants as refused
use Rattle.book_keys.specs.declared.new_row.NewRow.{NewRow}
use Rattle.book_stack.specs.Calls.{Add, Call, CallAnswer, call}
use Rattle.book_stack.specs.Stacks.{StackState}
use Rattle.stack_ends.specs.declared.answer.NodeArrival.{NodeArrival}
use Rattle.stack_ends.specs.declared.answer.NodeArrival.TheVariants as arrivals
use Rattle.stack_ends.specs.declared.answer.NodeRefusal.{NodeRefusal}
use Rattle.stack_ends.specs.declared.answer.NodeRefusal.TheVariants as refusals
use Rattle.ao_stack.specs.Answers.{IsAdded, IsBegun}
use Rattle.ao_stack.specs.declared.counted_stack.CountedStack.{CountedStack}
use Rattle.ao_stack.specs.CountersPassed.{ids_passed}
use Rattle.ao_stack.specs.CountersStands.{Stands}
use Rattle.ao_stack.specs.Tallies.{Becomes, tally_at}

-- the stack stands for what a call leaves, with the counters after it, and that call's answer is so
-- (own)
pub record Follows (k : CountedStack) (c : Call) (s : StackState) (n : StackCounts) (IsSo : CallAnswer → Type 0) : Type 0 where
  pub stands : Stands k (call c s).stack (call_counted (call c s) n)
  pub answer : IsSo (call c s).answer

-- a datagram that was answered so is counted, of the node and of the connection that answered; where
-- it moved the connection on, its key ids are kept (own)
abbrev pub CountsTold : (before after : CountedStack) → (moved : Bool) → NodeArrival → Type 0
CountsTold k after moved arrivals.NoConnection =
    (after.node ≡ stray_counted k.node) × (after.tallies ≡ k.tallies)
CountsTold k after moved (arrivals.Bad fault) =
    (after.node ≡ arrival_counted (Bad fault) k.node) × (after.tallies ≡ k.tallies)
CountsTold k after moved (arrivals.At p arrived) = (after.node ≡ arrival_counted arrived.arrival k.node)
    × Becomes k.tallies after.tallies p (option_map (tallied (arrival_counted arrived.arrival)
    (key_ids_heard moved arrived.arrival (ids_passed arrived.passed))) (tally_at k.tallies p))

-- a connection is to begin by this call: for want of memory all stays as it is (own)
abbrev pub BeginsAs : {A : Type 0} → CountedStack → Call → StackState → StackCounts → Result A NodeRefusal → Type 0
BeginsAs k c s n (Err refusals.Memory) = Stands k s n
BeginsAs k c s n r = Follows k c s n (IsBegun r)

-- a row is to be added: for want of memory all stays as it is (own)
abbrev pub AddsAs : CountedStack → NewRow → StackState → StackCounts → Result ℕ AddRefusal → Type 0
AddsAs k row s n (Err refused.Memory) = Stands k s n
AddsAs k row s n r = Follows k (Add row) s n (IsAdded r)
