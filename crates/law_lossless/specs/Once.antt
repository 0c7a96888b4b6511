-- Once: while no timer has expired, a stack sends nothing again. Our own law, over RFC 6298.
use Rattle.std.specs.Prelude.{◌≡◌, ℕ, ◌<◌, Bool, true, false, ◌||◌, List, [], ◌∷◌, Some}
use Rattle.book_base.specs.declared.address.Pair.{Pair}
use Rattle.book_cmd_node.specs.declared.node.Act.{Act}
use Rattle.book_cmd_node.specs.declared.node.Act.TheVariants as act
use Rattle.book_cmd_node.specs.declared.node.NodeEvent.{NodeEvent}
use Rattle.book_cmd_node.specs.declared.node.NodeEvent.TheVariants as event
use Rattle.book_stack.specs.Calls.{Call, At, Input, Output}
use Rattle.book_stack.specs.Runs.{expanded_from, stack_after}
use Rattle.book_stack.specs.Stacks.{StackState}

-- at a pair something is sent again (RFC 9293, section 3.10.8)
abbrev pub is_resend : Act → Bool
is_resend act.Resend = true
is_resend _ = false

-- a plain event by which something is sent again (own)
abbrev pub sends_again : NodeEvent → Bool
sends_again (event.On pair a) = is_resend a
sends_again _ = false

-- something is sent again by one of these events (own)
abbrev pub sends_any_again : List NodeEvent → Bool
sends_any_again [] = false
sends_any_again (e ∷ events) = sends_again e || sends_any_again events

-- no timer of a stack has expired at this time in milliseconds (RFC 6298, section 5.4)
pub record NoneExpired (now : ℕ) (s : StackState) : Type 0 where
  pub later : (pair : Pair) (d : ℕ) → (s.watches pair).deadline ≡ Some d → now < d

-- what is called at this time, and isn't to send again: the user sends nothing by himself (own)
abbrev pub IsAt : ℕ → Call → Type 0
IsAt now (At pair a) = is_resend a ≡ false
IsAt now (Input coming) = coming.now ≡ now
IsAt now (Output time) = time ≡ now
IsAt now _ = Unit {0}

-- by these calls nothing is sent again, and after them no timer has expired (own)
pub record SendsOnce (now : ℕ) (s : StackState) (calls : List Call) : Type 0 where
  pub once : sends_any_again (expanded_from s calls) ≡ false
  pub still : NoneExpired now (stack_after s calls)
