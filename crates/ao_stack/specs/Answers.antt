-- What the calls of a stack answer, as the definitions answer (own).
use Rattle.std.specs.Prelude.{◌≡◌, ℕ, Bool, true, false, List, ◌++◌, length, take, drop, Option, Some, None, Result, Ok, Err, ⊤}
use Rattle.book_base.specs.declared.address.Pair.{Pair}
use Rattle.book_segments.specs.Segments.{Reading, Read, Bad as Unread, pair_reached, spell}
use Rattle.book_keys.specs.declared.new_row.AddRefusal.{AddRefusal}
use Rattle.book_keys.specs.declared.new_row.AddRefusal.TheVariants as refused
use Rattle.book_keys.specs.declared.new_row.NewRow.{NewRow}
use Rattle.book_keys.specs.declared.new_row.NoRow.{NoRow}
use Rattle.book_keys.specs.Rows.{Row}
use Rattle.book_keys.specs.Tables.{AddedAs, OverlapsRow, TooMany}
use Rattle.book_endpoint.specs.declared.arrival.Arrival.TheVariants.{Bad}
use Rattle.book_cmd_node.specs.NodeRuns as node
use Rattle.book_stack.specs.Calls as book
use Rattle.book_stack.specs.Calls.{CallAnswer, Call, call}
use Rattle.book_stack.specs.Stacks.{StackState, handed}
use Rattle.tcp_endpoint.specs.declared.send.GiveAnswer.{GiveAnswer}
use Rattle.stack_ends.specs.declared.answer.NodeArrival.{NodeArrival}
use Rattle.stack_ends.specs.declared.answer.NodeArrival.TheVariants as arrivals
use Rattle.stack_ends.specs.declared.answer.NodeRefusal.{NodeRefusal}
use Rattle.stack_ends.specs.declared.answer.NodeRefusal.TheVariants as refusals
use Rattle.stack_ends.specs.declared.calls.Taken.{Taken}
use Rattle.stack_ends.specs.Calls.{given_as}
use Rattle.ao_stack.specs.declared.stack.Stack.{Stack}
use Rattle.ao_stack.specs.declared.input.Heard.{Heard}
use Rattle.ao_stack.specs.declared.input.Heard.TheVariants as heard
use Rattle.ao_stack.specs.Stands.{Stands}

-- the stack stands for what a call leaves, and that call's answer is so (own)
pub record Follows (k : Stack) (c : Call) (s : StackState) (IsSo : CallAnswer → Type 0) : Type 0 where
  pub stands : Stands k (call c s).stack
  pub answer : IsSo (call c s).answer

-- the same of a part of a call (own)
pub record Does (k : Stack) (IsSo : CallAnswer → Type 0) (d : book.Did) : Type 0 where
  pub stands : Stands k d.stack
  pub answer : IsSo d.answer

-- a connection began, or why not (own)
abbrev pub IsBegun : {A : Type 0} → Result A NodeRefusal → CallAnswer → Type 0
IsBegun (Ok x) a = a ≡ book.Told node.Performed
IsBegun (Err refusals.InUse) a = a ≡ book.Told node.InUse
IsBegun (Err refusals.Full) a = a ≡ book.Told node.NodeFull
IsBegun (Err refusals.Memory) a = ⊥

-- a connection is to begin by this call: for want of memory all stays as it is (own)
abbrev pub BeginsAs : {A : Type 0} → Stack → Call → StackState → Result A NodeRefusal → Type 0
BeginsAs k c s (Err refusals.Memory) = Stands k s
BeginsAs k c s r = Follows k c s (IsBegun r)

-- a row was added, or why not (own)
abbrev pub IsAdded : Result ℕ AddRefusal → CallAnswer → Type 0
IsAdded (Ok n) a = (rows : List Row) × (a ≡ book.Adds (AddedAs n rows))
IsAdded (Err refused.TooMany) a = a ≡ book.Adds TooMany
IsAdded (Err (refused.Overlap n)) a = a ≡ book.Adds (OverlapsRow n)
IsAdded (Err refused.Memory) a = ⊥

-- a row is to be added: for want of memory all stays as it is (own)
abbrev pub AddsAs : Stack → NewRow → StackState → Result ℕ AddRefusal → Type 0
AddsAs k row s (Err refused.Memory) = Stands k s
AddsAs k row s r = Follows k (book.Add row) s (IsAdded r)

-- a row was withdrawn, or there is no such row (own)
abbrev pub IsWithdrawn : Result (Unit {0}) NoRow → CallAnswer → Type 0
IsWithdrawn (Ok done) a = a ≡ book.Withdraws
IsWithdrawn (Err none) a = a ≡ book.NoSuchRow

-- the pair was held, and its end did it; or it isn't held (own)
abbrev pub IsDone : Bool → CallAnswer → Type 0
IsDone true a = a ≡ book.Told node.Performed
IsDone false a = a ≡ book.Told node.NoConnection

-- a piece was given to the end of a pair that is held, or the pair isn't (own)
abbrev pub IsGiven : Option GiveAnswer → CallAnswer → Type 0
IsGiven None a = a ≡ book.Told node.NoConnection
IsGiven (Some answer) a = a ≡ book.Told (given_as answer)

-- bytes of a pair that is held were moved to the front of the buffer (own)
pub record HasTaken (before after : List ℕ) (taken : Taken) (a : CallAnswer) : Type 0 where
  pub bytes : List ℕ
  pub answer : a ≡ book.Told (node.Delivered bytes taken.at_end)
  pub count : taken.count ≡ length bytes
  pub filled : after ≡ bytes ++ drop taken.count before

-- bytes were taken of a pair that is held, or the pair isn't (own)
abbrev pub IsTaken : List ℕ → List ℕ → Option Taken → CallAnswer → Type 0
IsTaken before after None a = a ≡ book.Told node.NoConnection
IsTaken before after (Some taken) a = HasTaken before after taken a

-- bytes that are read so are a segment for this pair (own)
abbrev pub Reaches : Reading → Pair → Type 0
Reaches (Read d) pair = pair ≡ pair_reached d
Reaches (Unread fault) pair = ⊥

-- what bytes that came and are read so were answered, by whether they moved a connection on (own)
abbrev pub IsTold : (moved : Bool) → Reading → NodeArrival → CallAnswer → Type 0
IsTold moved r (arrivals.Bad fault) a =
    (a ≡ book.answer_moving moved (node.DatagramAnswered (Bad fault))) × (r ≡ Unread fault)
IsTold moved r arrivals.NoConnection a = a ≡ book.answer_moving moved node.NoConnection
IsTold moved r (arrivals.At pair arrived) a =
    (a ≡ book.answer_moving moved (node.DatagramAnswered arrived.arrival)) × Reaches r pair

-- what they were answered, or a segment knocked, or one that asked for a connection was refused (own)
abbrev pub IsHeard : Reading → Heard → CallAnswer → Type 0
IsHeard r (heard.Told told) a = IsTold false r told a
IsHeard r (heard.Moved told) a = IsTold true r told a
IsHeard r (heard.Knocks pair) a = a ≡ book.Knocks pair
IsHeard r (heard.Refused why) a = a ≡ book.Refuses why

-- what was answered, by whether the segment moved its connection on (own)
abbrev pub heard_moving : Bool → NodeArrival → Heard
heard_moving true told = heard.Moved told
heard_moving false told = heard.Told told

-- the datagram that is handed out, of this length, stands in front of the buffer; or none is due
-- (own)
abbrev pub IsHanded : List ℕ → Option ℕ → CallAnswer → Type 0
IsHanded room (Some n) (book.Hands x) =
    (take n room ≡ spell (handed x.segment)) × (n ≡ length (spell (handed x.segment)))
IsHanded room None book.Rests = ⊤
IsHanded room _ _ = ⊥
