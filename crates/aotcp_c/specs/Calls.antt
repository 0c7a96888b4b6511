-- What the calls from a C program do (own).
use Rattle.std.specs.Prelude.{◌≡◌, ◌≢◌, ◌≤◌, ◌<◌, ◌++◌, ℕ, ℤ, Bool, List, Option, Some, None, Ok, true, false, length, take, drop, ⊤}
use Rattle.book_base.specs.declared.address.Address.{Address}
use Rattle.book_base.specs.declared.address.Pair.{Pair}
use Rattle.book_segments.specs.Segments.{reading, spell}
use Rattle.book_keys.specs.declared.fault.TableFault.{TableFault}
use Rattle.book_keys.specs.declared.new_row.NewRow.{NewRow}
use Rattle.book_keys.specs.Nodes.{tables_of}
use Rattle.book_keys.specs.Plans.{rows_at}
use Rattle.book_keys.specs.Reading.{Fails}
use Rattle.book_keys.specs.Rows.{Table}
use Rattle.book_keys.specs.Tables as tables
use Rattle.book_endpoint.specs.States.{EndState}
use Rattle.book_cmd_node.specs.declared.node.Act.{Act}
use Rattle.book_cmd_node.specs.declared.node.Act.TheVariants as act
use Rattle.book_cmd_node.specs.NodeRuns as node
use Rattle.book_cmd_node.specs.NodeRuns.{held_end}
use Rattle.book_stack.specs.Counters.{StackCounts, no_stack_counts}
use Rattle.book_stack.specs.Calls as book
use Rattle.book_stack.specs.Calls.{Call, CallAnswer, Incoming}
use Rattle.book_stack.specs.Stacks.{StackState, empty_stack, handed, timed_out}
use Rattle.book_stack.specs.Turns.{clocked}
use Rattle.book_stack.specs.Watches.{end_front}
use Rattle.stack_timers.specs.Watches.{latest}
use Rattle.ao_stack.specs.declared.input.Heard.{Heard}
use Rattle.ao_stack.specs.Answers.{IsHeard}
use Rattle.ao_stack.specs.Passed.{PassesAs}
use Rattle.ao_stack.specs.declared.counted_stack.CountedStack.{CountedStack}
use Rattle.ao_stack.specs.CountersAnswers.{Follows}
use Rattle.ao_stack.specs.CountersStands.{Stands}
use Rattle.aotcp_c.specs.declared.shapes.CFault.{CFault}
use Rattle.aotcp_c.specs.declared.shapes.CHeard.{CHeard}
use Rattle.aotcp_c.specs.declared.shapes.CRow.{CRow}
use Rattle.aotcp_c.specs.declared.shapes.CState.{CState}
use Rattle.aotcp_c.specs.declared.shapes.CTaken.{CTaken}
use Rattle.aotcp_c.specs.Codes.{bad_family, bad_row, bad_time, code_of, no_connection, no_memory, no_stack, nothing, ok, small_room}
use Rattle.aotcp_c.specs.Shapes.{fault_of, heard_of, state_of}
use Rattle.aotcp_c.specs.RowShapes.{IsRow, is_row}

-- what holds of the stack that a handle held and of the one that it holds after; where it held none
-- it holds none, and the code says so (own)
abbrev pub OnStack : (before after : Option CountedStack) → ℤ
    → (CountedStack → CountedStack → Type 0) → Type 0
OnStack (Some p) (Some q) code Does = Does p q
OnStack None None code Does = code ≡ no_stack
OnStack _ _ code Does = ⊥

-- the stack made the call, and the code is that of its answer (own)
abbrev pub Answers : CountedStack → Call → StackState → StackCounts → ℤ → Type 0
Answers k c s n code = Follows k c s n (λ a. code ≡ code_of a)

-- the stack stands for what it did, and this is why nothing was done (own)
pub record Declines (k : CountedStack) (s : StackState) (n : StackCounts)
    (why code : ℤ) : Type 0 where
  pub says : code ≡ why
  pub stands : Stands k s n

-- the call at a pair; nothing of a family that is neither 4 nor 6 (own)
abbrev pub CallsAt : CountedStack → Option Pair → Act → StackState → StackCounts → ℤ → Type 0
CallsAt k None a s n code = Declines k s n bad_family code
CallsAt k (Some pair) a s n code = Answers k (book.At pair a) s n code

-- a call for which memory is needed: for want of it all stays as it is (own)
pub record Tries (k : CountedStack) (c : Call) (s : StackState) (n : StackCounts)
    (code : ℤ) : Type 0 where
  pub stays : code ≡ no_memory → Stands k s n
  pub does : code ≢ no_memory → Answers k c s n code

-- a connection of the pair begins (own)
abbrev pub Begins : CountedStack → Option Pair → Act → StackState → StackCounts → ℤ → Type 0
Begins k None a s n code = Declines k s n bad_family code
Begins k (Some pair) a s n code = Tries k (book.At pair a) s n code

-- what a datagram was answered is told by its numbers, with the row and the number of a segment
-- that passed, as they were found (own)
pub record TellsHeard (coming : Incoming) (s : StackState) (told : CHeard)
    (a : CallAnswer) : Type 0 where
  pub heard : Heard
  pub answer : IsHeard (reading coming.bytes) heard a
  pub passed : PassesAs (clocked coming.now s).stack (reading coming.bytes) heard
  pub numbers : told ≡ heard_of heard

-- a datagram comes, and its answer is told by its numbers (own)
pub record Hears (k : CountedStack) (coming : Incoming) (s : StackState) (n : StackCounts)
    (told : CHeard) (code : ℤ) : Type 0 where
  pub late : latest < coming.now → Declines k s n bad_time code
  pub done : coming.now ≤ latest → code ≡ ok
  pub hears : coming.now ≤ latest
      → Follows k (book.Input coming) s n (TellsHeard coming s told)

-- a datagram that is handed out stands in front of the room, within it, and this is its length (own)
pub record InRoom (room : List ℕ) (n : ℕ) (bytes : List ℕ) : Type 0 where
  pub front : take n room ≡ bytes
  pub long : n ≡ length bytes
  pub within : n ≤ length room

-- the same of a datagram that an answer hands out (own)
abbrev pub IsIn : List ℕ → ℕ → CallAnswer → Type 0
IsIn room n (book.Hands x) = InRoom room n (spell (handed x.segment))
IsIn room n _ = ⊤

-- the next datagram is handed out, or none is due, and the room is as it was (own)
pub record Sends (k : CountedStack) (now : ℕ) (before after : List ℕ) (size : ℕ)
    (s : StackState) (n : StackCounts) (code : ℤ) : Type 0 where
  pub late : latest < now → Declines k s n bad_time code
  pub small : now ≤ latest → length before < 1500 → Declines k s n small_room code
  pub sends : now ≤ latest → 1500 ≤ length before
      → Follows k (book.Output now) s n (λ a. (code ≡ code_of a) × IsIn after size a)
  pub kept : code ≢ ok → after ≡ before

-- the bytes that were taken stand in front of the room (own)
pub record AreIn (before after : List ℕ) (told : CTaken) (bytes : List ℕ)
    (ends : Bool) : Type 0 where
  pub count : told.count ≡ length bytes
  pub at_end : told.at_end ≡ ends
  pub filled : after ≡ bytes ++ drop told.count before

-- what was taken, if something answered so (own)
abbrev pub IsRead : (before after : List ℕ) → CTaken → CallAnswer → Type 0
IsRead before after told (book.Told (node.Delivered bytes at_end)) =
    AreIn before after told bytes at_end
IsRead before after told _ = ⊤

-- the first bytes of a pair are taken (own)
abbrev pub Reads : CountedStack → Option Pair → (before after : List ℕ) → CTaken → StackState
    → StackCounts → ℤ → Type 0
Reads k None before after told s n code = Declines k s n bad_family code
Reads k (Some pair) before after told s n code =
    Follows k (book.At pair (act.Take (length before))) s n
    (λ a. (code ≡ code_of a) × IsRead before after told a)

-- the stack stands for this state, whatever it counted (own)
pub record IsAt (k : CountedStack) (s : StackState) : Type 0 where
  pub counts : StackCounts
  pub stands : Stands k s counts

-- a deadline is told, or that there is none (own)
abbrev pub Tells : Option ℕ → ℕ → ℤ → Type 0
Tells None at code = code ≡ nothing
Tells (Some d) at code = (code ≡ ok) × (at ≡ d)

-- where an end stands is told, or that there is none (own)
abbrev pub IsStateOf : Option EndState → CState → ℤ → Type 0
IsStateOf None told code = code ≡ no_connection
IsStateOf (Some e) told code = (code ≡ ok) × (told ≡ state_of (end_front e))

-- where the end of a pair stands is told (own)
abbrev pub IsState : Option Pair → StackState → CState → ℤ → Type 0
IsState None s told code = code ≡ bad_family
IsState (Some pair) s told code = IsStateOf (held_end pair s.node.ends) told code

-- whether the connection of a pair waited too long is told (own)
abbrev pub IsOverdue : Option Pair → ℕ → StackState → Bool → ℤ → Type 0
IsOverdue None now s told code = code ≡ bad_family
IsOverdue (Some pair) now s told code =
    (code ≡ ok) × (told ≡ timed_out now pair s (held_end pair s.node.ends))

-- the stack is that of the node of the address in the key file, without connections (own)
pub record Opens (text : List ℕ) (address : Address) (most : ℕ) (k : CountedStack) : Type 0 where
  pub tables : List Table
  pub read : tables_of text ≡ Ok tables
  pub stands : Stands k (empty_stack (rows_at tables address) most) no_stack_counts

-- the key file isn't read, and this is its fault as numbers, or want of memory (own)
pub record IsFaulty (text : List ℕ) (told : CFault) : Type 0 where
  pub why : TableFault
  pub numbers : told ≡ fault_of why
  pub fails : Fails why (tables_of text)

-- the number of the row that was added, or of the one that overlaps it (own)
abbrev pub IsNumber : ℕ → CallAnswer → Type 0
IsNumber n (book.Adds (tables.AddedAs m rows)) = n ≡ m
IsNumber n (book.Adds (tables.OverlapsRow m)) = n ≡ m
IsNumber n _ = ⊤

-- a row that stands so was added, or why not (own)
pub record AddsRow (k : CountedStack) (row : CRow) (key : List ℕ) (s : StackState)
    (n : StackCounts) (number : ℕ) (code : ℤ) : Type 0 where
  pub new : NewRow
  pub is : IsRow row key new
  pub follows : Follows k (book.Add new) s n (λ a. (code ≡ code_of a) × IsNumber number a)

-- a row is added; nothing where no row stands so, or for want of memory (own)
pub record Adds (k : CountedStack) (row : CRow) (key : List ℕ) (s : StackState)
    (n : StackCounts) (number : ℕ) (code : ℤ) : Type 0 where
  pub faulty : is_row row key ≡ false → Declines k s n bad_row code
  pub stays : code ≡ no_memory → Stands k s n
  pub adds : is_row row key ≡ true → code ≢ no_memory → AddsRow k row key s n number code
