-- Two stacks, one at each end of a link, and what is called at them. Our own.
use Rattle.std.specs.Prelude.{ℕ, ◌/◌, ◌<◌, ◌≤◌, ◌^◌, List, [], ◌∷◌}
use Rattle.book_base.specs.declared.end.End.{End}
use Rattle.book_base.specs.declared.end.End.TheVariants.{A, B}
use Rattle.book_segments.specs.Spelling.{AreBytes}
use Rattle.book_keys.specs.Lifetimes.{greatest_time}
use Rattle.book_keys.specs.Tables.{row_of_new}
use Rattle.book_link.specs.Worlds.{Setup, first_rows}
use Rattle.book_cmd_node.specs.declared.node.Act.{Act}
use Rattle.book_cmd_node.specs.declared.node.Act.TheVariants as act
use Rattle.book_stack.specs.Calls.{Call, At, Input, Output, Add, Withdraw, call}
use Rattle.book_stack.specs.Stacks.{StackState, empty_stack}
use Rattle.law_link.specs.Laws.{RowFits}

-- a call at the stack of an end: what its user does, the bytes that come to it, that it is asked for what is due, and what
-- becomes of its rows (own)
pub record Doing : Type 0 where
  pub end : End
  pub what : Call

-- the stacks of both ends (own)
pub record Twins : Type 0 where
  pub a : StackState
  pub b : StackState

-- the stack of an end (own)
abbrev pub stack_of : Twins → End → StackState
stack_of t A = t.a
stack_of t B = t.b

-- another stack at an end (own)
abbrev pub with_twin : Twins → End → StackState → Twins
with_twin t A s = record { a = s; b = t.b }
with_twin t B s = record { a = t.a; b = s }

-- both stacks after a call at one of them (own)
abbrev pub after_doing : Twins → Doing → Twins
after_doing t d = with_twin t d.end (call d.what (stack_of t d.end)).stack

-- both stacks after calls, in whatever order the ends make theirs (own)
abbrev pub twins_from : Twins → List Doing → Twins
twins_from t [] = t
twins_from t (d ∷ doings) = twins_from (after_doing t d) doings

-- both stacks as they begin: each with the rows of its end, and room for so many connections (own)
abbrev pub new_twins : Setup → (End → ℕ) → Twins
new_twins setup most = record {
  a = empty_stack (first_rows setup A) (most A);
  b = empty_stack (first_rows setup B) (most B);
}

-- both stacks, each begun empty, after these calls (own)
abbrev pub twins : Setup → (End → ℕ) → List Doing → Twins
twins setup most doings = twins_from (new_twins setup most) doings

-- what the types of an act at a pair say (RFC 9293, section 3.4.1, and own)
abbrev pub ActFits : Act → Type 0
ActFits (act.Open isn) = isn < 2 ^ 32
ActFits (act.Listen isn) = isn < 2 ^ 32
ActFits (act.Start isn peer) = (isn < 2 ^ 32) × (peer < 2 ^ 32)
ActFits (act.Give piece) = AreBytes piece
ActFits _ = Unit {0}

-- a time in milliseconds whose second a key file can name (own)
abbrev pub IsInTime : ℕ → Type 0
IsInTime now = now / 1000 ≤ greatest_time

-- what the types of a call say: numbers in their range, bytes, times of a key file, columns of a row that fit (own)
abbrev pub CallFits : Call → Type 0
CallFits (At pair a) = ActFits a
CallFits (Input coming) = IsInTime coming.now × AreBytes coming.bytes
CallFits (Output now) = IsInTime now
CallFits (Add row) = RowFits (row_of_new row)
CallFits (Withdraw number) = Unit {0}

-- what the types of a call at an end say (own)
abbrev pub DoingFits : Doing → Type 0
DoingFits d = CallFits d.what
