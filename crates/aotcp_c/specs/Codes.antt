-- The codes that calls answer a C program (own): 0 for what was done.
use Rattle.std.specs.Prelude.{ℕ, ℤ, pos, Bool, true, false, Option, Some, None, Result, Ok, Err}
use Rattle.book_keys.specs.declared.new_row.AddRefusal.{AddRefusal}
use Rattle.book_keys.specs.declared.new_row.AddRefusal.TheVariants as refused
use Rattle.book_keys.specs.declared.new_row.NoRow.{NoRow}
use Rattle.book_keys.specs.Tables as tables
use Rattle.book_cmd_node.specs.NodeRuns as node
use Rattle.book_stack.specs.Calls as book
use Rattle.book_stack.specs.Calls.{CallAnswer}
use Rattle.tcp_endpoint.specs.declared.send.GiveAnswer.{GiveAnswer}
use Rattle.tcp_endpoint.specs.declared.send.GiveAnswer.TheVariants as given
use Rattle.stack_ends.specs.declared.answer.NodeRefusal.{NodeRefusal}
use Rattle.stack_ends.specs.declared.answer.NodeRefusal.TheVariants as refusals

-- it was done (own)
abbrev pub ok : ℤ
ok = pos 0

-- the handle holds no stack (own)
abbrev pub no_stack : ℤ
no_stack = pos 1

-- the handle holds one already (own)
abbrev pub holds_one : ℤ
holds_one = pos 2

-- memory ran out (own)
abbrev pub no_memory : ℤ
no_memory = pos 3

-- a family other than 4 and 6 (own)
abbrev pub bad_family : ℤ
bad_family = pos 4

-- a time past the year 9999 (own)
abbrev pub bad_time : ℤ
bad_time = pos 5

-- too small a room (own)
abbrev pub small_room : ℤ
small_room = pos 6

-- another number of connections than 1 to 1,024 (own)
abbrev pub bad_most : ℤ
bad_most = pos 7

-- no row stands so (own)
abbrev pub bad_row : ℤ
bad_row = pos 8

-- the key file has a fault (own)
abbrev pub bad_keys : ℤ
bad_keys = pos 9

-- no node of the key file has the address (own)
abbrev pub no_node : ℤ
no_node = pos 10

-- no row has the number (own)
abbrev pub no_row : ℤ
no_row = pos 11

-- the pair isn't held (own)
abbrev pub no_connection : ℤ
no_connection = pos 12

-- the pair is held already (own)
abbrev pub in_use : ℤ
in_use = pos 13

-- a row overlaps the new one (own)
abbrev pub overlap : ℤ
overlap = pos 18

-- nothing is due (own)
abbrev pub nothing : ℤ
nothing = pos 19

-- the code of a plain answer of a stack's node (own)
abbrev pub outcome_code : node.NodeOutcome → ℤ
outcome_code node.NoConnection = pos 12
outcome_code node.InUse = pos 13
outcome_code node.NodeFull = pos 14
outcome_code node.NoRoom = pos 15
outcome_code node.ConnectionClosing = pos 16
outcome_code _ = pos 0

-- the code of what came of adding a row (own)
abbrev pub adding_code : tables.Adding → ℤ
adding_code (tables.AddedAs n rows) = pos 0
adding_code tables.TooMany = pos 17
adding_code (tables.OverlapsRow n) = pos 18

-- the code of what a stack answers (own)
abbrev pub code_of : CallAnswer → ℤ
code_of (book.Told outcome) = outcome_code outcome
code_of (book.Moves outcome) = outcome_code outcome
code_of (book.Knocks pair) = pos 0
code_of (book.Refuses why) = pos 0
code_of (book.Hands x) = pos 0
code_of book.Rests = pos 19
code_of (book.Adds adding) = adding_code adding
code_of book.Withdraws = pos 0
code_of book.NoSuchRow = pos 11

-- the code of what came of beginning a connection (own)
abbrev pub begun_code : Result (Unit {0}) NodeRefusal → ℤ
begun_code (Ok done) = pos 0
begun_code (Err refusals.Memory) = pos 3
begun_code (Err refusals.InUse) = pos 13
begun_code (Err refusals.Full) = pos 14

-- whether the pair was held (own)
abbrev pub done_code : Bool → ℤ
done_code true = pos 0
done_code false = pos 12

-- the code of what came of giving a piece (own)
abbrev pub given_code : Option GiveAnswer → ℤ
given_code None = pos 12
given_code (Some given.Ok) = pos 0
given_code (Some given.Full) = pos 15
given_code (Some given.Closed) = pos 16

-- the code of what came of adding a row (own)
abbrev pub added_code : Result ℕ AddRefusal → ℤ
added_code (Ok n) = pos 0
added_code (Err refused.Memory) = pos 3
added_code (Err refused.TooMany) = pos 17
added_code (Err (refused.Overlap n)) = pos 18

-- the code of what came of withdrawing a row (own)
abbrev pub withdrawn_code : Result (Unit {0}) NoRow → ℤ
withdrawn_code (Ok done) = pos 0
withdrawn_code (Err none) = pos 11
