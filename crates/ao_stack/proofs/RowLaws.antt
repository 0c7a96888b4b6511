-- A row is added to the table of a stack, or withdrawn.
use Rattle.std.proofs.Common.{◌≡◌, ℕ, List, Option, Some, None, Result, Ok, Err, refl, ap}
use Rattle.book_keys.specs.declared.new_row.AddRefusal.{AddRefusal}
use Rattle.book_keys.specs.declared.new_row.AddRefusal.TheVariants as refused
use Rattle.book_keys.specs.declared.new_row.NewRow.{NewRow}
use Rattle.book_keys.specs.declared.new_row.NoRow.{NoRow}
use Rattle.book_keys.specs.Rows.{Row}
use Rattle.book_keys.specs.Tables.{Adding, AddedAs, OverlapsRow, TooMany, adding, row_of_new, withdrawn}
use Rattle.book_stack.specs.Calls.{Add, Withdraw, added, call, withdrew}
use Rattle.book_stack.specs.Stacks.{StackState}
use Rattle.stack_ends.specs.Stands.{most_of}
use Rattle.stack_ends.specs.Stands as ends
use Rattle.stack_ends.specs.Rows.{RowAdded, RowWithdrawn}
use Rattle.ao_stack.specs.declared.stack.Stack.{Stack}
use Rattle.ao_stack.specs.Answers.{AddsAs, Follows, IsAdded, IsWithdrawn}
use Rattle.ao_stack.specs.Stands.{Stands}
use Rattle.ao_stack.proofs.CallLaws.{follows}
use Rattle.ao_stack.proofs.StandLaws.{under}

add_is : (row : NewRow) (s : StackState) (a : Adding) → adding s.rows (row_of_new row) ≡ a → call (Add row) s ≡ added s a
unfolding call
add_is row s a e = ap (added s) e

withdraw_is : (n : ℕ) (s : StackState) (o : Option (List Row)) → withdrawn s.rows n ≡ o → call (Withdraw n) s ≡ withdrew s o
unfolding call
withdraw_is n s o e = ap (withdrew s) e

module _ (k after : Stack) (s : StackState) (S : Stands k s) (most : most_of after.ends ≡ most_of k.ends) (w : after.watches ≡ k.watches) (a : after.alarms ≡ k.alarms) (l : after.line ≡ k.line) where
  stands_so : (rows : List Row) → ends.Stands after.ends rows s.node → Stands after (record s { rows = rows })
  stands_so rows E = under k after s S rows E most w a l

  pub adds : (row : NewRow) (r : Result ℕ AddRefusal) → RowAdded after.ends s.node s.rows r (adding s.rows (row_of_new row)) → AddsAs after row s r
  adds row r h = at r h
    where
      at : (u : Result ℕ AddRefusal) → RowAdded after.ends s.node s.rows u (adding s.rows (row_of_new row)) → AddsAs after row s u
      at (Ok n) x = follows after (Add row) s (IsAdded (Ok n)) _ (add_is row s (AddedAs n x.0) x.1) (stands_so x.0 x.2) (x.0, refl)
      at (Err refused.Memory) x = stands_so s.rows x
      at (Err refused.TooMany) x = follows after (Add row) s (IsAdded (Err refused.TooMany)) _ (add_is row s TooMany x.0) (stands_so s.rows x.1) refl
      at (Err (refused.Overlap n)) x = follows after (Add row) s (IsAdded (Err (refused.Overlap n))) _ (add_is row s (OverlapsRow n) x.0) (stands_so s.rows x.1) refl

  pub withdraws : (n : ℕ) (r : Result (Unit {0}) NoRow) → RowWithdrawn after.ends s.node s.rows r (withdrawn s.rows n) → Follows after (Withdraw n) s (IsWithdrawn r)
  withdraws n r h = at r h
    where
      at : (u : Result (Unit {0}) NoRow) → RowWithdrawn after.ends s.node s.rows u (withdrawn s.rows n) → Follows after (Withdraw n) s (IsWithdrawn u)
      at (Ok done) x = follows after (Withdraw n) s (IsWithdrawn (Ok done)) _ (withdraw_is n s (Some x.0) x.1) (stands_so x.0 x.2) refl
      at (Err none) x = follows after (Withdraw n) s (IsWithdrawn (Err none)) _ (withdraw_is n s None x.0) (stands_so s.rows x.1) refl
