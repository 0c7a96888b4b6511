-- A connection of a stack as if it were alone.
use Rattle.std.proofs.Common.{◌≡◌, ℕ, ◌≤◌, Bool, true, false, List, [], ◌∷◌, refl}
use Rattle.std.specs.Prelude.{not, ◌||◌, if◌then◌else◌}
use Rattle.std.specs.List.{list_any}
use Rattle.book_base.specs.declared.address.Pair.{Pair}
use Rattle.book_keys.specs.Rows.{Row}
use Rattle.book_cmd_node.specs.declared.node.NodeEvent.{NodeEvent}
use Rattle.book_cmd_node.specs.NodeRuns.{NodeOutcome, most_ends, outcomes}
use Rattle.book_stack.specs.Calls.{Call}
use Rattle.book_stack.specs.Runs.{expanded, keeps_rows, told_from}
use Rattle.book_stack.specs.Stacks.{empty_stack}
use Rattle.law_node.specs.Alone.{is_mine, is_placed, my_outcomes}
use Rattle.law_node.proofs.Runs.{each_alone}
use Rattle.law_stack.specs.Single.{IsSingle}
use Rattle.law_stack.proofs.Turned.{ArePlaced}
use Rattle.law_stack.proofs.Runs.{run_follows}

-- where no answer is that the node is full, none of a connection's is
mine_placed : (p : Pair) (es : List NodeEvent) (os : List NodeOutcome) → ArePlaced os → ArePlaced (my_outcomes p es os)
mine_placed p [] os a = refl
mine_placed p (e ∷ es) [] a = refl
mine_placed p (e ∷ es) (o ∷ os) a = at (is_placed o) refl (mine_placed p es os) a
  where
    mine_or : (v : Bool) → is_placed o ≡ true → ArePlaced (my_outcomes p es os) → ArePlaced (if v then o ∷ my_outcomes p es os else my_outcomes p es os)
    mine_or true here rest = rw here rest
    mine_or false here rest = rest

    at : (v : Bool) → is_placed o ≡ v → (ArePlaced os → ArePlaced (my_outcomes p es os)) → (not v || list_any (λ o. not (is_placed o)) os) ≡ false → ArePlaced (if is_mine p e then o ∷ my_outcomes p es os else my_outcomes p es os)
    at true here next a = mine_or (is_mine p e) here (next a)
    at false here next a = absurd (cc)

pub is_single : (p : Pair) (rows : List Row) (most : ℕ) (calls : List Call) → most ≤ most_ends → keeps_rows calls ≡ true → IsSingle p rows most calls
unfolding outcomes
is_single p rows most calls fits k =
    let f = run_follows (empty_stack rows most) calls k in
    let placed : ArePlaced (my_outcomes p (expanded rows most calls) (outcomes rows (expanded rows most calls))) = rw (← f.told) (mine_placed p (expanded rows most calls) (told_from (empty_stack rows most) calls) (f.placed fits)) in
    rw (f.told) (each_alone p rows (expanded rows most calls) placed)
