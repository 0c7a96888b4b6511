-- Each connection of a stack is as if it were alone, at the rows of each time.
use Rattle.std.proofs.Common.{◌≡◌, ◌≤◌, ℕ, Bool, true, false, List, [], ◌∷◌, ◌++◌, Option, Some, None, refl, ap, ◌∙◌}
use Rattle.std.specs.Prelude.{not, ◌||◌, if◌then◌else◌}
use Rattle.std.specs.List.{list_any}
use Rattle.book_base.specs.declared.address.Pair.{Pair}
use Rattle.book_keys.specs.Rows.{Row}
use Rattle.book_keys.specs.Tables.{Adding, AddedAs, adding, row_of_new, withdrawn}
use Rattle.book_cmd_node.specs.declared.node.NodeEvent.{NodeEvent}
use Rattle.book_cmd_node.specs.NodeRuns.{NodeState, NodeOutcome, no_ends, most_ends, node_step}
use Rattle.book_stack.specs.Calls.{Call, At, Input, Output, Add, Withdraw, added, call, withdrew}
use Rattle.book_stack.specs.Runs.{expanded_from, told_from}
use Rattle.book_stack.specs.Stacks.{StackState, empty_stack}
use Rattle.law_node.specs.Alone.{is_mine, is_placed, my_outcomes}
use Rattle.law_node.proofs.Held.{IsOnce}
use Rattle.law_node.proofs.Steps.{alone, mine_step, other_step, once_step}
use Rattle.law_stack.specs.Ruled.{Ruled, ruled_by, ruled_from, ruled_outcomes}
use Rattle.law_stack.proofs.Turned.{ArePlaced}
use Rattle.law_stack.proofs.Called.{call_plain, call_steps}
use Rattle.law_stack.proofs.Runs.{is_ruled_run}
use Rattle.law_ends.specs.Single.{IsSingleAtItsRows, mine_ruled}

-- the events of a run at rows, without these
abbrev events_of : List Ruled → List NodeEvent
events_of [] = []
events_of (r ∷ rs) = r.event ∷ events_of rs

events_joined : (rows : List Row) (es : List NodeEvent) (rs : List Ruled) → events_of (ruled_by rows es ++ rs) ≡ es ++ events_of rs
events_joined rows [] rs = refl
events_joined rows (e ∷ es) rs = ap (λ (xs : List NodeEvent). e ∷ xs) (events_joined rows es rs)

events_from : (s : StackState) (calls : List Call) → events_of (ruled_from s calls) ≡ expanded_from s calls
events_from s [] = refl
events_from s (c ∷ cs) =
    let d = call c s in
    events_joined s.rows d.events (ruled_from d.stack cs) ∙ ap (λ (xs : List NodeEvent). d.events ++ xs) (events_from d.stack cs)

-- ---- no answer is that the node is full

joined : (os ps : List NodeOutcome) → ArePlaced os → ArePlaced ps → ArePlaced (os ++ ps)
joined [] ps a b = b
joined (o ∷ os) ps a b = at (is_placed o) a (joined os ps)
  where
    at : (v : Bool) → (not v || list_any (λ o. not (is_placed o)) os) ≡ false → (ArePlaced os → ArePlaced ps → ArePlaced (os ++ ps)) → (not v || list_any (λ o. not (is_placed o)) (os ++ ps)) ≡ false
    at true a next = next a b
    at false a next = absurd (cc)

added_placed : (s : StackState) (a : Adding) → ArePlaced (added s a).outcomes
added_placed s (AddedAs n rows) = refl
added_placed s refusal = refl

withdrew_placed : (s : StackState) (rows : Option (List Row)) → ArePlaced (withdrew s rows).outcomes
withdrew_placed s None = refl
withdrew_placed s (Some rows) = refl

call_placed : (c : Call) (s : StackState) → s.most ≤ most_ends → ArePlaced (call c s).outcomes
unfolding call
call_placed (At pair a) s fits = (call_plain (At pair a) s refl).placed fits
call_placed (Input coming) s fits = (call_plain (Input coming) s refl).placed fits
call_placed (Output now) s fits = (call_plain (Output now) s refl).placed fits
call_placed (Add row) s fits = added_placed s (adding s.rows (row_of_new row))
call_placed (Withdraw n) s fits = withdrew_placed s (withdrawn s.rows n)

run_placed : (s : StackState) (calls : List Call) → s.most ≤ most_ends → ArePlaced (told_from s calls)
run_placed s [] fits = refl
run_placed s (c ∷ cs) fits =
    let d = call c s in
    joined d.outcomes (told_from d.stack cs) (call_placed c s fits) (run_placed d.stack cs (rw ((call_steps c s).most) fits))

-- then none of a connection's is
mine_placed : (p : Pair) (es : List NodeEvent) (os : List NodeOutcome) → ArePlaced os → ArePlaced (my_outcomes p es os)
mine_placed p [] os a = refl
mine_placed p (e ∷ es) [] a = refl
mine_placed p (e ∷ es) (o ∷ os) a = at (is_placed o) refl (mine_placed p es os) a
  where
    mine_or : (v : Bool) → is_placed o ≡ true → ArePlaced (my_outcomes p es os) → ArePlaced (if v then o ∷ my_outcomes p es os else my_outcomes p es os)
    mine_or true here rest = rw here rest
    mine_or false here rest = rest

    at : (v : Bool) → is_placed o ≡ v → (ArePlaced os → ArePlaced (my_outcomes p es os)) → (not v || list_any (λ o. not (is_placed o)) os) ≡ false → ArePlaced (if is_mine p e then o ∷ my_outcomes p es os else my_outcomes p es os)
    at true here next a = mine_or (is_mine p e) here (next a)
    at false here next a = absurd (cc)

-- ---- a run at rows, seen from one connection

placed_first : (o : NodeOutcome) (b : Bool) → (not (is_placed o) || b) ≡ false → (is_placed o ≡ true) × (b ≡ false)
placed_first o b e = at (is_placed o) e
  where
    at : (v : Bool) → (not v || b) ≡ false → (v ≡ true) × (b ≡ false)
    at true e = (refl, e)
    at false e = absurd (cc)

ruled_alone : (p : Pair) (n : NodeState) (rs : List Ruled) → IsOnce p n.ends → ArePlaced (my_outcomes p (events_of rs) (ruled_outcomes n rs))
    → my_outcomes p (events_of rs) (ruled_outcomes n rs) ≡ ruled_outcomes (alone p n) (mine_ruled p rs)
ruled_alone p n [] once f = refl
ruled_alone p n (r ∷ rs) once f =
    at (is_mine p r.event) refl f (ruled_alone p (node_step most_ends r.rows n r.event).node rs (once_step most_ends r.rows p n r.event once))
  where
    rest : List NodeOutcome
    rest = my_outcomes p (events_of rs) (ruled_outcomes (node_step most_ends r.rows n r.event).node rs)

    at : (v : Bool) → is_mine p r.event ≡ v → ArePlaced (if v then (node_step most_ends r.rows n r.event).outcome ∷ rest else rest)
        → (ArePlaced rest → rest ≡ ruled_outcomes (alone p (node_step most_ends r.rows n r.event).node) (mine_ruled p rs))
        → (if v then (node_step most_ends r.rows n r.event).outcome ∷ rest else rest) ≡ ruled_outcomes (alone p n) (if v then r ∷ mine_ruled p rs else mine_ruled p rs)
    at true i f next =
        let t = placed_first (node_step most_ends r.rows n r.event).outcome (list_any (λ o. not (is_placed o)) rest) f in
        let step = mine_step most_ends r.rows p n r.event refl once i t.0 in
        rw step (ap (λ (os : List NodeOutcome). (node_step most_ends r.rows n r.event).outcome ∷ os) (next t.1))
    at false i f next = rw (← other_step most_ends r.rows p n r.event i) (next f)

pub is_single_at_its_rows : (p : Pair) (rows : List Row) (most : ℕ) (calls : List Call) → most ≤ most_ends → IsSingleAtItsRows p rows most calls
is_single_at_its_rows p rows most calls fits =
    let s = empty_stack rows most in
    let rs = ruled_from s calls in
    let told = (is_ruled_run s calls).answers in
    let placed : ArePlaced (my_outcomes p (events_of rs) (ruled_outcomes no_ends rs)) = rw (← told) (mine_placed p (events_of rs) (told_from s calls) (run_placed s calls fits)) in
    rw (← events_from s calls, told) (ruled_alone p no_ends rs refl placed)
