-- A run of a node, seen from one connection.
use Rattle.std.proofs.Common.{◌≡◌, ℕ, Bool, true, false, List, [], ◌∷◌, refl, ap}
use Rattle.std.specs.Prelude.{nat_le, not, ◌||◌, if◌then◌else◌}
use Rattle.std.specs.List.{list_any}
use Rattle.book_base.specs.declared.address.Pair.{Pair}
use Rattle.book_keys.specs.Rows.{Row}
use Rattle.book_cmd_node.specs.declared.node.NodeEvent.{NodeEvent}
use Rattle.book_cmd_node.specs.NodeRuns.{NodeState, NodeOutcome, no_ends, most_ends, node_step, outcomes, node_outcomes_from}
use Rattle.law_node.specs.Alone.{Alone, is_mine, mine, my_outcomes, is_placed}
use Rattle.law_node.proofs.Held.{IsOnce}
use Rattle.law_node.proofs.Steps.{alone, mine_step, other_step, once_step}

-- one of these answers is that the node is full
abbrev finds_full : List NodeOutcome → Bool
finds_full os = list_any (λ o. not (is_placed o)) os

placed_first : (o : NodeOutcome) (b : Bool) → (not (is_placed o) || b) ≡ false → (is_placed o ≡ true) × (b ≡ false)
placed_first o b e = at (is_placed o) e
  where
    at : (v : Bool) → (not v || b) ≡ false → (v ≡ true) × (b ≡ false)
    at true e = (refl, e)
    at false e = absurd (cc)

run_alone : (most : ℕ) (rows : List Row) (p : Pair) (n : NodeState) (es : List NodeEvent) → nat_le most 0 ≡ false → IsOnce p n.ends
    → finds_full (my_outcomes p es (node_outcomes_from most rows n es)) ≡ false
    → my_outcomes p es (node_outcomes_from most rows n es) ≡ node_outcomes_from most rows (alone p n) (mine p es)
run_alone most rows p n [] m once f = refl
run_alone most rows p n (e ∷ es) m once f =
    at (is_mine p e) refl f (run_alone most rows p (node_step most rows n e).node es m (once_step most rows p n e once))
  where
    rest : List NodeOutcome
    rest = my_outcomes p es (node_outcomes_from most rows (node_step most rows n e).node es)

    at : (v : Bool) → is_mine p e ≡ v → finds_full (if v then (node_step most rows n e).outcome ∷ rest else rest) ≡ false
        → (finds_full rest ≡ false → rest ≡ node_outcomes_from most rows (alone p (node_step most rows n e).node) (mine p es))
        → (if v then (node_step most rows n e).outcome ∷ rest else rest) ≡ node_outcomes_from most rows (alone p n) (if v then e ∷ mine p es else mine p es)
    at true i f next =
        let t = placed_first (node_step most rows n e).outcome (finds_full rest) f in
        let step = mine_step most rows p n e m once i t.0 in
        rw step (ap (λ (os : List NodeOutcome). (node_step most rows n e).outcome ∷ os) (next t.1))
    at false i f next = rw (← other_step most rows p n e i) (next f)

pub each_alone : (p : Pair) (rows : List Row) (events : List NodeEvent) → Alone p rows events
unfolding outcomes
each_alone p rows events f = run_alone most_ends rows p no_ends events refl refl f
