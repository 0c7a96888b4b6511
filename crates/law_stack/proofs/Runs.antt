-- The run of a stack is a node's.
use Rattle.std.proofs.Common.{◌≡◌, true, List, [], ◌∷◌, ◌++◌, refl, sym, ap, ◌∙◌}
use Rattle.book_keys.specs.Rows.{Row}
use Rattle.book_cmd_node.specs.declared.node.NodeEvent.{NodeEvent}
use Rattle.book_cmd_node.specs.NodeRuns.{NodeState, NodeOutcome, most_ends, node_step, node_from, node_outcomes_from}
use Rattle.book_stack.specs.Calls.{Call, At, Input, Output, Add, Withdraw, call}
use Rattle.book_stack.specs.Stacks.{StackState}
use Rattle.book_stack.specs.Runs.{IsNodeRun, keeps_rows, stack_after, told_from, expanded_from}
use Rattle.law_stack.specs.Ruled.{Ruled, IsRuledRun, ruled_by, ruled_node, ruled_outcomes, ruled_from}
use Rattle.law_stack.proofs.Turned.{Follows, follows_on}
use Rattle.law_stack.proofs.Called.{call_plain, call_steps}

keeps_first : (c : Call) (cs : List Call) → keeps_rows (c ∷ cs) ≡ true → keeps_rows (c ∷ []) ≡ true
keeps_first (At pair a) cs k = refl
keeps_first (Input coming) cs k = refl
keeps_first (Output now) cs k = refl
keeps_first (Add row) cs k = absurd (cc)
keeps_first (Withdraw n) cs k = absurd (cc)

keeps_rest : (c : Call) (cs : List Call) → keeps_rows (c ∷ cs) ≡ true → keeps_rows cs ≡ true
keeps_rest (At pair a) cs k = k
keeps_rest (Input coming) cs k = k
keeps_rest (Output now) cs k = k
keeps_rest (Add row) cs k = absurd (cc)
keeps_rest (Withdraw n) cs k = absurd (cc)

-- calls that keep the rows follow plain events
pub run_follows : (s : StackState) (calls : List Call) → keeps_rows calls ≡ true → Follows s (stack_after s calls) (expanded_from s calls) (told_from s calls)
run_follows s [] k = record { rows = refl; most = refl; placed = λ fits. refl; node = refl; told = refl }
run_follows s (c ∷ cs) k =
    let d = call c s in
    follows_on s d.stack (stack_after d.stack cs) d.events (expanded_from d.stack cs) d.outcomes (told_from d.stack cs)
    (call_plain c s (keeps_first c cs k)) (run_follows d.stack cs (keeps_rest c cs k))

pub is_node_run : (s : StackState) (calls : List Call) → keeps_rows calls ≡ true → IsNodeRun s calls
is_node_run s calls k = let f = run_follows s calls k in record { ends = f.node; answers = f.told }

ruled_node_joined : (rows : List Row) (n : NodeState) (es : List NodeEvent) (rs : List Ruled)
    → ruled_node n (ruled_by rows es ++ rs) ≡ ruled_node (node_from most_ends rows n es) rs
ruled_node_joined rows n [] rs = refl
ruled_node_joined rows n (e ∷ es) rs = ruled_node_joined rows (node_step most_ends rows n e).node es rs

ruled_outcomes_joined : (rows : List Row) (n : NodeState) (es : List NodeEvent) (rs : List Ruled)
    → ruled_outcomes n (ruled_by rows es ++ rs) ≡ node_outcomes_from most_ends rows n es ++ ruled_outcomes (node_from most_ends rows n es) rs
ruled_outcomes_joined rows n [] rs = refl
ruled_outcomes_joined rows n (e ∷ es) rs =
    ap (λ (os : List NodeOutcome). (node_step most_ends rows n e).outcome ∷ os) (ruled_outcomes_joined rows (node_step most_ends rows n e).node es rs)

pub is_ruled_run : (s : StackState) (calls : List Call) → IsRuledRun s calls
is_ruled_run s [] = record { ends = refl; answers = refl }
is_ruled_run s (c ∷ cs) =
    let d = call c s in
    let step = call_steps c s in
    let rest = is_ruled_run d.stack cs in record {
      ends = rest.ends ∙ rw (step.node) (sym (ruled_node_joined s.rows s.node d.events (ruled_from d.stack cs)));
      answers = rw (ruled_outcomes_joined s.rows s.node d.events (ruled_from d.stack cs), step.told, rest.answers, step.node) refl;
    }
