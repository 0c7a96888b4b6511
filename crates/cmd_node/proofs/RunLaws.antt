-- A run, event by event, as a loop makes it.
use Rattle.std.proofs.Common.{◌≡◌, ℕ, ◌+◌, ◌<◌, suc, List, [], ◌∷◌, ◌++◌, length, drop, get_or, refl, sym, ap, ◌∙◌, append_assoc, arith}
use Rattle.std.proofs.lemmas.List.{append-nil, drop_more}
use Rattle.book_keys.specs.Rows.{Row}
use Rattle.book_lines.specs.Texts.{numbered_text}
use Rattle.book_cmd_node.specs.declared.node.NodeEvent.{NodeEvent}
use Rattle.book_cmd_node.specs.NodeRuns.{NodeState, NodeOutcome, most_ends, no_ends, node_step, node_from, outcomes, node_outcomes_from, outcome_lines, node_text, node_texts}
use Rattle.stack_ends.specs.Held.{Holding}
use Rattle.stack_ends.specs.EndsStands.{HoldsAs}
use Rattle.cmd_node.specs.Nodes.{StandsNode, Reaches}
use Rattle.cmd_node.specs.Told.{Tells}
use Rattle.cmd_node.specs.declared.told.Told.{Told}

-- the node stands for one from which the events that are left give the rest of the text, and the node at the end
pub record Running (rows : List Row) (events : List NodeEvent) (i : ℕ) (h : Holding) (clock : ℕ) (out : List ℕ) : Type 0 where
  pub state : NodeState
  pub stands : StandsNode rows h clock state
  pub text : out ++ outcome_lines (i + 1) (node_outcomes_from most_ends rows state (drop i events)) ≡ node_text rows events
  pub ends : node_from most_ends rows state (drop i events) ≡ node_from most_ends rows no_ends events

-- a node that holds no end
pub empty_stands : (rows : List Row) → StandsNode rows (record { most = most_ends; entries = [] }) 0 no_ends
empty_stands rows = record { most = refl; clock_is = refl; time = omega arith; holds = record { each = λ pair. tt; count = refl }; distinct = λ q. refl }

-- no event was answered yet
pub running_first : (rows : List Row) (events : List NodeEvent) (h : Holding) → h ≡ record { most = most_ends; entries = [] } → Running rows events 0 h 0 []
unfolding node_text outcomes
running_first rows events h is = rw is (record { state = no_ends; stands = empty_stands rows; text = refl; ends = refl })

-- a line more, and the lines after it
line_more : (n : ℕ) (o : NodeOutcome) (os : List NodeOutcome) (out after whole : List ℕ) → after ≡ out ++ numbered_text n (node_texts o)
    → out ++ outcome_lines n (o ∷ os) ≡ whole → after ++ outcome_lines (suc n) os ≡ whole
line_more n o os out after whole more so_far = rw more (append_assoc out (numbered_text n (node_texts o)) (outcome_lines (suc n) os) ∙ so_far)

-- an event more
pub running_more : (rows : List Row) (events : List NodeEvent) (i : ℕ) (e : NodeEvent) (h after : Holding) (clock later : ℕ) (room : List ℕ) (told : Told) (out more : List ℕ)
    → Running rows events i h clock out → i < length events → e ≡ get_or events i e
    → ((n : NodeState) → StandsNode rows h clock n → Reaches rows after later room told (node_step most_ends rows n e))
    → ((o : NodeOutcome) → Tells room told o → more ≡ out ++ numbered_text (i + 1) (node_texts o)) → Running rows events (i + 1) after later more
running_more rows events i e h after clock later room told out more R low here reaches line =
    let step = reaches R.state R.stands in
    let cut : drop i events ≡ e ∷ drop (i + 1) events = drop_more events i e low ∙ ap (λ (x : NodeEvent). x ∷ drop (i + 1) events) (sym here) in
    let next = node_step most_ends rows R.state e in
    let text : out ++ outcome_lines (i + 1) (node_outcomes_from most_ends rows R.state (e ∷ drop (i + 1) events)) ≡ node_text rows events = rw cut at R.text in
    let ends : node_from most_ends rows R.state (e ∷ drop (i + 1) events) ≡ node_from most_ends rows no_ends events = rw cut at R.ends in
    record {
      state = next.node;
      stands = step.stands;
      text =
          ap (λ (n : ℕ). more ++ outcome_lines n (node_outcomes_from most_ends rows next.node (drop (i + 1) events))) (omega arith)
          ∙ line_more (i + 1) next.outcome (node_outcomes_from most_ends rows next.node (drop (i + 1) events)) out more (node_text rows events) (line next.outcome step.tells) text;
      ends = ends;
    }

none_left : (events : List NodeEvent) → drop (length events) events ≡ []
none_left [] = refl
none_left (e ∷ es) = none_left es

-- all events were answered
pub all_run : (rows : List Row) (events : List NodeEvent) (i : ℕ) (h : Holding) (clock : ℕ) (out : List ℕ) → Running rows events i h clock out → i ≡ length events
    → (out ≡ node_text rows events) × HoldsAs rows h (node_from most_ends rows no_ends events).ends
all_run rows events i h clock out R end =
    let none : drop i events ≡ [] = ap (λ (k : ℕ). drop k events) end ∙ none_left events in
    let text : out ++ [] ≡ node_text rows events = rw none at R.text in
    let ends : R.state ≡ node_from most_ends rows no_ends events = rw none at R.ends in
    (sym (append-nil out) ∙ text, rw (← ends) R.stands.holds)
