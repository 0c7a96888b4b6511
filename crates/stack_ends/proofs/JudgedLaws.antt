-- What the check answers to a SYN is the judgement of the definitions.
use Rattle.std.proofs.Common.{◌≡◌, ℕ, List, Ok, Err, ap, sym, ◌∙◌}
use Rattle.book_base.specs.declared.address.Pair.{Pair}
use Rattle.book_segments.specs.Segments.{Segment}
use Rattle.book_keys.specs.Rows.{Row}
use Rattle.book_cmd_node.specs.NodeRuns.{NodeState}
use Rattle.book_endpoint.specs.Verdicts.{Finding, Judgement}
use Rattle.book_endpoint.specs.declared.passed.Passed.{Passed}
use Rattle.book_endpoint.specs.declared.refusal.Refusal.{Refusal}
use Rattle.book_endpoint.specs.declared.refusal.Refusal.TheVariants as refusals
use Rattle.ao_check.specs.Verdicts.{Tells}
use Rattle.stack_ends.specs.declared.ends.Ends.{Ends}
use Rattle.stack_ends.specs.Arrivals.{syn_judged}
use Rattle.stack_ends.specs.Stands.{Stands}

-- under the rows and the clock of the ends
at_ends : (k : Ends) (rows : List Row) (n : NodeState) (pair : Pair) (d : Segment) → Stands k rows n → syn_judged k.table.rows pair k.clock d ≡ syn_judged rows pair n.clock d
at_ends k rows n pair d S = ap (λ (r : List Row). syn_judged r pair k.clock d) S.rows_are ∙ ap (λ (t : ℕ). syn_judged rows pair t d) (sym S.clock)

module _ (k : Ends) (rows : List Row) (n : NodeState) (pair : Pair) (d : Segment) (S : Stands k rows n) where
  -- it passes
  pub judged_good : (p : Passed) → Tells k.table.rows pair d (Ok p) (syn_judged k.table.rows pair k.clock d) → (f : Finding) × (syn_judged rows pair n.clock d ≡ Ok f)
  judged_good p h = (h.0, sym (at_ends k rows n pair d S) ∙ h.1)

  -- it is refused
  pub judged_bad : (why : Refusal) → Tells k.table.rows pair d (Err why) (syn_judged k.table.rows pair k.clock d) → syn_judged rows pair n.clock d ≡ Err why
  judged_bad why h = sym (at_ends k rows n pair d S) ∙ h
