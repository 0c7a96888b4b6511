-- What the calls of a stack cost.
use Rattle.std.proofs.Common.{◌≡◌, ◌≤◌, ◌+◌, ℕ, Bool, true, false, List, ◌∙◌, arith}
use Rattle.book_base.specs.declared.address.Pair.{Pair}
use Rattle.book_segments.specs.Segments.{Segment}
use Rattle.book_keys.specs.Rows.{Row}
use Rattle.tcp_endpoint.specs.declared.arrival.Arrived.{Arrived}
use Rattle.stack_ends.specs.declared.answer.NodeArrival.{NodeArrival}
use Rattle.stack_ends.specs.declared.answer.NodeArrival.TheVariants as arrivals
use Rattle.stack_ends.specs.Held.{Holding}
use Rattle.stack_ends.specs.EndsCosts as below
use Rattle.stack_ends.specs.declared.send.Says.{Says}
use Rattle.stack_ends.specs.declared.send.Says.TheVariants as says
use Rattle.stack_ends.specs.Costs.{CostsSaid}
use Rattle.ao_stack.specs.Answers.{heard_moving}
use Rattle.ao_stack.specs.Costs.{CostsArrived, CostsHeard, CostsTold}

arrived_costs : (rows : List Row) (now : ℕ) (d : Segment) (before after : Holding) (p : Pair) (told : Arrived) (old new : ℕ)
    → below.CostsEnd rows now d before after p told old new → CostsArrived d told old new
arrived_costs rows now d before after p told old new c =
    let one : c.costs.checked ≤ old + 1 = c.costs.counted.most in record {
      most = omega (arith, one, c.costs.links);
      early = c.untouched;
      refused = λ none. omega (arith, one, c.costs.refused none);
      unjudged = λ none idle. c.costs.refused none ∙ (c.costs.counted.idle idle).0;
      bare = λ none. omega (arith, one, c.costs.bare none);
    }

told_costs : (rows : List Row) (now : ℕ) (d : Segment) (before after : Holding) (told : NodeArrival) (old new : ℕ)
    → below.CostsHeard rows now d before after told old new → CostsTold d told old new
told_costs rows now d before after (arrivals.Bad fault) old new c = c
told_costs rows now d before after arrivals.NoConnection old new c = c
told_costs rows now d before after (arrivals.At p told) old new c = arrived_costs rows now d before after p told old new c

-- what an end heard costs the same, whether its connection moved on or not
pub heard_costs : (rows : List Row) (now : ℕ) (d : Segment) (before after : Holding) (told : NodeArrival) (moved : Bool) (old new : ℕ)
    → below.CostsHeard rows now d before after told old new → CostsHeard d (heard_moving moved told) old new
heard_costs rows now d before after told true old new c = told_costs rows now d before after told old new c
heard_costs rows now d before after told false old new c = told_costs rows now d before after told old new c

-- a segment was made, and its work is what its end counted
pub said_some : (n : ℕ) (w : Says) (old new : ℕ) → w ≡ says.Segment n → CostsSaid w old new → new ≤ old + 1
said_some n w old new is c = rw is at c

pub said_no_key : (w : Says) (old new : ℕ) → w ≡ says.NoKey → CostsSaid w old new → new ≡ old
said_no_key w old new is c = rw is at c

pub said_nothing : (w : Says) (old new : ℕ) → w ≡ says.Nothing → CostsSaid w old new → new ≡ old
said_nothing w old new is c = rw is at c
