-- The tallies of all connections (own).
use Rattle.std.specs.Prelude.{◌≡◌, List, Option, if◌then◌else◌}
use Rattle.std.specs.Map.{lookup}
use Rattle.std.specs.BTreeMap.{is_at}
use Rattle.book_base.specs.declared.address.Pair.{Pair}
use Rattle.book_base.specs.Orders.{by_pair}
use Rattle.book_cmd_node.specs.NodeRuns.{same_pair}
use Rattle.book_stack.specs.declared.tally.Tally.{Tally}

-- tallies by their pairs (own)
pub record Tallying : Type 0 where
  pub entries : List (Pair × Tally)

-- the tally of a pair (own)
abbrev pub tally_at : Tallying → Pair → Option Tally
tally_at t pair = lookup (is_at (by_pair pair)) t.entries

-- the pair has this tally from now on, or none, and all others stay (own)
pub record Becomes (before after : Tallying) (pair : Pair) (k : Option Tally) : Type 0 where
  pub finds : (q : Pair) → tally_at after q ≡ (if same_pair pair q then k else tally_at before q)
