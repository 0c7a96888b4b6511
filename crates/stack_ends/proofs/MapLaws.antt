-- An end that is written in the place of another is found there, and all others stay.
use Rattle.std.proofs.Common.{◌≡◌, true, Some}
use Rattle.std.specs.Prelude.{if◌then◌else◌}
use Rattle.std.specs.BTreeMap.{is_at}
use Rattle.std.proofs.lemmas.Map.{length-set_value}
use Rattle.book_base.specs.declared.address.Pair.{Pair}
use Rattle.book_base.specs.Orders.{by_pair}
use Rattle.book_cmd_node.specs.NodeRuns.{same_pair}
use Rattle.law_node.proofs.PairMaps.{set_finds}
use Rattle.tcp_endpoint.specs.declared.endpoint.Endpoint.{Endpoint}
use Rattle.stack_ends.specs.Held.{Holding, end_at, ends, holds}
use Rattle.stack_ends.specs.Loans.{written}

-- what is written for a pair that is held is found there, and all others stay
pub written_finds : (n : Holding) (p q : Pair) (w : Endpoint) → holds n p ≡ true → end_at (written p n w) q ≡ (if same_pair p q then Some w else end_at n q)
written_finds n p q w e = set_finds p q w n.entries e

pub written_count : (n : Holding) (p : Pair) (w : Endpoint) → ends (written p n w) ≡ ends n
written_count n p w = length-set_value (is_at (by_pair p)) n.entries w
