-- An end is lent, and written.
use Rattle.std.specs.Prelude.{Option}
use Rattle.std.specs.BTreeMap.{is_at}
use Rattle.std.specs.Borrow.{LendsIf, MutBor, Fml}
use Rattle.std.specs.Map.{set_value}
use Rattle.book_base.specs.declared.address.Pair.{Pair}
use Rattle.book_base.specs.Orders.{by_pair}
use Rattle.tcp_endpoint.specs.declared.endpoint.Endpoint.{Endpoint}
use Rattle.tcp_endpoint.specs.contracts.endpoint.Endpoint.{the_row as end_row}
use Rattle.stack_ends.specs.contracts.node.Node.{the_row}
use Rattle.stack_ends.specs.Held.{Holding}

-- the node with this end in the place of the one that is held for the pair
abbrev pub written : Pair → Holding → Endpoint → Holding
written pair n e = record { most = n.most; entries = set_value (is_at (by_pair pair)) n.entries e }

-- the node after the loan holds what was written for the pair, and all else as before
abbrev pub LendsEnd : MutBor Holding → Pair → Option (MutBor Endpoint) → Fml
LendsEnd s pair r = LendsIf the_row end_row s r (written pair s.now) s.now
