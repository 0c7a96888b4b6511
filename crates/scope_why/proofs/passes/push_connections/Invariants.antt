use Rattle.std.proofs.Common.{◌≡◌, ◌++◌, drop}
use Rattle.std.specs.Prelude.{map}
use Rattle.book_why.specs.declared.change.Change.TheVariants.{OtherConnection}
use Rattle.scope_why.proofs.passes.push_connections.Given as goal

abbrev pub invariant-loop-isns : goal.invariant-loop-isns
invariant-loop-isns l = l.out.items ++ map OtherConnection (drop l.isns-index l.others) ≡ l.fn.out.items ++ map OtherConnection l.others
