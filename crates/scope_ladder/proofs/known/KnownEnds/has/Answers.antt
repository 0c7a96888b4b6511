use Rattle.std.proofs.Common.{ap, ◌∙◌}
use Rattle.std.specs.BTreeMap.{is_at}
use Rattle.std.specs.List.{list_any}
use Rattle.book_base.specs.declared.address.Pair.{Pair}
use Rattle.book_base.specs.Orders.{by_pair}
use Rattle.scope_ladder.proofs.known.KnownEnds.has.Goals as goal

pub returns : goal.returns
returns c =
    let r = c.args.rung.now in
    rw (← c.self.view_is) (c.contains.ensures
    ∙ (ap (λ (p : Pair). list_any (is_at (by_pair p)) c.self.inside.pairs.keys) c.sorted.ensures
    ∙ c.self.invariant r.source r.destination))
