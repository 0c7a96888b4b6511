use Rattle.std.proofs.Common.{refl}
use Rattle.book_endpoint.specs.States.{started}
use Rattle.stack_ends.proofs.EndLaws.{begun, opened_most}
use Rattle.stack_ends.proofs.FitLaws.{fits_opened}
use Rattle.stack_ends.proofs.ends.Ends.start.Goals as goal

pub invariant_of-self : goal.invariant_of-self
invariant_of-self c = record {
  fits = fits_opened c.args.self.now.table.rows c.args.self.now.node _ c.args.pair (started c.args.pair c.args.isn c.args.peer_isn) c.start.result c.args.self.now.fits c.start.ensures.unchanged c.start.ensures.added;
  time = c.args.self.now.time;
}

pub returns-clause-begun : goal.returns-clause-begun
returns-clause-begun c rows n S =
    begun c.args.self.now _ rows n c.args.pair S refl refl (started c.args.pair c.args.isn c.args.peer_isn) c.start.result c.start.ensures.refused c.start.ensures.unchanged (rw S.rows_are at c.start.ensures.added) (opened_most _ _ _ _ c.start.result c.start.ensures.unchanged c.start.ensures.added)

pub returns-clause-most : goal.returns-clause-most
returns-clause-most c = opened_most _ _ _ _ c.start.result c.start.ensures.unchanged c.start.ensures.added
