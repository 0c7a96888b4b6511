use Rattle.std.proofs.Common.{refl}
use Rattle.book_endpoint.specs.States.{listening}
use Rattle.stack_ends.proofs.EndLaws.{begun, opened_most}
use Rattle.stack_ends.proofs.FitLaws.{fits_opened}
use Rattle.stack_ends.proofs.ends.Ends.listen.Goals as goal

pub invariant_of-self : goal.invariant_of-self
invariant_of-self c = record {
  fits = fits_opened c.args.self.now.table.rows c.args.self.now.node _ c.args.pair (listening c.args.pair c.args.isn) c.listen.result c.args.self.now.fits c.listen.ensures.unchanged c.listen.ensures.added;
  time = c.args.self.now.time;
}

pub returns-clause-begun : goal.returns-clause-begun
returns-clause-begun c rows n S =
    begun c.args.self.now _ rows n c.args.pair S refl refl (listening c.args.pair c.args.isn) c.listen.result c.listen.ensures.refused c.listen.ensures.unchanged (rw S.rows_are at c.listen.ensures.added) (opened_most _ _ _ _ c.listen.result c.listen.ensures.unchanged c.listen.ensures.added)

pub returns-clause-most : goal.returns-clause-most
returns-clause-most c = opened_most _ _ _ _ c.listen.result c.listen.ensures.unchanged c.listen.ensures.added
