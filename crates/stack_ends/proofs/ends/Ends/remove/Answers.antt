use Rattle.std.proofs.Common.{refl}
use Rattle.stack_ends.proofs.EndLaws.{removed}
use Rattle.stack_ends.proofs.FitLaws.{fits_dropped}
use Rattle.stack_ends.proofs.ends.Ends.remove.Goals as goal

pub invariant_of-self : goal.invariant_of-self
invariant_of-self c = record {
  fits = fits_dropped c.args.self.now.table.rows c.args.self.now.node _ c.args.pair.now c.args.self.now.fits c.remove.ensures.removed;
  time = c.args.self.now.time;
}

pub returns-clause-removed : goal.returns-clause-removed
returns-clause-removed c rows n S = removed c.args.self.now _ rows n c.args.pair.now S refl refl c.remove.result c.remove.ensures.held c.remove.ensures.removed c.remove.ensures.unchanged
