use Rattle.std.proofs.Common.{refl}
use Rattle.stack_ends.proofs.EndLaws.{ticked_stands}
use Rattle.stack_ends.proofs.FitLaws.{fits_ticked}
use Rattle.stack_ends.proofs.ends.Ends.tick.Goals as goal

pub invariant_of-self : goal.invariant_of-self
invariant_of-self c = record {
  fits = fits_ticked c.args.self.now.table.rows c.args.seconds c.args.self.now.node _ c.args.self.now.fits c.tick.ensures;
  time = c.requires;
}

pub returns-clause-ticks : goal.returns-clause-ticks
returns-clause-ticks c rows n S = ticked_stands c.args.self.now _ rows n c.args.seconds S refl refl c.tick.ensures
