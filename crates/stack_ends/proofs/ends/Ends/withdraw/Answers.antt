use Rattle.std.proofs.Common.{refl}
use Rattle.stack_ends.proofs.RowLaws.{withdrawn_fits, withdrawn_stands}
use Rattle.stack_ends.proofs.ends.Ends.withdraw.Goals as goal

pub invariant_of-self : goal.invariant_of-self
invariant_of-self c = record {
  fits = withdrawn_fits c.args.self.now.table c.withdraw.new.self c.args.self.now.node c.args.n c.withdraw.result c.end_fits_once_withdrawn.ensures c.args.self.now.fits c.withdraw.ensures;
  time = c.args.self.now.time;
}

pub returns-clause-withdrawn : goal.returns-clause-withdrawn
returns-clause-withdrawn c rows m S = withdrawn_stands c.args.self.now _ rows m S c.args.n c.withdraw.result c.end_fits_once_withdrawn.ensures refl refl c.withdraw.ensures
