use Rattle.std.proofs.Common.{refl}
use Rattle.book_keys.specs.Tables.{row_of_new}
use Rattle.stack_ends.proofs.RowLaws.{added_fits, added_stands}
use Rattle.stack_ends.proofs.ends.Ends.add.Goals as goal

pub invariant_of-self : goal.invariant_of-self
invariant_of-self c = record {
  fits = added_fits c.args.self.now.table c.add.new.self c.args.self.now.node (row_of_new c.args.row) c.add.result c.end_fits_once_added.ensures c.args.self.now.fits c.add.ensures;
  time = c.args.self.now.time;
}

pub returns-clause-added : goal.returns-clause-added
returns-clause-added c rows n S = added_stands c.args.self.now _ rows n S (row_of_new c.args.row) c.add.result c.end_fits_once_added.ensures refl refl c.add.ensures
