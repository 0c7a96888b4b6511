use Rattle.std.proofs.Common.{refl}
use Rattle.book_segments.specs.Segments.{Read}
use Rattle.stack_ends.proofs.EndLaws.{came}
use Rattle.stack_ends.proofs.FitLaws.{fits_come}
use Rattle.stack_ends.proofs.ends.Ends.hear_datagram.Goals as goal

pub invariant_of-self : goal.invariant_of-self
invariant_of-self g c = record {
  fits = fits_come c.args.self.now.table.rows c.args.self.now.clock c.args.self.now.node _ c.hear_datagram.result (Read c.args.datagram.now) c.args.self.now.fits c.hear_datagram.ensures.comes;
  time = c.args.self.now.time;
}

pub returns-clause-meets : goal.returns-clause-meets
returns-clause-meets g c = λ rows n S. came c.args.self.now _ rows n S refl refl (Read c.args.datagram.now) c.hear_datagram.result c.hear_datagram.ensures.comes
