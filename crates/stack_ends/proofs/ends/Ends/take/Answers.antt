use Rattle.std.proofs.Common.{Bool, length, ap, sym, refl}
use Rattle.book_cmd_node.specs.declared.node.Act.TheVariants as act
use Rattle.book_endpoint.specs.States.{taking}
use Rattle.book_cmd_node.specs.NodeRuns.{Delivered}
use Rattle.stack_ends.specs.Calls.{Takes, acting}
use Rattle.stack_ends.proofs.EndLaws.{called}
use Rattle.stack_ends.proofs.FitLaws.{fits_written}
use Rattle.stack_ends.proofs.ends.Ends.take.Goals as goal

pub invariant_of-self : goal.invariant_of-self
invariant_of-self c =
    let e = c.in-Some.end.now in
    let is = sym c.in-Some.ensures.end in
    record {
      fits = fits_written c.args.self.now.table.rows c.args.self.now.node c.args.pair.now e c.take.new.end c.args.self.now.fits is (c.take.ensures.fits c.args.self.now.table.rows (c.args.self.now.fits c.args.pair.now e is));
      time = c.args.self.now.time;
    }

pub returns-in-Some-clause-called : goal.returns-in-Some-clause-called
returns-in-Some-clause-called c = λ rows n S.
    let e = c.in-Some.end.now in
    let is = sym c.in-Some.ensures.end in
    called c.args.self.now _ (record { rows = rows; node = n; pair = c.args.pair.now; answers = acting (act.Take (length c.args.room.now)) }) S refl refl (Takes c.args.room.now c.take.new.room) _ c.take.result e c.take.new.end refl c.in-Some.ensures.end refl
    c.take.ensures.pair (c.take.ensures.fits c.args.self.now.table.rows (c.args.self.now.fits c.args.pair.now e is)) (λ s T. (c.take.ensures.stands s T, record { bytes = taking (length c.args.room.now) s; outcome = ap (λ (b : Bool). Delivered (taking (length c.args.room.now) s) b) (sym (c.take.ensures.at_end s T)); count = c.take.ensures.count s T; filled = c.take.ensures.filled s T }))
