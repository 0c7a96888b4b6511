use Rattle.std.proofs.Common.{sym, refl}
use Rattle.book_cmd_node.specs.declared.node.Act.TheVariants as act
use Rattle.stack_ends.specs.Calls.{IsDone, acting}
use Rattle.stack_ends.proofs.EndLaws.{called}
use Rattle.stack_ends.proofs.FitLaws.{fits_written}
use Rattle.stack_ends.proofs.ends.Ends.close.Goals as goal

pub invariant_of-self : goal.invariant_of-self
invariant_of-self c =
    let e = c.in-Some.end.now in
    let is = sym c.in-Some.ensures.end in
    record {
      fits = fits_written c.args.self.now.table.rows c.args.self.now.node c.args.pair.now e c.close.new.self c.args.self.now.fits is (c.close.ensures.fits c.args.self.now.table.rows (c.args.self.now.fits c.args.pair.now e is));
      time = c.args.self.now.time;
    }

pub returns-in-Some-clause-called : goal.returns-in-Some-clause-called
returns-in-Some-clause-called c = λ rows n S.
    let e = c.in-Some.end.now in
    let is = sym c.in-Some.ensures.end in
    called c.args.self.now _ (record { rows = rows; node = n; pair = c.args.pair.now; answers = acting act.Close }) S refl refl IsDone _ c.close.result e c.close.new.self refl c.in-Some.ensures.end refl
    c.close.ensures.pair (c.close.ensures.fits c.args.self.now.table.rows (c.args.self.now.fits c.args.pair.now e is)) (λ s T. (c.close.ensures.stands s T, refl))
