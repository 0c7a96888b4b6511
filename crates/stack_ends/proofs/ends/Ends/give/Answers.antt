use Rattle.std.proofs.Common.{sym, refl}
use Rattle.book_cmd_node.specs.declared.node.Act.TheVariants as act
use Rattle.stack_ends.proofs.SpeakLaws.{given_called, given_stands}
use Rattle.stack_ends.specs.Calls.{Gives, acting}
use Rattle.stack_ends.proofs.EndLaws.{called}
use Rattle.stack_ends.proofs.FitLaws.{fits_written}
use Rattle.stack_ends.proofs.ends.Ends.give.Goals as goal

pub invariant_of-self : goal.invariant_of-self
invariant_of-self c =
    let e = c.in-Some.end.now in
    let is = sym c.in-Some.ensures.end in
    record {
      fits = fits_written c.args.self.now.table.rows c.args.self.now.node c.args.pair.now e c.give.new.self c.args.self.now.fits is (c.give.ensures.fits c.args.self.now.table.rows (c.args.self.now.fits c.args.pair.now e is));
      time = c.args.self.now.time;
    }

pub returns-in-Some-clause-called : goal.returns-in-Some-clause-called
returns-in-Some-clause-called c = λ rows n S.
    let e = c.in-Some.end.now in
    let is = sym c.in-Some.ensures.end in
    called c.args.self.now _ (record { rows = rows; node = n; pair = c.args.pair.now; answers = acting (act.Give c.args.piece.now) }) S refl refl Gives _ c.give.result e c.give.new.self refl c.in-Some.ensures.end refl
    c.give.ensures.pair (c.give.ensures.fits c.args.self.now.table.rows (c.args.self.now.fits c.args.pair.now e is)) (λ s T. (given_stands s c.args.piece.now c.give.new.self (c.give.ensures.stands s T), given_called s c.args.piece.now c.give.result (c.give.ensures.answer s T)))
