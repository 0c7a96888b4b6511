use Rattle.std.proofs.Common.{sym, refl}
use Rattle.book_cmd_node.specs.declared.node.Act.TheVariants as act
use Rattle.stack_ends.specs.Calls.{Tells, acting}
use Rattle.stack_ends.proofs.EndLaws.{called}
use Rattle.stack_ends.proofs.FitLaws.{fits_written}
use Rattle.stack_ends.proofs.ends.Ends.repeat.Goals as goal

pub invariant_of-self : goal.invariant_of-self
invariant_of-self g c =
    let e = c.in-Some.end.now in
    let is = sym c.in-Some.ensures.end in
    record {
      fits = fits_written c.args.self.now.table.rows c.args.self.now.node c.args.pair.now e c.repeat.new.end c.args.self.now.fits is c.repeat.ensures.fits;
      time = c.args.self.now.time;
    }

pub returns-in-Some-clause-called : goal.returns-in-Some-clause-called
returns-in-Some-clause-called g c = λ rows n S.
    let e = c.in-Some.end.now in
    let is = sym c.in-Some.ensures.end in
    called c.args.self.now _ (record { rows = rows; node = n; pair = c.args.pair.now; answers = acting act.Resend }) S refl refl (Tells c.repeat.new.room) _ c.repeat.result e c.repeat.new.end refl c.in-Some.ensures.end refl
    c.repeat.ensures.pair c.repeat.ensures.fits (λ s T. let h = c.repeat.ensures.speaks s T in (h.stands, record { says_as = h.says_as; change = h.change; waits = h.waits }))
