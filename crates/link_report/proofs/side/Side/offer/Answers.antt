use Rattle.std.proofs.Common.{refl}
use Rattle.book_link.specs.Steps.{given}
use Rattle.link_report.specs.declared.sessions.Live.{Live}
use Rattle.link_report.proofs.ActLaws.{moved_live}
use Rattle.link_report.proofs.OfferLaws.{given_acts}
use Rattle.link_report.proofs.side.Side.offer.Goals as goal

pub returns-in-Some-clause-step : goal.returns-in-Some-clause-step
returns-in-Some-clause-step c = λ w e h.
    let l = c.in-Some.live in
    let piece = c.args.piece.now in
    let k : Live = record { endpoint = c.give.new.self; end_shown = l.end_shown } in
    rw c.answer_of.ensures (moved_live w e (given piece) c.args.self.now _ l k _ h c.in-Some.is refl refl refl refl
    (λ s stands. given_acts piece s l k c.give.result (c.give.ensures.answer s stands) (c.give.ensures.stands s stands) refl))
