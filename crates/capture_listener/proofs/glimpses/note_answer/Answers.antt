use Rattle.std.proofs.Common.{List, sym, subst, ◌∙◌}
use Rattle.std.proofs.lemmas.Bool.{ne_eqb}
use Rattle.book_cmd_check.specs.Captures.{acknowledged_isn}
use Rattle.book_sessions.specs.Glimpses.{Opening}
use Rattle.capture_listener.specs.Openings.{KeepsOpenings}
use Rattle.capture_listener.proofs.GlimpseLaws.{answered_none, answers_other}
use Rattle.capture_listener.proofs.OpeningLaws.{keeps_dropped}
use Rattle.capture_listener.proofs.glimpses.note_answer.Goals as goal

pub returns-in-None : goal.returns-in-None
returns-in-None c = λ opened keeps.
    let d = c.args.datagram.now in
    let none = sym (keeps.same c.args.datagram.now.destination c.args.datagram.now.source) ∙ rw (← c.destination.ensures.value, ← c.source.ensures.value) (sym c.in-None.ensures) in
    subst (λ (os : List Opening). KeepsOpenings c.args.openings.now.isns.entries os) (sym (answered_none d opened none)) keeps

pub returns-then-opening-isn : goal.returns-then-opening-isn
returns-then-opening-isn c = λ opened keeps.
    let d = c.args.datagram.now in
    let some = sym (keeps.same c.args.datagram.now.destination c.args.datagram.now.source) ∙ rw (← c.destination.ensures.value, ← c.source.ensures.value) (sym c.in-Some.ensures) in
    let other = ne_eqb c.in-Some.opening.isn (acknowledged_isn c.args.datagram.now) (rw c.acknowledged_isn-isn.ensures at c.if-opening-isn.true) in
    subst (λ (os : List Opening). KeepsOpenings c.drop_way.new.self.isns.entries os) (sym (answers_other d opened c.in-Some.opening some other))
    (keeps_dropped c.args.openings.now.isns.entries c.drop_way.new.self.isns.entries opened c.args.datagram.now.destination c.args.datagram.now.source keeps
    (rw (← c.destination-then-opening-isn.ensures.value, ← c.source-then-opening-isn.ensures.value) c.drop_way.ensures))
