use Rattle.std.proofs.Common.{List, sym, subst, ◌∙◌}
use Rattle.book_sessions.specs.Glimpses.{Opening, opening_of}
use Rattle.capture_listener.specs.Openings.{KeepsOpenings}
use Rattle.capture_listener.proofs.GlimpseLaws.{answers, opens}
use Rattle.capture_listener.proofs.LineLaws.{judged_told}
use Rattle.capture_listener.proofs.OpeningLaws.{keeps_put}
use Rattle.capture_listener.proofs.glimpses.note_opening.Goals as goal

pub returns-in-Ok-clause-keeps : goal.returns-in-Ok-clause-keeps
returns-in-Ok-clause-keeps c = λ said opened says keeps.
    let judged = sym (judged_told c.args.line.now said says) ∙ (sym c.is_judged.ensures ∙ c.if-not-is_judged.false) in
    let syn = sym c.has.ensures ∙ c.if-not-has.false in
    let ack = sym c.has-2.ensures ∙ c.if-has.false in
    let is = opens c.args.datagram.now said opened judged syn ack in
    subst (λ (os : List Opening). KeepsOpenings c.put.new.self.isns.entries os) (sym is)
    (keeps_put c.args.openings.now.isns.entries c.put.new.self.isns.entries opened (opening_of c.args.datagram.now said) keeps
    (rw (← c.source.ensures.value, ← c.destination.ensures.value, ← c.sequence.ensures, ← c.is_pass.ensures said says) c.in-Ok.ensures.put))

pub returns-then-has-clause-keeps : goal.returns-then-has-clause-keeps
returns-then-has-clause-keeps c = λ said opened says keeps.
    let judged = sym (judged_told c.args.line.now said says) ∙ (sym c.is_judged.ensures ∙ c.if-not-is_judged.false) in
    let syn = sym c.has.ensures ∙ c.if-not-has.false in
    let ack = sym c.has-2.ensures ∙ c.if-has.true in
    subst (λ (os : List Opening). KeepsOpenings c.note_answer.new.openings.isns.entries os) (sym (answers c.args.datagram.now said opened judged syn ack)) (c.note_answer.ensures opened keeps)
