use Rattle.std.proofs.Common.{sym, ◌∙◌, subst, List, OnOk}
use Rattle.book_cmd_check.specs.Captures.{Connection}
use Rattle.capture_check.specs.Checkers.{StandsFor}
use Rattle.capture_listener.proofs.LineLaws.{unknown_told}
use Rattle.capture_listener.proofs.GlimpseLaws.{completes}
use Rattle.capture_listener.proofs.glimpses.glimpse.Goals as goal

pub returns-in-Some-clause-stands : goal.returns-in-Some-clause-stands
returns-in-Some-clause-stands c = λ said opened guessed says keeps S.
    let ack = sym c.has.ensures ∙ c.if-not-has.false in
    let syn = sym c.has-2.ensures ∙ c.if-has.false in
    let unknown = sym (unknown_told c.args.line.now said says) ∙ (sym c.is_unknown.ensures ∙ c.if-not-is_unknown.false) in
    let kept = sym (keeps.same c.args.datagram.now.source c.args.datagram.now.destination) ∙ rw (← c.source.ensures.value, ← c.destination.ensures.value) (sym c.in-Some.ensures) in
    let is = completes c.args.datagram.now said opened guessed c.in-Some.opening ack syn unknown kept in
    subst (λ (cs : List Connection). OnOk c.begin_anew.result (StandsFor c.begin_anew.new.guesses cs)) (sym is) (rw c.completing.ensures at (c.begin_anew.ensures.stands guessed S))
