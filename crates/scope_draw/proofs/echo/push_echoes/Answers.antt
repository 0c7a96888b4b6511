use Rattle.std.proofs.Common.{◌+◌, ◌∷◌, ap, drop, sym, ◌∙◌}
use Rattle.std.proofs.lemmas.List.{drop_more}
use Rattle.book_link.specs.declared.event.Event.{Event}
use Rattle.scope_draw.proofs.EchoLaws.{no_events, no_lines, one_event, rest_told}
use Rattle.scope_draw.proofs.echo.push_echoes.Goals as goal

pub returns-in-None : goal.returns-in-None
returns-in-None c =
    rest_told c.extend_from_slice.result c.loop-index.out.items c.extend_from_slice.new.self.items c.rest.result.now _ _ c.extend_from_slice.ensures.items c.rest.ensures
    (no_lines _ _ _ (c.loop-index.index + 1) c.loop-index.lines (drop c.loop-index.index c.args.events.now) c.in-None.ensures.line c.loop-index.invariant)

pub loop-index-preserved : goal.loop-index-preserved
loop-index-preserved c =
    let events = c.args.events.now in
    let i = c.loop-index.index in
    let event = c.index-events-index.result in
    rw c.next-in-Some.ensures.rest (one_event c.loop-index.out.items c.push_echo.new.out.items _ c.loop-index.report (i + 1) c.in-Some.line.now c.loop-index.lines c.next.new.self event (drop i events) (drop (i + 1) events)
    c.in-Some.ensures.line (drop_more events i event c.loop-index-test.true ∙ ap (λ (e : Event). e ∷ drop (i + 1) events) (sym c.index-events-index.is))
    (rw c.next-in-Some.ensures.line at c.in_ok-push_echo-in-Some.ensures) c.loop-index.invariant)

pub returns : goal.returns
returns c =
    rest_told c.extend_from_slice-2.result c.loop-index.out.items c.extend_from_slice-2.new.self.items c.rest-2.result.now _ _ c.extend_from_slice-2.ensures.items c.rest-2.ensures
    (no_events _ _ _ (c.loop-index.index + 1) c.loop-index.index c.loop-index.lines c.args.events.now c.loop-index-test.false c.loop-index.invariant)
