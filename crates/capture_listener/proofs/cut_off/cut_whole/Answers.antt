use Rattle.std.proofs.Common.{sym, ap, ◌∙◌}
use Rattle.book_sessions.specs.AsSent.{mended}
use Rattle.capture_listener.proofs.CutLaws.{not_begun, not_whole, whole_told}
use Rattle.capture_listener.proofs.cut_off.cut_whole.Goals as goal

pub returns-then-not-is_beginning : goal.returns-then-not-is_beginning
returns-then-not-is_beginning c = not_begun c.args.bytes.now (sym c.is_beginning.ensures.value ∙ c.if-not-is_beginning.true)

pub returns-then-has_payload : goal.returns-then-has_payload
returns-then-has_payload c =
    whole_told c.args.bytes.now c.in_ok-whole.whole.items (sym c.is_beginning.ensures.value ∙ c.if-not-is_beginning.false) (c.in_ok-whole.ensures ∙ ap mended c.in_ok-filled.ensures)
    (sym (rw (c.missing.ensures.value, c.as_slice.ensures.value) at c.has_payload.ensures) ∙ c.if-has_payload.true)

pub returns-else-has_payload : goal.returns-else-has_payload
returns-else-has_payload c =
    not_whole c.args.bytes.now c.in_ok-whole.whole.items (c.in_ok-whole.ensures ∙ ap mended c.in_ok-filled.ensures)
    (sym (rw (c.missing.ensures.value, c.as_slice.ensures.value) at c.has_payload.ensures) ∙ c.if-has_payload.false)
