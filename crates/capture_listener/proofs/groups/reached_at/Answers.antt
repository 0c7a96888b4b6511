use Rattle.std.proofs.Common.{length, sym, ap, ◌∙◌}
use Rattle.std.specs.Prelude.{Option}
use Rattle.book_sessions.specs.declared.uses.KeyUse.{KeyUse}
use Rattle.capture_listener.specs.Places.{reached_with}
use Rattle.capture_listener.proofs.PlaceLaws.{get_here, low_told}
use Rattle.capture_listener.proofs.groups.reached_at.Goals as goal

pub returns-in-Some : goal.returns-in-Some
returns-in-Some c =
    let one : KeyUse = c.in-Some.one.now in
    let found = c.in-Some.ensures.lookup in
    let here = get_here c.args.uses.now c.args.place one (low_told c.args.place (length c.args.uses.now) found.0) found.1 in
    c.reached_with.ensures ∙ ap (λ (o : Option KeyUse). reached_with c.args.segment.now o c.args.others) (sym here)
