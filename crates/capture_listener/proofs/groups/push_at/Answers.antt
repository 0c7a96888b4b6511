use Rattle.std.proofs.Common.{◌++◌, ◌∷◌, [], length, sym, ap, ◌∙◌}
use Rattle.std.proofs.lemmas.List.{append_assoc}
use Rattle.std.specs.Prelude.{Option}
use Rattle.book_sessions.specs.declared.uses.KeyUse.{KeyUse}
use Rattle.capture_listener.specs.Places.{and_found}
use Rattle.capture_listener.proofs.PlaceLaws.{get_here, low_told}
use Rattle.capture_listener.proofs.groups.push_at.Goals as goal

pub returns-in_ok-push-in-Some : goal.returns-in_ok-push-in-Some
returns-in_ok-push-in-Some c others =
    let one : KeyUse = c.in-Some.one.now in
    let found = c.in-Some.ensures.lookup in
    let here = get_here c.args.uses.now c.args.place one (low_told c.args.place (length c.args.uses.now) found.0) found.1 in
    rw (c.in_ok-push-in-Some.ensures.items) (append_assoc c.args.out.now.items (one ∷ []) others
    ∙ ap (λ (o : Option KeyUse). c.args.out.now.items ++ and_found o others) (sym here))
