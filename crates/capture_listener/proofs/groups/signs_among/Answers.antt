use Rattle.std.proofs.Common.{ℕ, Option, sym, ap, ◌∙◌}
use Rattle.book_sessions.specs.Sessions.{signs_at}
use Rattle.capture_listener.specs.Places.{places_of, reached_among}
use Rattle.capture_listener.proofs.KeepLaws.{places_here, reached_in}
use Rattle.capture_listener.proofs.groups.signs_among.Goals as goal

pub returns : goal.returns
returns c numbers indexed known =
    let s = c.args.segment.now in
    let uses = c.args.uses.now in
    let here = places_here uses c.args.groups.now.items numbers indexed c.args.number c.index.result.now c.requires.least c.requires.most c.index.ensures in
    c.signs_at.ensures ∙ ap (λ (o : Option ℕ). signs_at o s) (c.reached_among.ensures
    ∙ (ap (reached_among s uses) (c.as_slice.ensures.value ∙ here)
    ∙ reached_in uses _ numbers indexed s c.signs_at.result c.args.number known))
