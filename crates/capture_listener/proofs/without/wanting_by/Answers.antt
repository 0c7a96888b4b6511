use Rattle.book_sessions.specs.Retiring.{wants_row}
use Rattle.capture_listener.proofs.AtPlaceLaws.{wanting_at}
use Rattle.capture_listener.proofs.without.wanting_by.Goals as goal

pub returns : goal.returns
returns c =
    wanting_at (wants_row c.args.table.now c.args.number c.args.row.now) c.args.source.now c.args.destination.now c.args.session c.args.evidence.now.uses c.uses.result.now c.places_of.result.now c.wanting_among.result
    c.requires c.uses.ensures.known c.uses.ensures.value c.places_of.ensures c.wanting_among.ensures
