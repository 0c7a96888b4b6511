use Rattle.std.proofs.Common.{◌∙◌, ap, length, arith}
use Rattle.book_keys.specs.Rows.{Table}
use Rattle.ao_check.specs.Bonds.{Bond}
use Rattle.key_tests.proofs.of_ao_check.changes.changes.Goals as goal

pub past_a_lap-added-requires-clause-fits : goal.past_a_lap-added-requires-clause-fits
past_a_lap-added-requires-clause-fits g c =
    let room = c.past_a_lap-before.ensures.room ∙ (ap (λ (b : Bond). b.keys.rows) c.learn.ensures.peer ∙ ap (λ (b : Bond). b.keys.rows) c.in_ok-association.ensures.fresh) in
    let none = ap (λ (t : Table). length t.rows) c.empty-table.ensures in
    c.add.ensures c.past_a_lap-before.new.association (omega (arith, room, none)) c.past_a_lap-before.ensures.fits

pub past_a_lap-withdrawn-requires-clause-fits : goal.past_a_lap-withdrawn-requires-clause-fits
past_a_lap-withdrawn-requires-clause-fits g c = c.withdraw.ensures c.past_a_lap-added.new.association c.past_a_lap-added.ensures.fits
