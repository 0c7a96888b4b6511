use Rattle.std.specs.Prelude.{codes, length, nat_lt}
use Rattle.book_scope_plan.specs.DifferenceTexts.{ends_in_feed}
use Rattle.book_scope_plan.specs.Notes.{has_old_key, never_ends, note_if, row_notes}
use Rattle.plan_texts.proofs.Parts.{four}
use Rattle.scope_plan.proofs.notes.push_row_notes.Goals as goal

pub returns : goal.returns
unfolding row_notes
returns c =
    four c.args.out.now.items (note_if (never_ends c.args.pair.now c.args.rows.now c.args.row.now) c.args.name.now (codes " never ends, though a later row is there\n")) (note_if (has_old_key c.args.pair.now c.args.rows.now c.args.row.now) c.args.name.now (codes " has the Key of an earlier row\n")) (note_if (nat_lt (length c.args.row.now.master) 8) c.args.name.now (codes " has a Key under 8 bytes\n")) (note_if (ends_in_feed c.args.row.now.master) c.args.name.now (codes " has a Key that ends in 0a, a line feed\n"))
    c.push_open.new.out.items c.push_old.new.out.items c.push_short_key.new.out.items _
    c.in_ok-push_open.ensures c.in_ok-push_old.ensures c.in_ok-push_short_key.ensures c.in_ok-push_feed.ensures
