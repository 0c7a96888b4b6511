use Rattle.toml.specs.View.{table_view}
use Rattle.scope_keys.specs.KeyFiles.{keys_at}
use Rattle.scope_sessions.proofs.KeyWords.{whole_text}
use Rattle.scope_sessions.proofs.table_text.push_table.Goals as goal

pub returns : goal.returns
returns c =
    let numbers = c.in_ok-numbers.numbers in
    whole_text c.args.all (keys_at (table_view c.args.document.now) c.args.tables.now) c.args.index.now numbers.listed.items numbers.own.items numbers.foreign.items c.args.out.now.items c.push_capture.new.out.items c.push_counts.new.out.items c.push_unset.new.out.items c.push_told.new.out.items c.push_keys.new.out.items c.in_ok-segments.segments c.in_ok-others.others
    (rw (c.in_ok-segments.ensures.ok_part, c.uses-uses.ensures.uses) at c.all_counted.ensures) (rw (c.in_ok-others.ensures.ok_part, c.passed.ensures) at c.all_passed.ensures)
    c.in_ok-numbers.ensures.listed c.in_ok-numbers.ensures.own c.in_ok-numbers.ensures.foreign (rw c.uses-uses.ensures.uses at c.in_ok-push_capture.ensures)
    (rw c.passed-2.ensures at c.in_ok-push_counts.ensures) (rw c.unset.ensures at c.in_ok-push_unset.ensures) c.in_ok-push_told.ensures (rw c.in_ok-evidence.ensures at c.in_ok-push_keys.ensures)
