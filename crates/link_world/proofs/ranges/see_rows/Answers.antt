use Rattle.link_world.proofs.WorldLaws.{rows_fit}
use Rattle.link_world.proofs.ranges.see_rows.Goals as goal

pub returns : goal.returns
returns c = rows_fit c.args.table.now.rows c.entries-rows.ensures.fit
