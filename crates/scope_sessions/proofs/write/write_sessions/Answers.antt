use Rattle.toml.specs.View.{table_view}
use Rattle.scope_sessions.specs.Reading.{series_of}
use Rattle.scope_sessions.specs.Writing.{table_report}
use Rattle.scope_sessions.proofs.Ends.{writes_counted}
use Rattle.scope_sessions.proofs.write.write_sessions.Goals as goal

pub returns-in-Ok : goal.returns-in-Ok
returns-in-Ok g c =
    let s = series_of (table_view c.args.file.document) c.args.file.tables c.args.laps c.args.isns.now c.args.request in
    let counts = c.in-Ok.ensures in
    (counts.0, writes_counted (table_report c.args.request) s counts.0 _ _ _ _ _ c.in-Ok.counted c.write_counted.result counts.1 c.write_counted.ensures)
