use Rattle.toml.specs.View.{table_view}
use Rattle.scope_keys.specs.KeyFiles.{keys_at}
use Rattle.scope_sessions.proofs.JsonTable.{table_done}
use Rattle.scope_sessions.proofs.json_table.push_json.Goals as goal

pub returns : goal.returns
returns c =
    let numbers = c.in_ok-numbers.numbers in
    table_done c.push_amiss.result c.args.all (keys_at (table_view c.args.document.now) c.args.tables.now) c.args.index.now numbers.foreign.items numbers.listed.items c.in_ok-amiss.amiss c.args.out.now.items c.push_name.new.out.items c.push_packets.new.out.items c.push_told.new.out.items c.push_all_keys.new.out.items c.push_amiss.new.out.items
    c.in_ok-numbers.ensures.foreign c.in_ok-numbers.ensures.listed c.in_ok-amiss.ensures c.in_ok-push_name.ensures c.in_ok-push_packets.ensures c.in_ok-push_told.ensures c.in_ok-push_all_keys.ensures c.push_amiss.ensures
