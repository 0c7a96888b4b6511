use Rattle.std.proofs.Common.{◌≡◌, ◌++◌, ◌==◌, drop, map, true}
use Rattle.page_sessions_json.specs.Json.{json_items}
use Rattle.page_sessions_json.specs.SessionJson.{passed_json}
use Rattle.scope_sessions.proofs.json_packets.push_counts.Given as goal

abbrev pub invariant-loop-i : goal.invariant-loop-i
invariant-loop-i l = l.out.items ++ json_items (l.i == 0) (map passed_json (drop l.i l.passed)) ≡ l.fn.out.items ++ json_items true (map passed_json l.passed)
