use Rattle.std.proofs.Common.{◌≡◌, ◌++◌, drop, map, true}
use Rattle.page_sessions_json.specs.Json.{json_items}
use Rattle.page_sessions_json.specs.SessionJson.{session_json}
use Rattle.scope_sessions.proofs.json_sessions.push_sessions.Given as goal

abbrev pub invariant-loop-number : goal.invariant-loop-number
invariant-loop-number l = l.out.items ++ json_items l.first (map (session_json l.index.uses) (drop l.number-index l.numbers)) ≡ l.fn.out.items ++ json_items true (map (session_json l.index.uses) l.numbers)
