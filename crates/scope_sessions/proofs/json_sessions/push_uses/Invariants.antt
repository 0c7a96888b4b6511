use Rattle.std.proofs.Common.{◌≡◌, ◌++◌, drop, filter, map, true}
use Rattle.book_sessions.specs.SessionTexts.{is_of_session}
use Rattle.page_sessions_json.specs.Json.{json_items}
use Rattle.page_sessions_json.specs.SessionJson.{use_json}
use Rattle.scope_sessions.proofs.json_sessions.push_uses.Given as goal

abbrev pub invariant-loop-one : goal.invariant-loop-one
invariant-loop-one l = l.out.items ++ json_items l.first (map (use_json l.heading) (filter (is_of_session l.number) (drop l.one-index l.uses))) ≡ l.fn.out.items ++ json_items true (map (use_json l.heading) (filter (is_of_session l.number) l.uses))
