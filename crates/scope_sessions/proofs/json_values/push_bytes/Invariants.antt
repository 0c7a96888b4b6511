use Rattle.std.proofs.Common.{◌≡◌, ◌++◌, drop}
use Rattle.std.specs.List.{flat_map}
use Rattle.page_sessions_json.specs.Json.{json_byte}
use Rattle.scope_sessions.proofs.json_values.push_bytes.Given as goal

abbrev pub invariant-loop-byte : goal.invariant-loop-byte
invariant-loop-byte l = l.out.items ++ flat_map json_byte (drop l.byte-index l.text) ≡ l.fn.out.items ++ flat_map json_byte l.text
