-- How many events a script has.
use Rattle.std.proofs.Common.{◌≡◌, ◌+◌, ◌≤◌, ◌++◌, length, map, arith, length-append}
use Rattle.std.proofs.lemmas.List.{length-map}
use Rattle.book_cmd_link.specs.declared.script.Script.{Script}
use Rattle.law_scripts.specs.Printed.{event_words, key_lines, script_lines}
use Rattle.law_scripts.specs.Scripts.{IsScript}

-- no more events than lines
pub few_events : (s : Script) → IsScript s → length s.events ≤ 20000
unfolding script_lines
few_events s x =
    let lines = x.lines in
    let m : length (map event_words s.events) ≡ length s.events = length-map s.events event_words in
    let a : length (key_lines s.shared ++ map event_words s.events) ≡ length (key_lines s.shared) + length (map event_words s.events) = length-append (key_lines s.shared) (map event_words s.events) in
    omega (arith, lines, m, a)
