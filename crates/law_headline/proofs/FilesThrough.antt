-- The run of each link file over each key file gets through, with waits or without.
use Rattle.std.proofs.Common.{◌≡◌, ℕ, ◌≤◌, List, length, Ok, arith}
use Rattle.book_keys.specs.Nodes.{tables_of}
use Rattle.book_keys.specs.Rows.{Table}
use Rattle.book_link.specs.Worlds.{setup_of}
use Rattle.book_cmd_link.specs.declared.script.Script.{Script}
use Rattle.book_cmd_link.specs.declared.timed.TimedScript.{TimedScript}
use Rattle.book_cmd_link.specs.TimedRuns.{most_events}
use Rattle.book_cmd_link.specs.declared.script.KeysFrom.TheVariants as keys_from
use Rattle.book_cmd_link.specs.LinkFiles.{shared_by}
use Rattle.book_cmd_link.specs.LinkFiles.{script_of}
use Rattle.book_cmd_link.specs.TimedRuns.{expand, timed_script_of}
use Rattle.law_headline.specs.GetsThrough.{GetsThrough}
use Rattle.law_headline.proofs.InputLaws.{events_fit, few_in, keyed_fits, keyed_tables, shared_fits, shared_tables_fit}
use Rattle.law_headline.proofs.Through.{few_through}
use Rattle.law_headline.proofs.TimedFits.{expanded_fit, timed_fits}

pub keyed_through : (keys text : List ℕ) (tables : List Table) (script : Script) → tables_of keys ≡ Ok tables → script_of keys_from.KeyFile text ≡ Ok script
    → GetsThrough (setup_of tables script.a script.b) script.events
keyed_through keys text tables script read is =
    let few = few_in keys_from.KeyFile text script is in
    few_through (setup_of tables script.a script.b) script.events (keyed_fits keys text tables script read is) (keyed_tables keys tables script.a script.b read)
    (events_fit keys_from.KeyFile text script is) (omega arith)

pub shared_through : (text : List ℕ) (script : Script) → script_of keys_from.LinkFile text ≡ Ok script
    → GetsThrough (setup_of (shared_by script script.shared) script.a script.b) script.events
shared_through text script is =
    let few = few_in keys_from.LinkFile text script is in
    few_through (setup_of (shared_by script script.shared) script.a script.b) script.events (shared_fits text script is) (shared_tables_fit script)
    (events_fit keys_from.LinkFile text script is) (omega arith)

pub timed_through : (keys text : List ℕ) (tables : List Table) (script : TimedScript) → tables_of keys ≡ Ok tables → timed_script_of text ≡ Ok script
    → length (expand (setup_of tables script.a script.b) script.events).events ≤ most_events
    → GetsThrough (setup_of tables script.a script.b) (expand (setup_of tables script.a script.b) script.events).events
timed_through keys text tables script read is few =
    let setup = setup_of tables script.a script.b in
    few_through setup (expand setup script.events).events (timed_fits keys text tables script read is) (keyed_tables keys tables script.a script.b read)
    (expanded_fit setup text script is) (omega arith)
