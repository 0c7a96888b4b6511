use Rattle.std.proofs.Common.{ℕ, List, Result, Ok, Err, IfOk}
use Rattle.book_lines.specs.declared.text_fault.TextFault.{TextFault}
use Rattle.book_cmd_link.specs.declared.timed.TimedScript.{TimedScript}
use Rattle.text_lines.specs.Readings.{Answers}
use Rattle.book_cmd_link.specs.TimedRuns.{timed_script_of}
use Rattle.law_scripts.specs.Timed.{IsTimedScript}
use Rattle.law_scripts.proofs.TimedRanges.{timed_script_ok}
use Rattle.link_script.proofs.timed.read_timed.Goals as goal

of_the_grammar : (text : List ℕ) (r : Result TimedScript TextFault) → Answers r (timed_script_of text) → IfOk r IsTimedScript
of_the_grammar text (Ok s) h = timed_script_ok text s h
of_the_grammar text (Err e) h = tt

pub returns : goal.returns
returns c = record { read = c.timed.ensures; grammar = of_the_grammar c.args.text.now c.timed.result c.timed.ensures }
