use Rattle.std.proofs.Common.{◌≡◌, ℕ, List, Result, Ok, Err, IfOk}
use Rattle.book_lines.specs.declared.text_fault.TextFault.{TextFault}
use Rattle.book_cmd_node.specs.declared.node.NodeScript.{NodeScript}
use Rattle.book_cmd_node.specs.NodeRuns.{node_script_of}
use Rattle.text_lines.specs.Readings.{Answers}
use Rattle.cmd_node.specs.Scripts.{IsScript}
use Rattle.cmd_node.proofs.ScriptRanges.{script_of_ok}
use Rattle.cmd_node.proofs.reader.read_node.Goals as goal

of_the_grammar : (text : List ℕ) (r : Result NodeScript TextFault) → Answers r (node_script_of text) → IfOk r IsScript
of_the_grammar text (Ok s) h = script_of_ok text s h
of_the_grammar text (Err e) h = tt

pub returns : goal.returns
returns c = record { read = c.read.ensures; grammar = of_the_grammar c.args.text.now c.read.result c.read.ensures }
