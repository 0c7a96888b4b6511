use Rattle.std.proofs.Common.{◌≡◌, ℕ, List, Result, Ok, Err, IfOk}
use Rattle.book_lines.specs.declared.text_fault.TextFault.{TextFault}
use Rattle.book_cmd_link.specs.declared.script.Script.{Script}
use Rattle.text_lines.specs.Readings.{Answers}
use Rattle.book_cmd_link.specs.declared.script.KeysFrom.{KeysFrom}
use Rattle.book_cmd_link.specs.LinkFiles.{keys_by, script_of}
use Rattle.law_scripts.specs.Scripts.{IsScript}
use Rattle.law_scripts.proofs.ScriptRanges.{script_of_ok}
use Rattle.link_script.proofs.reader.read_script.Goals as goal

of_the_grammar : (keys : KeysFrom) (text : List ℕ) (r : Result Script TextFault) → Answers r (script_of keys text) →
    IfOk r IsScript × IfOk r (λ script. keys_by script.shared ≡ keys)
of_the_grammar keys text (Ok s) h = script_of_ok keys text s h
of_the_grammar keys text (Err e) h = (tt, tt)

pub returns : goal.returns
returns c =
    let g = of_the_grammar c.args.keys c.args.text.now c.read.result c.read.ensures in
    record { read = c.read.ensures; grammar = g.0; key = g.1 }
