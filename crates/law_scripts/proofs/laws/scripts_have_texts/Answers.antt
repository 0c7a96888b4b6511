use Rattle.law_scripts.proofs.ScriptBack.{script_of-text_of}
use Rattle.law_scripts.proofs.laws.scripts_have_texts.Goals as goal

pub returns : goal.returns
returns c = script_of-text_of
