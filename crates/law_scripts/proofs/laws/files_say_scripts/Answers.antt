use Rattle.law_scripts.proofs.ScriptRanges.{script_of_ok}
use Rattle.law_scripts.proofs.laws.files_say_scripts.Goals as goal

pub returns-clause-ranges : goal.returns-clause-ranges
returns-clause-ranges c = λ keys text script said. (script_of_ok keys text script said).0

pub returns-clause-shared : goal.returns-clause-shared
returns-clause-shared c = λ keys text script said. (script_of_ok keys text script said).1
