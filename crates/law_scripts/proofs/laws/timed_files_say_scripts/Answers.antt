use Rattle.law_scripts.proofs.TimedRanges.{timed_script_ok}
use Rattle.law_scripts.proofs.laws.timed_files_say_scripts.Goals as goal

pub returns : goal.returns
returns c = timed_script_ok
