use Rattle.cmd_link.proofs.ScriptLaws.{all_can_happen}
use Rattle.law_scripts.proofs.Counts.{few_events}
use Rattle.cmd_link.proofs.link.answer_link_keys.Goals as goal

pub report_of-requires-clause-few : goal.report_of-requires-clause-few
report_of-requires-clause-few c = rw c.as_slice.ensures (few_events c.in_ok-script.script c.in_ok-script.ensures.grammar)
