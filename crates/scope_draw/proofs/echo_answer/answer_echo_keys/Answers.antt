use Rattle.cmd_link.proofs.ScriptLaws.{all_can_happen}
use Rattle.law_scripts.proofs.Counts.{few_events}
use Rattle.scope_draw.proofs.echo_answer.answer_echo_keys.Goals as goal

pub echo_report-requires-clause-few : goal.echo_report-requires-clause-few
echo_report-requires-clause-few c = rw c.as_slice.ensures (few_events c.in_ok-script.script c.in_ok-script.ensures.grammar)
