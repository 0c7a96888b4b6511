use Rattle.law_scripts.proofs.Counts.{few_events}
use Rattle.cmd_link.proofs.bgp_answers.answer_bgp.Goals as goal

pub run_bgp-requires-clause-few : goal.run_bgp-requires-clause-few
run_bgp-requires-clause-few c = few_events c.in_ok-script.script c.in_ok-script.ensures.grammar
