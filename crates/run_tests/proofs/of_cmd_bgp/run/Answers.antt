use Rattle.law_scripts.proofs.Counts.{few_events}
use Rattle.run_tests.proofs.of_cmd_bgp.run.Goals as goal

pub run_bgp-requires-clause-few : goal.run_bgp-requires-clause-few
run_bgp-requires-clause-few c = few_events c.in_ok-script.script c.in_ok-script.ensures.grammar
