use Rattle.book_cmd_check.proofs.ConnectionLaws.{stays_map_given, stays_map, judged_on}
use Rattle.book_cmd_check.proofs.laws.connections_are_a_map.Goals as goal

pub returns-clause-map : goal.returns-clause-map
returns-clause-map c = stays_map

pub returns-clause-judged : goal.returns-clause-judged
returns-clause-judged c = judged_on

pub returns-clause-given : goal.returns-clause-given
returns-clause-given c = stays_map_given
