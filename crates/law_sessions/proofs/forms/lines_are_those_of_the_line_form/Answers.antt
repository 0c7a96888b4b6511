use Rattle.law_sessions.proofs.SameLines.{raw_line, v4_line, v6_line}
use Rattle.law_sessions.proofs.forms.lines_are_those_of_the_line_form.Goals as goal

pub returns-clause-raw : goal.returns-clause-raw
returns-clause-raw c = raw_line

pub returns-clause-v4 : goal.returns-clause-v4
returns-clause-v4 c = v4_line

pub returns-clause-v6 : goal.returns-clause-v6
returns-clause-v6 c = v6_line
