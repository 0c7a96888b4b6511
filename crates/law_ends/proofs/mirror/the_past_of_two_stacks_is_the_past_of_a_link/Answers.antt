use Rattle.law_ends.proofs.Going.{is_past}
use Rattle.law_ends.proofs.Fitting.{events_fit_all}
use Rattle.law_ends.proofs.mirror.the_past_of_two_stacks_is_the_past_of_a_link.Goals as goal

pub returns-clause-mirrors : goal.returns-clause-mirrors
returns-clause-mirrors c = is_past

pub returns-clause-fits : goal.returns-clause-fits
returns-clause-fits c = events_fit_all
