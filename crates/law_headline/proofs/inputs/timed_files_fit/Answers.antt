use Rattle.law_headline.proofs.FilesThrough.{timed_through}
use Rattle.law_headline.proofs.TimedFits.{expanded_fit, timed_fits}
use Rattle.law_headline.proofs.inputs.timed_files_fit.Goals as goal

pub returns-clause-link : goal.returns-clause-link
returns-clause-link c = timed_fits

pub returns-clause-events : goal.returns-clause-events
returns-clause-events c = expanded_fit

pub returns-clause-through : goal.returns-clause-through
returns-clause-through c = timed_through
