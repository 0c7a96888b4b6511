use Rattle.law_headline.proofs.InputLaws.{events_fit, keyed_fits, shared_fits}
use Rattle.law_headline.proofs.inputs.link_files_fit.Goals as goal

pub returns-clause-keyed : goal.returns-clause-keyed
returns-clause-keyed c = keyed_fits

pub returns-clause-shared : goal.returns-clause-shared
returns-clause-shared c = shared_fits

pub returns-clause-events : goal.returns-clause-events
returns-clause-events c = events_fit
