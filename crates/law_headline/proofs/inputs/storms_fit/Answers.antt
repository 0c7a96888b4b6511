use Rattle.law_headline.proofs.StormFits.{storm_fits, storm_tables, events_fit}
use Rattle.law_headline.proofs.Through.{storm_through}
use Rattle.law_headline.proofs.inputs.storms_fit.Goals as goal

pub returns-clause-link : goal.returns-clause-link
returns-clause-link c = storm_fits

pub returns-clause-tables : goal.returns-clause-tables
returns-clause-tables c = storm_tables

pub returns-clause-events : goal.returns-clause-events
returns-clause-events c = events_fit

pub returns-clause-through : goal.returns-clause-through
returns-clause-through c = storm_through
