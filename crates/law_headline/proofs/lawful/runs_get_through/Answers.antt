use Rattle.law_headline.proofs.Through.{few_through, through}
use Rattle.law_headline.proofs.lawful.runs_get_through.Goals as goal

pub returns-clause-given_few : goal.returns-clause-given_few
returns-clause-given_few c = through

pub returns-clause-few : goal.returns-clause-few
returns-clause-few c = few_through
