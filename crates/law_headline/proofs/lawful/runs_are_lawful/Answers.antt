use Rattle.law_headline.proofs.LawfulRuns.{lawful}
use Rattle.law_headline.proofs.lawful.runs_are_lawful.Goals as goal

pub returns : goal.returns
returns c = λ setup events fits all. lawful setup fits events all
