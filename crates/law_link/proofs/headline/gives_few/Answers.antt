use Rattle.law_link.proofs.Giving.{gives_few}
use Rattle.law_link.proofs.headline.gives_few.Goals as goal

pub returns : goal.returns
returns c = gives_few
