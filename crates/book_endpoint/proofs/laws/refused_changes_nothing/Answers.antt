use Rattle.book_endpoint.proofs.StepLaws.{refused_stays}
use Rattle.book_endpoint.proofs.laws.refused_changes_nothing.Goals as goal

pub returns : goal.returns
returns c = refused_stays
