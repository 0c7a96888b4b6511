use Rattle.book_endpoint.proofs.Passing.{meets, passes}
use Rattle.book_endpoint.proofs.laws.passes_exactly.Goals as goal

pub returns : goal.returns
returns c = λ rows pair known now d p. (meets rows pair known now d p, passes rows pair known now d p)
