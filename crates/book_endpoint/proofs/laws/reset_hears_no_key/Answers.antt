use Rattle.book_endpoint.proofs.StepLaws.{reset_key}
use Rattle.book_endpoint.proofs.laws.reset_hears_no_key.Goals as goal

pub returns : goal.returns
returns c = reset_key
