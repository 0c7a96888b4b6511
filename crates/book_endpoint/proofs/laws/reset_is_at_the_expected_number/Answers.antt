use Rattle.book_endpoint.proofs.StepLaws.{reset_closes}
use Rattle.book_endpoint.proofs.laws.reset_is_at_the_expected_number.Goals as goal

pub returns : goal.returns
returns c = reset_closes
