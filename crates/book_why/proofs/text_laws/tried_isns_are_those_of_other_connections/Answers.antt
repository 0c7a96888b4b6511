use Rattle.book_why.proofs.TellingLaws.{isns_tried}
use Rattle.book_why.proofs.text_laws.tried_isns_are_those_of_other_connections.Goals as goal

pub returns : goal.returns
returns c = isns_tried
