use Rattle.book_why.proofs.PartLaws.{input_parted}
use Rattle.book_why.proofs.text_laws.parts_are_the_input.Goals as goal

pub returns : goal.returns
returns c = input_parted
