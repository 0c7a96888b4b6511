use Rattle.book_macs.proofs.LengthLaws.{length-mac}
use Rattle.book_macs.proofs.lengths.macs_have_their_length.Goals as goal

pub returns : goal.returns
returns c = length-mac
