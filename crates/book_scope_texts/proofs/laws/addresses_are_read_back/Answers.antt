use Rattle.book_scope_texts.proofs.AddressLaws.{read_back}
use Rattle.book_scope_texts.proofs.laws.addresses_are_read_back.Goals as goal

pub returns : goal.returns
returns c = read_back
