use Rattle.book_scope_texts.proofs.SecretLaws.{row_alike}
use Rattle.book_scope_texts.proofs.key_laws.master_keys_are_not_told.Goals as goal

pub returns : goal.returns
returns c = row_alike
