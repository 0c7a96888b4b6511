use Rattle.book_scope_texts.proofs.PlaceLaws.{place_told}
use Rattle.book_scope_texts.proofs.key_laws.told_places_are_theirs.Goals as goal

pub returns : goal.returns
returns c = place_told
