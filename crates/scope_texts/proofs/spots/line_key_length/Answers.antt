use Rattle.book_base.proofs.LineLaws.{place_or_length}
use Rattle.book_scope_texts.specs.Places.{ends_key}
use Rattle.scope_texts.proofs.spots.line_key_length.Goals as goal

pub returns-clause-length : goal.returns-clause-length
returns-clause-length c = let e = place_or_length ends_key c.args.text.now in cc
