use Rattle.book_captures.proofs.BlockLaws.{block_read, block_found}
use Rattle.book_captures.proofs.laws.blocks_are_their_grammar.Goals as goal

pub returns-clause-read : goal.returns-clause-read
returns-clause-read c = λ section text block rest e. let f = block_found section text block rest e in (f.one, f.is, f.parts)

pub returns-clause-only : goal.returns-clause-only
returns-clause-only c = block_read
