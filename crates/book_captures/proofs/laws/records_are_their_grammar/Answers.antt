use Rattle.book_captures.proofs.RecordLaws.{record_read, record_found}
use Rattle.book_captures.proofs.laws.records_are_their_grammar.Goals as goal

pub returns-clause-read : goal.returns-clause-read
returns-clause-read c = λ head text kept rest e. let f = record_found head text kept rest e in (f.one, f.is, f.parts)

pub returns-clause-only : goal.returns-clause-only
returns-clause-only c = record_read
