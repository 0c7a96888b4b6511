use Rattle.book_base.specs.Lines.{is_blank}
use Rattle.ao_base.proofs.CutLaws.{first_or_length, first_within}
use Rattle.ao_base.proofs.lines.word_length.Goals as goal

pub returns-clause-length : goal.returns-clause-length
returns-clause-length c = let e = first_or_length is_blank c.args.line.now c.memchr3.result c.memchr3.ensures in cc

pub returns-clause-within : goal.returns-clause-within
returns-clause-within c = rw c.unwrap_or.ensures (first_within is_blank c.args.line.now c.memchr3.result c.memchr3.ensures)
