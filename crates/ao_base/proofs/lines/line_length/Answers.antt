use Rattle.book_base.specs.Lines.{is_newline}
use Rattle.ao_base.proofs.CutLaws.{first_or_length, first_within}
use Rattle.ao_base.proofs.lines.line_length.Goals as goal

pub returns-clause-length : goal.returns-clause-length
returns-clause-length c = let e = first_or_length is_newline c.args.text.now c.memchr.result c.memchr.ensures in cc

pub returns-clause-within : goal.returns-clause-within
returns-clause-within c = rw c.unwrap_or.ensures (first_within is_newline c.args.text.now c.memchr.result c.memchr.ensures)
