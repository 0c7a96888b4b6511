use Rattle.ao_base.proofs.Calls.{quiet_call}
use Rattle.ao_base.proofs.reader.LineReader.next.Goals as goal

pub returns-clause-quiet : goal.returns-clause-quiet
returns-clause-quiet g c = λ left quiet. quiet_call _ _ _ _ c.advance.ensures.0 left c.advance.result c.advance.ensures.1 quiet
