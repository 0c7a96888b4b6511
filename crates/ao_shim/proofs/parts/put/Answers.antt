use Rattle.std.proofs.Common.{arith, refl}
use Rattle.tcp_segment.proofs.PartLaws.{drop_spliced, take_spliced}
use Rattle.ao_shim.proofs.parts.put.Goals as goal

pub returns-clause-front : goal.returns-clause-front
returns-clause-front c = rw c.splice.ensures (take_spliced _ c.args.at c.args.part.now c.args.out.now (omega arith) refl)

pub returns-clause-rest : goal.returns-clause-rest
returns-clause-rest c = λ n h. rw c.splice.ensures (drop_spliced n c.args.at c.args.part.now c.args.out.now (omega arith) h)
