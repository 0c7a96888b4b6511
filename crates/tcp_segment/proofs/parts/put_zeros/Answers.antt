use Rattle.std.proofs.Common.{arith, ◌-◌, ℕ}
use Rattle.std.proofs.lemmas.List.{length-replicate}
use Rattle.tcp_segment.proofs.PartLaws.{drop_spliced, take_spliced}
use Rattle.tcp_segment.proofs.parts.put_zeros.Goals as goal

pub returns-clause-front : goal.returns-clause-front
returns-clause-front c = rw c.splice_zeros.ensures (take_spliced _ c.args.at _ c.args.out.now (omega arith) (omega (arith, length-replicate {A = ℕ} (c.args.end - c.args.at) 0)))

pub returns-clause-rest : goal.returns-clause-rest
returns-clause-rest c = rw c.splice_zeros.ensures (drop_spliced _ c.args.at _ c.args.out.now (omega arith) (omega (arith, length-replicate {A = ℕ} (c.args.end - c.args.at) 0)))
