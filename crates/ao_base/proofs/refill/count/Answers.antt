use Rattle.std.proofs.Common.{arith}
use Rattle.std.proofs.lemmas.List.Elements.{All-from_get_or}
use Rattle.book_base.specs.Hexadecimal.{IsByte}
use Rattle.ao_base.proofs.refill.count.Goals as goal

pub returns-clause-bytes : goal.returns-clause-bytes
returns-clause-bytes c = All-from_get_or IsByte c.args.bytes.now 0 (λ i within. omega (arith, c.type_inv.bytes i))
