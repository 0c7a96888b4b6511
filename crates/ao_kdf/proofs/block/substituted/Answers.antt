use Rattle.std.proofs.Common.{arith}
use Rattle.ao_kdf.proofs.Columns.{spelt}
use Rattle.ao_kdf.proofs.block.substituted.Goals as goal

pub returns : goal.returns
returns c = rw (c.from_be_bytes.ensures, spelt c.substitute.result c.substitute-2.result c.substitute-3.result c.substitute-4.result (omega arith) (omega arith) (omega arith) (omega arith)) (cc)
