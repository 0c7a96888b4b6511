use Rattle.std.proofs.Common.{arith}
use Rattle.ao_kdf.proofs.Filled.{xored_step}
use Rattle.ao_kdf.proofs.hmac.xor_block.Goals as goal

pub loop-byte-preserved : goal.loop-byte-preserved
loop-byte-preserved c = xored_step c.args.block _ c.loop-byte.byte-index c.args.pad (omega arith) c.loop-byte.invariant
