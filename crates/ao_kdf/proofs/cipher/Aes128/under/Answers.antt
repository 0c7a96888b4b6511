use Rattle.std.proofs.Common.{arith}
use Rattle.ao_kdf.specs.Block.{bytes_of}
use Rattle.ao_kdf.proofs.Rounds.{keys_step}
use Rattle.ao_kdf.proofs.cipher.Aes128.under.Goals as goal

pub loop-i-preserved : goal.loop-i-preserved
loop-i-preserved c =
    keys_step c.loop-i.keys c.loop-i.i c.next_key.result (bytes_of c.args.key) (omega arith) c.loop-i.invariant.1 c.next_key.ensures c.loop-i.invariant.0 c.loop-i.invariant.2
