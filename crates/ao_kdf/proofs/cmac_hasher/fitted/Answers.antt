use Rattle.std.proofs.Common.{◌≡◌, ◌==◌, length, true, false}
use Rattle.std.proofs.lemmas.Bool.{eq-eqb, ne_eqb}
use Rattle.ao_kdf.proofs.Chains.{zeros}
use Rattle.ao_kdf.proofs.cmac_hasher.fitted.Goals as goal

pub returns-then-key-eq-BLOCK_LEN : goal.returns-then-key-eq-BLOCK_LEN
returns-then-key-eq-BLOCK_LEN c =
    let t : (length c.args.key.now == 16) ≡ true = eq-eqb (length c.args.key.now) 16 c.if-key-eq-BLOCK_LEN.true in rw t c.of.ensures

pub returns-else-key-eq-BLOCK_LEN : goal.returns-else-key-eq-BLOCK_LEN
returns-else-key-eq-BLOCK_LEN c =
    let t : (length c.args.key.now == 16) ≡ false = ne_eqb (length c.args.key.now) 16 c.if-key-eq-BLOCK_LEN.false in rw t (rw zeros at c.message_code.ensures)
