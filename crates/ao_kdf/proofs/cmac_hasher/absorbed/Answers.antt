use Rattle.std.proofs.Common.{◌∙◌}
use Rattle.ao_kdf.specs.Block.{halves_bytes}
use Rattle.ao_kdf.proofs.Chains.{absorb_step}
use Rattle.ao_kdf.proofs.cmac_hasher.absorbed.Goals as goal

pub loop-rest-preserved : goal.loop-rest-preserved
loop-rest-preserved c = λ key more h.
    rw (c.encrypt_halves-state.ensures key h, c.xor.ensures, c.to_halves.ensures, c.of.ensures)
    (c.loop-rest.invariant key more h ∙ absorb_step key (halves_bytes c.loop-rest.state) c.loop-rest.rest.now _ _ more c.split_at.ensures.front c.split_at.ensures.back c.loop-rest-test.true)
