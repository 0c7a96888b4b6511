use Rattle.std.proofs.Common.{◌≡◌, ℕ, List, ◌++◌, length}
use Rattle.ao_kdf.specs.Block.{halves_bytes}
use Rattle.ao_kdf.specs.Cipher.{IsKeyed}
use Rattle.ao_kdf.specs.Chain.{goes_on}
use Rattle.ao_kdf.proofs.cmac_hasher.absorbed.Given as goal

abbrev pub invariant-loop-rest : goal.invariant-loop-rest
invariant-loop-rest l = (key more : List ℕ) → IsKeyed l.cipher key
    → goes_on key (halves_bytes l.fn.from) (l.bytes ++ more) ≡ goes_on key (halves_bytes l.state) (l.rest ++ more)

abbrev pub decreases-loop-rest : goal.decreases-loop-rest
decreases-loop-rest l = length l.rest
