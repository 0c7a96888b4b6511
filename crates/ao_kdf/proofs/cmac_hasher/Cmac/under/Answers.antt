use Rattle.ao_kdf.specs.Block.{bytes_of}
use Rattle.ao_kdf.proofs.Chains.{chain_start, zeros}
use Rattle.ao_kdf.proofs.cmac_hasher.Cmac.under.Goals as goal

pub returns : goal.returns
returns c =
    let key = bytes_of c.args.key in
    record { keyed = c.under-cipher.ensures; subkeys = c.of.ensures key c.under-cipher.ensures; same = λ more. rw (c.to_halves.ensures, zeros) (chain_start key more) }
