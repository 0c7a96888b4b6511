-- What a hasher stands for.
use Rattle.std.specs.Prelude.{◌≡◌, ℕ, List, ◌++◌, take}
use Rattle.book_macs.specs.Ciphers.{cmac}
use Rattle.ao_kdf.specs.Block.{halves_bytes}
use Rattle.ao_kdf.specs.Cipher.{IsKeyed}
use Rattle.ao_kdf.specs.Chain.{goes_on}
use Rattle.ao_kdf.specs.Subkeys.{AreSubkeys}
use Rattle.ao_kdf.specs.declared.cmac_hasher.Cmac.{Cmac}

-- the bytes that were fed to a hasher under a key, in whatever pieces: the CMAC of them and whatever comes goes on from here (RFC 4493, 2.4)
pub record StandsFor (hasher : Cmac) (key fed : List ℕ) : Type 0 where
  pub keyed : IsKeyed hasher.cipher key
  pub subkeys : AreSubkeys hasher.subkeys key
  pub same : (more : List ℕ) → cmac key (fed ++ more) ≡ goes_on key (halves_bytes hasher.state) (take hasher.filled hasher.held ++ more)
