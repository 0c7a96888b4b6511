-- What the two subkeys are.
use Rattle.std.specs.Prelude.{◌≡◌, ℕ, List, replicate}
use Rattle.book_macs.specs.Ciphers.{aes, doubled}
use Rattle.ao_kdf.specs.Block.{halves_bytes}
use Rattle.ao_kdf.specs.declared.subkeys.Subkeys.{Subkeys}

-- the subkeys of a key: a block of zeros under the cipher, doubled once and twice (RFC 4493, 2.3)
pub record AreSubkeys (subkeys : Subkeys) (key : List ℕ) : Type 0 where
  pub whole : halves_bytes subkeys.whole ≡ doubled (aes key (replicate 16 0))
  pub padded : halves_bytes subkeys.padded ≡ doubled (doubled (aes key (replicate 16 0)))
