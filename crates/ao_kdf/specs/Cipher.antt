-- What a cipher stands for.
use Rattle.std.specs.Prelude.{◌≡◌, ℕ, ◌+◌, ◌<◌, List, slice_index, slice_index_or}
use Rattle.book_macs.specs.Ciphers.{next_key, round_constants}
use Rattle.ao_kdf.specs.Block.{bytes_of}
use Rattle.ao_kdf.specs.declared.block.Block.{Block}
use Rattle.ao_kdf.specs.declared.cipher.Aes128.{Aes128}

-- the block of zeros that stands where there is no round key
abbrev pub empty : Block
empty = record { first = 0; second = 0; third = 0; fourth = 0 }

-- the bytes of a round key (FIPS 197, 5.2)
abbrev pub key_at : List Block → ℕ → List ℕ
key_at keys i = bytes_of (slice_index_or keys i empty)

-- the cipher has the round keys of this key (FIPS 197, 5.2)
pub record IsKeyed (cipher : Aes128) (key : List ℕ) : Type 0 where
  pub first : key_at cipher.keys 0 ≡ key
  pub next : (i : ℕ) → i < 10 → key_at cipher.keys (i + 1) ≡ next_key (key_at cipher.keys i) (slice_index round_constants i)
