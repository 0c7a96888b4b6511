use Rattle.std.proofs.Common.{◌≡◌, ℕ, ◌+◌, ◌<◌, length}
use Rattle.std.specs.Prelude.{slice_index}
use Rattle.book_macs.specs.Ciphers.{next_key, round_constants}
use Rattle.ao_kdf.specs.Block.{bytes_of}
use Rattle.ao_kdf.specs.Cipher.{key_at}
use Rattle.ao_kdf.proofs.cipher.Aes128.under.Given as goal

abbrev pub invariant-loop-i : goal.invariant-loop-i
invariant-loop-i l = (key_at l.keys 0 ≡ bytes_of l.fn.key)
    × (length l.keys ≡ 11)
    × ((j : ℕ) → j < l.i → key_at l.keys (j + 1) ≡ next_key (key_at l.keys j) (slice_index round_constants j))
