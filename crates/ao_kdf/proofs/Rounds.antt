use Rattle.std.proofs.Common.{◌≢◌, set, inl, inr, get_or-set_other, get_or-set_same, length-set, ◌≡◌, ◌+◌, ◌-◌, ◌<◌, ◌≤◌, ℕ, suc, List, ◌∷◌, refl, arith, length, get_or, drop, drop-cons, add-one}
use Rattle.std.proofs.lemmas.Bool.{cases_lt}
use Rattle.std.specs.Prelude.{slice_index}
use Rattle.ao_kdf.specs.declared.block.Block.{Block}
use Rattle.ao_kdf.specs.Block.{bytes_of}
use Rattle.ao_kdf.specs.Cipher.{IsKeyed, key_at, empty}
use Rattle.ao_kdf.specs.declared.cipher.Aes128.{Aes128}
use Rattle.book_macs.specs.Ciphers.{aes, aes_rounds, round_constants, next_key, xor, mix, sub_shift}

-- before the first round
pub aes_start : (key first block : List ℕ) → first ≡ key → aes key block ≡ aes_rounds round_constants first (xor first block)
unfolding aes
aes_start key first block e = rw e refl

rounds_more : (rcs : List ℕ) (j : ℕ) (k s : List ℕ) → j + 1 < length rcs
    → aes_rounds (drop j rcs) k s ≡ aes_rounds (drop (j + 1) rcs) (next_key k (get_or rcs j 0)) (xor (next_key k (get_or rcs j 0)) (mix (sub_shift s)))
unfolding aes_rounds
rounds_more rcs j k s h =
    let a : drop j rcs ≡ get_or rcs j 0 ∷ drop (j + 1) rcs = rw add-one (drop-cons rcs j 0 (omega arith)) in
    let b : drop (j + 1) rcs ≡ get_or rcs (j + 1) 0 ∷ drop (suc (j + 1)) rcs = drop-cons rcs (j + 1) 0 h in
    rw (a, b) refl

-- one round with MixColumns
pub aes_step : (i j : ℕ) (k next s : List ℕ) → j ≡ i - 1 → 1 ≤ i → i < 10 → next ≡ next_key k (slice_index round_constants j)
    → aes_rounds (drop j round_constants) k s ≡ aes_rounds (drop i round_constants) next (xor next (mix (sub_shift s)))
aes_step i j k next s e l h n =
    let up : i ≡ j + 1 = omega arith in
    let lt : j + 1 < 10 = omega arith in
    rw (n, up) (rounds_more round_constants j k s lt)

-- one more round of a keyed cipher, whose round keys are those of this key
pub aes_round : (cipher : Aes128) (key : List ℕ) (j : ℕ) (s t : Block) → IsKeyed cipher key → j < 9
    → bytes_of t ≡ xor (key_at cipher.keys (j + 1)) (mix (sub_shift (bytes_of s)))
    → aes_rounds (drop j round_constants) (key_at cipher.keys j) (bytes_of s) ≡ aes_rounds (drop (j + 1) round_constants) (key_at cipher.keys (j + 1)) (bytes_of t)
aes_round cipher key j s t h lt e =
    rw e (aes_step (j + 1) j (key_at cipher.keys j) (key_at cipher.keys (j + 1)) (bytes_of s) (omega arith) (omega arith) (omega arith) (h.next j (omega arith)))

-- the last round
pub aes_last : (k next s : List ℕ) → next ≡ next_key k 54 → aes_rounds (drop 9 round_constants) k s ≡ xor next (sub_shift s)
unfolding aes_rounds
aes_last k next s e = rw e refl

-- one more round key
pub keys_step : (keys : List Block) (i : ℕ) (v : Block) (key : List ℕ) → i < 10 → length keys ≡ 11
    → bytes_of v ≡ next_key (key_at keys i) (slice_index round_constants i) → key_at keys 0 ≡ key
    → ((j : ℕ) → j < i → key_at keys (j + 1) ≡ next_key (key_at keys j) (slice_index round_constants j))
    → (key_at (set keys (i + 1) v) 0 ≡ key)
    × (length (set keys (i + 1) v) ≡ 11)
    × ((j : ℕ) → j < i + 1 → key_at (set keys (i + 1) v) (j + 1) ≡ next_key (key_at (set keys (i + 1) v) j) (slice_index round_constants j))
keys_step keys i v key below len e first before =
    let same : (j : ℕ) → j < i + 1 → get_or (set keys (i + 1) v) j empty ≡ get_or keys j empty
    = λ j h. let ne : j ≢ i + 1 = omega arith in get_or-set_other keys (i + 1) j v empty ne in (
      rw (same 0 (omega arith)) first,
      rw length-set len,
      λ j h.
          elim (cases_lt j i) [
            | inl lt ↦ rw (same (j + 1) (omega arith), same j h) (before j lt)
            | inr ge ↦
                let at : j ≡ i = omega arith in
                let here : get_or (set keys (i + 1) v) (j + 1) empty ≡ v = rw at (get_or-set_same keys (i + 1) v empty (omega arith)) in
                rw (here, same j h, at) e
          ],
    )
