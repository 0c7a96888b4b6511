-- A block is filled with a key, and xored with a pad.
use Rattle.std.proofs.Common.{◌≡◌, ◌∙◌, ap, ◌++◌, ◌∷◌, ◌+◌, ◌<◌, List, [], ℕ, length, ◌≤◌, take, drop, map, set, get_or, refl, nat_lt, true, false, arith, append_assoc, add-one, drop-cons}
use Rattle.std.proofs.lemmas.List.{drop-replicate, take_more, map-append, length-take, length-map}
use Rattle.std.proofs.Math.Seq.{get_or-append_seam, set-append_seam}
use Rattle.std.specs.Prelude.{replicate, bit_xor}
use Rattle.book_macs.specs.Hmac.{ipad, opad, block_key, xored_key, hmac}

-- a key that isn't longer than a block, over a block of zeros
pub filled : (hash : List ℕ → List ℕ) (key : List ℕ) → length key ≤ 64 → key ++ drop (length key) (replicate 64 0) ≡ block_key hash key
unfolding block_key
filled hash key h = let e : nat_lt 64 (length key) ≡ false = grind arith in rw (e, drop-replicate {X = ℕ} (length key) 64 0) refl

seam : (xs : List ℕ) (y : ℕ) (ys : List ℕ) (i : ℕ) (f : ℕ → ℕ) → length xs ≡ i
    → set (xs ++ y ∷ ys) i (f (get_or (xs ++ y ∷ ys) i 0)) ≡ xs ++ f y ∷ ys
seam xs y ys i f h = rw (← h, get_or-append_seam xs y ys 0, set-append_seam) refl

-- one more byte of the block is xored
pub xored_step : (block now : List ℕ) (i pad : ℕ) → i < length block
    → now ≡ map (λ b. bit_xor b pad) (take i block) ++ drop i block
    → set now i (bit_xor (get_or now i 0) pad) ≡ map (λ b. bit_xor b pad) (take (i + 1) block) ++ drop (i + 1) block
xored_step block now i pad h e =
    let cut : drop i block ≡ get_or block i 0 ∷ drop (i + 1) block = rw add-one (drop-cons block i 0 h) in
    let len : length (map (λ b. bit_xor b pad) (take i block)) ≡ i = rw (length-map, length-take) (grind arith) in
    let more : take (i + 1) block ≡ take i block ++ get_or block i 0 ∷ [] = take_more block i 0 h in
    rw (e, more, map-append, append_assoc, cut) (seam _ _ _ i (λ b. bit_xor b pad) len)

-- the hash of a longer key, over a block of zeros
pub hashed_first : (hash : List ℕ → List ℕ) (key digest : List ℕ) (n : ℕ) → 64 < length key → digest ≡ hash key → length digest ≡ n
    → digest ++ drop n (replicate 64 0) ≡ block_key hash key
unfolding block_key
hashed_first hash key digest n long is size =
    let e : nat_lt 64 (length key) ≡ true = grind arith in
    rw (e, ← is, size, drop-replicate {X = ℕ} n 64 0) refl

-- the hash of the inner hash is the HMAC
pub outer_hash : (hash : List ℕ → List ℕ) (key fed inner outer : List ℕ) → inner ≡ hash (xored_key hash key ipad ++ fed) → outer ≡ hash (xored_key hash key opad ++ inner)
    → outer ≡ hmac hash key fed
unfolding hmac
outer_hash hash key fed inner outer one two = two ∙ ap (λ (l : List ℕ). hash (xored_key hash key opad ++ l)) one
