-- Traffic keys and MACs have their algorithm's length.
use Rattle.std.proofs.Common.{◌≡◌, ℕ, zero, suc, ◌-◌, ◌*◌, ◌/◌, ◌≤◌, ◌==◌, min, Bool, true, false, List, [], ◌∷◌, ◌++◌, length, take, drop, replicate, slice_index, if◌then◌else◌, refl, inl, inr, arith, length-append, length-take}
use Rattle.std.specs.Prelude.{◌⊎◌, bit_xor}
use Rattle.std.specs.Int.{w32, to_be_bytes}
use Rattle.sha1.specs.Sha1 as one
use Rattle.sha2.specs.Sha256 as two
use Rattle.book_base.specs.Algorithms.{mac_length_of}
use Rattle.book_base.specs.declared.algorithm.Algorithm.{Algorithm}
use Rattle.book_base.specs.declared.algorithm.Algorithm.TheVariants.{HmacSha1, AesCmac, HmacSha256}
use Rattle.book_segments.proofs.Fields.{eqb_is}
use Rattle.book_macs.specs.Hmac.{ipad, opad, xored_key, hmac}
use Rattle.book_macs.specs.Ciphers.{xor, sub_shift, mix, chained, next_key, aes_rounds, aes, last_block, cmac_from, cmac, prf}
use Rattle.book_macs.specs.Keys.{derivation_input, key_length, traffic_key, mac}

-- ---- hashes

digest1 : (h : List ℕ) (n : ℕ) → length (one.digest_bytes h n) ≡ 4 * n
unfolding one.digest_bytes
digest1 h zero = refl
digest1 h (suc n) =
    let before = digest1 h n in
    let word : length (to_be_bytes w32 (slice_index h n)) ≡ 4 = refl in
    omega (arith, length-append (one.digest_bytes h n) (to_be_bytes w32 (slice_index h n)))

length-sha1 : (m : List ℕ) → length (one.sha1 m) ≡ 20
unfolding one.sha1
length-sha1 m = digest1 (one.hash_after (one.padded_message m) (length (one.padded_message m) / 64)) 5

digest2 : (h : List ℕ) (n : ℕ) → length (two.digest_bytes h n) ≡ 4 * n
unfolding two.digest_bytes
digest2 h zero = refl
digest2 h (suc n) =
    let before = digest2 h n in
    let word : length (to_be_bytes w32 (slice_index h n)) ≡ 4 = refl in
    omega (arith, length-append (two.digest_bytes h n) (to_be_bytes w32 (slice_index h n)))

length-sha256 : (m : List ℕ) → length (two.sha256 m) ≡ 32
unfolding two.sha256
length-sha256 m = digest2 (two.final_hash two.initial_hash_256 m) 8

-- an HMAC is as long as a hash
length-hmac : (hash : List ℕ → List ℕ) (n : ℕ) (key m : List ℕ) → ((x : List ℕ) → length (hash x) ≡ n) → length (hmac hash key m) ≡ n
unfolding hmac
length-hmac hash n key m long = long (xored_key hash key opad ++ hash (xored_key hash key ipad ++ m))

-- ---- AES and CMAC

pub length-xor : (xs ys : List ℕ) → length (xor xs ys) ≡ min (length xs) (length ys)
length-xor [] ys = omega arith
length-xor (x ∷ xs) [] = omega arith
length-xor (x ∷ xs) (y ∷ ys) = let more = length-xor xs ys in omega arith

length-sub_shift : (state : List ℕ) → length (sub_shift state) ≡ 16
unfolding sub_shift
length-sub_shift state = refl

length-chained : (n : ℕ) (k : List ℕ) (p q r s : ℕ) → length k ≡ 4 * n → length (chained k p q r s) ≡ 4 * n
length-chained n [] p q r s e = e
length-chained n (a ∷ []) p q r s e = absurd (omega arith)
length-chained n (a ∷ b ∷ []) p q r s e = absurd (omega arith)
length-chained n (a ∷ b ∷ c ∷ []) p q r s e = absurd (omega arith)
length-chained zero (a ∷ b ∷ c ∷ d ∷ rest) p q r s e = absurd (omega arith)
length-chained (suc n) (a ∷ b ∷ c ∷ d ∷ rest) p q r s e =
    let more = length-chained n rest (bit_xor a p) (bit_xor b q) (bit_xor c r) (bit_xor d s) (omega arith) in omega arith

length-next_key : (k : List ℕ) (rc : ℕ) → length k ≡ 16 → length (next_key k rc) ≡ 16
unfolding next_key
length-next_key k rc h = length-chained 4 k _ _ _ _ h

length-rounds : (rc : ℕ) (rest k state : List ℕ) → length k ≡ 16 → length (aes_rounds (rc ∷ rest) k state) ≡ 16
unfolding aes_rounds
length-rounds rc [] k state h =
    let key = length-next_key k rc h in
    let block = length-sub_shift state in
    omega (arith, length-xor (next_key k rc) (sub_shift state))
length-rounds rc (r2 ∷ rest) k state h = length-rounds r2 rest (next_key k rc) (xor (next_key k rc) (mix (sub_shift state))) (length-next_key k rc h)

length-aes : (key block : List ℕ) → length key ≡ 16 → length (aes key block) ≡ 16
unfolding aes
length-aes key block h = length-rounds 1 (2 ∷ 4 ∷ 8 ∷ 16 ∷ 32 ∷ 64 ∷ 128 ∷ 27 ∷ 54 ∷ []) key (xor key block) h

length-cmac_from : (key state m : List ℕ) (k : ℕ) → length key ≡ 16 → length (cmac_from key state m k) ≡ 16
unfolding cmac_from
length-cmac_from key state m zero h = length-aes key (xor state (last_block (aes key (replicate 16 0)) m)) h
length-cmac_from key state m (suc k) h = length-cmac_from key (aes key (xor state (take 16 m))) (drop 16 m) k h

length-cmac : (key m : List ℕ) → length key ≡ 16 → length (cmac key m) ≡ 16
unfolding cmac
length-cmac key m h = length-cmac_from key (replicate 16 0) m ((length m - 1) / 16) h

sixteen : (b : Bool) (key other : List ℕ) → (b ≡ true → length key ≡ 16) → length other ≡ 16 → length (if b then key else other) ≡ 16
sixteen true key other own fallback = own refl
sixteen false key other own fallback = fallback

length-prf : (key m : List ℕ) → length (prf key m) ≡ 16
unfolding prf
length-prf key m =
    length-cmac (if length key == 16 then key else cmac (replicate 16 0) key) m
    (sixteen (length key == 16) key (cmac (replicate 16 0) key) (λ t. eqb_is (length key) 16 t) (length-cmac (replicate 16 0) key refl))

-- ---- traffic keys and MACs

pub length-traffic_key : (a : Algorithm) (master c : List ℕ) → length (traffic_key a master c) ≡ key_length a
unfolding traffic_key
length-traffic_key HmacSha1 master c = length-hmac one.sha1 20 master (derivation_input c 160) length-sha1
length-traffic_key AesCmac master c = length-prf master (derivation_input c 128)
length-traffic_key HmacSha256 master c = length-hmac two.sha256 32 master (derivation_input c 256) length-sha256

front : (n m : ℕ) (xs : List ℕ) → n ≤ m → length xs ≡ m → length (take n xs) ≡ n
front n m xs low long = let cut = length-take n xs in omega arith

pub length-mac : (a : Algorithm) (key input : List ℕ) → length key ≡ key_length a → length (mac a key input) ≡ mac_length_of a
unfolding mac
length-mac HmacSha1 key input h = front 12 20 (hmac one.sha1 key input) (omega arith) (length-hmac one.sha1 20 key input length-sha1)
length-mac AesCmac key input h = front 12 16 (cmac key input) (omega arith) (length-cmac key input h)
length-mac HmacSha256 key input h = front 16 32 (hmac two.sha256 key input) (omega arith) (length-hmac two.sha256 32 key input length-sha256)

-- the lengths of a MAC that a written datagram has room for
pub twelve_or_sixteen : (a : Algorithm) → (mac_length_of a ≡ 12) ⊎ (mac_length_of a ≡ 16)
twelve_or_sixteen HmacSha1 = inl refl
twelve_or_sixteen AesCmac = inl refl
twelve_or_sixteen HmacSha256 = inr refl
