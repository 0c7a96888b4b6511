-- Traffic keys and MACs are bytes.
use Rattle.std.proofs.Common.{◌≡◌, ℕ, zero, suc, ◌-◌, ◌*◌, ◌/◌, ◌%◌, ◌<◌, ◌==◌, nat_lt, Bool, true, false, List, [], ◌∷◌, ◌++◌, map, length, take, drop, replicate, slice_index, if◌then◌else◌, refl, arith}
use Rattle.std.specs.Prelude.{codes, bit_xor}
use Rattle.std.specs.Int.{w32, to_be_bytes}
use Rattle.std.proofs.lemmas.Nat.{xor_of_8}
use Rattle.sha1.specs.Sha1 as one
use Rattle.sha2.specs.Sha256 as two
use Rattle.book_base.specs.Algorithms.{mac_length_of}
use Rattle.book_base.specs.declared.algorithm.Algorithm.{Algorithm}
use Rattle.book_base.specs.declared.algorithm.Algorithm.TheVariants.{HmacSha1, AesCmac, HmacSha256}
use Rattle.book_segments.specs.Bytes.{put2}
use Rattle.book_segments.specs.Spelling.{AreBytes}
use Rattle.book_segments.proofs.ByteLaws.{bytes_drop, bytes_take, nil_bytes}
use Rattle.book_segments.proofs.Fields.{lt_is}
use Rattle.book_macs.specs.Hmac.{ipad, opad, xored_key, hmac}
use Rattle.book_macs.specs.Ciphers.{xor, xtime, times_bits, times, power_from, inverse, rotate_left, affine, sbox, shifted, sub_shift, mixed, mix, chained, next_key, aes_rounds, round_constants, aes, shift_left, doubled, last_block, cmac_from, cmac, prf}
use Rattle.book_macs.specs.Keys.{derivation_input, untruncated, traffic_key, mac}
use Rattle.book_macs.proofs.LengthLaws.{length-traffic_key, length-mac}

-- numbers below 256, as a record, so that the list is told by the fact
pub record Byted (xs : List ℕ) : Type 0 where
  pub at : AreBytes xs

cons_at : (x : ℕ) (xs : List ℕ) → x < 256 → AreBytes xs → AreBytes (x ∷ xs)
cons_at x xs h g zero = h
cons_at x xs h g (suc i) = g i

cons : (x : ℕ) (xs : List ℕ) → x < 256 → Byted xs → Byted (x ∷ xs)
cons x xs h g = record { at = cons_at x xs h g.at }

tail : (x : ℕ) (xs : List ℕ) → Byted (x ∷ xs) → Byted xs
tail x xs h = record { at = λ i. h.at (suc i) }

nothing : Byted []
nothing = record { at = nil_bytes }

join : (xs ys : List ℕ) → Byted xs → Byted ys → Byted (xs ++ ys)
join [] ys h g = g
join (x ∷ xs) ys h g = cons x (xs ++ ys) (h.at 0) (join xs ys (tail x xs h) g)

taken : (n : ℕ) (xs : List ℕ) → Byted xs → Byted (take n xs)
taken n xs h = record { at = bytes_take xs n h.at }

dropped : (n : ℕ) (xs : List ℕ) → Byted xs → Byted (drop n xs)
dropped n xs h = record { at = bytes_drop xs n h.at }

repeated : (n b : ℕ) → b < 256 → Byted (replicate n b)
repeated zero b low = nothing
repeated (suc n) b low = cons b (replicate n b) low (repeated n b low)

mapped : (f : ℕ → ℕ) (xs : List ℕ) → ((x : ℕ) → x < 256 → f x < 256) → Byted xs → Byted (map f xs)
mapped f [] low h = nothing
mapped f (x ∷ xs) low h = cons (f x) (map f xs) (low x (h.at 0)) (mapped f xs low (tail x xs h))

by_test : {X : Type 0} (P : X → Type 0) (b : Bool) (t u : X) → (b ≡ true → P t) → (b ≡ false → P u) → P (if b then t else u)
by_test P true t u where_true where_false = where_true refl
by_test P false t u where_true where_false = where_false refl

-- ---- hashes

four_bytes : (n : ℕ) → Byted (to_be_bytes w32 n)
four_bytes n = cons _ _ (omega arith) (cons _ _ (omega arith) (cons _ _ (omega arith) (cons _ _ (omega arith) nothing)))

digest1 : (h : List ℕ) (n : ℕ) → Byted (one.digest_bytes h n)
unfolding one.digest_bytes
digest1 h zero = nothing
digest1 h (suc n) = join (one.digest_bytes h n) (to_be_bytes w32 (slice_index h n)) (digest1 h n) (four_bytes (slice_index h n))

sha1_bytes : (m : List ℕ) → Byted (one.sha1 m)
unfolding one.sha1
sha1_bytes m = digest1 (one.hash_after (one.padded_message m) (length (one.padded_message m) / 64)) 5

digest2 : (h : List ℕ) (n : ℕ) → Byted (two.digest_bytes h n)
unfolding two.digest_bytes
digest2 h zero = nothing
digest2 h (suc n) = join (two.digest_bytes h n) (to_be_bytes w32 (slice_index h n)) (digest2 h n) (four_bytes (slice_index h n))

sha256_bytes : (m : List ℕ) → Byted (two.sha256 m)
unfolding two.sha256
sha256_bytes m = digest2 (two.final_hash two.initial_hash_256 m) 8

hmac_bytes : (hash : List ℕ → List ℕ) (key m : List ℕ) → ((x : List ℕ) → Byted (hash x)) → Byted (hmac hash key m)
unfolding hmac
hmac_bytes hash key m bytes = bytes (xored_key hash key opad ++ hash (xored_key hash key ipad ++ m))

-- ---- AES

xtime_low : (b : ℕ) → b < 256 → xtime b < 256
xtime_low b low = by_test (λ x. x < 256) (nat_lt b 128) (2 * b) (bit_xor (2 * b - 256) 27) (λ t. let half = lt_is b 128 t in omega arith) (λ t. xor_of_8 (2 * b - 256) 27 (omega arith) (omega arith))

times_low : (a b k : ℕ) → a < 256 → times_bits a b k < 256
times_low a b zero low = omega arith
times_low a b (suc k) low =
    xor_of_8 (if b % 2 == 1 then a else 0) (times_bits (xtime a) (b / 2) k) (by_test (λ x. x < 256) (b % 2 == 1) a 0 (λ t. low) (λ t. omega arith)) (times_low (xtime a) (b / 2) k (xtime_low a low))

product_low : (a b : ℕ) → a < 256 → times a b < 256
unfolding times
product_low a b low = times_low a b 8 low

power_low : (a p k : ℕ) → a < 256 → p < 256 → power_from a p k < 256
power_low a p zero la lp = product_low p p lp
power_low a p (suc k) la lp = power_low a (times a (times p p)) k la (product_low a (times p p) la)

inverse_low : (a : ℕ) → a < 256 → inverse a < 256
unfolding inverse
inverse_low a low = power_low a a 6 low low

affine_low : (b : ℕ) → b < 256 → affine b < 256
affine_low b low =
    xor_of_8 b _ low (xor_of_8 (rotate_left b 1) _ (omega arith) (xor_of_8 (rotate_left b 2) _ (omega arith) (xor_of_8 (rotate_left b 3) _ (omega arith) (xor_of_8 (rotate_left b 4) 99 (omega arith) (omega arith)))))

sbox_low : (a : ℕ) → a < 256 → sbox a < 256
unfolding sbox
sbox_low a low = affine_low (inverse a) (inverse_low a low)

xor_bytes : (xs ys : List ℕ) → Byted xs → Byted ys → Byted (xor xs ys)
xor_bytes [] ys h g = nothing
xor_bytes (x ∷ xs) [] h g = nothing
xor_bytes (x ∷ xs) (y ∷ ys) h g = cons _ _ (xor_of_8 x y (h.at 0) (g.at 0)) (xor_bytes xs ys (tail x xs h) (tail y ys g))

places_bytes : (s places : List ℕ) → Byted s → Byted (map (λ i. slice_index s i) places)
places_bytes s [] low = nothing
places_bytes s (i ∷ places) low = cons (slice_index s i) _ (low.at i) (places_bytes s places low)

sub_shift_bytes : (state : List ℕ) → Byted state → Byted (sub_shift state)
unfolding sub_shift
sub_shift_bytes state h = places_bytes (map sbox state) shifted (mapped sbox state sbox_low h)

mixed_low : (a b c d : ℕ) → a < 256 → b < 256 → c < 256 → d < 256 → mixed a b c d < 256
mixed_low a b c d la lb lc ld =
    xor_of_8 (xtime a) _ (xtime_low a la) (xor_of_8 (bit_xor (xtime b) b) (bit_xor c d) (xor_of_8 (xtime b) b (xtime_low b lb) lb) (xor_of_8 c d lc ld))

mix_bytes : (xs : List ℕ) → Byted xs → Byted (mix xs)
mix_bytes [] h = nothing
mix_bytes (a ∷ []) h = nothing
mix_bytes (a ∷ b ∷ []) h = nothing
mix_bytes (a ∷ b ∷ c ∷ []) h = nothing
mix_bytes (a ∷ b ∷ c ∷ d ∷ rest) h =
    let la = h.at 0 in
    let lb = h.at 1 in
    let lc = h.at 2 in
    let ld = h.at 3 in
    cons _ _ (mixed_low a b c d la lb lc ld) (cons _ _ (mixed_low b c d a lb lc ld la) (cons _ _ (mixed_low c d a b lc ld la lb) (cons _ _ (mixed_low d a b c ld la lb lc)
    (mix_bytes rest (record { at = λ i. h.at (suc (suc (suc (suc i)))) })))))

chained_bytes : (k : List ℕ) (p q r s : ℕ) → Byted k → p < 256 → q < 256 → r < 256 → s < 256 → Byted (chained k p q r s)
chained_bytes [] p q r s h lp lq lr ls = nothing
chained_bytes (a ∷ []) p q r s h lp lq lr ls = nothing
chained_bytes (a ∷ b ∷ []) p q r s h lp lq lr ls = nothing
chained_bytes (a ∷ b ∷ c ∷ []) p q r s h lp lq lr ls = nothing
chained_bytes (a ∷ b ∷ c ∷ d ∷ rest) p q r s h lp lq lr ls =
    let u = xor_of_8 a p (h.at 0) lp in
    let v = xor_of_8 b q (h.at 1) lq in
    let w = xor_of_8 c r (h.at 2) lr in
    let x = xor_of_8 d s (h.at 3) ls in
    cons _ _ u (cons _ _ v (cons _ _ w (cons _ _ x (chained_bytes rest (bit_xor a p) (bit_xor b q) (bit_xor c r) (bit_xor d s) (record { at = λ i. h.at (suc (suc (suc (suc i)))) }) u v w x))))

next_bytes : (k : List ℕ) (rc : ℕ) → rc < 256 → Byted k → Byted (next_key k rc)
unfolding next_key
next_bytes k rc low h =
    let s13 = sbox_low (slice_index k 13) (h.at 13) in
    chained_bytes k _ _ _ _ h (xor_of_8 (sbox (slice_index k 13)) rc s13 low) (sbox_low (slice_index k 14) (h.at 14)) (sbox_low (slice_index k 15) (h.at 15)) (sbox_low (slice_index k 12) (h.at 12))

rounds_bytes : (rcs k state : List ℕ) → Byted rcs → Byted k → Byted state → Byted (aes_rounds rcs k state)
unfolding aes_rounds
rounds_bytes [] k state low h g = g
rounds_bytes (rc ∷ []) k state low h g = xor_bytes (next_key k rc) (sub_shift state) (next_bytes k rc (low.at 0) h) (sub_shift_bytes state g)
rounds_bytes (rc ∷ r2 ∷ rest) k state low h g =
    let n = next_bytes k rc (low.at 0) h in
    rounds_bytes (r2 ∷ rest) (next_key k rc) (xor (next_key k rc) (mix (sub_shift state))) (tail rc (r2 ∷ rest) low) n
    (xor_bytes (next_key k rc) (mix (sub_shift state)) n (mix_bytes (sub_shift state) (sub_shift_bytes state g)))

constants_low : Byted round_constants
constants_low =
    cons _ _ (omega arith) (cons _ _ (omega arith) (cons _ _ (omega arith) (cons _ _ (omega arith) (cons _ _ (omega arith)
    (cons _ _ (omega arith) (cons _ _ (omega arith) (cons _ _ (omega arith) (cons _ _ (omega arith) (cons _ _ (omega arith) nothing)))))))))

aes_bytes : (key block : List ℕ) → Byted key → Byted block → Byted (aes key block)
unfolding aes
aes_bytes key block h g = rounds_bytes round_constants key (xor key block) constants_low h (xor_bytes key block h g)

-- ---- CMAC

shift_bytes : (l : List ℕ) → Byted l → Byted (shift_left l)
shift_bytes [] h = nothing
shift_bytes (b ∷ []) h = cons _ _ (omega arith) nothing
shift_bytes (b ∷ c ∷ rest) h = let low = h.at 1 in cons _ _ (omega arith) (shift_bytes (c ∷ rest) (tail b (c ∷ rest) h))

doubled_bytes : (l : List ℕ) → Byted l → Byted (doubled l)
unfolding doubled
doubled_bytes l h =
    by_test Byted (nat_lt (slice_index l 0) 128) (shift_left l) (xor (shift_left l) (replicate 15 0 ++ 135 ∷ [])) (λ t. shift_bytes l h)
    (λ t. xor_bytes (shift_left l) (replicate 15 0 ++ 135 ∷ []) (shift_bytes l h) (join (replicate 15 0) (135 ∷ []) (repeated 15 0 (omega arith)) (cons 135 [] (omega arith) nothing)))

last_bytes : (l m : List ℕ) → Byted l → Byted m → Byted (last_block l m)
unfolding last_block
last_bytes l m h g =
    by_test Byted (length m == 16) (xor m (doubled l)) (xor (m ++ 128 ∷ replicate (15 - length m) 0) (doubled (doubled l))) (λ t. xor_bytes m (doubled l) g (doubled_bytes l h))
    (λ t. xor_bytes (m ++ 128 ∷ replicate (15 - length m) 0) (doubled (doubled l)) (join m _ g (cons 128 _ (omega arith) (repeated (15 - length m) 0 (omega arith)))) (doubled_bytes (doubled l) (doubled_bytes l h)))

zeros_low : Byted (replicate 16 0)
zeros_low = repeated 16 0 (omega arith)

cmac_from_bytes : (key state m : List ℕ) (k : ℕ) → Byted key → Byted state → Byted m → Byted (cmac_from key state m k)
unfolding cmac_from
cmac_from_bytes key state m zero h s g =
    aes_bytes key (xor state (last_block (aes key (replicate 16 0)) m)) h (xor_bytes state (last_block (aes key (replicate 16 0)) m) s (last_bytes (aes key (replicate 16 0)) m (aes_bytes key (replicate 16 0) h zeros_low) g))
cmac_from_bytes key state m (suc k) h s g =
    cmac_from_bytes key (aes key (xor state (take 16 m))) (drop 16 m) k h (aes_bytes key (xor state (take 16 m)) h (xor_bytes state (take 16 m) s (taken 16 m g))) (dropped 16 m g)

cmac_bytes : (key m : List ℕ) → Byted key → Byted m → Byted (cmac key m)
unfolding cmac
cmac_bytes key m h g = cmac_from_bytes key (replicate 16 0) m ((length m - 1) / 16) h zeros_low g

prf_bytes : (key m : List ℕ) → Byted key → Byted m → Byted (prf key m)
unfolding prf
prf_bytes key m h g =
    cmac_bytes (if length key == 16 then key else cmac (replicate 16 0) key) m
    (by_test Byted (length key == 16) key (cmac (replicate 16 0) key) (λ t. h) (λ t. cmac_bytes (replicate 16 0) key zeros_low h)) g

-- ---- traffic keys and MACs

two_bytes : (n : ℕ) → Byted (put2 n [])
unfolding put2
two_bytes n = cons _ _ (omega arith) (cons _ _ (omega arith) nothing)

input_bytes : (c : List ℕ) (bits : ℕ) → Byted c → Byted (derivation_input c bits)
input_bytes c bits h =
    cons _ _ (omega arith) (join (codes "TCP-AO") _ (cons _ _ (omega arith) (cons _ _ (omega arith) (cons _ _ (omega arith) (cons _ _ (omega arith) (cons _ _ (omega arith) (cons _ _ (omega arith) nothing))))))
    (join c _ h (two_bytes bits)))

pub traffic_key_bytes : (a : Algorithm) (master c : List ℕ) → AreBytes master → AreBytes c → AreBytes (traffic_key a master c)
unfolding traffic_key
traffic_key_bytes HmacSha1 master c h g = (hmac_bytes one.sha1 master (derivation_input c 160) sha1_bytes).at
traffic_key_bytes AesCmac master c h g = (prf_bytes master (derivation_input c 128) (record { at = h }) (input_bytes c 128 (record { at = g }))).at
traffic_key_bytes HmacSha256 master c h g = (hmac_bytes two.sha256 master (derivation_input c 256) sha256_bytes).at

untruncated_bytes : (a : Algorithm) (key input : List ℕ) → AreBytes key → AreBytes input → AreBytes (untruncated a key input)
untruncated_bytes HmacSha1 key input h g = (hmac_bytes one.sha1 key input sha1_bytes).at
untruncated_bytes AesCmac key input h g = (cmac_bytes key input (record { at = h }) (record { at = g })).at
untruncated_bytes HmacSha256 key input h g = (hmac_bytes two.sha256 key input sha256_bytes).at

pub mac_bytes : (a : Algorithm) (key input : List ℕ) → AreBytes key → AreBytes input → AreBytes (mac a key input)
unfolding mac
mac_bytes a key input h g = bytes_take (untruncated a key input) (mac_length_of a) (untruncated_bytes a key input h g)

-- a MAC under a traffic key fits its place in an option
pub mac_fits : (a : Algorithm) (master c input : List ℕ) → AreBytes master → AreBytes c → AreBytes input
    → (length (mac a (traffic_key a master c) input) ≡ mac_length_of a) × AreBytes (mac a (traffic_key a master c) input)
mac_fits a master c input h g i =
    (length-mac a (traffic_key a master c) input (length-traffic_key a master c), mac_bytes a (traffic_key a master c) input (traffic_key_bytes a master c h g) i)
