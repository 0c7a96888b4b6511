use Rattle.std.proofs.Common.{◌≡◌, ◌+◌, ◌/◌, ◌%◌, ◌<◌, ◌^◌, ℕ, List, [], ◌∷◌, ◌++◌, refl, ap₂, ap, ◌∙◌, arith, length, get_or, take, drop, ◌≤◌, drop-cons, add-one}
use Rattle.std.proofs.lemmas.Nat.{xor_shr, xor_mod, xor_comm, xor_lt}
use Rattle.std.proofs.lemmas.List.{take-append-drop, drop-drop, take_all, length-drop}
use Rattle.std.specs.Int.Bits.{xor_assoc}
use Rattle.std.specs.Int.{w32, from_be_bytes}
use Rattle.std.specs.Prelude.{bit_xor}
use Rattle.book_segments.specs.Bytes.{put4}
use Rattle.book_macs.specs.Ciphers.{xor, xtime, mixed}
use Rattle.ao_kdf.specs.Block.{products_of, second_products_of, third_products_of, fourth_products_of}

four : (a b c d p q r s : ℕ) → a ≡ p → b ≡ q → c ≡ r → d ≡ s → ◌≡◌ {A = List ℕ} (a ∷ b ∷ c ∷ d ∷ []) (p ∷ q ∷ r ∷ s ∷ [])
four a b c d p q r s e f g h = cc

place_xor : (x y k : ℕ) → bit_xor x y / 2 ^ k % 2 ^ 8 ≡ bit_xor (x / 2 ^ k % 2 ^ 8) (y / 2 ^ k % 2 ^ 8)
place_xor x y k = ap (λ n. n % 2 ^ 8) (xor_shr x y k) ∙ xor_mod (x / 2 ^ k) (y / 2 ^ k) 8

-- the bytes of a xor are the xors of the bytes
pub put4_xor : (x y : ℕ) → put4 (bit_xor x y) [] ≡ xor (put4 x []) (put4 y [])
unfolding put4
put4_xor x y = four _ _ _ _ _ _ _ _ (place_xor x y 24) (place_xor x y 16) (place_xor x y 8) (xor_mod x y 8)

-- a xor of five, in the orders of the four rows
row_0 : (p q c d k : ℕ) → bit_xor (bit_xor (bit_xor (bit_xor p q) c) d) k ≡ bit_xor k (bit_xor p (bit_xor q (bit_xor c d)))
row_0 p q c d k = rw (xor_comm _ k, xor_assoc p q c, xor_assoc p (bit_xor q c) d, xor_assoc q c d) refl

row_1 : (a p q d k : ℕ) → bit_xor (bit_xor (bit_xor (bit_xor a p) q) d) k ≡ bit_xor k (bit_xor p (bit_xor q (bit_xor d a)))
row_1 a p q d k = rw (xor_comm _ k, xor_assoc a p q, xor_assoc a (bit_xor p q) d, xor_comm a (bit_xor (bit_xor p q) d), xor_assoc p q d, xor_assoc p (bit_xor q d) a, xor_assoc q d a) refl

row_2 : (a b p q k : ℕ) → bit_xor (bit_xor (bit_xor (bit_xor a b) p) q) k ≡ bit_xor k (bit_xor p (bit_xor q (bit_xor a b)))
row_2 a b p q k = rw (xor_comm _ k, xor_assoc (bit_xor a b) p q, xor_comm (bit_xor a b) (bit_xor p q), xor_assoc p q (bit_xor a b)) refl

row_3 : (q b c p k : ℕ) → bit_xor (bit_xor (bit_xor (bit_xor q b) c) p) k ≡ bit_xor k (bit_xor p (bit_xor q (bit_xor b c)))
row_3 q b c p k = rw (xor_comm _ k, xor_comm _ p, xor_assoc q b c) refl

-- the four products of four bytes, with a key, are MixColumns with the key
mixed_rows : (a b c d k : ℕ) → xor (xor (xor (xor (products_of a) (second_products_of b)) (third_products_of c)) (fourth_products_of d)) (put4 k [])
    ≡ xor (put4 k []) (mixed a b c d ∷ mixed b c d a ∷ mixed c d a b ∷ mixed d a b c ∷ [])
unfolding put4
mixed_rows a b c d k = four _ _ _ _ _ _ _ _
    (row_0 (xtime a) (bit_xor (xtime b) b) c d (k / 16777216 % 256))
    (row_1 a (xtime b) (bit_xor (xtime c) c) d (k / 65536 % 256))
    (row_2 a b (xtime c) (bit_xor (xtime d) d) (k / 256 % 256))
    (row_3 (bit_xor (xtime a) a) b c (xtime d) (k % 256))

pub mixed_word : (ta tb tc td k a b c d : ℕ)
    → put4 ta [] ≡ products_of a → put4 tb [] ≡ second_products_of b → put4 tc [] ≡ third_products_of c → put4 td [] ≡ fourth_products_of d
    → put4 (bit_xor (bit_xor (bit_xor (bit_xor ta tb) tc) td) k) [] ≡ xor (put4 k []) (mixed a b c d ∷ mixed b c d a ∷ mixed c d a b ∷ mixed d a b c ∷ [])
mixed_word ta tb tc td k a b c d pa pb pc pd = rw (put4_xor, put4_xor, put4_xor, put4_xor, pa, pb, pc, pd) (mixed_rows a b c d k)

-- four bytes, and the number that they spell
pub spelt : (a b c d : ℕ) → a < 2 ^ 8 → b < 2 ^ 8 → c < 2 ^ 8 → d < 2 ^ 8 → put4 (from_be_bytes w32 (a ∷ b ∷ c ∷ d ∷ [])) [] ≡ a ∷ b ∷ c ∷ d ∷ []
unfolding put4
spelt a b c d ha hb hc hd = four _ _ _ _ _ _ _ _ (omega arith) (omega arith) (omega arith) (omega arith)

-- the words of a block, byte by byte, and of its parts
pub put4_after : (n : ℕ) (rest : List ℕ) → put4 n rest ≡ put4 n [] ++ rest
unfolding put4
put4_after n rest = refl

pub blocks : (a b c d : ℕ) (p q r s : List ℕ) → put4 a [] ≡ p → put4 b [] ≡ q → put4 c [] ≡ r → put4 d [] ≡ s
    → put4 a (put4 b (put4 c (put4 d []))) ≡ p ++ (q ++ (r ++ s))
blocks a b c d p q r s ea eb ec ed = rw (put4_after a, put4_after b, put4_after c, ea, eb, ec, ed) refl

-- four bytes of a list, from a place on
pub four_at : (xs : List ℕ) (i : ℕ) → i + 4 ≤ length xs → take 4 (drop i xs) ≡ get_or xs i 0 ∷ get_or xs (i + 1) 0 ∷ get_or xs (i + 2) 0 ∷ get_or xs (i + 3) 0 ∷ []
four_at xs i h =
    let a : drop i xs ≡ get_or xs i 0 ∷ drop (i + 1) xs = rw add-one (drop-cons xs i 0 (omega arith)) in
    let b : drop (i + 1) xs ≡ get_or xs (i + 1) 0 ∷ drop (i + 2) xs = let e : i + 2 ≡ (i + 1) + 1 = omega arith in rw (e, add-one (i + 1)) (drop-cons xs (i + 1) 0 (omega arith)) in
    let c : drop (i + 2) xs ≡ get_or xs (i + 2) 0 ∷ drop (i + 3) xs = let e : i + 3 ≡ (i + 2) + 1 = omega arith in rw (e, add-one (i + 2)) (drop-cons xs (i + 2) 0 (omega arith)) in
    let d : drop (i + 3) xs ≡ get_or xs (i + 3) 0 ∷ drop (i + 4) xs = let e : i + 4 ≡ (i + 3) + 1 = omega arith in rw (e, add-one (i + 3)) (drop-cons xs (i + 3) 0 (omega arith)) in
    rw (a, b, c, d) refl

-- a list of sixteen is its four quarters
pub quarters : (xs : List ℕ) → length xs ≡ 16 → take 4 (drop 0 xs) ++ (take 4 (drop 4 xs) ++ (take 4 (drop 8 xs) ++ take 4 (drop 12 xs))) ≡ xs
quarters xs h =
    let last : take 4 (drop 12 xs) ≡ drop 12 xs = take_all 4 (drop 12 xs) (omega (arith, length-drop 12 xs)) in
    let third : take 4 (drop 8 xs) ++ drop 12 xs ≡ drop 8 xs = rw (← drop-drop 4 8 xs) (take-append-drop 4 (drop 8 xs)) in
    let second : take 4 (drop 4 xs) ++ drop 8 xs ≡ drop 4 xs = rw (← drop-drop 4 4 xs) (take-append-drop 4 (drop 4 xs)) in
    rw (last, third, second) (take-append-drop 4 xs)

-- a word xored with another, as bytes
pub xored_with : (x y : ℕ) (p q : List ℕ) → put4 x [] ≡ p → put4 y [] ≡ q → put4 (bit_xor x y) [] ≡ xor p q
xored_with x y p q e f = put4_xor x y ∙ ap₂ xor e f

pub xor_bytes : (a b : ℕ) → a < 2 ^ 8 → b < 2 ^ 8 → bit_xor a b < 2 ^ 8
xor_bytes a b = xor_lt 8 a b
