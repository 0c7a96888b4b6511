use Rattle.std.proofs.Common.{◌≡◌, ◌+◌, ◌*◌, ◌/◌, ◌%◌, ◌<◌, ◌≤◌, ◌^◌, ℕ, true, false, nat_lt, List, [], ◌∷◌, refl, arith}
use Rattle.std.proofs.lemmas.Bool.{lt-ltb, le-ltb}
use Rattle.book_segments.specs.Bytes.{put4}
use Rattle.book_macs.specs.Ciphers.{xor, shift_left, doubled}
use Rattle.ao_kdf.proofs.Columns.{blocks}

four : (a b c d p q r s : ℕ) → a ≡ p → b ≡ q → c ≡ r → d ≡ s → ◌≡◌ {A = List ℕ} (a ∷ b ∷ c ∷ d ∷ []) (p ∷ q ∷ r ∷ s ∷ [])
four a b c d p q r s e f g h = cc

-- a word moved left by a bit, with the bit that comes in
shifted_word : (n c : ℕ) → n < 2 ^ 32 → c ≤ 1 → put4 (n * 2 % 4294967296 + c) []
    ≡ ((2 * (n / 16777216 % 256)) % 256 + (n / 65536 % 256) / 128) ∷ ((2 * (n / 65536 % 256)) % 256 + (n / 256 % 256) / 128) ∷ ((2 * (n / 256 % 256)) % 256 + (n % 256) / 128) ∷ ((2 * (n % 256)) % 256 + c) ∷ []
unfolding put4
shifted_word n c h b = four _ _ _ _ _ _ _ _ (omega arith) (omega arith) (omega arith) (omega arith)

shifted_last : (n : ℕ) → n < 2 ^ 32 → put4 (n * 2 % 4294967296) []
    ≡ ((2 * (n / 16777216 % 256)) % 256 + (n / 65536 % 256) / 128) ∷ ((2 * (n / 65536 % 256)) % 256 + (n / 256 % 256) / 128) ∷ ((2 * (n / 256 % 256)) % 256 + (n % 256) / 128) ∷ (2 * (n % 256)) % 256 ∷ []
unfolding put4
shifted_last n h = four _ _ _ _ _ _ _ _ (omega arith) (omega arith) (omega arith) (omega arith)

top : (m : ℕ) → m < 2 ^ 32 → m / 2147483648 ≡ (m / 16777216 % 256) / 128
top m h = omega arith

pub shifted : (a b c d : ℕ) → a < 2 ^ 32 → b < 2 ^ 32 → c < 2 ^ 32 → d < 2 ^ 32
    → put4 (a * 2 % 4294967296 + b / 2147483648) (put4 (b * 2 % 4294967296 + c / 2147483648) (put4 (c * 2 % 4294967296 + d / 2147483648) (put4 (d * 2 % 4294967296) [])))
    ≡ shift_left (put4 a (put4 b (put4 c (put4 d []))))
unfolding put4
shifted a b c d ha hb hc hd =
    rw (
      blocks _ _ _ _ _ _ _ _ (shifted_word a (b / 2147483648) ha (omega arith)) (shifted_word b (c / 2147483648) hb (omega arith)) (shifted_word c (d / 2147483648) hc (omega arith)) (shifted_last d hd),
      top b hb,
      top c hc,
      top d hd,
    )

pub doubled_low : (a b c d : ℕ) → a < 2147483648 → shift_left (put4 a (put4 b (put4 c (put4 d [])))) ≡ doubled (put4 a (put4 b (put4 c (put4 d []))))
unfolding put4 doubled
doubled_low a b c d h = let t : nat_lt (a / 16777216 % 256) 128 ≡ true = lt-ltb _ 128 (omega arith) in rw t refl

pub doubled_high : (a b c d : ℕ) → a < 2 ^ 32 → 2147483648 ≤ a
    → xor (shift_left (put4 a (put4 b (put4 c (put4 d []))))) (put4 0 (put4 0 (put4 0 (put4 135 [])))) ≡ doubled (put4 a (put4 b (put4 c (put4 d []))))
unfolding put4 doubled
doubled_high a b c d f h = let t : nat_lt (a / 16777216 % 256) 128 ≡ false = le-ltb _ 128 (omega arith) in rw t refl
