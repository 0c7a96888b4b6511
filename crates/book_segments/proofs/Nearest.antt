use Rattle.std.proofs.Common.{◌≡◌, ◌+◌, ◌-◌, ◌/◌, ◌%◌, ◌<◌, ◌≤◌, ◌^◌, ℕ, Bool, true, false, arith, nat_lt, nat_le, refl, ◌⊎◌, inl, inr}
use Rattle.std.proofs.lemmas.Int.{ints}
use Rattle.std.proofs.lemmas.Bool.{cases_lt, ltb-true, ltb-false, leb-true, leb-false}
use Rattle.std.specs.Prelude.{ℤ, pos, negsuc, ◌+ℤ◌, ◌-ℤ◌, ◌*ℤ◌, ◌<ℤ◌, ◌≤ℤ◌, Some, None, if◌then◌else◌}
use Rattle.book_segments.specs.Meant.{meant, IsNearest, Tells}

-- an integer near the expected one, with the lap that makes it congruent
near : (seq expected : ℕ) (n k : ℤ) → n ≡ (pos seq +ℤ (k *ℤ pos 4294967296))
    → negsuc 2147483647 ≤ℤ (n -ℤ pos expected) → (n -ℤ pos expected) <ℤ pos 2147483648 → (n : ℤ) × IsNearest seq expected n
near seq expected n k e low high = (n, ((k, e), (low, high)))

-- the field is ahead by less than half the ring, with or without a lap
near_above : (seq expected a : ℕ) → seq < 2 ^ 32 → a ≡ (seq + 4294967296 - expected % 4294967296) % 4294967296
    → a < 2147483648 → (seq < expected % 4294967296) ⊎ (expected % 4294967296 ≤ seq) → (n : ℤ) × IsNearest seq expected n
near_above seq expected a h e half (inl w) = near seq expected (pos (expected + a)) (pos (expected / 4294967296 + 1)) (omega (arith, ints)) (omega (arith, ints)) (omega (arith, ints))
near_above seq expected a h e half (inr w) = near seq expected (pos (expected + a)) (pos (expected / 4294967296)) (omega (arith, ints)) (omega (arith, ints)) (omega (arith, ints))

-- the field is behind
near_below : (seq expected a : ℕ) → seq < 2 ^ 32 → a ≡ (seq + 4294967296 - expected % 4294967296) % 4294967296
    → 2147483648 ≤ a → (seq < expected % 4294967296) ⊎ (expected % 4294967296 ≤ seq) → (n : ℤ) × IsNearest seq expected n
near_below seq expected a h e half (inl w) = near seq expected (pos expected -ℤ pos (4294967296 - a)) (pos (expected / 4294967296)) (omega (arith, ints)) (omega (arith, ints)) (omega (arith, ints))
near_below seq expected a h e half (inr w) = near seq expected (pos expected -ℤ pos (4294967296 - a)) (pos (expected / 4294967296) -ℤ pos 1) (omega (arith, ints)) (omega (arith, ints)) (omega (arith, ints))

near_either : (seq expected a : ℕ) → seq < 2 ^ 32 → a ≡ (seq + 4294967296 - expected % 4294967296) % 4294967296
    → (a < 2147483648) ⊎ (2147483648 ≤ a) → (n : ℤ) × IsNearest seq expected n
near_either seq expected a h e (inl w) = near_above seq expected a h e w (cases_lt seq (expected % 4294967296))
near_either seq expected a h e (inr w) = near_below seq expected a h e w (cases_lt seq (expected % 4294967296))

pub nearest_some : (seq expected : ℕ) → seq < 2 ^ 32 → (n : ℤ) × IsNearest seq expected n
nearest_some seq expected h =
    let a : ℕ = (seq + 4294967296 - expected % 4294967296) % 4294967296 in
    near_either seq expected a h refl (cases_lt a 2147483648)

pub nearest_only : (seq expected : ℕ) (m n : ℤ) → IsNearest seq expected m → IsNearest seq expected n → m ≡ n
nearest_only seq expected m n ((j, ej), (lm, hm)) ((k, ek), (ln, hn)) = omega (arith, ints)

-- the integer near the expected one, by how far the field is ahead
ahead_of : (seq expected a : ℕ) (n : ℤ) → seq < 2 ^ 32 → IsNearest seq expected n
    → a ≡ (seq + 4294967296 - expected % 4294967296) % 4294967296 → a < 2147483648 → n ≡ pos (expected + a)
ahead_of seq expected a n h ((k, e), (low, high)) ea half = omega (arith, ints)

behind : (seq expected a : ℕ) (n : ℤ) → seq < 2 ^ 32 → IsNearest seq expected n
    → a ≡ (seq + 4294967296 - expected % 4294967296) % 4294967296 → 2147483648 ≤ a → n ≡ (pos expected -ℤ pos (4294967296 - a))
behind seq expected a n h ((k, e), (low, high)) ea half = omega (arith, ints)

told_below : (b : Bool) (expected back : ℕ) (n : ℤ) → nat_le back expected ≡ b → n ≡ (pos expected -ℤ pos back)
    → Tells (if b then Some (expected - back) else None) n
told_below true expected back n t e = omega (arith, ints, leb-true back expected t)
told_below false expected back n t e = omega (arith, ints, leb-false back expected t)

told_by : (b : Bool) (seq expected a : ℕ) (n : ℤ) → seq < 2 ^ 32 → IsNearest seq expected n
    → a ≡ (seq + 4294967296 - expected % 4294967296) % 4294967296 → nat_lt a 2147483648 ≡ b
    → Tells (if b then Some (expected + a) else (if nat_le (4294967296 - a) expected then Some (expected - (4294967296 - a)) else None)) n
told_by true seq expected a n h w e t = ahead_of seq expected a n h w e (ltb-true a 2147483648 t)
told_by false seq expected a n h w e t =
    told_below (nat_le (4294967296 - a) expected) expected (4294967296 - a) n refl (behind seq expected a n h w e (ltb-false a 2147483648 t))

pub nearest_told : (seq expected : ℕ) (n : ℤ) → seq < 2 ^ 32 → IsNearest seq expected n → Tells (meant seq expected) n
unfolding meant
nearest_told seq expected n h w =
    let a : ℕ = (seq + 4294967296 - expected % 4294967296) % 4294967296 in
    told_by (nat_lt a 2147483648) seq expected a n h w refl refl
