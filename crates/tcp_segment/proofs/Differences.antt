use Rattle.std.proofs.Common.{◌≡◌, ◌+◌, ◌-◌, ◌%◌, ◌<◌, ◌≤◌, ◌^◌, ℕ, true, false, arith, nat_lt, nat_le, refl, ◌⊎◌, inl, inr, ap, sym, ◌∙◌}
use Rattle.std.proofs.lemmas.Int.{ints}
use Rattle.std.proofs.lemmas.Bool.{cases_lt, lt-ltb, le-ltb, lt-leb, le-leb}
use Rattle.std.specs.Int.{w32, cast_signed}
use Rattle.std.specs.Prelude.{ℤ, pos, negsuc, ◌+ℤ◌, ◌-ℤ◌, ◌*ℤ◌, ◌<ℤ◌, ◌≤ℤ◌, Option, Some, None, if◌then◌else◌, SomeIff, IfSome, IfNone}
use Rattle.book_segments.specs.Meant.{meant, IsAhead, IsInWindow}

ahead_in : (a b : ℕ) (d k : ℤ) → (pos a -ℤ pos b) ≡ (d +ℤ (k *ℤ pos 4294967296)) → negsuc 2147483647 ≤ℤ d → d <ℤ pos 2147483648 → IsAhead a b d
ahead_in a b d k e low high = ((k, e), (low, high))

cast_low : (m : ℕ) → m < 2147483648 → cast_signed w32 m ≡ pos m
cast_low m h = let t : nat_lt m 2147483648 ≡ true = lt-ltb m 2147483648 h in rw t refl

cast_high : (m : ℕ) → m < 4294967296 → 2147483648 ≤ m → cast_signed w32 m ≡ (pos m -ℤ pos 4294967296)
cast_high m f h = let t : nat_lt m 2147483648 ≡ false = le-ltb m 2147483648 h in rw t (omega (arith, ints))

ahead_low : (a b : ℕ) (d : ℤ) → a < 2 ^ 32 → b < 2 ^ 32 → d ≡ pos ((a + (2 ^ 32 - b)) % 2 ^ 32)
    → (a + (2 ^ 32 - b)) % 2 ^ 32 < 2147483648 → (a < b) ⊎ (b ≤ a) → IsAhead a b d
ahead_low a b d ha hb e h (inl w) = ahead_in a b d (negsuc 0) (omega (arith, ints)) (omega (arith, ints)) (omega (arith, ints))
ahead_low a b d ha hb e h (inr w) = ahead_in a b d (pos 0) (omega (arith, ints)) (omega (arith, ints)) (omega (arith, ints))

ahead_high : (a b : ℕ) (d : ℤ) → a < 2 ^ 32 → b < 2 ^ 32 → d ≡ (pos ((a + (2 ^ 32 - b)) % 2 ^ 32) -ℤ pos 4294967296)
    → 2147483648 ≤ (a + (2 ^ 32 - b)) % 2 ^ 32 → (a < b) ⊎ (b ≤ a) → IsAhead a b d
ahead_high a b d ha hb e h (inl w) = ahead_in a b d (pos 0) (omega (arith, ints)) (omega (arith, ints)) (omega (arith, ints))
ahead_high a b d ha hb e h (inr w) = ahead_in a b d (pos 1) (omega (arith, ints)) (omega (arith, ints)) (omega (arith, ints))

pub ahead_of_difference : (a b : ℕ) (d : ℤ) → a < 2 ^ 32 → b < 2 ^ 32 → d ≡ cast_signed w32 ((a + (2 ^ 32 - b)) % 2 ^ 32) → IsAhead a b d
ahead_of_difference a b d ha hb e = elim (cases_lt ((a + (2 ^ 32 - b)) % 2 ^ 32) 2147483648) [
  | inl h ↦ ahead_low a b d ha hb (e ∙ cast_low _ h) h (cases_lt a b)
  | inr h ↦ ahead_high a b d ha hb (e ∙ cast_high _ (omega arith) h) h (cases_lt a b)
]

pub in_window_of : (seq start size : ℕ) → seq < 2 ^ 32 → start < 2 ^ 32 → (seq + (2 ^ 32 - start)) % 2 ^ 32 < size → IsInWindow seq start size
in_window_of seq start size hs ht h = ((seq + (2 ^ 32 - start)) % 2 ^ 32, h, omega arith)

pub of_in_window : (seq start size : ℕ) → seq < 2 ^ 32 → start < 2 ^ 32 → size < 2 ^ 32 → IsInWindow seq start size → (seq + (2 ^ 32 - start)) % 2 ^ 32 < size
of_in_window seq start size hs ht hz (d, lt, e) = omega arith

-- the number meant, where the field is ahead of the expected number or level with it
meant_above : (seq expected ahead : ℕ) → expected < 2 ^ 64 → ahead ≡ (seq + (2 ^ 32 - expected % 4294967296)) % 2 ^ 32 → ahead < 2147483648
    → meant seq expected ≡ Some (expected + ahead)
unfolding meant
meant_above seq expected ahead he e h =
    let same : (seq + 4294967296 - expected % 4294967296) % 4294967296 ≡ ahead = omega arith in
    let low : nat_lt ahead 2147483648 ≡ true = lt-ltb ahead 2147483648 h in
    rw (same, low) refl

-- the number meant, where the field is behind
meant_below : (seq expected ahead back : ℕ) → ahead ≡ (seq + (2 ^ 32 - expected % 4294967296)) % 2 ^ 32 → 2147483648 ≤ ahead
    → back ≡ 4294967296 - ahead → meant seq expected ≡ (if nat_le back expected then Some (expected - back) else None)
unfolding meant
meant_below seq expected ahead back e h eb =
    let same : (seq + 4294967296 - expected % 4294967296) % 4294967296 ≡ ahead = omega arith in
    let high : nat_lt ahead 2147483648 ≡ false = le-ltb ahead 2147483648 h in
    rw (same, high, eb) refl

-- an answer that is a number exactly where it fits
found_where_fits : (r m : Option ℕ) (v : ℕ) → m ≡ Some v → SomeIff r (v < 2 ^ 64) v → IfSome r (λ n. m ≡ Some n)
found_where_fits None m v e s = tt
found_where_fits (Some n) m v e s = e ∙ ap Some (sym s.1)

none_where_not : (r m : Option ℕ) (v : ℕ) → m ≡ Some v → SomeIff r (v < 2 ^ 64) v → IfNone r (IfSome m (λ n. 2 ^ 64 ≤ n))
none_where_not None m v e s = rw e (omega (arith, s))
none_where_not (Some n) m v e s = tt

-- an answer that is a difference exactly where it is not below 0
found_difference : (r m : Option ℕ) (x y : ℕ) → m ≡ (if nat_le y x then Some (x - y) else None) → SomeIff r (y ≤ x) (x - y) → IfSome r (λ n. m ≡ Some n)
found_difference None m x y e s = tt
found_difference (Some n) m x y e s = let t : nat_le y x ≡ true = le-leb y x s.0 in e ∙ rw t (ap Some (sym s.1))

none_difference : (r m : Option ℕ) (x y : ℕ) → m ≡ (if nat_le y x then Some (x - y) else None) → SomeIff r (y ≤ x) (x - y)
    → IfNone r (IfSome m (λ n. 2 ^ 64 ≤ n))
none_difference None m x y e s = let t : nat_le y x ≡ false = lt-leb y x (omega (arith, s)) in rw (e, t) tt
none_difference (Some n) m x y e s = tt

pub above_found : (seq expected ahead : ℕ) (r : Option ℕ) → expected < 2 ^ 64 → ahead ≡ (seq + (2 ^ 32 - expected % 4294967296)) % 2 ^ 32
    → ahead < 2147483648 → SomeIff r (expected + ahead < 2 ^ 64) (expected + ahead) → IfSome r (λ n. meant seq expected ≡ Some n)
above_found seq expected ahead r he e h s = found_where_fits r _ (expected + ahead) (meant_above seq expected ahead he e h) s

pub above_none : (seq expected ahead : ℕ) (r : Option ℕ) → expected < 2 ^ 64 → ahead ≡ (seq + (2 ^ 32 - expected % 4294967296)) % 2 ^ 32
    → ahead < 2147483648 → SomeIff r (expected + ahead < 2 ^ 64) (expected + ahead) → IfNone r (IfSome (meant seq expected) (λ n. 2 ^ 64 ≤ n))
above_none seq expected ahead r he e h s = none_where_not r _ (expected + ahead) (meant_above seq expected ahead he e h) s

pub below_found : (seq expected ahead back : ℕ) (r : Option ℕ) → ahead ≡ (seq + (2 ^ 32 - expected % 4294967296)) % 2 ^ 32 → 2147483648 ≤ ahead
    → back ≡ 4294967296 - ahead → SomeIff r (back ≤ expected) (expected - back) → IfSome r (λ n. meant seq expected ≡ Some n)
below_found seq expected ahead back r e h eb s = found_difference r _ expected back (meant_below seq expected ahead back e h eb) s

pub below_none : (seq expected ahead back : ℕ) (r : Option ℕ) → ahead ≡ (seq + (2 ^ 32 - expected % 4294967296)) % 2 ^ 32 → 2147483648 ≤ ahead
    → back ≡ 4294967296 - ahead → SomeIff r (back ≤ expected) (expected - back) → IfNone r (IfSome (meant seq expected) (λ n. 2 ^ 64 ≤ n))
below_none seq expected ahead back r e h eb s = none_difference r _ expected back (meant_below seq expected ahead back e h eb) s
