-- The number that a sequence field means, found around the ring.
use Rattle.std.proofs.Common.{◌≡◌, ℕ, suc, ◌+◌, ◌-◌, ◌*◌, ◌%◌, ◌^◌, ◌<◌, ◌≤◌, Bool, true, false, Option, Some, None, refl, sym, ap, ◌∙◌, arith, subst}
use Rattle.std.proofs.lemmas.Int.{ints}
use Rattle.std.proofs.lemmas.Bool.{lt-ltb, le-leb, ltb-true, leb-true}
use Rattle.std.proofs.lemmas.Bool.Decides.{nat_tests}
use Rattle.std.specs.Int.{w64, FitsUnsigned}
use Rattle.std.specs.Prelude.{nat_lt, nat_le, ◌==◌, ◌&&◌, ◌||◌, ◌↔◌, IsTrue, SomeIff, unsigned_abs, if◌then◌else◌, ℤ, pos, ◌+ℤ◌, ◌-ℤ◌, ◌<ℤ◌}
use Rattle.book_segments.specs.Meant.{meant, IsNearest, Tells, IsAhead, IsInWindow}
use Rattle.book_segments.proofs.Nearest.{nearest_some, nearest_told}
use Rattle.book_endpoint.specs.Hearing as hearing

told_some : (m : Option ℕ) (n : ℕ) (z : ℤ) → m ≡ Some n → Tells m z → z ≡ pos n
told_some m n z e t = subst (λ k. Tells k z) e t

-- the number meant is the nearest one
pub meant_nearest : (seq x n : ℕ) → seq < 2 ^ 32 → meant seq x ≡ Some n → IsNearest seq x (pos n)
meant_nearest seq x n h e =
    let near = nearest_some seq x h in
    subst (IsNearest seq x) (told_some (meant seq x) n near.0 e (nearest_told seq x near.0 h near.1)) near.1

-- ---- an acknowledgement

-- the integer so far ahead is the nearest one
ahead_near : (a low lap x : ℕ) (d : ℤ) → x ≡ lap * 4294967296 + low → IsAhead a low d → IsNearest a x (pos x +ℤ d)
ahead_near a low lap x d e ((k, ek), (least, most)) = ((pos lap -ℤ k, omega (arith, ints)), (omega (arith, ints), omega (arith, ints)))

sum_told : (r m : Option ℕ) (z : ℤ) → z <ℤ pos (2 ^ 64) → SomeIff r (FitsUnsigned w64 z) (unsigned_abs z) → Tells m z → r ≡ m
sum_told (Some v) (Some n) z high (fits, e) t = ap Some (e ∙ ap unsigned_abs t)
sum_told (Some v) None z high (fits, e) t = absurd (omega (arith, ints, fits.0, t))
sum_told None (Some n) z high out t = absurd (out (omega (arith, ints, t), high))
sum_told None None z high out t = refl

-- the number so far ahead of another is the one meant near that
pub ahead_is : (r : Option ℕ) (a low lap x : ℕ) (d by : ℤ) → a < 2 ^ 32 → x ≡ lap * 4294967296 + low → x ≤ 2 ^ 63 + 1 → IsAhead a low d → by ≡ d
    → SomeIff r (FitsUnsigned w64 (pos x +ℤ by)) (unsigned_abs (pos x +ℤ by)) → r ≡ meant a x
ahead_is r a low lap x d by h e small ahead same sum =
    sum_told r (meant a x) (pos x +ℤ by) (omega (arith, ints, ahead.1.1)) sum (subst (λ z. Tells (meant a x) (pos x +ℤ z)) (sym same) (nearest_told a x (pos x +ℤ d) h (ahead_near a low lap x d e ahead)))

-- ---- a window

-- the low half is the one expected exactly where the number is
same_low : (seq low lap x n : ℕ) → x ≡ lap * 4294967296 + low → low < 2 ^ 32 → seq < 2 ^ 32 → IsNearest seq x (pos n) → seq ≡ low → n ≡ x
same_low seq low lap x n e hl hs ((k, ek), (least, most)) s = omega (arith, ints)

low_same : (seq low lap x n : ℕ) → x ≡ lap * 4294967296 + low → low < 2 ^ 32 → seq < 2 ^ 32 → IsNearest seq x (pos n) → n ≡ x → seq ≡ low
low_same seq low lap x n e hl hs ((k, ek), (least, most)) s = omega (arith, ints)

-- a number of the window around the ring is one by value
low_end : (q seq low lap x n j w : ℕ) → x ≡ lap * 4294967296 + low → q ≡ (seq + j) % 4294967296 → j ≤ 65537 → w < 65536 → IsNearest seq x (pos n) → IsInWindow q low w → x ≤ n + j
low_end q seq low lap x n j w e eq hj hw ((k, ek), (least, most)) (d, inside, ed) = omega (arith, ints)

high_end : (q seq low lap x n j w : ℕ) → x ≡ lap * 4294967296 + low → q ≡ (seq + j) % 4294967296 → j ≤ 65537 → w < 65536 → IsNearest seq x (pos n) → IsInWindow q low w → n + j < x + w
high_end q seq low lap x n j w e eq hj hw ((k, ek), (least, most)) (d, inside, ed) = omega (arith, ints)

-- and a number of the window by value is one around the ring
around : (q seq low lap x n j w : ℕ) → x ≡ lap * 4294967296 + low → q ≡ (seq + j) % 4294967296 → IsNearest seq x (pos n) → x ≤ n + j → n + j < x + w → IsInWindow q low w
around q seq low lap x n j w e eq ((k, ek), (least, most)) above below = (n + j - x, omega arith, omega (arith, ints))

alike : (a b : Bool) → (a ≡ true → b ≡ true) → (b ≡ true → a ≡ true) → a ≡ b
alike true b f g = sym (f refl)
alike false true f g = g refl
alike false false f g = refl

and_true : (a b : Bool) → (a && b) ≡ true → (a ≡ true) × (b ≡ true)
and_true true b e = (refl, e)
and_true false b e = absurd (cc)

inside : (m x y : ℕ) → x ≤ m → m < y → hearing.in_range m x y ≡ true
inside m x y low high = let t : nat_le x m ≡ true = le-leb x m low in let u : nat_lt m y ≡ true = lt-ltb m y high in rw (t, u) refl

low_of : (m x y : ℕ) → hearing.in_range m x y ≡ true → x ≤ m
low_of m x y t = leb-true x m (and_true (nat_le x m) (nat_lt m y) t).0

high_of : (m x y : ℕ) → hearing.in_range m x y ≡ true → m < y
high_of m x y t = ltb-true m y (and_true (nat_le x m) (nat_lt m y) t).1

-- the test around the ring is the one by value
pub window_test : (b : Bool) (q seq low lap x n j w : ℕ) → x ≡ lap * 4294967296 + low → seq < 2 ^ 32 → q ≡ (seq + j) % 4294967296 → j ≤ 65537 → w < 65536
    → meant seq x ≡ Some n → (IsTrue b ↔ IsInWindow q low w) → b ≡ hearing.in_range (n + j) x (x + w)
window_test b q seq low lap x n j w e hs eq hj hw m (to, from) =
    let near = meant_nearest seq x n hs m in
    alike b (hearing.in_range (n + j) x (x + w))
    (λ t. inside (n + j) x (x + w) (low_end q seq low lap x n j w e eq hj hw near (to t)) (high_end q seq low lap x n j w e eq hj hw near (to t)))
    (λ t. from (around q seq low lap x n j w e eq near (low_of (n + j) x (x + w) t) (high_of (n + j) x (x + w) t)))

eq_of : (a b : ℕ) → (a == b) ≡ true → a ≡ b
eq_of a b t = grind (arith, nat_tests)

test_of : (a b : ℕ) → a ≡ b → (a == b) ≡ true
test_of a b e = grind (arith, nat_tests)

-- the test of the low halves is the one of the numbers
pub expected_test : (seq low lap x n : ℕ) → x ≡ lap * 4294967296 + low → low < 2 ^ 32 → seq < 2 ^ 32 → meant seq x ≡ Some n → (seq == low) ≡ (n == x)
expected_test seq low lap x n e hl hs m =
    let near = meant_nearest seq x n hs m in
    alike (seq == low) (n == x) (λ t. test_of n x (same_low seq low lap x n e hl hs near (eq_of seq low t))) (λ t. test_of seq low (low_same seq low lap x n e hl hs near (eq_of n x t)))

-- nothing lies in a window of 0
nothing_within : (m x w : ℕ) → w ≡ 0 → hearing.in_range m x (x + w) ≡ false
nothing_within m x w z = alike (hearing.in_range m x (x + w)) false (λ t. absurd (omega (arith, z, low_of m x (x + w) t, high_of m x (x + w) t))) (λ t. absurd (cc))

neither : (a b : Bool) → a ≡ false → b ≡ false → (a || b) ≡ false
neither a b p q = rw (p, q) refl

not_empty : (w : ℕ) → (w ≡ 0 → ⊥) → (w == 0) ≡ false
not_empty w never = alike (w == 0) false (λ t. absurd (never (eq_of w 0 t))) (λ t. absurd (cc))

fits_point : (b : Bool) (n m x w : ℕ) → (w == 0) ≡ false → m ≡ n → b ≡ hearing.in_range m x (x + w) → b ≡ (if w == 0 then n == x else hearing.in_range n x (x + w))
fits_point b n m x w t e p = rw t (p ∙ ap (λ z. hearing.in_range z x (x + w)) e)

-- a segment without numbers is acceptable where its number is in the window
pub fits_none : (b : Bool) (n m l x w : ℕ) → l ≡ 0 → (w ≡ 0 → ⊥) → m ≡ n → b ≡ hearing.in_range m x (x + w) → b ≡ hearing.fits_window n l x w
fits_none b n m l x w empty never e p = subst (λ (z : ℕ). b ≡ hearing.fits_window n z x w) (sym empty) (fits_point b n m x w (not_empty w never) e p)

fits_by : (t a b : Bool) (n k x w : ℕ) → (w == 0) ≡ t → a ≡ hearing.in_range n x (x + w) → b ≡ hearing.in_range (n + k) x (x + w) → (a || b) ≡ (if t then false else (hearing.in_range n x (x + w) || hearing.in_range (n + k) x (x + w)))
fits_by true a b n k x w z p q = neither a b (p ∙ nothing_within n x w (eq_of w 0 z)) (q ∙ nothing_within (n + k) x w (eq_of w 0 z))
fits_by false a b n k x w z p q = rw (p, q) refl

-- a segment with numbers is acceptable where its first or its last is in the window
fits_some : (a b : Bool) (n m l x w : ℕ) → 0 < l → m ≡ n → a ≡ hearing.in_range m x (x + w) → b ≡ hearing.in_range (n + (l - 1)) x (x + w) → (a || b) ≡ hearing.fits_window n l x w
fits_some a b n m l x w h e p q =
    let whole : suc (l - 1) ≡ l = omega (arith, h) in
    subst (λ (z : ℕ). (a || b) ≡ hearing.fits_window n z x w) whole (fits_by (w == 0) a b n (l - 1) x w refl (p ∙ ap (λ z. hearing.in_range z x (x + w)) e) q)

or_first : (a b : Bool) → a ≡ true → a ≡ (a || b)
or_first true b t = refl
or_first false b t = absurd (cc)

or_second : (a b : Bool) → a ≡ false → b ≡ (a || b)
or_second true b t = absurd (cc)
or_second false b t = refl

pub fits_first : (a : Bool) (n m l x w : ℕ) → 0 < l → m ≡ n → a ≡ hearing.in_range m x (x + w) → a ≡ true → a ≡ hearing.fits_window n l x w
fits_first a n m l x w h e p t =
    let last = hearing.in_range (n + (l - 1)) x (x + w) in or_first a last t ∙ fits_some a last n m l x w h e p refl

pub fits_last : (a b : Bool) (n m l x w : ℕ) → 0 < l → m ≡ n → a ≡ hearing.in_range m x (x + w) → b ≡ hearing.in_range (n + (l - 1)) x (x + w) → a ≡ false → b ≡ hearing.fits_window n l x w
fits_last a b n m l x w h e p q t = or_second a b t ∙ fits_some a b n m l x w h e p q
