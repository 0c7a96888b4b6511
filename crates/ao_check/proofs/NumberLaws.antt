-- The number of a segment.
use Rattle.std.proofs.Common.{◌≡◌, ◌<◌, ◌≤◌, ℕ, ◌+◌, ◌-◌, ◌%◌, ◌^◌, Bool, true, false, Option, Some, None, if◌then◌else◌, refl, sym, arith, nat_lt, nat_le}
use Rattle.std.specs.Prelude.{IfSome, IfNone}
use Rattle.book_segments.specs.Meant.{meant}
use Rattle.book_segments.specs.Segments.{Segment, has, SYN}
use Rattle.book_segments.proofs.Fields.{lt_is}
use Rattle.book_endpoint.specs.Verdicts.{segment_number}

some_is : (a b : ℕ) → Some a ≡ Some b → a ≡ b
some_is a b e = cc

near_ahead : (b c : Bool) (x ahead n : ℕ) → (b ≡ true → ahead < 2147483648) → (if b then Some (x + ahead) else (if c then Some (x - (4294967296 - ahead)) else None)) ≡ Some n → n < x + 2147483648
near_ahead true c x ahead n h e = let s = some_is (x + ahead) n e in let low = h refl in omega arith
near_ahead false true x ahead n h e = let s = some_is (x - (4294967296 - ahead)) n e in omega arith
near_ahead false false x ahead n h e = absurd (cc)

-- the number meant is less than 2^31 past the one expected
pub meant_near : (seq x n : ℕ) → meant seq x ≡ Some n → n < x + 2147483648
unfolding meant
meant_near seq x n e =
    let ahead : ℕ = (seq + 4294967296 - x % 4294967296) % 4294967296 in
    near_ahead (nat_lt ahead 2147483648) (nat_le (4294967296 - ahead) x) x ahead n (λ t. lt_is ahead 2147483648 t) e

decided : (o m : Option ℕ) (x : ℕ) → x ≤ 2 ^ 63 → ((n : ℕ) → m ≡ Some n → n < x + 2147483648) → IfSome o (λ n. m ≡ Some n) → IfNone o (IfSome m (λ n. 2 ^ 64 ≤ n)) → o ≡ m
decided (Some n) m x low near some none = sym some
decided None None x low near some none = refl
decided None (Some n) x low near some none = let h = near n refl in absurd (omega arith)

pub extended : (o : Option ℕ) (seq x : ℕ) → x ≤ 2 ^ 63 → IfSome o (λ n. meant seq x ≡ Some n) → IfNone o (IfSome (meant seq x) (λ n. 2 ^ 64 ≤ n)) → o ≡ meant seq x
extended o seq x low some none = decided o (meant seq x) x low (λ n e. meant_near seq x n e) some none

small : (o m : Option ℕ) (x : ℕ) → x ≤ 2 ^ 63 → ((n : ℕ) → m ≡ Some n → n < x + 2147483648) → IfSome o (λ n. m ≡ Some n) → IfSome o (λ n. n ≤ 2 ^ 63 + 2 ^ 32)
small (Some n) m x low near some = let h = near n some in omega arith
small None m x low near some = some

pub extended_small : (o : Option ℕ) (seq x : ℕ) → x ≤ 2 ^ 63 → IfSome o (λ n. meant seq x ≡ Some n) → IfSome o (λ n. n ≤ 2 ^ 63 + 2 ^ 32)
extended_small o seq x low some = small o (meant seq x) x low (λ n e. meant_near seq x n e) some

pub number_later : (d : Segment) (expected : Option ℕ) (x : ℕ) → expected ≡ Some x → has SYN d ≡ false → segment_number d expected ≡ meant d.sequence x
number_later d expected x e syn = rw (e, syn) refl
