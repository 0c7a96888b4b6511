-- How often a slot is among pairs, and a node among nodes.
use Rattle.std.proofs.Common.{◌≡◌, ◌≢◌, ℕ, ◌+◌, ◌<◌, ◌≤◌, List, [], ◌∷◌, ◌++◌, arith}
use Rattle.std.proofs.lemmas.Bool.Decides.{nat_tests}
use Rattle.std.specs.Prelude.{if◌then◌else◌, ◌==◌, nat_lt}
use Rattle.stream_buffers.specs.declared.slot.Slot.{Slot}
use Rattle.stream_buffers.specs.Pool.{uses}

pub once_same : (k : ℕ) → ◌≡◌ {A = ℕ} (if k == k then 1 else 0) 1
once_same k = grind (arith, nat_tests)

pub once_when : (k n : ℕ) → k ≡ n → ◌≡◌ {A = ℕ} (if k == n then 1 else 0) 1
once_when k n e = grind (arith, nat_tests)

pub once_other : (k n : ℕ) → k ≢ n → ◌≡◌ {A = ℕ} (if k == n then 1 else 0) 0
once_other k n ne = grind (arith, nat_tests)

pub once_most : (k n : ℕ) → (if k == n then 1 else 0) ≤ 1
once_most k n = grind (arith, nat_tests)

pub none_first : (k n m : ℕ) → (if k == n then 1 else 0) + m ≡ 0 → k ≢ n
none_first k n m h = λ e. grind (arith, nat_tests)

pub none_rest : (k n m : ℕ) → (if k == n then 1 else 0) + m ≡ 0 → m ≡ 0
none_rest k n m h = omega arith

-- what is counted among the places stands below their number
pub below : (k n m : ℕ) → m ≡ (if nat_lt k n then 1 else 0) → 1 ≤ m → k < n
below k n m e h = grind (arith, nat_tests)

-- what stands at the end isn't counted
pub not_at_end : (n m : ℕ) → m ≡ (if nat_lt n n then 1 else 0) → m ≡ 0
not_at_end n m e = grind (arith, nat_tests)

pub at_most_once : (k n m : ℕ) → m ≡ (if nat_lt k n then 1 else 0) → m ≤ 1
at_most_once k n m e = grind (arith, nat_tests)

module _ {T : Type 0} where
  pub uses-append : (k : ℕ) (ps qs : List (Slot × T)) → uses k (ps ++ qs) ≡ uses k ps + uses k qs
  uses-append k [] qs = omega arith
  uses-append k (p ∷ ps) qs = omega (arith, uses-append k ps qs)

  pub uses-first : (p : Slot × T) (ps : List (Slot × T)) → 1 ≤ uses p.0.index (p ∷ ps)
  uses-first p ps = omega (arith, once_same p.0.index)
