-- Lists that are cut.
use Rattle.std.proofs.Common.{◌≡◌, ℕ, zero, suc, ◌+◌, List, [], ◌∷◌, take, drop, refl, ap, arith}

-- nothing is taken of nothing
pub take_none : (n : ℕ) → [] ≡ take {A = ℕ} n []
take_none zero = refl
take_none (suc n) = refl

-- what is taken and then dropped is dropped and then taken
pub take_drop : (m n k : ℕ) (xs : List ℕ) → m ≡ n + k → drop k (take m xs) ≡ take n (drop k xs)
take_drop m n zero xs e = let same : m ≡ n = omega arith in ap (λ (i : ℕ). take i xs) same
take_drop zero n (suc k) xs e = absurd (omega arith)
take_drop (suc m) n (suc k) [] e = take_none n
take_drop (suc m) n (suc k) (x ∷ xs) e = take_drop m n k xs (omega arith)
