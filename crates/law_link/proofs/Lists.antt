-- Bytes by position.
use Rattle.std.proofs.Common.{◌≡◌, ℕ, zero, suc, ◌+◌, ◌<◌, ◌≤◌, List, [], ◌∷◌, ◌++◌, length, take, drop, slice_get, Option, Some, unwrap_or, refl, ap, arith}
use Rattle.book_segments.specs.Received.{bytes_from}

pub slice_get-append : (xs ys : List ℕ) (k b : ℕ) → slice_get xs k ≡ Some b → slice_get (xs ++ ys) k ≡ Some b
slice_get-append [] ys k b e = absurd (cc)
slice_get-append (x ∷ xs) ys zero b e = e
slice_get-append (x ∷ xs) ys (suc k) b e = slice_get-append xs ys k b e

pub slice_get-take : (n : ℕ) (xs : List ℕ) (k b : ℕ) → slice_get (take n xs) k ≡ Some b → slice_get xs k ≡ Some b
slice_get-take zero xs k b e = absurd (cc)
slice_get-take (suc n) [] k b e = absurd (cc)
slice_get-take (suc n) (x ∷ xs) zero b e = e
slice_get-take (suc n) (x ∷ xs) (suc k) b e = slice_get-take n xs k b e

pub slice_get-drop : (n : ℕ) (xs : List ℕ) (k b : ℕ) → slice_get (drop n xs) k ≡ Some b → slice_get xs (n + k) ≡ Some b
slice_get-drop zero xs k b e = let h : 0 + k ≡ k = omega arith in rw h e
slice_get-drop (suc n) [] k b e = absurd (cc)
slice_get-drop (suc n) (x ∷ xs) k b e = let h : suc n + k ≡ suc (n + k) = omega arith in rw h (slice_get-drop n xs k b e)

pub bytes_from-add : (m : ℕ → Option ℕ) (p j k : ℕ) → bytes_from m p (j + k) ≡ bytes_from m p j ++ bytes_from m (p + j) k
bytes_from-add m p zero k =
    let h : 0 + k ≡ k = omega arith in let g : p + 0 ≡ p = omega arith in rw (h, g) refl
bytes_from-add m p (suc j) k =
    let h : suc j + k ≡ suc (j + k) = omega arith in
    let g : p + suc j ≡ suc p + j = omega arith in
    rw (h, g) (ap (λ rest. unwrap_or (m p) 0 ∷ rest) (bytes_from-add m (suc p) j k))

pub length-bytes_from : (m : ℕ → Option ℕ) (p k : ℕ) → length (bytes_from m p k) ≡ k
length-bytes_from m p zero = refl
length-bytes_from m p (suc k) = ap suc (length-bytes_from m (suc p) k)

pub take-bytes_from : (m : ℕ → Option ℕ) (n p k : ℕ) → take n (bytes_from m p k) ≡ bytes_from m p (length (take n (bytes_from m p k)))
take-bytes_from m zero p k = refl
take-bytes_from m (suc n) p zero = refl
take-bytes_from m (suc n) p (suc k) = ap (λ rest. unwrap_or (m p) 0 ∷ rest) (take-bytes_from m n (suc p) k)

pub same-bytes_from : (m n : ℕ → Option ℕ) (p k : ℕ) → ((i : ℕ) → p ≤ i → i < p + k → m i ≡ n i) → bytes_from m p k ≡ bytes_from n p k
same-bytes_from m n p zero h = refl
same-bytes_from m n p (suc k) h =
    let here : m p ≡ n p = h p (omega arith) (omega arith) in
    let rest : bytes_from m (suc p) k ≡ bytes_from n (suc p) k = same-bytes_from m n (suc p) k (λ i low high. h i (omega arith) (omega arith)) in
    cc
