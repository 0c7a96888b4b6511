-- Bytes to numbers and back, and lists of bytes in parts.
use Rattle.std.proofs.Common.{◌≡◌, ℕ, zero, suc, ◌+◌, ◌-◌, ◌*◌, ◌/◌, ◌%◌, ◌<◌, ◌≤◌, List, [], ◌∷◌, ◌++◌, length, take, drop, refl, ap, ◌∙◌, arith, add-one}
use Rattle.std.specs.Prelude.{slice_index, slice_range}
use Rattle.std.proofs.lemmas.List.{length-take, length-drop, get_or-take, get_or-drop, drop_more}
use Rattle.std.proofs.lemmas.List.Folds.{drop_split}
use Rattle.book_segments.specs.Bytes.{put2, put4}
use Rattle.book_segments.specs.Spelling.{AreBytes}

pub two_back : (n : ℕ) → n < 65536 → n / 256 % 256 * 256 + n % 256 ≡ n
two_back n h = omega arith

pub four_back : (n : ℕ) → n < 4294967296 → (n / 16777216 % 256 * 256 + n / 65536 % 256) * 65536 + (n / 256 % 256 * 256 + n % 256) ≡ n
four_back n h = omega arith

-- two bytes, or four, are those of their number
pub put_two : (a b : ℕ) (rest : List ℕ) → a < 256 → b < 256 → put2 (a * 256 + b) rest ≡ a ∷ b ∷ rest
unfolding put2
put_two a b rest h k =
    let high : (a * 256 + b) / 256 % 256 ≡ a = omega arith in
    let low : (a * 256 + b) % 256 ≡ b = omega arith in
    rw (high, low) refl

pub put_four : (a b c d : ℕ) (rest : List ℕ) → a < 256 → b < 256 → c < 256 → d < 256 → put4 ((a * 256 + b) * 65536 + (c * 256 + d)) rest ≡ a ∷ b ∷ c ∷ d ∷ rest
unfolding put4
put_four a b c d rest h k l m =
    let n : ℕ = (a * 256 + b) * 65536 + (c * 256 + d) in
    let e1 : ((a * 256 + b) * 65536 + (c * 256 + d)) / 16777216 % 256 ≡ a = omega arith in
    let e2 : ((a * 256 + b) * 65536 + (c * 256 + d)) / 65536 % 256 ≡ b = omega arith in
    let e3 : ((a * 256 + b) * 65536 + (c * 256 + d)) / 256 % 256 ≡ c = omega arith in
    let e4 : ((a * 256 + b) * 65536 + (c * 256 + d)) % 256 ≡ d = omega arith in
    rw (e1, e2, e3, e4) refl

-- the first k bytes from a place on, and then the rest
abbrev pub front_list : ℕ → ℕ → List ℕ → List ℕ
front_list zero n t = drop n t
front_list (suc k) n t = slice_index t n ∷ front_list k (suc n) t

pub in_front : (k n : ℕ) (t : List ℕ) → n + k ≤ length t → drop n t ≡ front_list k n t
in_front zero n t h = refl
in_front (suc k) n t h =
    let step : drop n t ≡ slice_index t n ∷ drop (n + 1) t = drop_more t n 0 (omega arith) in
    step ∙ ap (λ (l : List ℕ). slice_index t n ∷ l) (ap (λ (m : ℕ). drop m t) (add-one n) ∙ in_front k (suc n) t (omega arith))

pub split_at : (t : List ℕ) (n m : ℕ) → n ≤ m → drop n t ≡ slice_range t n m ++ drop m t
split_at t n m h = drop_split t n m h

pub length_part : (t : List ℕ) (n m : ℕ) → n ≤ m → m ≤ length t → length (slice_range t n m) ≡ m - n
length_part t n m h k = omega (arith, length-take (m - n) (drop n t), length-drop n t)

pub bytes_drop : (t : List ℕ) (n : ℕ) → AreBytes t → AreBytes (drop n t)
bytes_drop t n h = λ i. rw (get_or-drop n t i 0) (h (n + i))

take_within : (t : List ℕ) (n i : ℕ) → AreBytes t → slice_index (take n t) i < 256
take_within t zero i h = omega arith
take_within [] (suc n) i h = omega arith
take_within (x ∷ t) (suc n) zero h = h 0
take_within (x ∷ t) (suc n) (suc i) h = take_within t n i (λ j. h (suc j))

pub bytes_take : (t : List ℕ) (n : ℕ) → AreBytes t → AreBytes (take n t)
bytes_take t n h = λ i. take_within t n i h

pub bytes_part : (t : List ℕ) (n m : ℕ) → AreBytes t → AreBytes (slice_range t n m)
bytes_part t n m h = bytes_take (drop n t) (m - n) (bytes_drop t n h)

pub nil_bytes : AreBytes []
nil_bytes = λ i. omega arith

-- a part of a list is at its place
pub part_at : (t : List ℕ) (n m i : ℕ) → n + i < m → slice_index (slice_range t n m) i ≡ slice_index t (n + i)
part_at t n m i h = get_or-take (m - n) (drop n t) i 0 (omega arith) ∙ get_or-drop n t i 0
