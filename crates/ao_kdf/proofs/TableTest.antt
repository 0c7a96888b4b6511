use Rattle.std.proofs.Common.{◌≡◌, ◌<◌, ◌==◌, ◌&&◌, ℕ, zero, suc, Bool, true, List, [], ◌∷◌, get_or, refl, ap, ap₂, ◌∙◌, arith, eqb-true, inl, inr}
use Rattle.std.proofs.lemmas.Bool.{cases_eq, and_parts}
use Rattle.book_segments.specs.Bytes.{put4, same_bytes}
use Rattle.book_macs.specs.Ciphers.{sbox, inverse, times}
use Rattle.ao_kdf.specs.Block.{products_of, second_products_of, third_products_of, fourth_products_of}
use Rattle.ao_kdf.specs.declared.table.TheConstants.{PRODUCTS}

same_true : (xs ys : List ℕ) → same_bytes xs ys ≡ true → xs ≡ ys
same_true [] [] h = refl
same_true [] (y ∷ ys) h = absurd (cc)
same_true (x ∷ xs) [] h = absurd (cc)
same_true (x ∷ xs) (y ∷ ys) h =
    let p = and_parts (x == y) (same_bytes xs ys) h in ap₂ (λ (z : ℕ) (zs : List ℕ). z ∷ zs) (eqb-true x y p.0) (same_true xs ys p.1)

-- a test holds at all numbers below n
unfoldable all_below : (ℕ → Bool) → ℕ → Bool
all_below f zero = true
all_below f (suc n) = f n && all_below f n

all_at : (f : ℕ → Bool) (n : ℕ) → all_below f n ≡ true → (b : ℕ) → b < n → f b ≡ true
unfolding all_below
all_at f zero h b lt = absurd (omega arith)
all_at f (suc n) h b lt =
    let both = and_parts (f n) (all_below f n) h in
    elim (cases_eq b n) [ inl same ↦ rw same both.0 | inr other ↦ all_at f n both.1 b (omega arith) ]

-- the first table, and the three turned ones
abbrev FIRST : List ℕ
FIRST = get_or PRODUCTS 0 []

abbrev SECOND : List ℕ
SECOND = get_or PRODUCTS 1 []

abbrev THIRD : List ℕ
THIRD = get_or PRODUCTS 2 []

abbrev FOURTH : List ℕ
FOURTH = get_or PRODUCTS 3 []

-- the table has the products of a byte's substitute at this byte
abbrev is_right_at : ℕ → Bool
is_right_at x = same_bytes (put4 (get_or FIRST x 0) []) (products_of (sbox x))

-- the checker computes the rule of the table at all 256 bytes
all_entries : all_below is_right_at 256 ≡ true
unfolding all_below put4 sbox inverse times
all_entries = refl

pub entry_at : (x : ℕ) → x < 256 → put4 (get_or FIRST x 0) [] ≡ products_of (sbox x)
entry_at x h = same_true _ _ (all_at is_right_at 256 all_entries x h)

-- the last of four bytes, and then the others
unfoldable turned : List ℕ → List ℕ
turned (a ∷ b ∷ c ∷ d ∷ []) = d ∷ a ∷ b ∷ c ∷ []
turned xs = xs

-- a table has at this byte what the table before it has, turned right by a byte
abbrev is_turned_at : List ℕ → List ℕ → ℕ → Bool
is_turned_at before table x = same_bytes (put4 (get_or table x 0) []) (turned (put4 (get_or before x 0) []))

second_entries : all_below (is_turned_at FIRST SECOND) 256 ≡ true
unfolding all_below put4 turned
second_entries = refl

third_entries : all_below (is_turned_at SECOND THIRD) 256 ≡ true
unfolding all_below put4 turned
third_entries = refl

fourth_entries : all_below (is_turned_at THIRD FOURTH) 256 ≡ true
unfolding all_below put4 turned
fourth_entries = refl

turned_at : (before table : List ℕ) → all_below (is_turned_at before table) 256 ≡ true → (x : ℕ) → x < 256
    → put4 (get_or table x 0) [] ≡ turned (put4 (get_or before x 0) [])
turned_at before table entries x h = same_true _ _ (all_at (is_turned_at before table) 256 entries x h)

pub second_entry_at : (x : ℕ) → x < 256 → put4 (get_or SECOND x 0) [] ≡ second_products_of (sbox x)
unfolding turned
second_entry_at x h = turned_at FIRST SECOND second_entries x h ∙ ap turned (entry_at x h)

pub third_entry_at : (x : ℕ) → x < 256 → put4 (get_or THIRD x 0) [] ≡ third_products_of (sbox x)
unfolding turned
third_entry_at x h = turned_at SECOND THIRD third_entries x h ∙ ap turned (second_entry_at x h)

pub fourth_entry_at : (x : ℕ) → x < 256 → put4 (get_or FOURTH x 0) [] ≡ fourth_products_of (sbox x)
unfolding turned
fourth_entry_at x h = turned_at THIRD FOURTH fourth_entries x h ∙ ap turned (third_entry_at x h)
