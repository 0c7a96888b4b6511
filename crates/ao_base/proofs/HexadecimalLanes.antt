-- The values of digits, and the bytes of pairs of them, lane by lane.
use Rattle.std.proofs.Common.{◌≡◌, false, None, Ok, leb, leb-true, leb-false, ℕ, zero, suc, ◌+◌, ◌-◌, ◌*◌, ◌%◌, ◌^◌, ◌<◌, ◌≤◌, Bool, true, ◌&&◌, T, cond, eqb, ltb, List, [], ◌∷◌, ◌++◌, map, length, get_or, slice_index, replicate, bit_or, unwrap_or, refl, sym, ap, ◌∙◌, subst, inl, inr, arith, w8, Fits, eqb→eq, eq-zero-or-pos}
use Rattle.std.proofs.lemmas.Bool.{cases_lt}
use Rattle.std.proofs.lemmas.List.{get_or-map, get_or_append_left, get_or-append_right, length-map}
use Rattle.std.proofs.lemmas.Simd.{length-chunk, get_or-chunk, chunk-fits, get_or-zip2, get_or-put_chunk_below, get_or-put_chunk_at, mask_l-mod, length-zip2, get_or-replicate}
use lib.Ieee.Fits.{and_l, and_r}
use lib.Lanes.{Each1, zip2, chunk, sel_l, top, mask_l, pick_l, put_chunk}
use Rattle.hex.specs.Hex.{hex_digit_value}
use Rattle.book_base.specs.Hexadecimal.{bytes_of_hex}
use Rattle.book_base.proofs.HexadecimalLaws.{IsRead, both_read, none_at}

abbrev pub all_below : (ℕ → Bool) → ℕ → Bool
all_below p zero = true
all_below p (suc n) = p n && all_below p n

every_below : (p : ℕ → Bool) (n : ℕ) → T (all_below p n) → (i : ℕ) → i < n → T (p i)
every_below p zero h i l = absurd (omega arith)
every_below p (suc n) h i l =
    elim (eq-zero-or-pos (n - i)) [
      | inl z ↦ let e : n ≡ i = omega arith in subst (λ x. T (p x)) e (and_l _ _ h)
      | inr g ↦ every_below p n (and_r (p n) _ h) i (omega arith)
    ]

abbrev pub value : ℕ → ℕ
value byte = unwrap_or (hex_digit_value byte) 16

abbrev minus : ℕ → ℕ → ℕ
minus a b = (a + (2 ^ 8 - b)) % 2 ^ 8

abbrev plus : ℕ → ℕ → ℕ
plus a b = (a + b) % 2 ^ 8

abbrev where_below : ℕ → ℕ → ℕ
where_below a b = cond (ltb a b) 255 0

abbrev lanes : ℕ → List ℕ → List ℕ
lanes n v =
    let number = zip2 minus v (replicate n 48) in
    let letter = zip2 minus (zip2 bit_or v (replicate n 32)) (replicate n 97) in
    sel_l (map (top 7) (zip2 where_below number (replicate n 10))) number
    (sel_l (map (top 7) (zip2 where_below letter (replicate n 6))) (zip2 plus letter (replicate n 10)) (replicate n 16))

abbrev lane : ℕ → ℕ
lane x =
    cond (top 7 (where_below (minus x 48) 10)) (minus x 48)
    (cond (top 7 (where_below (minus (bit_or x 32) 97) 6)) (plus (minus (bit_or x 32) 97) 10) 16)

lane_value : (x : ℕ) → x < 256 → lane x ≡ value x
lane_value x small = eqb→eq _ _ (every_below (λ x. eqb (lane x) (value x)) 256 tt x small)

lane_values : (v : List ℕ) → Each1 (Fits w8) v → lanes (length v) v ≡ map value v
lane_values [] h = refl
lane_values (x ∷ xs) h = ap (λ y. y ∷ lanes (length xs) xs) (lane_value x h.0.fits) ∙ ap (λ l. value x ∷ l) (lane_values xs h.1)

module _ (word : List ℕ) (at : ℕ) (room : at + 16 ≤ length word) (fits : (k : ℕ) → Fits w8 (slice_index word k)) where
  loaded : length (chunk at 16 word) ≡ 16
  loaded = length-chunk at 16 word room

  are : lanes 16 (chunk at 16 word) ≡ map value (chunk at 16 word)
  are = ap (λ n. lanes n (chunk at 16 word)) (sym loaded) ∙ lane_values (chunk at 16 word) (chunk-fits w8 at 16 word fits)

  pub values_length : length (lanes 16 (chunk at 16 word)) ≡ 16
  values_length = ap length are ∙ length-map (chunk at 16 word) value ∙ loaded

  pub values_at : (i : ℕ) → i < 16 → slice_index (lanes 16 (chunk at 16 word)) i ≡ value (slice_index word (at + i))
  values_at i h =
      ap (λ l. get_or l i 0) are ∙ get_or-map value (chunk at 16 word) i 0 0 (omega (arith, loaded))
      ∙ ap value (get_or-chunk at 16 word i 0 h)

-- ---- the test of 16 values

abbrev at_least : ℕ → ℕ → ℕ
at_least a b = cond (leb a b) 255 0

abbrev great : ℕ → List ℕ → ℕ
great n xs = mask_l (map (top 7) (zip2 at_least (replicate n 16) xs))

none_great : (xs : List ℕ) → great (length xs) xs ≡ 0 → (i : ℕ) → i < length xs → get_or xs i 0 < 16
none_great [] e i h = absurd (omega arith)
none_great (x ∷ xs) e zero h = go (leb 16 x) refl (omega arith)
  where
    go : (t : Bool) → leb 16 x ≡ t → ◌≡◌ {A = ℕ} (cond (top 7 (cond t 255 0)) 1 0) 0 → x < 16
    go true p q = absurd (omega arith)
    go false p q = leb-false _ _ p
none_great (x ∷ xs) e (suc i) h = none_great xs (omega arith) i (omega arith)

some_great : (xs : List ℕ) → (great (length xs) xs ≡ 0 → ⊥) → (i : ℕ) × (i < length xs) × (16 ≤ get_or xs i 0)
some_great [] e = absurd (e refl)
some_great (x ∷ xs) e = go (leb 16 x) refl e (some_great xs)
  where
    go : (t : Bool) → leb 16 x ≡ t → (◌≡◌ {A = ℕ} (cond (top 7 (cond t 255 0)) 1 0 + 2 * great (length xs) xs) 0 → ⊥) →
        ((great (length xs) xs ≡ 0 → ⊥) → (i : ℕ) × (i < length xs) × (16 ≤ get_or xs i 0)) →
        (i : ℕ) × (i < suc (length xs)) × (16 ≤ get_or (x ∷ xs) i 0)
    go true p q more = (0, omega arith, leb-true _ _ p)
    go false p q more = let r = more (λ z. q (omega arith)) in (suc r.0, omega (arith, r.1), r.2)

module _ (xs : List ℕ) (long : length xs ≡ 16) where
  all_bits : great 16 xs % 2 ^ 64 ≡ great (length xs) xs
  all_bits =
      mask_l-mod _ 64 (omega (arith, length-map (zip2 at_least (replicate 16 16) xs) (top 7), length-zip2 at_least (replicate 16 16) xs (sym long)))
      ∙ ap (λ n. great n xs) (sym long)

  pub no_bit : great 16 xs % 2 ^ 64 ≡ 0 → (i : ℕ) → i < 16 → get_or xs i 0 < 16
  no_bit e i h = none_great xs (sym all_bits ∙ e) i (omega (arith, long))

  pub some_bit : (great 16 xs % 2 ^ 64 ≡ 0 → ⊥) → (i : ℕ) × (i < 16) × (16 ≤ get_or xs i 0)
  some_bit e = let r = some_great xs (λ z. e (all_bits ∙ z)) in (r.0, omega (arith, r.1, long), r.2)

-- ---- the bytes of 16 pairs

abbrev evens : List ℕ
evens = 0 ∷ 2 ∷ 4 ∷ 6 ∷ 8 ∷ 10 ∷ 12 ∷ 14 ∷ 16 ∷ 18 ∷ 20 ∷ 22 ∷ 24 ∷ 26 ∷ 28 ∷ 30 ∷ []

abbrev odds : List ℕ
odds = 1 ∷ 3 ∷ 5 ∷ 7 ∷ 9 ∷ 11 ∷ 13 ∷ 15 ∷ 17 ∷ 19 ∷ 21 ∷ 23 ∷ 25 ∷ 27 ∷ 29 ∷ 31 ∷ []

even_at : (j : ℕ) → j < 16 → get_or evens j 0 ≡ 2 * j
even_at j h = eqb→eq _ _ (every_below (λ j. eqb (get_or evens j 0) (2 * j)) 16 tt j h)

odd_at : (j : ℕ) → j < 16 → get_or odds j 0 ≡ 2 * j + 1
odd_at j h = eqb→eq _ _ (every_below (λ j. eqb (get_or odds j 0) (2 * j + 1)) 16 tt j h)

abbrev times : ℕ → ℕ → ℕ
times a b = a * b % 2 ^ 8

abbrev shifted : List ℕ → List ℕ
shifted both = zip2 times (pick_l 0 both evens) (replicate 16 16)

abbrev joined : List ℕ → List ℕ
joined both = zip2 plus (shifted both) (pick_l 0 both odds)

joined_at : (both : List ℕ) (j : ℕ) → j < 16 → get_or (joined both) j 0 ≡ (get_or both (2 * j) 0 * 16 % 256 + get_or both (2 * j + 1) 0) % 256
joined_at both j h =
    let high = get_or-map (λ k. get_or both k 0) evens j 0 0 h ∙ ap (λ k. get_or both k 0) (even_at j h) in
    let low = get_or-map (λ k. get_or both k 0) odds j 0 0 h ∙ ap (λ k. get_or both k 0) (odd_at j h) in
    let sixteen : get_or (replicate 16 16) j 0 ≡ 16 = get_or-replicate {A = ℕ} 16 j 16 0 h in
    get_or-zip2 plus (shifted both) (pick_l 0 both odds) j 0 0 0 h h
    ∙ rw (get_or-zip2 times (pick_l 0 both evens) (replicate 16 16) j 0 0 0 h h, high, low, sixteen) refl

module _ (word first second : List ℕ) (at : ℕ) (room : 2 * at + 32 ≤ length word) (one : length first ≡ 16) (two : length second ≡ 16)
    (values_one : (i : ℕ) → i < 16 → slice_index first i ≡ value (slice_index word (2 * at + i)))
    (values_two : (i : ℕ) → i < 16 → slice_index second i ≡ value (slice_index word (2 * at + 16 + i))) where
  digit_at : (k : ℕ) → k < 32 → (place : ℕ) → place ≡ 2 * at + k → get_or (first ++ second) k 0 ≡ value (slice_index word place)
  digit_at k h place e =
      elim (cases_lt k 16) [
        | inl l ↦ get_or_append_left first second 0 k (omega (arith, one)) ∙ values_one k l ∙ ap (λ p. value (slice_index word p)) (sym e)
        | inr g ↦ get_or-append_right first second 16 k 0 one g ∙ values_two (k - 16) (omega arith) ∙ ap (λ p. value (slice_index word p)) (omega arith)
      ]

  small_at : ((i : ℕ) → i < 16 → slice_index first i < 16) → ((i : ℕ) → i < 16 → slice_index second i < 16) → (k : ℕ) → k < 32 → get_or (first ++ second) k 0 < 16
  small_at s t k h =
      elim (cases_lt k 16) [
        | inl l ↦ rw (get_or_append_left first second 0 k (omega (arith, one))) (s k l)
        | inr g ↦ rw (get_or-append_right first second 16 k 0 one g) (t (k - 16) (omega arith))
      ]

  pub block_read : (bytes : List ℕ) → at + 16 ≤ length bytes → ((i : ℕ) → i < 16 → slice_index first i < 16) → ((i : ℕ) → i < 16 → slice_index second i < 16) →
      (i : ℕ) → at ≤ i → i < at + 16 → IsRead word (put_chunk at bytes (joined (first ++ second))) i
  block_read bytes fits s t i from to =
      let both = first ++ second in
      let j = i - at in
      let h : j < 16 = omega arith in
      let sh = small_at s t (2 * j) (omega arith) in
      let sl = small_at s t (2 * j + 1) (omega arith) in
      let new = put_chunk at bytes (joined both) in
      let stored : slice_index new i ≡ get_or both (2 * j) 0 * 16 + get_or both (2 * j + 1) 0 =
      ap (λ k. slice_index new k) (omega arith) ∙ get_or-put_chunk_at at bytes (joined both) j 0 h fits ∙ joined_at both j h ∙ omega (arith, sh, sl) in
      both_read (slice_index word (2 * i)) (slice_index word (2 * i + 1)) (2 * i) (get_or both (2 * j) 0) (get_or both (2 * j + 1) 0)
      (digit_at (2 * j) (omega arith) (2 * i) (omega arith)) (digit_at (2 * j + 1) (omega arith) (2 * i + 1) (omega arith)) sh sl
      ∙ ap Ok (sym stored)

  pub first_other : (i : ℕ) × (i < 16) × (16 ≤ slice_index first i) → bytes_of_hex word ≡ None
  first_other h = none_at word (2 * at + h.0) (slice_index first h.0) (omega (arith, h.1)) (values_one h.0 h.1) h.2

  pub second_other : (i : ℕ) × (i < 16) × (16 ≤ slice_index second i) → bytes_of_hex word ≡ None
  second_other h = none_at word (2 * at + 16 + h.0) (slice_index second h.0) (omega (arith, h.1)) (values_two h.0 h.1) h.2

  pub kept_before : (bytes : List ℕ) (i : ℕ) → i < at → slice_index (put_chunk at bytes (joined (first ++ second))) i ≡ slice_index bytes i
  kept_before bytes i h = get_or-put_chunk_below at bytes (joined (first ++ second)) i 0 h
