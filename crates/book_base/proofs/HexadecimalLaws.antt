-- What `hex` decodes, and printed bytes are read back.
use Rattle.std.proofs.Common.{◌≡◌, ℕ, ◌+◌, ◌*◌, ◌%◌, ◌<◌, ◌≤◌, max, true, false, List, [], ◌∷◌, length, slice_index, slice_set, Option, Some, None, is_some, unwrap_or, Result, Ok, Err, refl, sym, ap, ◌∙◌, ⊎_elim, inl, inr, suc, arith, get_or-set_other, get_or-set_same}
use Rattle.std.specs.Char.{is_ascii_hexdigit}
use Rattle.std.specs.List.{list_all}
use Rattle.std.specs.Result.{result_ok}
use Rattle.std.proofs.lemmas.Bool.{both_ways, cases_lt}
use Rattle.std.proofs.lemmas.List.Sums.{AllPass-from_list_all, list_all-from_AllPass}
use Rattle.std.proofs.lemmas.Bool.Decides.{nat_tests}
use Rattle.hex.specs.Hex.{decode_of, decode_pairs, digit_or_error, hex_digit_value, is_hex_digit, pair_value, IsBytes, ◌>>=◌}
use Rattle.hex.specs.declared.error.FromHexError.{FromHexError}
use Rattle.hex.proofs.Pairs.{cons_byte, decode_pairs-ok_pair}
use Rattle.hex.proofs.HexLemmas.{decode_of-even, decode_of-digits, decode_of-ok, decode_of-encode_lower, length-encode_with}
use Rattle.book_base.specs.Hexadecimal.{bytes_of_hex, hex_of}

-- a digit in `hex` is one in std
same_digit : (byte : ℕ) → is_hex_digit byte ≡ is_ascii_hexdigit byte
same_digit byte = grind (arith, nat_tests)

all_same : (word : List ℕ) → list_all is_hex_digit word ≡ list_all is_ascii_hexdigit word
all_same [] = refl
all_same (byte ∷ word) = rw (same_digit byte, all_same word) refl

no_result : (word : List ℕ) (r : Result (List ℕ) FromHexError) → ((bytes : List ℕ) → r ≡ Ok bytes → ⊥) → result_ok r ≡ None
no_result word (Ok bytes) h = absurd (h bytes refl)
no_result word (Err e) h = refl

-- an odd number of digits
pub odd_none : (word : List ℕ) → (length word % 2 ≡ 0 → ⊥) → bytes_of_hex word ≡ None
unfolding bytes_of_hex
odd_none word odd = no_result word (decode_of word) (λ bytes e. odd (decode_of-ok word bytes e).0)

-- another byte among the digits
pub other_none : (word : List ℕ) → list_all is_ascii_hexdigit word ≡ false → bytes_of_hex word ≡ None
unfolding bytes_of_hex
other_none word other = no_result word (decode_of word)
    (λ bytes e. both_ways (list_all is_ascii_hexdigit word) other (sym (all_same word) ∙ list_all-from_AllPass is_hex_digit word (decode_of-ok word bytes e).1))

-- an even number of digits is bytes
pub digits_some : (word : List ℕ) → length word % 2 ≡ 0 → list_all is_ascii_hexdigit word ≡ true →
    (bytes : List ℕ) × (bytes_of_hex word ≡ Some bytes)
unfolding bytes_of_hex
digits_some word even digits =
    let d = decode_of-digits word even (AllPass-from_list_all is_hex_digit word (all_same word ∙ digits)) in
    (d.0, rw d.1 refl)

pub decoded : (word bytes : List ℕ) → decode_of word ≡ Ok bytes → bytes_of_hex word ≡ Some bytes
unfolding bytes_of_hex
decoded word bytes e = rw e refl

-- ---- pairs of digits, where 16 is the value of a byte that is none

known : (digit : Option ℕ) (value : ℕ) → value ≡ unwrap_or digit 16 → value < 16 → digit ≡ Some value
known (Some w) value e small = ap Some (sym e)
known None value e small = absurd (omega (arith, e))

below : (byte value : ℕ) → hex_digit_value byte ≡ Some value → value < 16
below byte value h = grind (arith)

unknown : (digit : Option ℕ) (value : ℕ) → ((w : ℕ) → digit ≡ Some w → w < 16) → value ≡ unwrap_or digit 16 → 16 ≤ value → is_some digit ≡ false
unknown (Some w) value small e great = let s = small w refl in absurd (omega (arith, e))
unknown None value small e great = refl

-- another byte at a place
pub none_at : (word : List ℕ) (place value : ℕ) → place < length word → value ≡ unwrap_or (hex_digit_value (slice_index word place)) 16 →
    16 ≤ value → bytes_of_hex word ≡ None
unfolding bytes_of_hex
none_at word place value within e great =
    let bad = unknown (hex_digit_value (slice_index word place)) value (below (slice_index word place)) e great in
    no_result word (decode_of word) (λ bytes h. both_ways _ bad ((decode_of-ok word bytes h).1 place 0 within))

pub both_read : (a b i high low : ℕ) → high ≡ unwrap_or (hex_digit_value a) 16 → low ≡ unwrap_or (hex_digit_value b) 16 → high < 16 → low < 16 →
    pair_value a b i ≡ Ok (high * 16 + low)
both_read a b i high low eh el sh sl =
    let h = known (hex_digit_value a) high eh sh in
    let l = known (hex_digit_value b) low el sl in rw (h, l) refl

-- the byte at a place is that of its two digits
abbrev pub IsRead : List ℕ → List ℕ → ℕ → Type 0
IsRead word bytes j = pair_value (slice_index word (2 * j)) (slice_index word (2 * j + 1)) (2 * j) ≡ Ok (slice_index bytes j)

-- what holds once `i` bytes are written, with the greatest value that was met
pub record Decoding (word bytes : List ℕ) (i greatest : ℕ) : Type 0 where
  pub read : greatest < 16 → (j : ℕ) → j < i → IsRead word bytes j
  pub other : 16 ≤ greatest → bytes_of_hex word ≡ None

none_of_three : (word : List ℕ) (greatest a high b low : ℕ) → (16 ≤ greatest → bytes_of_hex word ≡ None) → a < length word → b < length word →
    high ≡ unwrap_or (hex_digit_value (slice_index word a)) 16 → low ≡ unwrap_or (hex_digit_value (slice_index word b)) 16 →
    16 ≤ max (max greatest high) low → bytes_of_hex word ≡ None
none_of_three word greatest a high b low other wa wb eh el great =
    ⊎_elim
    (λ small. ⊎_elim (λ small2. none_at word b low wb el (omega arith)) (none_at word a high wa eh) (cases_lt high 16))
    other
    (cases_lt greatest 16)

pub decoding_on : (word bytes : List ℕ) (i greatest high low : ℕ) → 2 * i + 1 < length word → i < length bytes →
    high ≡ unwrap_or (hex_digit_value (slice_index word (2 * i))) 16 → low ≡ unwrap_or (hex_digit_value (slice_index word (2 * i + 1))) 16 →
    Decoding word bytes i greatest →
    Decoding word (slice_set bytes i (high % 16 * 16 + low % 16)) (i + 1) (max (max greatest high) low)
decoding_on word bytes i greatest high low within room eh el before = record {
  read = λ small j le.
      let sh : high < 16 = omega arith in
      let sl : low < 16 = omega arith in
      let same : high % 16 * 16 + low % 16 ≡ high * 16 + low = omega arith in
      elim (cases_lt j i) [
        | inl l ↦ before.read (omega arith) j l ∙ ap Ok (sym (get_or-set_other bytes i j (high % 16 * 16 + low % 16) 0 (omega arith)))
        | inr g ↦
            let e : j ≡ i = omega arith in
            rw (e, get_or-set_same bytes i (high % 16 * 16 + low % 16) 0 room, same)
            (both_read (slice_index word (2 * i)) (slice_index word (2 * i + 1)) (2 * i) high low eh el sh sl)
      ];
  other = none_of_three word greatest (2 * i) high (2 * i + 1) low before.other (omega arith) within eh el;
}

-- every byte is that of its digits
all_read : (place : ℕ) (word bytes : List ℕ) → length word ≡ 2 * length bytes →
    ((j : ℕ) → j < length bytes → (at : ℕ) → pair_value (slice_index word (2 * j)) (slice_index word (2 * j + 1)) at ≡ Ok (slice_index bytes j)) →
    decode_pairs place word ≡ Ok bytes
unfolding decode_pairs
all_read place [] [] long h = refl
all_read place [] (y ∷ ys) long h = absurd (omega arith)
all_read place (a ∷ word) [] long h = absurd (omega arith)
all_read place (a ∷ []) (y ∷ ys) long h = absurd (omega arith)
all_read place (a ∷ b ∷ word) (y ∷ ys) long h =
    decode_pairs-ok_pair place a b y word (h 0 (omega arith) place)
    ∙ ap (cons_byte y) (all_read (place + 2) word ys (omega arith)
    (λ j l at.
    let low : 2 * suc j + 1 ≡ suc (suc (2 * j + 1)) = omega arith in
    let high : 2 * suc j ≡ suc (suc (2 * j)) = omega arith in
    rw (low, high) at (h (suc j) (omega arith) at)))

-- where two digits read doesn't matter to what they read as
elsewhere : (a b i v : ℕ) → pair_value a b i ≡ Ok v → (at : ℕ) → pair_value a b at ≡ Ok v
elsewhere a b i v h at = go (hex_digit_value a) (hex_digit_value b) h
  where
    go : (x y : Option ℕ) →
        (digit_or_error a i x >>= (λ h. digit_or_error b (i + 1) y >>= (λ l. Ok (h * 16 + l)))) ≡ Ok v →
        (digit_or_error a at x >>= (λ h. digit_or_error b (at + 1) y >>= (λ l. Ok (h * 16 + l)))) ≡ Ok v
    go (Some x) (Some y) h = h
    go (Some x) None h = cc h
    go None y h = cc h

pub decoding_done : (word bytes : List ℕ) (i greatest : ℕ) → length word ≡ 2 * length bytes → length bytes ≤ i → greatest < 16 →
    Decoding word bytes i greatest → bytes_of_hex word ≡ Some bytes
decoding_done word bytes i greatest twice all small before =
    decoded word bytes (decode_of-even word (omega (arith, twice))
    ∙ all_read 0 word bytes twice (λ j l. elsewhere (slice_index word (2 * j)) (slice_index word (2 * j + 1)) (2 * j) (slice_index bytes j) (before.read small j (omega arith))))

-- printed bytes are read back
pub bytes_of_hex-hex_of : (bytes : List ℕ) → IsBytes bytes → bytes_of_hex (hex_of bytes) ≡ Some bytes
bytes_of_hex-hex_of bytes small = decoded (hex_of bytes) bytes (decode_of-encode_lower bytes small)

pub length-hex_of : (bytes : List ℕ) → length (hex_of bytes) ≡ 2 * length bytes
length-hex_of bytes = length-encode_with _ bytes
