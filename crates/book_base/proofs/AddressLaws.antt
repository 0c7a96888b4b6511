-- The parts between dots, and a printed address is read back.
use Rattle.std.proofs.Common.{◌≡◌, inl, inr, ℕ, suc, ◌+◌, ◌<◌, ◌≤◌, ◌^◌, ◌==◌, Bool, true, false, not, cond, nat_lt, List, [], ◌∷◌, ◌++◌, length, take, drop, get_or, Some, None, option_map, Result, Ok, Err, decimal, refl, sym, ap, ◌∙◌, arith, append_assoc}
use Rattle.std.specs.List.{position, position_or_len}
use Rattle.std.specs.Result.{result_ok, MatchResult}
use Rattle.std.proofs.lemmas.List.{length-append}
use Rattle.std.proofs.lemmas.Bool.{ltb-true, ltb-false, lt-ltb, eq-eqb, ne_eqb, cases_lt}
use Rattle.std.proofs.lemmas.Option.{cond_some}
use Rattle.hex.specs.Hex.{decode_of, decode_sized, IsBytes}
use Rattle.hex.specs.declared.error.FromHexError.{FromHexError}
use Rattle.hex.proofs.HexLemmas.{decode_sized-twice}
use Rattle.book_base.specs.declared.address.Address.{Address}
use Rattle.book_base.specs.declared.address.Address.TheVariants.{V4, V6}
use Rattle.book_base.specs.Lines.{onto_first}
use Rattle.book_base.specs.Hexadecimal.{bytes_of_hex, hex_of}
use Rattle.book_base.specs.Addresses.{address_of, address_text, between_dots, dotted_of, dotted_text, four, has_leading_zero, is_dot, octet_of}
use Rattle.std.specs.Str.Parse.{AllDigits}
use Rattle.std.proofs.lemmas.Str.Parse.{digit_from_value}
use Rattle.std.proofs.lemmas.Fmt.{decimal_digit, decimal_is_IsNumeral, first_decimal, length-decimal-le}
use Rattle.book_base.proofs.DecimalLaws.{decimal_of-decimal}
use Rattle.book_base.proofs.HexadecimalLaws.{bytes_of_hex-hex_of, length-hex_of}
use Rattle.book_base.proofs.LineLaws.{one_more, onto_cons}

dot_case : (b : Bool) (byte : ℕ) (rest : List ℕ) (n : ℕ) →
    (n < length rest → onto_first byte (between_dots rest) ≡ (byte ∷ take n rest) ∷ between_dots (drop (suc n) rest)) →
    cond (not b) (1 + n) 0 < suc (length rest) →
    cond b ([] ∷ between_dots rest) (onto_first byte (between_dots rest))
    ≡ take (cond (not b) (1 + n) 0) (byte ∷ rest) ∷ between_dots (drop (suc (cond (not b) (1 + n) 0)) (byte ∷ rest))
dot_case true byte rest n h below = refl
dot_case false byte rest n h below = rw one_more (h (omega arith))

at_dot : (word : List ℕ) → position_or_len is_dot word < length word →
    between_dots word ≡ take (position_or_len is_dot word) word ∷ between_dots (drop (suc (position_or_len is_dot word)) word)
unfolding between_dots
at_dot [] below = absurd (omega arith)
at_dot (byte ∷ word) below = dot_case (is_dot byte) byte word (position_or_len is_dot word)
    (λ less. onto_cons byte _ _ (between_dots word) (at_dot word less)) below

no_dot_case : (b : Bool) (byte : ℕ) (rest : List ℕ) (n : ℕ) → (length rest ≤ n → between_dots rest ≡ rest ∷ []) →
    suc (length rest) ≤ cond (not b) (1 + n) 0 →
    cond b ([] ∷ between_dots rest) (onto_first byte (between_dots rest)) ≡ (byte ∷ rest) ∷ []
no_dot_case true byte rest n h above = absurd (omega arith)
no_dot_case false byte rest n h above = onto_cons byte _ _ (between_dots rest) (h (omega arith))

no_dot : (word : List ℕ) → length word ≤ position_or_len is_dot word → between_dots word ≡ word ∷ []
unfolding between_dots
no_dot [] above = refl
no_dot (byte ∷ word) above = no_dot_case (is_dot byte) byte word (position_or_len is_dot word) (no_dot word) above

pub split_some : (word : List ℕ) (n : ℕ) → position is_dot word ≡ Some n → between_dots word ≡ take n word ∷ between_dots (drop (suc n) word)
split_some word n e =
    let parts = cond_some (nat_lt (position_or_len is_dot word) (length word)) (position_or_len is_dot word) n e in
    rw (← parts.1) (at_dot word (ltb-true _ _ parts.0))

none_test : (b : Bool) (n : ℕ) → cond b (Some n) None ≡ None → b ≡ false
none_test true n e = absurd (cc e)
none_test false n e = refl

pub split_none : (word : List ℕ) → position is_dot word ≡ None → between_dots word ≡ word ∷ []
split_none word e = no_dot word (ltb-false _ _ (none_test (nat_lt (position_or_len is_dot word) (length word)) _ e))

first_part : (b : Bool) (byte : ℕ) (rest : List (List ℕ)) (other : List ℕ) (others : List (List ℕ)) → rest ≡ other ∷ others →
    (part : List ℕ) × (parts : List (List ℕ)) × (cond b ([] ∷ rest) (onto_first byte rest) ≡ part ∷ parts)
first_part true byte rest other others e = ([], rest, refl)
first_part false byte rest other others e = (byte ∷ other, others, onto_cons byte other others rest e)

some_part : (word : List ℕ) → (part : List ℕ) × (parts : List (List ℕ)) × (between_dots word ≡ part ∷ parts)
unfolding between_dots
some_part [] = ([], [], refl)
some_part (byte ∷ word) = let more = some_part word in first_part (is_dot byte) byte (between_dots word) more.0 more.1 more.2

pub none_one : (w : List ℕ) → between_dots w ≡ w ∷ [] → dotted_of (between_dots w) ≡ None
unfolding dotted_of
none_one w e = rw e refl

pub none_two : (w a r : List ℕ) → between_dots w ≡ a ∷ between_dots r → between_dots r ≡ r ∷ [] → dotted_of (between_dots w) ≡ None
unfolding dotted_of
none_two w a r e f = rw (e, f) refl

pub none_three : (w a r b s : List ℕ) → between_dots w ≡ a ∷ between_dots r → between_dots r ≡ b ∷ between_dots s → between_dots s ≡ s ∷ [] →
    dotted_of (between_dots w) ≡ None
unfolding dotted_of
none_three w a r b s e f g = rw (e, f, g) refl

pub none_five : (w a r b s c d x y : List ℕ) → between_dots w ≡ a ∷ between_dots r → between_dots r ≡ b ∷ between_dots s →
    between_dots s ≡ c ∷ between_dots d → between_dots d ≡ x ∷ between_dots y → dotted_of (between_dots w) ≡ None
unfolding dotted_of
none_five w a r b s c d x y e f g h = let more = some_part y in rw (e, f, g, h, more.2) refl

pub just_four : (w a r b s c d : List ℕ) → between_dots w ≡ a ∷ between_dots r → between_dots r ≡ b ∷ between_dots s →
    between_dots s ≡ c ∷ between_dots d → between_dots d ≡ d ∷ [] → dotted_of (between_dots w) ≡ four (octet_of a) (octet_of b) (octet_of c) (octet_of d)
unfolding dotted_of
just_four w a r b s c d e f g h = rw (e, f, g, h) refl

pub not_32 : (word : List ℕ) → (length word ≡ 32 → ⊥) → address_of word ≡ dotted_of (between_dots word)
unfolding address_of
not_32 word ne = let t : (length word == 32) ≡ false = ne_eqb _ _ ne in rw t refl

pub hex_32 : (word : List ℕ) (r : Result (List ℕ) FromHexError) → length word ≡ 32 → decode_sized word 16 ≡ r → address_of word ≡ option_map V6 (result_ok r)
unfolding address_of bytes_of_hex
hex_32 word r len e = let t : (length word == 32) ≡ true = eq-eqb _ _ len in
    let same : decode_of word ≡ r = sym (decode_sized-twice word 16 len) ∙ e in
    rw (t, same) refl

some_hex : (word bytes new : List ℕ) (r : Result (List ℕ) FromHexError) (result : Result (Unit {0}) FromHexError) → length word ≡ 32 → decode_sized word 16 ≡ r →
    MatchResult r (λ bytes. (result ≡ Ok tt) × (new ≡ bytes)) (λ e. result ≡ Err e) → result ≡ Ok tt → Some (V6 new) ≡ address_of word
some_hex word bytes new (Ok given) result len e h ok = ap (λ b. Some (V6 b)) h.1 ∙ sym (hex_32 word (Ok given) len e)
some_hex word bytes new (Err f) result len e h ok = absurd (cc (h, ok))

pub hex_ok : (word new : List ℕ) (result : Result (Unit {0}) FromHexError) → length word ≡ 32 →
    MatchResult (decode_sized word 16) (λ bytes. (result ≡ Ok tt) × (new ≡ bytes)) (λ e. result ≡ Err e) → result ≡ Ok tt → Some (V6 new) ≡ address_of word
hex_ok word new result len h ok = some_hex word [] new (decode_sized word 16) result len refl h ok

none_hex : (word new : List ℕ) (r : Result (List ℕ) FromHexError) (result : Result (Unit {0}) FromHexError) (f : FromHexError) → length word ≡ 32 → decode_sized word 16 ≡ r →
    MatchResult r (λ bytes. (result ≡ Ok tt) × (new ≡ bytes)) (λ e. result ≡ Err e) → result ≡ Err f → None ≡ address_of word
none_hex word new (Ok given) result f len e h err = absurd (cc (h.0, err))
none_hex word new (Err g) result f len e h err = sym (hex_32 word (Err g) len e)

pub hex_err : (word new : List ℕ) (result : Result (Unit {0}) FromHexError) (f : FromHexError) → length word ≡ 32 →
    MatchResult (decode_sized word 16) (λ bytes. (result ≡ Ok tt) × (new ≡ bytes)) (λ e. result ≡ Err e) → result ≡ Err f → None ≡ address_of word
hex_err word new result f len h err = none_hex word new (decode_sized word 16) result f len refl h err

pub address_text-V4 : (numbers : List ℕ) → address_text (V4 numbers) ≡ dotted_text numbers
unfolding address_text
address_text-V4 numbers = refl

pub address_text-V6 : (bytes : List ℕ) → address_text (V6 bytes) ≡ hex_of bytes
unfolding address_text
address_text-V6 bytes = refl

pub four_pushed : (xs old : List ℕ) → length xs ≡ 4 →
    (((old ++ decimal (get_or xs 0 0)) ++ 46 ∷ decimal (get_or xs 1 0)) ++ 46 ∷ decimal (get_or xs 2 0)) ++ 46 ∷ decimal (get_or xs 3 0) ≡ old ++ dotted_text xs
four_pushed [] old e = absurd (omega arith)
four_pushed (a ∷ []) old e = absurd (omega arith)
four_pushed (a ∷ b ∷ []) old e = absurd (omega arith)
four_pushed (a ∷ b ∷ c ∷ []) old e = absurd (omega arith)
four_pushed (a ∷ b ∷ c ∷ d ∷ []) old e = simp append_assoc
four_pushed (a ∷ b ∷ c ∷ d ∷ f ∷ xs) old e = absurd (omega arith)

-- four numbers that each fit a byte, or sixteen bytes
abbrev pub IsAddress : Address → Type 0
IsAddress (V4 numbers) = (length numbers ≡ 4) × IsBytes numbers
IsAddress (V6 bytes) = (length bytes ≡ 16) × IsBytes bytes

one_digit : (word : List ℕ) → length word ≡ 1 → has_leading_zero word ≡ false
one_digit [] e = refl
one_digit (a ∷ []) e = refl
one_digit (a ∷ b ∷ word) e = absurd (omega arith)

first_not_zero : (word : List ℕ) → 48 < get_or word 0 0 → has_leading_zero word ≡ false
first_not_zero [] h = refl
first_not_zero (a ∷ []) h = refl
first_not_zero (a ∷ b ∷ word) h = ne_eqb a 48 (λ e. omega arith)

no_leading_zero : (n : ℕ) → n < 2 ^ 64 → has_leading_zero (decimal n) ≡ false
no_leading_zero n small = elim (cases_lt 0 n) [
  | inl some ↦ first_not_zero (decimal n) (first_decimal n some small)
  | inr none ↦
      let z : n ≡ 0 = omega arith in
      one_digit (decimal n) (rw z (ap length (decimal_digit 0 (omega arith))))
]

-- a printed number of a byte is read back
pub octet_of-decimal : (n : ℕ) → n < 256 → octet_of (decimal n) ≡ Some n
unfolding octet_of
octet_of-decimal n small =
    let wide : n < 2 ^ 64 = omega arith in
    let t : nat_lt n 256 ≡ true = lt-ltb _ _ small in
    rw (no_leading_zero n wide, decimal_of-decimal n wide) (rw t refl)

-- no dot among digits
before_dot : (word : List ℕ) → AllDigits 10 word → (rest : List ℕ) → between_dots (word ++ 46 ∷ rest) ≡ word ∷ between_dots rest
unfolding between_dots
before_dot [] digits rest = refl
before_dot (byte ∷ word) digits rest =
    let digit = digit_from_value byte digits.0 in
    let t : (byte == 46) ≡ false = ne_eqb byte 46 (λ e. omega arith) in
    rw (t, before_dot word digits.1 rest) refl

all_digits_alone : (word : List ℕ) → AllDigits 10 word → between_dots word ≡ word ∷ []
unfolding between_dots
all_digits_alone [] digits = refl
all_digits_alone (byte ∷ word) digits =
    let digit = digit_from_value byte digits.0 in
    let t : (byte == 46) ≡ false = ne_eqb byte 46 (λ e. omega arith) in
    rw (t, all_digits_alone word digits.1) refl

digits_of_byte : (n : ℕ) → n < 256 → AllDigits 10 (decimal n)
digits_of_byte n small = (decimal_is_IsNumeral n (omega arith)).0.1

dotted_length : (a b c d : List ℕ) → length a ≤ 3 → length b ≤ 3 → length c ≤ 3 → length d ≤ 3 →
    length (a ++ 46 ∷ (b ++ 46 ∷ (c ++ 46 ∷ d))) ≡ 32 → ⊥
dotted_length a b c d la lb lc ld e =
    let whole : length a + suc (length b + suc (length c + suc (length d))) ≡ 32 = simp length-append at e in omega arith

dotted_back : (a b c d : ℕ) → a < 256 → b < 256 → c < 256 → d < 256 →
    address_of (decimal a ++ 46 ∷ (decimal b ++ 46 ∷ (decimal c ++ 46 ∷ decimal d))) ≡ Some (V4 (a ∷ b ∷ c ∷ d ∷ []))
dotted_back a b c d sa sb sc sd =
    let short = λ (n : ℕ) (s : n < 256). length-decimal-le 3 n (omega arith) (omega arith) (omega arith) in
    let word = decimal a ++ 46 ∷ (decimal b ++ 46 ∷ (decimal c ++ 46 ∷ decimal d)) in
    not_32 word (dotted_length (decimal a) (decimal b) (decimal c) (decimal d) (short a sa) (short b sb) (short c sc) (short d sd))
    ∙ (just_four word (decimal a) (decimal b ++ 46 ∷ (decimal c ++ 46 ∷ decimal d)) (decimal b) (decimal c ++ 46 ∷ decimal d) (decimal c) (decimal d)
    (before_dot (decimal a) (digits_of_byte a sa) _) (before_dot (decimal b) (digits_of_byte b sb) _) (before_dot (decimal c) (digits_of_byte c sc) _)
    (all_digits_alone (decimal d) (digits_of_byte d sd))
    ∙ rw (octet_of-decimal a sa, octet_of-decimal b sb, octet_of-decimal c sc, octet_of-decimal d sd) refl)

hex_back : (bytes : List ℕ) → length bytes ≡ 16 → IsBytes bytes → address_of (hex_of bytes) ≡ Some (V6 bytes)
unfolding address_of
hex_back bytes len small =
    let t : (length (hex_of bytes) == 32) ≡ true = eq-eqb _ _ (omega (arith, length-hex_of bytes)) in
    rw (t, bytes_of_hex-hex_of bytes small) refl

numbers_back : (numbers : List ℕ) → length numbers ≡ 4 → IsBytes numbers → address_of (dotted_text numbers) ≡ Some (V4 numbers)
numbers_back [] e small = absurd (omega arith)
numbers_back (a ∷ []) e small = absurd (omega arith)
numbers_back (a ∷ b ∷ []) e small = absurd (omega arith)
numbers_back (a ∷ b ∷ c ∷ []) e small = absurd (omega arith)
numbers_back (a ∷ b ∷ c ∷ d ∷ []) e small = dotted_back a b c d (small 0) (small 1) (small 2) (small 3)
numbers_back (a ∷ b ∷ c ∷ d ∷ f ∷ numbers) e small = absurd (omega arith)

-- a printed address is read back
pub address_of-address_text : (address : Address) → IsAddress address → address_of (address_text address) ≡ Some address
unfolding address_text
address_of-address_text (V4 numbers) h = numbers_back numbers h.0 h.1
address_of-address_text (V6 bytes) h = hex_back bytes h.0 h.1
