-- What `parse` reads is the decimal, and a printed number is read back.
use Rattle.std.proofs.Common.{◌≡◌, inl, inr, ℕ, ◌<◌, ◌≤◌, ◌^◌, ◌&&◌, Bool, true, false, cond, nat_lt, nat_le, List, [], ◌∷◌, length, Some, None, Result, Ok, Err, decimal, refl, sym, ap, ◌∙◌, arith}
use Rattle.std.specs.Str.{all_ascii_digits, IsUtf8}
use Rattle.std.specs.Str.Parse.{digits_value, ParsesUnsigned}
use Rattle.std.specs.Char.{is_ascii_digit}
use Rattle.std.specs.List.{list_all}
use Rattle.std.specs.Result.{OkIff, result_ok}
use Rattle.std.proofs.lemmas.Bool.{lt-ltb, le-ltb, le-leb, lt-leb, cases_lt}
use Rattle.std.proofs.lemmas.Str.Parse.{IsNumeralModel, numerals_by_value, tells_all_ascii_digits, parse_digits}
use Rattle.std.proofs.lemmas.Fmt.{digits_decimal, digits_value-decimal, length-decimal-le, decimal_nonempty, IsAscii-from_digits}
use Rattle.std.proofs.lemmas.Str.{IsUtf8-from_ascii}
use Rattle.book_base.specs.Decimals.{decimal_of}

-- the words of digits, and their value
pub own : IsNumeralModel (λ ds. all_ascii_digits ds ≡ true) (digits_value 10)
own = numerals_by_value _ tells_all_ascii_digits

is_decimal : List ℕ → Bool
is_decimal word = nat_le 1 (length word) && nat_le (length word) 20 && all_ascii_digits word && nat_lt (digits_value 10 word) 18446744073709551616

pub some_decimal : (word : List ℕ) → 0 < length word → length word ≤ 20 → all_ascii_digits word ≡ true → digits_value 10 word < 18446744073709551616 →
    decimal_of word ≡ Some (digits_value 10 word)
unfolding decimal_of
some_decimal word some short digits small =
    let a : nat_le 1 (length word) ≡ true = le-leb _ _ (omega arith) in
    let b : nat_le (length word) 20 ≡ true = le-leb _ _ short in
    let d : nat_lt (digits_value 10 word) 18446744073709551616 ≡ true = lt-ltb _ _ small in
    rw (a, b, digits, d) refl

pub none_long : (word : List ℕ) → 20 < length word → decimal_of word ≡ None
unfolding decimal_of
none_long word long =
    let a : nat_le 1 (length word) ≡ true = le-leb _ _ (omega arith) in
    let b : nat_le (length word) 20 ≡ false = lt-leb _ _ long in
    rw (a, b) refl

ended : (a b d : Bool) (v : ℕ) → (a && b && d) ≡ (a && b && d) → cond (a && b && false && d) (Some v) None ≡ None
ended true true d v e = refl
ended true false d v e = refl
ended false true d v e = refl
ended false false d v e = refl

pub none_other : (word : List ℕ) → all_ascii_digits word ≡ false → decimal_of word ≡ None
unfolding decimal_of
none_other word e = rw e (ended (nat_le 1 (length word)) (nat_le (length word) 20) (nat_lt (digits_value 10 word) 18446744073709551616) _ refl)

pub none_empty : (word : List ℕ) → length word ≡ 0 → decimal_of word ≡ None
unfolding decimal_of
none_empty word none = let a : nat_le 1 (length word) ≡ false = lt-leb _ _ (omega arith) in rw a refl

last : (a b d : Bool) (v : ℕ) → cond (a && b && d && false) (Some v) None ≡ None
last true true true v = refl
last true true false v = refl
last true false true v = refl
last true false false v = refl
last false true true v = refl
last false true false v = refl
last false false true v = refl
last false false false v = refl

pub none_large : (word : List ℕ) → 18446744073709551616 ≤ digits_value 10 word → decimal_of word ≡ None
unfolding decimal_of
none_large word large = let d : nat_lt (digits_value 10 word) 18446744073709551616 ≡ false = le-ltb _ _ large in
    rw d (last (nat_le 1 (length word)) (nat_le (length word) 20) (all_ascii_digits word) _)

-- what `parse` answers for digits
pub parsed : {E : Type 0} (word : List ℕ) (r : Result ℕ E) → ParsesUnsigned 64 10 word r → length word ≤ 20 → all_ascii_digits word ≡ true →
    result_ok r ≡ decimal_of word
parsed word r p short digits = parsed_case word r (parse_digits own 64 word r p digits) short digits
  where
    parsed_case : {E : Type 0} (word : List ℕ) (r : Result ℕ E) → OkIff r ((0 < length word) × (digits_value 10 word < 2 ^ 64)) (digits_value 10 word) →
        length word ≤ 20 → all_ascii_digits word ≡ true → result_ok r ≡ decimal_of word
    parsed_case word (Ok n) h short digits = ap Some h.1 ∙ sym (some_decimal word h.0.0 short digits h.0.1)
    parsed_case word (Err e) h short digits = elim (cases_lt 0 (length word)) [
      | inl some ↦ elim (cases_lt (digits_value 10 word) 18446744073709551616) [
        | inl small ↦ absurd (h (some, small))
        | inr large ↦ sym (none_large word large)
      ]
      | inr none ↦ sym (none_empty word (omega arith))
    ]

pub all_digits : (word : List ℕ) → list_all is_ascii_digit word ≡ all_ascii_digits word
all_digits [] = refl
all_digits (byte ∷ word) = rw (all_digits word) refl

-- digits are text
pub digits_utf8 : (word : List ℕ) → all_ascii_digits word ≡ true → IsUtf8 word
digits_utf8 word digits = IsUtf8-from_ascii word (IsAscii-from_digits word (own.to word digits))

-- a printed number is read back
pub decimal_of-decimal : (n : ℕ) → n < 2 ^ 64 → decimal_of (decimal n) ≡ Some n
decimal_of-decimal n small =
    let digits : all_ascii_digits (decimal n) ≡ true = digits_decimal own n small in
    let value : digits_value 10 (decimal n) ≡ n = digits_value-decimal own n small in
    let wide : n < 10 ^ 20 = omega arith in
    let some : 0 < length (decimal n) = decimal_nonempty n small in
    some_decimal (decimal n) some (length-decimal-le 20 n (omega arith) wide small) digits (rw value small) ∙ ap Some value
