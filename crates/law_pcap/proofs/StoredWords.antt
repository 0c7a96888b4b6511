-- A line of a time and bytes is read back.
use Rattle.std.proofs.Common.{◌≡◌, ℕ, ◌<◌, ◌≤◌, ◌^◌, ◌==◌, true, false, nat_le, List, [], ◌∷◌, ◌++◌, length, decimal, Some, Ok, refl, arith}
use Rattle.std.specs.List.{list_all}
use Rattle.std.specs.Str.Parse.{AllDigits}
use Rattle.std.proofs.lemmas.Bool.{both_ways, ne_eqb, and_parts, le-leb, le-ltb}
use Rattle.std.proofs.lemmas.Fmt.{decimal_is_IsNumeral, decimal_nonempty, length-decimal-le}
use Rattle.std.proofs.lemmas.List.{length-append}
use Rattle.std.proofs.lemmas.List.Sums.{list_all-from_AllPass}
use Rattle.std.proofs.lemmas.Str.Parse.{digit_from_value}
use Rattle.hex.specs.Hex.{IsBytes, is_hex_digit}
use Rattle.hex.proofs.HexLemmas.{decode_of-encode_lower, decode_of-ok}
use Rattle.book_base.specs.Hexadecimal.{hex_of}
use Rattle.book_base.specs.Lines.{words_of}
use Rattle.book_base.proofs.DecimalLaws.{decimal_of-decimal}
use Rattle.book_base.proofs.HexadecimalLaws.{bytes_of_hex-hex_of, length-hex_of}
use Rattle.book_base.proofs.LineLaws.{NoBlank, NoNewline, decimal_plain, words_of-spaced}
use Rattle.book_keys.specs.Lifetimes.{greatest_time}
use Rattle.book_lines.specs.Lines.{says_something}
use Rattle.book_lines.specs.Words.{word_in, number_in, hex_in, sized_hex_in, nothing_in}
use Rattle.book_cmd_check.specs.StoredLines.{stored_in, stored_line}

no_byte : (b k : ℕ) → is_hex_digit b ≡ true → is_hex_digit k ≡ false → (b == k) ≡ false
no_byte b k digit other = ne_eqb b k (λ e. both_ways (is_hex_digit b) (rw e other) digit)

digits_plain : (w : List ℕ) → list_all is_hex_digit w ≡ true → NoBlank w × NoNewline w
digits_plain [] e = (tt, tt)
digits_plain (b ∷ w) e =
    let parts = and_parts (is_hex_digit b) (list_all is_hex_digit w) e in
    let rest = digits_plain w parts.1 in
    ((rw (no_byte b 32 parts.0 refl, no_byte b 9 parts.0 refl, no_byte b 13 parts.0 refl) refl, rest.0), (no_byte b 10 parts.0 refl, rest.1))

hex_plain : (bytes : List ℕ) → IsBytes bytes → NoBlank (hex_of bytes) × NoNewline (hex_of bytes)
hex_plain bytes small = digits_plain (hex_of bytes)
    (list_all-from_AllPass is_hex_digit (hex_of bytes) (decode_of-ok (hex_of bytes) bytes (decode_of-encode_lower bytes small)).1)

NoNewline-append : (v w : List ℕ) → NoNewline v → NoNewline w → NoNewline (v ++ w)
NoNewline-append [] w hv hw = hw
NoNewline-append (b ∷ v) w hv hw = (hv.0, NoNewline-append v w hv.1 hw)

-- no newline stands within a line of a time and bytes
pub stored_plain : (seconds : ℕ) (bytes : List ℕ) → seconds < 18446744074 → IsBytes bytes → NoNewline (decimal seconds ++ 32 ∷ hex_of bytes)
stored_plain seconds bytes low small =
    let digits = decimal_plain (decimal seconds) (decimal_is_IsNumeral seconds (omega arith)).0.1 in
    NoNewline-append (decimal seconds) (32 ∷ hex_of bytes) digits.1 (refl, (hex_plain bytes small).1)

-- a first word of digits isn't a comment
says_digits : (word : List ℕ) (ws : List (List ℕ)) → 0 < length word → AllDigits 10 word → says_something (word ∷ ws) ≡ true
unfolding says_something
says_digits [] ws some digits = absurd (omega arith)
says_digits (byte ∷ word) ws some digits =
    let digit = digit_from_value byte digits.0 in
    let e : (byte == 35) ≡ false = ne_eqb byte 35 (λ e. omega arith) in
    rw e refl

time_back : (n : ℕ) (ws : List (List ℕ)) → n < 18446744074 → number_in 0 greatest_time (decimal n ∷ ws) ≡ Ok (record { value = n; rest = ws })
unfolding number_in word_in
time_back n ws small =
    let a : nat_le 0 n ≡ true = le-leb _ _ (omega arith) in
    let b : nat_le n greatest_time ≡ true = le-leb _ _ (omega arith) in
    rw (decimal_of-decimal n (omega arith), a, b) refl

bytes_back : (bytes : List ℕ) (ws : List (List ℕ)) → 0 < length bytes → length bytes ≤ 65575 → IsBytes bytes →
    sized_hex_in 1 65575 (hex_of bytes ∷ ws) ≡ Ok (record { value = bytes; rest = ws })
unfolding sized_hex_in hex_in word_in
bytes_back bytes ws some few small =
    let a : nat_le 1 (length bytes) ≡ true = le-leb _ _ (omega arith) in
    let b : nat_le (length bytes) 65575 ≡ true = le-leb _ _ few in
    rw (bytes_of_hex-hex_of bytes small, a, b) refl

words_back : (n seconds : ℕ) (bytes : List ℕ) → seconds < 18446744074 → 0 < length bytes → length bytes ≤ 65575 → IsBytes bytes →
    stored_in n (decimal seconds ∷ hex_of bytes ∷ []) ≡ Ok (Some (record { number = n; time = seconds; bytes = bytes }))
unfolding nothing_in
words_back n seconds bytes low some few small =
    rw (says_digits (decimal seconds) (hex_of bytes ∷ []) (decimal_nonempty seconds (omega arith)) (decimal_is_IsNumeral seconds (omega arith)).0.1, time_back seconds (hex_of bytes ∷ []) low, bytes_back bytes [] some few small) refl

words_are : (seconds : ℕ) (bytes : List ℕ) → seconds < 18446744074 → 0 < length bytes → IsBytes bytes →
    words_of (decimal seconds ++ 32 ∷ hex_of bytes) ≡ decimal seconds ∷ hex_of bytes ∷ []
words_are seconds bytes low some small =
    let digits = decimal_plain (decimal seconds) (decimal_is_IsNumeral seconds (omega arith)).0.1 in
    let longer : 0 < length (hex_of bytes) = omega (arith, length-hex_of bytes) in
    words_of-spaced (decimal seconds ∷ hex_of bytes ∷ []) (decimal_nonempty seconds (omega arith), digits.0, (longer, (hex_plain bytes small).0, tt))

line_short : (seconds : ℕ) (bytes : List ℕ) → seconds < 18446744074 → length bytes ≤ 65575 → length (decimal seconds ++ 32 ∷ hex_of bytes) ≤ 131200
line_short seconds bytes low few =
    let wide : seconds < 10 ^ 11 = omega arith in
    let front = length-decimal-le 11 seconds (omega arith) wide (omega arith) in
    omega (arith, length-append (decimal seconds) (32 ∷ hex_of bytes), length-hex_of bytes)

-- the line has the stored segment
pub stored_back : (n seconds : ℕ) (bytes : List ℕ) → seconds < 18446744074 → 0 < length bytes → length bytes ≤ 65575 → IsBytes bytes →
    stored_line n (decimal seconds ++ 32 ∷ hex_of bytes) ≡ Ok (Some (record { number = n; time = seconds; bytes = bytes }))
unfolding stored_line
stored_back n seconds bytes low some few small =
    rw (le-ltb 131200 (length (decimal seconds ++ 32 ∷ hex_of bytes)) (line_short seconds bytes low few), words_are seconds bytes low some small) (words_back n seconds bytes low some few small)
