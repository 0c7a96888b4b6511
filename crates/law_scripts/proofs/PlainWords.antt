-- Printed words: each has a byte, and none a blank or a newline.
use Rattle.std.proofs.Common.{◌≡◌, ℕ, ◌<◌, ◌^◌, ◌==◌, ◌&&◌, Bool, true, false, not, List, [], ◌∷◌, ◌++◌, length, decimal, refl, arith}
use Rattle.std.specs.List.{list_all}
use Rattle.std.proofs.lemmas.Bool.{both_ways, ne_eqb, and_parts, not-true}
use Rattle.std.proofs.lemmas.List.{length-append}
use Rattle.std.proofs.lemmas.List.Sums.{list_all-from_AllPass}
use Rattle.std.proofs.lemmas.Fmt.{decimal_is_IsNumeral, decimal_nonempty}
use Rattle.hex.specs.Hex.{IsBytes, is_hex_digit}
use Rattle.hex.proofs.HexLemmas.{decode_of-encode_lower, decode_of-ok}
use Rattle.book_base.specs.declared.address.Address.{Address}
use Rattle.book_base.specs.declared.address.Address.TheVariants.{V4, V6}
use Rattle.book_base.specs.Addresses.{address_text, dotted_text}
use Rattle.book_base.specs.Hexadecimal.{hex_of}
use Rattle.book_base.specs.Lines.{is_blank, is_newline}
use Rattle.book_base.proofs.HexadecimalLaws.{length-hex_of}
use Rattle.book_base.proofs.LineLaws.{NoBlank, NoNewline, AllWords, spaced, decimal_plain}
use Rattle.law_scripts.specs.Scripts.{IsAddress}

-- a word that stands on a line as it is
abbrev pub IsWord : List ℕ → Type 0
IsWord w = (0 < length w) × NoBlank w × NoNewline w

-- a byte of a word, as a test
abbrev pub is_plain : ℕ → Bool
is_plain b = not (is_blank b) && not (is_newline b)

-- the same by tests, for words that are written out
pub plain_by_test : (w : List ℕ) → list_all is_plain w ≡ true → NoBlank w × NoNewline w
plain_by_test [] e = (tt, tt)
plain_by_test (b ∷ w) e =
    let parts = and_parts (is_plain b) (list_all is_plain w) e in
    let here = and_parts (not (is_blank b)) (not (is_newline b)) parts.0 in
    let rest = plain_by_test w parts.1 in
    ((not-true (is_blank b) here.0, rest.0), (not-true (is_newline b) here.1, rest.1))

pub word_by_test : (w : List ℕ) → 0 < length w → list_all is_plain w ≡ true → IsWord w
word_by_test w some e = let p = plain_by_test w e in (some, p.0, p.1)

pub decimal_word : (n : ℕ) → n < 2 ^ 64 → IsWord (decimal n)
decimal_word n small =
    let p = decimal_plain (decimal n) (decimal_is_IsNumeral n small).0.1 in
    (decimal_nonempty n small, p.0, p.1)

no_byte : (b k : ℕ) → is_hex_digit b ≡ true → is_hex_digit k ≡ false → (b == k) ≡ false
no_byte b k digit other = ne_eqb b k (λ e. both_ways (is_hex_digit b) (rw e other) digit)

hex_plain : (w : List ℕ) → list_all is_hex_digit w ≡ true → NoBlank w × NoNewline w
hex_plain [] e = (tt, tt)
hex_plain (b ∷ w) e =
    let parts = and_parts (is_hex_digit b) (list_all is_hex_digit w) e in
    let rest = hex_plain w parts.1 in
    ((rw (no_byte b 32 parts.0 refl, no_byte b 9 parts.0 refl, no_byte b 13 parts.0 refl) refl, rest.0), (no_byte b 10 parts.0 refl, rest.1))

hex_of_plain : (bytes : List ℕ) → IsBytes bytes → NoBlank (hex_of bytes) × NoNewline (hex_of bytes)
hex_of_plain bytes small = hex_plain (hex_of bytes)
    (list_all-from_AllPass is_hex_digit (hex_of bytes) (decode_of-ok (hex_of bytes) bytes (decode_of-encode_lower bytes small)).1)

pub hex_word : (bytes : List ℕ) → 0 < length bytes → IsBytes bytes → IsWord (hex_of bytes)
hex_word bytes some small =
    let p = hex_of_plain bytes small in
    let longer : 0 < length (hex_of bytes) = omega (arith, length-hex_of bytes) in
    (longer, p.0, p.1)

NoBlank-append : (v w : List ℕ) → NoBlank v → NoBlank w → NoBlank (v ++ w)
NoBlank-append [] w hv hw = hw
NoBlank-append (b ∷ v) w hv hw = (hv.0, NoBlank-append v w hv.1 hw)

pub NoNewline-append : (v w : List ℕ) → NoNewline v → NoNewline w → NoNewline (v ++ w)
NoNewline-append [] w hv hw = hw
NoNewline-append (b ∷ v) w hv hw = (hv.0, NoNewline-append v w hv.1 hw)

with_dot : (v w : List ℕ) → IsWord v → IsWord w → IsWord (v ++ 46 ∷ w)
with_dot v w hv hw =
    let longer : 0 < length (v ++ 46 ∷ w) = omega (arith, length-append v (46 ∷ w), hv.0) in
    (longer, NoBlank-append v (46 ∷ w) hv.1 (refl, hw.1), NoNewline-append v (46 ∷ w) hv.2 (refl, hw.2))

four_word : (bytes : List ℕ) → length bytes ≡ 4 → IsBytes bytes → IsWord (dotted_text bytes)
four_word [] e small = absurd (omega arith)
four_word (a ∷ []) e small = absurd (omega arith)
four_word (a ∷ b ∷ []) e small = absurd (omega arith)
four_word (a ∷ b ∷ c ∷ []) e small = absurd (omega arith)
four_word (a ∷ b ∷ c ∷ d ∷ []) e small =
    let word = λ (n : ℕ) (h : n < 256). decimal_word n (omega arith) in
    let last_two = with_dot (decimal c) (decimal d) (word c (small 2)) (word d (small 3)) in
    with_dot (decimal a) _ (word a (small 0)) (with_dot (decimal b) _ (word b (small 1)) last_two)
four_word (a ∷ b ∷ c ∷ d ∷ f ∷ bytes) e small = absurd (omega arith)

pub address_word : (a : Address) → IsAddress a → IsWord (address_text a)
unfolding address_text
address_word (V4 bytes) h = four_word bytes h.0 h.1
address_word (V6 bytes) h = hex_word bytes (omega arith) h.1

-- words of a line
abbrev pub AreWords : List (List ℕ) → Type 0
AreWords [] = Unit {0}
AreWords (w ∷ ws) = IsWord w × AreWords ws

pub all_words : (ws : List (List ℕ)) → AreWords ws → AllWords ws
all_words [] h = tt
all_words (w ∷ ws) h = (h.0.0, h.0.1, all_words ws h.1)

pub no_newline : (ws : List (List ℕ)) → AreWords ws → NoNewline (spaced ws)
no_newline [] h = tt
no_newline (w ∷ []) h = h.0.2
no_newline (w ∷ v ∷ ws) h = NoNewline-append w (32 ∷ spaced (v ∷ ws)) h.0.2 (refl, no_newline (v ∷ ws) h.1)
