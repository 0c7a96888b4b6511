-- The first line of a text and the first word of a line, and what stays after them.
use Rattle.std.proofs.Common.{◌≡◌, ℕ, suc, ◌+◌, ◌<◌, ◌≤◌, ◌==◌, Bool, true, false, not, cond, nat_lt, List, [], ◌∷◌, ◌++◌, length, take, drop, Some, None, unwrap_or, refl, sym, ap, ◌∙◌, arith}
use Rattle.std.proofs.lemmas.List.{append-nil}
use Rattle.std.proofs.lemmas.List.Sums.{prefix_len-le-length}
use Rattle.std.proofs.lemmas.Bool.{ltb-false, ne_eqb}
use Rattle.std.specs.Str.Parse.{AllDigits}
use Rattle.std.proofs.lemmas.Str.Parse.{digit_from_value}
use Rattle.std.specs.List.{position, position_or_len, prefix_len}
use Rattle.book_base.specs.Lines.{is_newline, is_blank, is_apart, onto_first, lines_of, words_of}

pub one_more : (n : ℕ) → 1 + n ≡ suc n
one_more n = omega arith

chosen : (b : Bool) (k n : ℕ) → (b ≡ false → k ≡ n) → unwrap_or (cond b (Some k) None) n ≡ k
chosen true k n h = refl
chosen false k n h = sym (h refl)

-- the first place that passes, or the length
pub place_or_length : (p : ℕ → Bool) (xs : List ℕ) → unwrap_or (position p xs) (length xs) ≡ position_or_len p xs
place_or_length p xs = chosen (nat_lt (position_or_len p xs) (length xs)) (position_or_len p xs) (length xs)
    (λ e. let above : length xs ≤ position_or_len p xs = ltb-false _ _ e in
    let below : position_or_len p xs ≤ length xs = prefix_len-le-length (λ x. not (p x)) xs in omega arith)

not_not : (b : Bool) → not (not b) ≡ b
not_not true = refl
not_not false = refl

-- how many pass in front, by the first that doesn't
pub in_front : (p : ℕ → Bool) (xs : List ℕ) → position_or_len (λ x. not (p x)) xs ≡ prefix_len p xs
in_front p [] = refl
in_front p (x ∷ xs) = rw (not_not (p x), in_front p xs) refl

pub onto_cons : (byte : ℕ) (part : List ℕ) (parts whole : List (List ℕ)) → whole ≡ part ∷ parts → onto_first byte whole ≡ (byte ∷ part) ∷ parts
onto_cons byte part parts whole e = rw e refl

line_case : (b : Bool) (byte : ℕ) (rest : List ℕ) (n : ℕ) →
    onto_first byte (lines_of rest) ≡ (byte ∷ take n rest) ∷ lines_of (drop (suc n) rest) →
    cond b ([] ∷ lines_of rest) (onto_first byte (lines_of rest))
    ≡ take (cond (not b) (1 + n) 0) (byte ∷ rest) ∷ lines_of (drop (suc (cond (not b) (1 + n) 0)) (byte ∷ rest))
line_case true byte rest n h = refl
line_case false byte rest n h = rw one_more h

-- the first line, and the lines after its newline
pub lines_step : (text : List ℕ) → 0 < length text →
    lines_of text ≡ take (position_or_len is_newline text) text ∷ lines_of (drop (suc (position_or_len is_newline text)) text)
unfolding lines_of
lines_step [] some = absurd (omega arith)
lines_step (byte ∷ []) some = line_case (is_newline byte) byte [] 0 refl
lines_step (byte ∷ next ∷ text) some = line_case (is_newline byte) byte (next ∷ text) (position_or_len is_newline (next ∷ text))
    (onto_cons byte _ _ (lines_of (next ∷ text)) (lines_step (next ∷ text) (omega arith)))

blank_case : (b : Bool) (byte : ℕ) (rest : List ℕ) (n : ℕ) (other : List (List ℕ)) (whole : List (List ℕ)) → whole ≡ cond b (words_of rest) other →
    words_of (byte ∷ rest) ≡ whole → words_of rest ≡ words_of (drop n rest) →
    words_of (byte ∷ rest) ≡ words_of (drop (cond b (1 + n) 0) (byte ∷ rest))
blank_case true byte rest n other whole e w h = rw one_more (w ∙ (e ∙ h))
blank_case false byte rest n other whole e w h = refl

-- blanks in front are no words
pub blanks_step : (line : List ℕ) → words_of line ≡ words_of (drop (prefix_len is_blank line) line)
unfolding words_of
blanks_step [] = refl
blanks_step (byte ∷ line) = blank_case (is_blank byte) byte line (prefix_len is_blank line) _ _ refl refl (blanks_step line)

apart_case : (b : Bool) (byte : ℕ) (rest : List ℕ) (n : ℕ) → is_blank byte ≡ b → (0 < length (drop n rest) → is_apart (drop n rest) ≡ false) →
    0 < length (drop (cond b (1 + n) 0) (byte ∷ rest)) → is_apart (drop (cond b (1 + n) 0) (byte ∷ rest)) ≡ false
apart_case true byte rest n e h = rw one_more h
apart_case false byte rest n e h = λ _. e

-- past the blanks a word begins
pub begins_word : (line : List ℕ) → 0 < length (drop (prefix_len is_blank line) line) → is_apart (drop (prefix_len is_blank line) line) ≡ false
begins_word [] = λ some. absurd (omega arith)
begins_word (byte ∷ line) = apart_case (is_blank byte) byte line (prefix_len is_blank line) refl (begins_word line)

blank_place : (b : Bool) (n : ℕ) → b ≡ true → cond (not b) (1 + n) 0 ≡ 0
blank_place b n e = rw e refl

apart_place : (line : List ℕ) → is_apart line ≡ true → position_or_len is_blank line ≡ 0
apart_place [] e = refl
apart_place (byte ∷ line) e = blank_place (is_blank byte) (position_or_len is_blank line) e

-- the first word of a line that begins with one
pub record FirstWord (line : List ℕ) (n : ℕ) : Type 0 where
  pub some : 0 < n
  pub parts : words_of line ≡ take n line ∷ words_of (drop n line)

word_case : (b a : Bool) (byte : ℕ) (rest : List ℕ) (n : ℕ) → b ≡ false → (a ≡ true → n ≡ 0) →
    (a ≡ false → words_of rest ≡ take n rest ∷ words_of (drop n rest)) →
    words_of (byte ∷ rest) ≡ cond b (words_of rest) (cond a ((byte ∷ []) ∷ words_of rest) (onto_first byte (words_of rest))) →
    FirstWord (byte ∷ rest) (cond (not b) (1 + n) 0)
word_case true a byte rest n e none more h = absurd (cc e)
word_case false true byte rest n e none more h =
    let z : n ≡ 0 = none refl in
    rw z (record { some = omega arith; parts = h })
word_case false false byte rest n e none more h =
    rw one_more (record { some = omega arith; parts = h ∙ onto_cons byte _ _ (words_of rest) (more refl) })

pub word_step : (line : List ℕ) → is_apart line ≡ false → FirstWord line (position_or_len is_blank line)
unfolding words_of
word_step [] e = absurd (cc e)
word_step (byte ∷ rest) e = word_case (is_blank byte) (is_apart rest) byte rest (position_or_len is_blank rest) e (apart_place rest)
    (λ more. (word_step rest more).parts) refl

-- no byte of these is a blank
abbrev pub NoBlank : List ℕ → Type 0
NoBlank [] = Unit {0}
NoBlank (byte ∷ word) = (is_blank byte ≡ false) × NoBlank word

-- no byte of these is a newline
abbrev pub NoNewline : List ℕ → Type 0
NoNewline [] = Unit {0}
NoNewline (byte ∷ line) = (is_newline byte ≡ false) × NoNewline line

-- a line with its newline comes first
pub lines_of-line : (line : List ℕ) → NoNewline line → (text : List ℕ) → lines_of (line ++ 10 ∷ text) ≡ line ∷ lines_of text
unfolding lines_of
lines_of-line [] plain text = refl
lines_of-line (byte ∷ line) plain text = rw (plain.0, lines_of-line line plain.1 text) refl

-- a last line without a newline
pub lines_of-last : (byte : ℕ) (line : List ℕ) → NoNewline (byte ∷ line) → lines_of (byte ∷ line) ≡ (byte ∷ line) ∷ []
unfolding lines_of
lines_of-last byte [] plain = rw (plain.0) refl
lines_of-last byte (next ∷ line) plain = rw (plain.0, lines_of-last next line plain.1) refl

-- a blank in front is passed over
pub words_of-blank : (byte : ℕ) (line : List ℕ) → is_blank byte ≡ true → words_of (byte ∷ line) ≡ words_of line
unfolding words_of
words_of-blank byte line blank = rw blank refl

word_on : (byte : ℕ) (line : List ℕ) → is_blank byte ≡ false → is_apart line ≡ false → words_of (byte ∷ line) ≡ onto_first byte (words_of line)
unfolding words_of
word_on byte line plain more = rw (plain, more) refl

-- a word comes first where a blank or the end follows
pub words_of-word : (byte : ℕ) (word : List ℕ) → NoBlank (byte ∷ word) → (line : List ℕ) → is_apart line ≡ true →
    words_of (byte ∷ word ++ line) ≡ (byte ∷ word) ∷ words_of line
unfolding words_of
words_of-word byte [] plain line apart = rw (plain.0, apart) refl
words_of-word byte (next ∷ word) plain line apart = word_on byte (next ∷ word ++ line) plain.0 plain.1.0 ∙ onto_cons byte _ _ (words_of (next ∷ word ++ line)) (words_of-word next word plain.1 line apart)

-- words with a space between them
abbrev pub spaced : List (List ℕ) → List ℕ
spaced [] = []
spaced (word ∷ []) = word
spaced (word ∷ next ∷ words) = word ++ 32 ∷ spaced (next ∷ words)

-- each has a byte and none has a blank
abbrev pub AllWords : List (List ℕ) → Type 0
AllWords [] = Unit {0}
AllWords (word ∷ words) = (0 < length word) × NoBlank word × AllWords words

first_spaced : (word : List ℕ) → 0 < length word → NoBlank word → (line : List ℕ) → is_apart line ≡ true → words_of (word ++ line) ≡ word ∷ words_of line
first_spaced [] some plain line apart = absurd (omega arith)
first_spaced (byte ∷ word) some plain line apart = words_of-word byte word plain line apart

-- printed words are read back
pub words_of-spaced : (words : List (List ℕ)) → AllWords words → words_of (spaced words) ≡ words
unfolding words_of
words_of-spaced [] all = refl
words_of-spaced (word ∷ []) all = ap words_of (sym (append-nil word)) ∙ first_spaced word all.0 all.1 [] refl
words_of-spaced (word ∷ next ∷ words) all =
    first_spaced word all.0 all.1 (32 ∷ spaced (next ∷ words)) refl
    ∙ ap (λ rest. word ∷ rest) (words_of-blank 32 (spaced (next ∷ words)) refl ∙ words_of-spaced (next ∷ words) all.2)

-- digits are a word and no line's end
pub decimal_plain : (word : List ℕ) → AllDigits 10 word → NoBlank word × NoNewline word
decimal_plain [] digits = (tt, tt)
decimal_plain (byte ∷ word) digits =
    let digit = digit_from_value byte digits.0 in
    let rest = decimal_plain word digits.1 in
    let space : (byte == 32) ≡ false = ne_eqb byte 32 (λ e. omega arith) in
    let tab : (byte == 9) ≡ false = ne_eqb byte 9 (λ e. omega arith) in
    let return : (byte == 13) ≡ false = ne_eqb byte 13 (λ e. omega arith) in
    let newline : (byte == 10) ≡ false = ne_eqb byte 10 (λ e. omega arith) in
    ((rw (space, tab, return) refl, rest.0), (newline, rest.1))
