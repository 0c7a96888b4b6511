-- The line and the word that a cut names.
use Rattle.std.proofs.Common.{◌≡◌, ℕ, suc, ◌+◌, ◌-◌, ◌<◌, ◌≤◌, Bool, true, false, Option, Some, None, unwrap_or, List, [], ◌∷◌, length, take, drop, refl, sym, ap, ◌∙◌, arith}
use Rattle.std.proofs.lemmas.List.{drop-drop, length-drop, nil_from_length}
use Rattle.std.proofs.lemmas.List.Sums.{position_or_len_is}
use Rattle.std.specs.List.{position_or_len, prefix_len}
use Rattle.memchr.specs.Find.{IsFirstByte}
use Rattle.book_base.specs.Lines.{is_newline, is_blank, lines_of, words_of}
use Rattle.book_base.proofs.LineLaws.{FirstWord, lines_step, blanks_step, begins_word, word_step}
use Rattle.ao_base.specs.Cuts.{IsNextLine, IsNextWord}

not_yes : (b : Bool) → (b ≡ true → ⊥) → b ≡ false
not_yes true h = absurd (h refl)
not_yes false h = refl

-- the first place that a search gives, or the length
pub first_or_length : (p : ℕ → Bool) (xs : List ℕ) (r : Option ℕ) → IsFirstByte p xs r → unwrap_or r (length xs) ≡ position_or_len p xs
first_or_length p xs None none =
    sym (position_or_len_is p xs (length xs) 0 (omega arith) (λ k lt. not_yes _ (none k (omega arith) lt)) (λ lt. absurd (omega arith)))
first_or_length p xs (Some k) first =
    sym (position_or_len_is p xs k 0 (let h = first.0.high in omega arith) (λ j lt. not_yes _ (first.0.before j (omega arith) lt)) (λ _. first.1))

pub first_within : (p : ℕ → Bool) (xs : List ℕ) (r : Option ℕ) → IsFirstByte p xs r → unwrap_or r (length xs) ≤ length xs
first_within p xs None none = omega arith
first_within p xs (Some k) first = let h = first.0.high in omega arith

-- the line that begins at a place
pub next_line_is : (text rest : List ℕ) (from n : ℕ) → rest ≡ drop from text → from ≤ length text → 0 < length rest →
    n ≡ position_or_len is_newline rest → n ≤ length rest → IsNextLine text from (record { first = from; after = from + n })
next_line_is text rest from n rest_is within some n_is n_within =
    let whole : length rest ≡ length text - from = rw rest_is (length-drop from text) in
    let size : from + n - from ≡ n = omega arith in
    let later : drop (suc n) rest ≡ drop (from + n + 1) text =
    rw rest_is (drop-drop (suc n) from text ∙ ap (λ k. drop k text) (omega arith)) in
    record {
      begins = refl;
      ordered = omega arith;
      within = omega arith;
      parts = rw size (rw (← rest_is, ← later, n_is) (lines_step rest some));
    }

pub no_line : (text rest : List ℕ) (from : ℕ) → rest ≡ drop from text → length rest ≡ 0 → lines_of (drop from text) ≡ []
unfolding lines_of
no_line text rest from rest_is none = rw (← rest_is, nil_from_length rest none) refl

pub next_word_is : (line front rest : List ℕ) (from blanks n : ℕ) → front ≡ drop from line → from ≤ length line →
    blanks ≡ prefix_len is_blank front → rest ≡ drop (from + blanks) line → 0 < length rest →
    n ≡ position_or_len is_blank rest → n ≤ length rest → IsNextWord line from (record { first = from + blanks; after = from + blanks + n })
next_word_is line front rest from blanks n front_is within blanks_is rest_is some n_is n_within =
    let past : rest ≡ drop blanks front = rest_is ∙ sym (rw front_is (drop-drop blanks from line)) in
    let past2 : rest ≡ drop (prefix_len is_blank front) front = rw (← blanks_is) past in
    let word : FirstWord rest (position_or_len is_blank rest) = word_step rest (rw past2 (begins_word front (rw (← past2) some))) in
    let whole : length rest ≡ length line - (from + blanks) = rw rest_is (length-drop (from + blanks) line) in
    let size : from + blanks + n - (from + blanks) ≡ n = omega arith in
    let later : drop n rest ≡ drop (from + blanks + n) line = rw rest_is (drop-drop n (from + blanks) line) in
    record {
      begins = omega arith;
      ordered = let h : 0 < n = rw n_is word.some in omega arith;
      within = omega arith;
      parts = rw (← front_is, size) (blanks_step front ∙ rw (← past2, ← later, ← rest_is, n_is) word.parts);
    }

pub no_word : (line front rest : List ℕ) (from blanks : ℕ) → front ≡ drop from line →
    blanks ≡ prefix_len is_blank front → rest ≡ drop (from + blanks) line → length rest ≡ 0 → words_of (drop from line) ≡ []
unfolding words_of
no_word line front rest from blanks front_is blanks_is rest_is none =
    let past : rest ≡ drop blanks front = rest_is ∙ sym (rw front_is (drop-drop blanks from line)) in
    let past2 : rest ≡ drop (prefix_len is_blank front) front = rw (← blanks_is) past in
    rw (← front_is) (blanks_step front ∙ rw (← past2, nil_from_length rest none) refl)
