-- Places of newlines, and the first line of a text.
use Rattle.std.proofs.Common.{◌≡◌, ◌≢◌, ℕ, suc, ◌+◌, ◌-◌, ◌<◌, ◌≤◌, ◌==◌, Bool, true, false, not, cond, min, List, [], ◌∷◌, ◌++◌, length, take, drop, None, Some, inl, inr, refl, sym, ap, ◌∙◌, add-one, arith}
use Rattle.std.proofs.lemmas.List.{append-nil, take-append-le, drop-append-le, take-append-drop, length-take-le, length-drop, length-append, nil_from_length}
use Rattle.std.proofs.lemmas.List.Folds.{prefix_len-append}
use Rattle.std.proofs.lemmas.List.Sums.{prefix_len-le-length}
use Rattle.std.proofs.Math.Nat.{eq-or-lt_of_le}
use Rattle.std.proofs.Math.Seq.{take-length}
use Rattle.std.proofs.lemmas.Bool.Decides.{nat_tests}
use Rattle.std.specs.List.{position_or_len}
use Rattle.memchr.specs.Find.{IsFirstByte}
use Rattle.book_base.specs.Lines.{is_newline, lines_of}
use Rattle.ao_base.specs.Outside.{Side, IsAtEnd, told}
use Rattle.book_base.proofs.LineLaws.{lines_step, one_more}
use Rattle.ao_base.proofs.CutLaws.{first_or_length}
use Rattle.ao_base.proofs.Sides.{nothing_told}
use Rattle.ao_base.specs.Reads.{IsCut, IsFirstLine, IsLong, IsPlain, NoneLong}

-- how many bytes stand before the first newline
pub within : (xs : List ℕ) → position_or_len is_newline xs ≤ length xs
within xs = prefix_len-le-length (λ byte. not (is_newline byte)) xs

-- a newline in front
pub place_in_front : (xs ys : List ℕ) → position_or_len is_newline xs < length xs → position_or_len is_newline (xs ++ ys) ≡ position_or_len is_newline xs
place_in_front xs ys lt = grind (arith, nat_tests, prefix_len-append (λ byte. not (is_newline byte)) xs ys)

-- none in front
pub place_behind : (xs ys : List ℕ) → position_or_len is_newline xs ≡ length xs → position_or_len is_newline (xs ++ ys) ≡ length xs + position_or_len is_newline ys
place_behind xs ys eq = grind (arith, nat_tests, prefix_len-append (λ byte. not (is_newline byte)) xs ys)

-- a newline isn't before the first one of the bytes in front
pub place_later : (xs ys : List ℕ) → position_or_len is_newline xs ≤ position_or_len is_newline (xs ++ ys)
place_later xs ys = let h = within xs in grind (arith, nat_tests, prefix_len-append (λ byte. not (is_newline byte)) xs ys)

-- past a front without newlines
pub place_from : (xs : List ℕ) (from : ℕ) → from ≤ length xs → position_or_len is_newline (take from xs) ≡ from →
    position_or_len is_newline xs ≡ from + position_or_len is_newline (drop from xs)
place_from xs from le none =
    let size : length (take from xs) ≡ from = length-take-le from xs le in
    let whole : position_or_len is_newline xs ≡ position_or_len is_newline (take from xs ++ drop from xs) =
    ap (position_or_len is_newline) (sym (take-append-drop from xs)) in
    whole ∙ (place_behind (take from xs) (drop from xs) (none ∙ sym size) ∙ ap (λ n. n + position_or_len is_newline (drop from xs)) size)

-- what a search behind such a front finds
pub none_from : (xs rest : List ℕ) (from : ℕ) → rest ≡ drop from xs → from ≤ length xs → position_or_len is_newline (take from xs) ≡ from →
    IsFirstByte is_newline rest None → position_or_len is_newline xs ≡ length xs
none_from xs rest from rest_is le none found =
    let all = first_or_length is_newline rest None found in
    let size : length rest ≡ length xs - from = rw rest_is (length-drop from xs) in
    let place : position_or_len is_newline xs ≡ from + position_or_len is_newline rest = rw rest_is (place_from xs from le none) in
    omega arith

pub record FoundAt (xs : List ℕ) (n : ℕ) : Type 0 where
  pub at : n ≡ position_or_len is_newline xs
  pub within : n < length xs

pub found_from : (xs rest : List ℕ) (from k : ℕ) → rest ≡ drop from xs → from ≤ length xs → position_or_len is_newline (take from xs) ≡ from →
    IsFirstByte is_newline rest (Some k) → FoundAt xs (from + k)
found_from xs rest from k rest_is le none found =
    let first = first_or_length is_newline rest (Some k) found in
    let high : k < length rest = found.0.high in
    let size : length rest ≡ length xs - from = rw rest_is (length-drop from xs) in
    let place : position_or_len is_newline xs ≡ from + position_or_len is_newline rest = rw rest_is (place_from xs from le none) in
    record { at = omega arith; within = omega arith }

first_line : (text line rest : List ℕ) (n : ℕ) → 0 < length text → n ≡ position_or_len is_newline text → line ≡ take n text → rest ≡ drop (n + 1) text → n ≤ length text →
    IsFirstLine text line rest
first_line text line rest n some n_is line_is rest_is le =
    let size : length line ≡ n = rw line_is (length-take-le n text le) in
    record {
      first = rw (line_is, rest_is, n_is, add-one) (lines_step text some);
      follows = rw size rest_is;
    }

-- with its newline among the kept bytes
pub line_before : (kept left : List ℕ) (n past : ℕ) → n ≡ position_or_len is_newline kept → n < length kept → past ≡ n + 1 →
    IsFirstLine (kept ++ left) (take n kept) (drop past kept ++ left)
line_before kept left n past n_is lt past_is =
    let size = length-append kept left in
    first_line (kept ++ left) _ _ n (omega arith) (n_is ∙ sym (place_in_front kept left (rw (← n_is) lt))) (sym (take-append-le n kept left (omega arith)))
    (rw past_is (sym (drop-append-le (n + 1) kept left (omega arith)))) (omega arith)

-- the last line, at the end of the source
pub line_last : (kept : List ℕ) (side : Side) (n past : ℕ) → n ≡ position_or_len is_newline kept → n ≡ length kept → 0 < length kept → past ≡ n → IsAtEnd side →
    IsFirstLine (kept ++ told side.bytes) (take n kept) (drop past kept ++ told side.bytes)
line_last kept side n past n_is all some past_is end =
    let none : told side.bytes ≡ [] = nothing_told side end in
    let size : length (drop past kept) ≡ length kept - past = length-drop past kept in
    let size1 : length (drop (n + 1) kept) ≡ length kept - (n + 1) = length-drop (n + 1) kept in
    let gone : drop past kept ≡ [] = nil_from_length (drop past kept) (omega arith) in
    let gone1 : drop (n + 1) kept ≡ [] = nil_from_length (drop (n + 1) kept) (omega arith) in
    rw (none, append-nil kept, append-nil (drop past kept)) (first_line kept _ _ n some n_is refl (gone ∙ sym gone1) (omega arith))

-- a line that is too long
pub long_line : (longest : ℕ) (kept : List ℕ) → longest < position_or_len is_newline kept → IsLong longest (lines_of kept)
long_line longest kept lt =
    let inside = within kept in
    let line : length (take (position_or_len is_newline kept) kept) ≡ position_or_len is_newline kept = length-take-le _ kept inside in
    let step = lines_step kept (omega arith) in
    rw step (omega arith)

nothing_long : (longest : ℕ) (kept left : List ℕ) → length kept ≡ 0 → IsLong longest (lines_of kept) → IsLong longest (lines_of (kept ++ left))
unfolding lines_of
nothing_long longest [] left none long = absurd long
nothing_long longest (byte ∷ kept) left none long = absurd (omega arith)

-- it stays so, whatever follows
pub longer : (longest : ℕ) (kept left : List ℕ) → IsLong longest (lines_of kept) → IsLong longest (lines_of (kept ++ left))
longer longest [] left long = nothing_long longest [] left refl long
longer longest (byte ∷ rest) left long =
    let kept : List ℕ = byte ∷ rest in
    let inside = within kept in
    let line : length (take (position_or_len is_newline kept) kept) ≡ position_or_len is_newline kept = length-take-le _ kept inside in
    let first : longest < length (take (position_or_len is_newline kept) kept) = rw (lines_step kept (omega arith)) at long in
    let size = length-append kept left in
    let later = place_later kept left in
    long_line longest (kept ++ left) (omega arith)

-- not both
pub long_and_none : (longest : ℕ) (lines : List (List ℕ)) → IsLong longest lines → NoneLong longest lines → ⊥
long_and_none longest [] long none = long
long_and_none longest (line ∷ lines) long none = let h = none.0 in omega arith

-- the line goes with its newline, where it has one
pub first_of : (kept : List ℕ) (side : Side) (n past : ℕ) → n ≡ position_or_len is_newline kept → n ≤ length kept → 0 < length kept →
    past ≡ min (n + 1) (length kept) → (n ≡ length kept → IsAtEnd side) → IsFirstLine (kept ++ told side.bytes) (take n kept) (drop past kept ++ told side.bytes)
first_of kept side n past n_is inside some past_is end =
    elim (eq-or-lt_of_le inside) [
      | inl last ↦ line_last kept side n past n_is last some (omega arith) (end last)
      | inr before ↦ line_before kept (told side.bytes) n past n_is before (omega arith)
    ]

pub past_within : (n past kept allowed : ℕ) (side : Side) → past ≡ min (n + 1) kept → n ≤ kept → (n < kept → n < allowed) → (n ≡ kept → IsAtEnd side × (n ≤ allowed)) → past ≤ allowed
past_within n past kept allowed side past_is inside before last =
    elim (eq-or-lt_of_le inside) [
      | inl same ↦ let h = (last same).1 in omega arith
      | inr lt ↦ let h = before lt in omega arith
    ]

-- what stands in front of the first newline has none
pub plain_front : (xs : List ℕ) (n : ℕ) → n ≡ position_or_len is_newline xs → IsPlain (take n xs)
plain_front xs n n_is =
    let inside : n ≤ length xs = rw n_is (within xs) in
    let size : length (take n xs) ≡ n = length-take-le n xs inside in
    elim (eq-or-lt_of_le (within (take n xs))) [
      | inl same ↦ same
      | inr lt ↦
          let front = place_in_front (take n xs) (drop n xs) lt in
          let whole : position_or_len is_newline (take n xs ++ drop n xs) ≡ n = ap (position_or_len is_newline) (take-append-drop n xs) ∙ sym n_is in
          absurd (omega arith)
    ]

split_case : (b : Bool) (byte : ℕ) (rest : List ℕ) (n : ℕ) → is_newline byte ≡ b → (n < length rest → rest ≡ take n rest ++ 10 ∷ drop (suc n) rest) →
    cond (not b) (1 + n) 0 < 1 + length rest →
    byte ∷ rest ≡ take (cond (not b) (1 + n) 0) (byte ∷ rest) ++ 10 ∷ drop (suc (cond (not b) (1 + n) 0)) (byte ∷ rest)
split_case true byte rest n is more lt = let e : byte ≡ 10 = grind (arith, nat_tests) in rw e refl
split_case false byte rest n is more lt = rw one_more (ap (λ xs. byte ∷ xs) (more (omega arith)))

-- a text is its first line, the newline and the rest
pub split_at : (xs : List ℕ) → position_or_len is_newline xs < length xs → xs ≡ take (position_or_len is_newline xs) xs ++ 10 ∷ drop (suc (position_or_len is_newline xs)) xs
split_at [] lt = absurd (omega arith)
split_at (byte ∷ xs) lt = split_case (is_newline byte) byte xs (position_or_len is_newline xs) refl (split_at xs) (omega arith)

-- how a line goes, by whether its newline was there
pub cut_of : (kept : List ℕ) (side : Side) (n past : ℕ) (b : Bool) → (past == n) ≡ b → n ≡ position_or_len is_newline kept → n ≤ length kept → 0 < length kept →
    past ≡ min (n + 1) (length kept) → (n ≡ length kept → IsAtEnd side) → IsCut kept (take n kept) (drop past kept) b side
cut_of kept side n past true is n_is inside some past_is end =
    let same : past ≡ n = grind (arith, nat_tests) in
    let all : n ≡ length kept = omega arith in
    let size : length (drop past kept) ≡ length kept - past = length-drop past kept in
    let taken : length (take n kept) ≡ n = length-take-le n kept inside in
    (rw all (sym (take-length kept)), nil_from_length (drop past kept) (omega arith), omega arith, end all)
cut_of kept side n past false is n_is inside some past_is end =
    let differ : past ≢ n = λ e. absurd (grind (arith, nat_tests)) in
    let less : n < length kept = omega arith in
    let one : past ≡ suc n = omega arith in
    rw (one, n_is) (split_at kept (rw (← n_is) less))

add_none : (n : ℕ) → n + 0 ≡ n
add_none n = omega arith

take_front : (xs ys : List ℕ) → take (length xs) (xs ++ ys) ≡ xs
take_front xs ys = take-append-le (length xs) xs ys (omega arith) ∙ take-length xs

drop_front : (xs ys : List ℕ) → drop (suc (length xs)) (xs ++ 10 ∷ ys) ≡ ys
drop_front [] ys = refl
drop_front (x ∷ xs) ys = drop_front xs ys

-- a line with its newline comes first
pub line_first : (line text : List ℕ) → IsPlain line → lines_of (line ++ 10 ∷ text) ≡ line ∷ lines_of text
line_first line text plain =
    let size : length (line ++ 10 ∷ text) ≡ length line + suc (length text) = length-append line (10 ∷ text) in
    let place : position_or_len is_newline (line ++ 10 ∷ text) ≡ length line = place_behind line (10 ∷ text) plain ∙ add_none (length line) in
    lines_step (line ++ 10 ∷ text) (omega arith) ∙ rw (place, take_front line (10 ∷ text), drop_front line text) refl

-- a last line without a newline
pub line_alone : (line : List ℕ) → IsPlain line → 0 < length line → lines_of line ≡ line ∷ []
unfolding lines_of
line_alone line plain some =
    let gone : drop (suc (length line)) line ≡ [] = nil_from_length _ (let size = length-drop (suc (length line)) line in omega arith) in
    lines_step line some ∙ rw (plain, take-length line, gone) refl
