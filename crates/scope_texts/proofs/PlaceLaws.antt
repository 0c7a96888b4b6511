-- Places in a text, byte by byte and line by line.
use Rattle.std.proofs.Common.{◌≡◌, ℕ, suc, ◌+◌, ◌<◌, ◌≤◌, Bool, true, false, cond, Option, Some, None, List, [], ◌∷◌, length, drop, refl, sym, ap, ◌∙◌, arith, if◌then◌else◌}
use Rattle.std.specs.Prelude.{slice_index}
use Rattle.std.specs.List.{prefix_len}
use Rattle.std.proofs.lemmas.List.{drop_all, drop_more}
use Rattle.book_base.specs.Lines.{is_blank, is_newline, lines_of, onto_first}
use Rattle.book_scope_texts.specs.declared.finding.KeySpot.{KeySpot}
use Rattle.book_scope_texts.specs.declared.finding.TextPlace.{TextPlace}
use Rattle.book_scope_texts.specs.Places.{is_spot, line_key, past_byte, place_among, place_past, spot_past}

-- one byte more
pub one_byte : (p q whole : TextPlace) (text : List ℕ) (i : ℕ) → i < length text → q ≡ past_byte p (slice_index text i) → place_past p (drop i text) ≡ whole → place_past q (drop (i + 1) text) ≡ whole
unfolding place_past
one_byte p q whole text i within next so_far =
    let cons : drop i text ≡ slice_index text i ∷ drop (i + 1) text = drop_more text i 0 within in
    rw next (rw cons at so_far)

-- no byte is left
pub no_byte : (p whole : TextPlace) (text : List ℕ) (i : ℕ) → length text ≤ i → place_past p (drop i text) ≡ whole → p ≡ whole
unfolding place_past
no_byte p whole text i all so_far = let none : drop i text ≡ [] = drop_all i text all in rw none at so_far

few_onto : (b : ℕ) (ls : List (List ℕ)) (n : ℕ) → length ls ≤ n → length (onto_first b ls) ≤ suc n
few_onto b [] n h = omega arith
few_onto b (l ∷ ls) n h = omega arith

few_by : (newline : Bool) (b : ℕ) (ls : List (List ℕ)) (n : ℕ) → length ls ≤ n → length (cond newline ([] ∷ ls) (onto_first b ls)) ≤ suc n
few_by true b ls n h = omega arith
few_by false b ls n h = few_onto b ls n h

-- no more lines than bytes
pub few_lines : (text : List ℕ) → length (lines_of text) ≤ length text
unfolding lines_of
few_lines [] = omega arith
few_lines (b ∷ bs) = few_by (is_newline b) b (lines_of bs) (length bs) (few_lines bs)

here_by : (b : Bool) (p q : Option TextPlace) → b ≡ true → (if b then p else q) ≡ p
here_by true p q h = refl
here_by false p q h = absurd (cc)

later_by : (b : Bool) (p q : Option TextPlace) → b ≡ false → (if b then p else q) ≡ q
later_by false p q h = refl
later_by true p q h = absurd (cc)

-- a line that is looked for
pub place_here : (w : KeySpot) (field : Option (List ℕ)) (n : ℕ) (s now : KeySpot) (line key : List ℕ) (lines more : List (List ℕ)) (whole : Option TextPlace) → lines ≡ line ∷ more →
    key ≡ line_key line → now ≡ spot_past s key → is_spot w field now key ≡ true → place_among w field n s lines ≡ whole →
    Some (record { line = n + 1; column = prefix_len is_blank line + 1 }) ≡ whole
unfolding place_among
place_here w field n s now line key lines more whole cons key_is now_is found so_far =
    let same : is_spot w field (spot_past s (line_key line)) (line_key line) ≡ true = rw (← key_is, ← now_is) found in
    sym (here_by (is_spot w field (spot_past s (line_key line)) (line_key line)) _ _ same) ∙ (rw cons at so_far)

-- another line
pub place_later : (w : KeySpot) (field : Option (List ℕ)) (n : ℕ) (s now : KeySpot) (line key : List ℕ) (lines more : List (List ℕ)) (whole : Option TextPlace) → lines ≡ line ∷ more →
    key ≡ line_key line → now ≡ spot_past s key → is_spot w field now key ≡ false → place_among w field n s lines ≡ whole →
    place_among w field (n + 1) now more ≡ whole
unfolding place_among
place_later w field n s now line key lines more whole cons key_is now_is other so_far =
    let same : is_spot w field (spot_past s (line_key line)) (line_key line) ≡ false = rw (← key_is, ← now_is) other in
    let next : now ≡ spot_past s (line_key line) = now_is ∙ ap (spot_past s) key_is in
    rw next (sym (later_by (is_spot w field (spot_past s (line_key line)) (line_key line)) _ _ same) ∙ (rw cons at so_far))

-- no line is left
pub no_place : (w : KeySpot) (field : Option (List ℕ)) (n : ℕ) (s : KeySpot) (lines : List (List ℕ)) (whole : Option TextPlace) → lines ≡ [] → place_among w field n s lines ≡ whole → None ≡ whole
unfolding place_among
no_place w field n s lines whole none so_far = rw none at so_far
