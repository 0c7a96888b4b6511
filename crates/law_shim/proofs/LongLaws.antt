-- Options that are written anew have no more bytes than before.
use Rattle.std.proofs.Common.{◌≡◌, ℕ, ◌+◌, ◌-◌, ◌*◌, ◌%◌, ◌≤◌, ◌==◌, ◌||◌, ◌&&◌, Bool, true, false, List, [], ◌∷◌, ◌++◌, length, take, replicate, Option, Some, None, refl, ap, arith, length-append, inl, inr, if◌then◌else◌}
use Rattle.std.proofs.lemmas.List.{length-replicate, length-take}
use Rattle.std.proofs.lemmas.Bool.Decides.{nat_tests}
use Rattle.book_segments.specs.Bytes.{put2}
use Rattle.book_segments.specs.Areas.{spell_option, spell_options, ending, Area}
use Rattle.book_segments.specs.Options.{Opt, Plain, plains, listed, options_of, AreListed}
use Rattle.book_segments.proofs.AreaLaws.{area_of}
use Rattle.book_shim.specs.Relaying.{spelled, sack, going, is_left_out, coming, with_mss, lowered, in_words, rewritten}
use Rattle.book_shim.specs.declared.trim.Trim.{Trim}
use Rattle.std.specs.Prelude.{flat_map}

-- each option is written in no more bytes
abbrev pub Shortens : (Plain → List ℕ) → Type 0
Shortens w = (o : Plain) → length (w o) ≤ length (spelled o)

written_long : (w : Plain → List ℕ) (os : List Opt) → Shortens w → length (flat_map w (plains os)) ≤ length (spell_options os)
written_long w [] s = omega arith
written_long w (o ∷ os) s =
    let p : Plain = record { kind = o.kind; body = o.body } in
    omega (arith, s p, written_long w os s, length-append (w p) (flat_map w (plains os)), length-append (spell_option o) (spell_options os))

spell_last : (os : List Opt) (p : ℕ) → length (spell_options (os ++ ending p ∷ [])) ≡ length (spell_options os) + 1
spell_last [] p = refl
spell_last (o ∷ os) p =
    omega (arith, spell_last os p, length-append (spell_option o) (spell_options (os ++ ending p ∷ [])), length-append (spell_option o) (spell_options os))

area_long : (list : List Opt) (tail bytes : List ℕ) → Area list tail bytes → length (spell_options list) ≤ length bytes
area_long list tail bytes (inl a) = omega (arith, ap length a.2)
area_long list tail bytes (inr b) =
    omega (arith, ap (λ (l : List Opt). length (spell_options l)) b.2, spell_last b.0 (0 + length (spell_options b.0)), ap length b.3, length-append (spell_options b.0) (0 ∷ tail))

filled_long : (n m : ℕ) → n ≤ m → m % 4 ≡ 0 → n + (4 - n % 4) % 4 ≤ m
filled_long n m h e = omega arith

words_long : (xs : List ℕ) (m : ℕ) → length xs ≤ m → m % 4 ≡ 0 → length (in_words xs) ≤ m
words_long xs m h e =
    let r : length (replicate {A = ℕ} ((4 - length xs % 4) % 4) 1) ≡ (4 - length xs % 4) % 4 = length-replicate ((4 - length xs % 4) % 4) 1 in
    omega (arith, filled_long (length xs) m h e, length-append xs (replicate {A = ℕ} ((4 - length xs % 4) % 4) 1), r)

pub rewritten_long : (w : Plain → List ℕ) (area : List ℕ) → Shortens w → AreListed (options_of area) → length area % 4 ≡ 0 → length (rewritten w area) ≤ length area
unfolding rewritten
rewritten_long w area s l e =
    let a = area_of area l in
    let n = written_long w (listed (options_of area)) s in
    let m = area_long (listed (options_of area)) a.0 area a.1 in
    words_long (flat_map w (plains (listed (options_of area)))) (length area) (omega arith) e

-- ---- the options as they go out, and as they come in

sack_long : (body : List ℕ) → length (sack body) ≤ 2 + length body
sack_long [] = omega arith
sack_long (b ∷ bs) = omega arith

five_long : (o : Plain) (n : ℕ) → (o.kind == 5) ≡ true → length (sack (take n o.body)) ≤ length (spelled o)
five_long o n e =
    let five : o.kind ≡ 5 = grind (arith, nat_tests) in
    let long : length (spelled o) ≡ 2 + length o.body = rw five (omega arith) in
    omega (arith, long, sack_long (take n o.body), length-take n o.body)

going_by : (out five : Bool) (o : Plain) (n : ℕ) → (o.kind == 5) ≡ five → length (if out then [] else (if five then sack (take n o.body) else spelled o)) ≤ length (spelled o)
going_by true five o n e = omega arith
going_by false true o n e = five_long o n e
going_by false false o n e = omega arith

pub going_shortens : (t : Trim) → Shortens (going t)
going_shortens t o = going_by (is_left_out t o) (o.kind == 5) o (8 * t.blocks) refl

mss_long : (b : Bool) (o : Plain) (most : ℕ) → ((o.kind == 2) && (length o.body == 2)) ≡ b → length (if b then 2 ∷ 4 ∷ put2 (lowered most o.body) [] else spelled o) ≤ length (spelled o)
unfolding put2
mss_long true o most e =
    let t = and_is (o.kind == 2) (length o.body == 2) e in
    let two : o.kind ≡ 2 = same o.kind t.0 in
    let body : length o.body ≡ 2 = same (length o.body) t.1 in
    let long : length (spelled o) ≡ 2 + length o.body = rw two (omega arith) in
    omega arith
  where
    and_is : (a b : Bool) → (a && b) ≡ true → (a ≡ true) × (b ≡ true)
    and_is true b e = (refl, e)
    and_is false b e = absurd (cc)

    same : (n : ℕ) → (n == 2) ≡ true → n ≡ 2
    same n e = grind (arith, nat_tests)
mss_long false o most e = omega arith

with_long : (most : Option ℕ) (o : Plain) → length (with_mss most o) ≤ length (spelled o)
with_long None o = omega arith
with_long (Some most) o = mss_long ((o.kind == 2) && (length o.body == 2)) o most refl

coming_by : (out : Bool) (most : Option ℕ) (o : Plain) → length (if out then [] else with_mss most o) ≤ length (spelled o)
coming_by true most o = omega arith
coming_by false most o = with_long most o

pub coming_shortens : (most : Option ℕ) → Shortens (coming most)
coming_shortens most o = coming_by ((o.kind == 0) || (o.kind == 29)) most o
