-- Options that are written one after the other.
use Rattle.std.proofs.Common.{◌≡◌, ℕ, zero, suc, ◌+◌, ◌-◌, ◌%◌, ◌<◌, ◌≤◌, ◌==◌, ◌||◌, ◌&&◌, Bool, true, false, List, [], ◌∷◌, ◌++◌, length, replicate, Option, Some, None, refl, sym, ap, ◌∙◌, arith, append_assoc, length-append, if◌then◌else◌, inl, inr}
use Rattle.std.specs.Option.{option_or}
use Rattle.std.proofs.lemmas.List.{append-nil}
use Rattle.std.proofs.lemmas.Bool.Decides.{nat_tests}
use Rattle.book_segments.specs.Bytes.{put2}
use Rattle.book_segments.specs.Areas.{spell_option, spell_options, ending, Area}
use Rattle.book_segments.specs.Options.{Opt, Plain, plains, listed, options_of, AreListed}
use Rattle.book_segments.proofs.AreaLaws.{area_of}
use Rattle.book_shim.specs.Relaying.{spelled, coming, with_mss, lowered, in_words, rewritten, packed_in, fitted_from}
use Rattle.ao_shim.specs.Puts.{Puts}
use Rattle.std.specs.Prelude.{flat_map}

pub one_more : (w : Plain → List ℕ) (area new all : List ℕ) (items rest : List Plain) (o : Plain) → items ≡ o ∷ rest → new ≡ area ++ w o → area ++ flat_map w items ≡ all → new ++ flat_map w rest ≡ all
one_more w area new all items rest o is put h =
    ap (λ (l : List ℕ). l ++ flat_map w rest) put ∙ append_assoc area (w o) (flat_map w rest) ∙ sym (ap (λ (l : List Plain). area ++ flat_map w l) is) ∙ h

pub all_done : (w : Plain → List ℕ) (area all : List ℕ) (items : List Plain) → items ≡ [] → area ++ flat_map w items ≡ all → area ≡ all
all_done w area all items is h = sym (append-nil area) ∙ sym (ap (λ (l : List Plain). area ++ flat_map w l) is) ∙ h

pub is_rewritten : (w : Plain → List ℕ) (options area new : List ℕ) (items : List Plain) → items ≡ [] → area ++ flat_map w items ≡ flat_map w (plains (listed (options_of options))) → new ≡ in_words area
    → new ≡ rewritten w options
unfolding rewritten
is_rewritten w options area new items is h f = f ∙ ap in_words (all_done w area _ items is h)

words_longer : (xs : List ℕ) → length xs ≤ length (in_words xs)
words_longer xs = let a = length-append xs (replicate {A = ℕ} ((4 - length xs % 4) % 4) 1) in omega arith

pub too_long : (w : Plain → List ℕ) (options area : List ℕ) (items rest : List Plain) (o : Plain) → items ≡ o ∷ rest → area ++ flat_map w items ≡ flat_map w (plains (listed (options_of options)))
    → 40 < length area + length (w o) → 40 < length (rewritten w options)
unfolding rewritten
too_long w options area items rest o is h long =
    let all = flat_map w (plains (listed (options_of options))) in
    let e : length (area ++ (w o ++ flat_map w rest)) ≡ length all = ap (λ (l : List ℕ). length l) (sym (ap (λ (l : List Plain). area ++ flat_map w l) is) ∙ h) in
    let a = length-append area (w o ++ flat_map w rest) in
    let b = length-append (w o) (flat_map w rest) in
    let c = words_longer all in
    omega arith

-- ---- what comes in isn't longer

mss_long : (x : ℕ) → length (2 ∷ 4 ∷ put2 x []) ≡ 4
unfolding put2
mss_long x = refl

spelled_two : (o : Plain) → o.kind ≡ 2 → length o.body ≡ 2 → length (spelled o) ≡ 4
spelled_two o k b = rw k (omega arith)

mss_short : (most : ℕ) (m : Bool) (o : Plain) → (m ≡ true → (o.kind ≡ 2) × (length o.body ≡ 2)) → length (if m then 2 ∷ 4 ∷ put2 (lowered most o.body) [] else spelled o) ≤ length (spelled o)
mss_short most true o h = let t = h refl in let s = spelled_two o t.0 t.1 in let l = mss_long (lowered most o.body) in omega arith
mss_short most false o h = omega arith

and_two : (a b : Bool) → (a && b) ≡ true → (a ≡ true) × (b ≡ true)
and_two true true e = (refl, refl)
and_two true false e = absurd (cc)
and_two false b e = absurd (cc)

eq_is : (x y : ℕ) → (x == y) ≡ true → x ≡ y
eq_is x y e = grind (arith, nat_tests)

with_short : (most : Option ℕ) (o : Plain) → length (with_mss most o) ≤ length (spelled o)
with_short None o = omega arith
with_short (Some most) o = mss_short most ((o.kind == 2) && (length o.body == 2)) o (λ e. let t = and_two (o.kind == 2) (length o.body == 2) e in (eq_is _ _ t.0, eq_is _ _ t.1))

come_short : (z : Bool) (most : Option ℕ) (o : Plain) → length (if z then [] else with_mss most o) ≤ length (spelled o)
come_short true most o = omega arith
come_short false most o = with_short most o

one_short : (most : Option ℕ) (o : Plain) → length (coming most o) ≤ length (spelled o)
one_short most o = come_short ((o.kind == 0) || (o.kind == 29)) most o

all_short : (most : Option ℕ) (list : List Opt) → length (flat_map (coming most) (plains list)) ≤ length (spell_options list)
all_short most [] = omega arith
all_short most (o ∷ os) =
    let p : Plain = record { kind = o.kind; body = o.body } in
    let a = length-append (coming most p) (flat_map (coming most) (plains os)) in
    let b = length-append (spell_option o) (spell_options os) in
    let c = one_short most p in
    let d = all_short most os in
    omega arith

plains_append : (xs ys : List Opt) → plains (xs ++ ys) ≡ plains xs ++ plains ys
plains_append [] ys = refl
plains_append (x ∷ xs) ys = ap (λ (l : List Plain). record { kind = x.kind; body = x.body } ∷ l) (plains_append xs ys)

written_append : (w : Plain → List ℕ) (xs ys : List Plain) → flat_map w (xs ++ ys) ≡ flat_map w xs ++ flat_map w ys
written_append w [] ys = refl
written_append w (x ∷ xs) ys = ap (λ (l : List ℕ). w x ++ l) (written_append w xs ys) ∙ sym (append_assoc (w x) (flat_map w xs) (flat_map w ys))

area_short : (most : Option ℕ) (list : List Opt) (tail bytes : List ℕ) → Area list tail bytes → length (flat_map (coming most) (plains list)) ≤ length bytes
area_short most list tail bytes (inl a) = let e = ap (λ (l : List ℕ). length l) a.2 in let s = all_short most list in omega arith
area_short most list tail bytes (inr b) =
    let e : Opt = ending (0 + length (spell_options b.0)) in
    let is : flat_map (coming most) (plains list) ≡ flat_map (coming most) (plains b.0) ++ [] =
    ap (λ (l : List Opt). flat_map (coming most) (plains l)) b.2 ∙ ap (flat_map (coming most)) (plains_append b.0 (e ∷ [])) ∙ written_append (coming most) (plains b.0) (plains (e ∷ [])) in
    let long = ap (λ (l : List ℕ). length l) (is ∙ append-nil (flat_map (coming most) (plains b.0))) in
    let bytes_long = ap (λ (l : List ℕ). length l) b.3 in
    let split = length-append (spell_options b.0) (0 ∷ tail) in
    let s = all_short most b.0 in
    omega arith

pub comes_short : (most : Option ℕ) (area : List ℕ) → AreListed (options_of area) → length area ≤ 40 → length (flat_map (coming most) (plains (listed (options_of area)))) ≤ 40
comes_short most area l h = let a = area_of area l in let s = area_short most (listed (options_of area)) a.0 area a.1 in omega arith

-- so each of them has room
pub has_room : (most : Option ℕ) (options area new : List ℕ) (items rest : List Plain) (o : Plain) (done : Bool) → AreListed (options_of options) → length options ≤ 40 → items ≡ o ∷ rest
    → area ++ flat_map (coming most) items ≡ flat_map (coming most) (plains (listed (options_of options))) → Puts area (coming most o) new done
    → new ++ flat_map (coming most) rest ≡ flat_map (coming most) (plains (listed (options_of options)))
has_room most options area new items rest o true l m is h put = one_more (coming most) area new _ items rest o is put h
has_room most options area new items rest o false l m is h put =
    let short = comes_short most options l m in
    let e : length (area ++ (coming most o ++ flat_map (coming most) rest)) ≡ length (flat_map (coming most) (plains (listed (options_of options)))) =
    ap (λ (l : List ℕ). length l) (sym (ap (λ (l : List Plain). area ++ flat_map (coming most) l) is) ∙ h) in
    let a = length-append area (coming most o ++ flat_map (coming most) rest) in
    let b = length-append (coming most o) (flat_map (coming most) rest) in
    absurd (omega arith)

-- ---- as many blocks as have room

pub fits_first : (a b : Option (List ℕ)) (out : List ℕ) → Some out ≡ a → Some out ≡ option_or a b
fits_first a b out e = ap (λ (o : Option (List ℕ)). option_or o b) e

pub fits_second : (a b : Option (List ℕ)) (out : Option (List ℕ)) → None ≡ a → out ≡ b → out ≡ option_or a b
fits_second a b out e h = h ∙ ap (λ (o : Option (List ℕ)). option_or o b) e

pub fits_here : (room blocks : ℕ) (bare : Bool) (area out : List ℕ) → Some out ≡ packed_in room blocks bare area → Some out ≡ fitted_from room blocks bare area
unfolding fitted_from
fits_here room zero bare area out e = e
fits_here room (suc n) bare area out e = fits_first (packed_in room (suc n) bare area) (fitted_from room n bare area) out e

pub fits_nowhere : (room blocks : ℕ) (bare : Bool) (area : List ℕ) → None ≡ packed_in room blocks bare area → blocks ≡ 0 → None ≡ fitted_from room blocks bare area
unfolding fitted_from
fits_nowhere room zero bare area e z = e
fits_nowhere room (suc n) bare area e z = absurd (omega arith)

pub fits_below : (room blocks : ℕ) (bare : Bool) (area : List ℕ) (out : Option (List ℕ)) → None ≡ packed_in room blocks bare area → 0 < blocks → out ≡ fitted_from room (blocks - 1) bare area → out ≡ fitted_from room blocks bare area
unfolding fitted_from
fits_below room zero bare area out e z h = absurd (omega arith)
fits_below room (suc n) bare area out e z h =
    let s : suc n - 1 ≡ n = omega arith in
    fits_second (packed_in room (suc n) bare area) (fitted_from room n bare area) out e (h ∙ ap (λ (k : ℕ). fitted_from room k bare area) s)
