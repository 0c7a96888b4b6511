-- The options as they come in, option by option.
use Rattle.std.proofs.Common.{◌≡◌, ℕ, zero, suc, ◌+◌, ◌-◌, ◌%◌, ◌<◌, ◌==◌, ◌&&◌, ◌||◌, Bool, true, false, Option, Some, None, List, [], ◌∷◌, ◌++◌, length, replicate, refl, sym, ap, ◌∙◌, arith, if◌then◌else◌}
use Rattle.std.specs.List.{AllByRecursion}
use Rattle.std.proofs.lemmas.List.{append-nil}
use Rattle.std.proofs.lemmas.Bool.Decides.{nat_tests}
use Rattle.book_segments.specs.Bytes.{put2}
use Rattle.book_segments.specs.Options.{Options, Plain, Listed, Absent, plains, listed, options_of, AreListed, of_kind, found, find_ao}
use Rattle.book_shim.specs.Relaying.{spelled, lowered, with_mss, coming, rewritten, coming_area}
use Rattle.law_shim.proofs.Areas.{IsPlain, IsOpenPlain, IsNot, nop, placed, nops_written, written_append, written_listed, all_append, none_of, listed_plain}
use Rattle.std.specs.Prelude.{flat_map}

-- an option with its maximum segment size lowered
abbrev pub told_anew : Option ℕ → Plain → Plain
told_anew None o = o
told_anew (Some most) o = if (o.kind == 2) && (length o.body == 2) then record { kind = 2; body = put2 (lowered most o.body) [] } else o

-- what is left of an option
abbrev pub came : Option ℕ → Plain → List Plain
came most o = if (o.kind == 0) || (o.kind == 29) then [] else told_anew most o ∷ []

abbrev pub comings : Option ℕ → List Plain → List Plain
comings most [] = []
comings most (o ∷ os) = came most o ++ comings most os

-- the options that are handed on, those that fill up among them
abbrev pub handed : Option ℕ → List Plain → List Plain
handed most os = comings most os ++ replicate ((4 - length (flat_map (coming most) os) % 4) % 4) nop

put2_long : (n : ℕ) → length (put2 n []) ≡ 2
unfolding put2
put2_long n = refl

told_written_by : (b : Bool) (n : ℕ) (o : Plain) → spelled (if b then record { kind = 2; body = put2 n [] } else o) ≡ (if b then 2 ∷ 4 ∷ put2 n [] else spelled o)
told_written_by true n o = ap (λ (k : ℕ). 2 ∷ (2 + k) ∷ put2 n []) (put2_long n)
told_written_by false n o = refl

told_written : (most : Option ℕ) (o : Plain) → spelled (told_anew most o) ≡ with_mss most o
told_written None o = refl
told_written (Some most) o = told_written_by ((o.kind == 2) && (length o.body == 2)) (lowered most o.body) o

came_written : (b : Bool) (o : Plain) (bytes : List ℕ) → spelled o ≡ bytes → flat_map spelled (if b then [] else o ∷ []) ≡ (if b then [] else bytes)
came_written true o bytes e = refl
came_written false o bytes e = append-nil (spelled o) ∙ e

comings_written : (most : Option ℕ) (os : List Plain) → flat_map spelled (comings most os) ≡ flat_map (coming most) os
comings_written most [] = refl
comings_written most (o ∷ os) =
    written_append spelled (came most o) (comings most os)
    ∙ ap (λ (l : List ℕ). l ++ flat_map spelled (comings most os)) (came_written ((o.kind == 0) || (o.kind == 29)) (told_anew most o) (with_mss most o) (told_written most o))
    ∙ ap (λ (l : List ℕ). coming most o ++ l) (comings_written most os)

-- ---- each has its bytes, and none is TCP-AO

not_zero : (n : ℕ) → (n == 0) ≡ false → 0 < n
not_zero n e = grind (arith, nat_tests)

below_two : (n : ℕ) → 0 < n → n < 2 → n ≡ 1
below_two n a b = omega arith

or_none : (a b : Bool) → (a || b) ≡ false → (a ≡ false) × (b ≡ false)
or_none true b e = absurd (cc)
or_none false b e = (refl, e)

-- what is read where an option came
abbrev pub IsHanded : Plain → Type 0
IsHanded o = IsOpenPlain o × IsNot 29 o

mss_handed : (b : Bool) (n : ℕ) (o : Plain) → IsHanded o → IsHanded (if b then record { kind = 2; body = put2 n [] } else o)
mss_handed true n o h = (record { kind = omega arith; short = λ e. absurd (omega arith); long = λ e. omega arith }, refl)
mss_handed false n o h = h

told_handed : (most : Option ℕ) (o : Plain) → IsHanded o → IsHanded (told_anew most o)
told_handed None o h = h
told_handed (Some most) o h = mss_handed ((o.kind == 2) && (length o.body == 2)) (lowered most o.body) o h

is_handed : (o : Plain) → IsPlain o → ((o.kind == 0) || (o.kind == 29)) ≡ false → IsHanded o
is_handed o h e =
    let two = or_none (o.kind == 0) (o.kind == 29) e in
    let some = not_zero o.kind two.0 in
    (record { kind = some; short = λ low. h.short (below_two o.kind some low); long = h.long }, two.1)

came_by : (b : Bool) (o : Plain) → (b ≡ false → IsHanded o) → AllByRecursion IsHanded (if b then [] else o ∷ [])
came_by true o h = tt
came_by false o h = (h refl, tt)

all_come : (most : Option ℕ) (os : List Plain) → AllByRecursion IsPlain os → AllByRecursion IsHanded (comings most os)
all_come most [] h = tt
all_come most (o ∷ os) h =
    all_append IsHanded (came most o) (comings most os)
    (came_by ((o.kind == 0) || (o.kind == 29)) (told_anew most o) (λ e. told_handed most o (is_handed o h.0 e))) (all_come most os h.1)

nops_handed : (n : ℕ) → AllByRecursion IsHanded (replicate n nop)
nops_handed zero = tt
nops_handed (suc n) = ((record { kind = omega arith; short = λ e. refl; long = λ e. absurd (omega arith) }, refl), nops_handed n)

all_handed : (most : Option ℕ) (os : List Plain) → AllByRecursion IsPlain os → AllByRecursion IsHanded (handed most os)
all_handed most os h = all_append IsHanded (comings most os) _ (all_come most os h) (nops_handed _)

parts : (os : List Plain) → AllByRecursion IsHanded os → AllByRecursion IsOpenPlain os × AllByRecursion (IsNot 29) os
parts [] h = (tt, tt)
parts (o ∷ os) h = let rest = parts os h.1 in ((h.0.0, rest.0), (h.0.1, rest.1))

-- ---- what is read again

handed_written : (most : Option ℕ) (area : List ℕ) → coming_area most area ≡ flat_map spelled (handed most (plains (listed (options_of area))))
unfolding rewritten
handed_written most area =
    let os = plains (listed (options_of area)) in
    let n = (4 - length (flat_map (coming most) os) % 4) % 4 in
    sym (
    written_append spelled (comings most os) (replicate n nop) ∙ ap (λ (l : List ℕ). l ++ flat_map spelled (replicate n nop)) (comings_written most os)
    ∙ ap (λ (l : List ℕ). flat_map (coming most) os ++ l) (nops_written n)
    )

pub handed_listed : (most : Option ℕ) (area : List ℕ) → AreListed (options_of area) → options_of (coming_area most area) ≡ Listed (placed 0 (handed most (plains (listed (options_of area)))))
handed_listed most area h =
    let qs = handed most (plains (listed (options_of area))) in
    ap options_of (handed_written most area) ∙ written_listed qs (parts qs (all_handed most (plains (listed (options_of area))) (listed_plain area h))).0

-- none of TCP-AO comes in
pub none_comes : (most : Option ℕ) (area : List ℕ) → AreListed (options_of area) → find_ao (coming_area most area) ≡ Absent
unfolding find_ao
none_comes most area h =
    let qs = handed most (plains (listed (options_of area))) in
    let none : of_kind 29 (placed 0 qs) ≡ [] = none_of 29 0 qs (parts qs (all_handed most (plains (listed (options_of area))) (listed_plain area h))).1 in
    ap (λ (o : Options). found (of_kind 29 (listed o)) (of_kind 19 (listed o))) (handed_listed most area h) ∙ ap (λ (l : _). found l (of_kind 19 (placed 0 qs))) none
