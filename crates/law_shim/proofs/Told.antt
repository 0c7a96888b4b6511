-- The maximum segment sizes that a SYN tells once it is handed on.
use Rattle.std.proofs.Common.{◌≡◌, ℕ, zero, suc, ◌+◌, ◌-◌, ◌*◌, ◌<◌, ◌≤◌, ◌==◌, ◌&&◌, ◌||◌, min, Bool, true, false, List, [], ◌∷◌, ◌++◌, length, map, replicate, Option, Some, Ok, refl, sym, ap, subst, ◌∙◌, arith, append_assoc, if◌then◌else◌, inl, inr}
use Rattle.std.specs.Prelude.{slice_index, slice_index_or}
use Rattle.std.specs.List.{AllByRecursion, Contains}
use Rattle.std.proofs.lemmas.Bool.Decides.{nat_tests}
use Rattle.book_base.specs.declared.address.Pair.{Pair}
use Rattle.book_segments.specs.Areas.{spell_option, spell_options, ending, Area}
use Rattle.book_segments.specs.Bytes.{put2}
use Rattle.book_segments.specs.Options.{Opt, Options, Plain, plains, listed, options_of}
use Rattle.book_segments.specs.Segments.{Segment, has, SYN, spell}
use Rattle.book_segments.specs.Spelling.{AreBytes, Fits}
use Rattle.book_segments.proofs.AreaLaws.{area_of}
use Rattle.book_segments.proofs.Blanked.{take_exact, drop_exact}
use Rattle.book_segments.proofs.ByteLaws.{bytes_take, bytes_drop}
use Rattle.book_shim.specs.declared.kept.Kept.{Kept}
use Rattle.book_shim.specs.Keeping.{Setting}
use Rattle.book_shim.specs.Leaving.{Sealed, send_sealed}
use Rattle.book_shim.specs.Arriving.{Opened, take_in}
use Rattle.book_shim.specs.Relaying.{headers_length, lowered, coming_area, most_mss}
use Rattle.law_shim.proofs.Areas.{nop, plains_placed}
use Rattle.law_shim.proofs.Sealing.{takes, relaid_keeps}
use Rattle.law_shim.specs.Sizes.{sizes_among, sizes_told, left_of, KeepsTo}
use Rattle.law_shim.proofs.Comings.{told_anew, came, comings, handed, handed_listed}
use Rattle.law_shim.proofs.Lengths.{sealed_long}

-- ---- the options of bytes are of bytes

-- a maximum segment size is told by bytes
abbrev IsBytewise : Plain → Type 0
IsBytewise o = (o.kind == 2) ≡ true → AreBytes o.body

bytes_left : (a b : List ℕ) → AreBytes (a ++ b) → AreBytes a
bytes_left a b h = subst AreBytes (take_exact a b (length a) refl) (bytes_take (a ++ b) (length a) h)

bytes_right : (a b : List ℕ) → AreBytes (a ++ b) → AreBytes b
bytes_right a b h = subst AreBytes (drop_exact a b (length a) refl) (bytes_drop (a ++ b) (length a) h)

eq_is : (x y : ℕ) → (x == y) ≡ true → x ≡ y
eq_is x y e = grind (arith, nat_tests)

body_bytes : (o : Opt) → AreBytes (spell_option o) → (o.kind == 2) ≡ true → AreBytes o.body
body_bytes o h e =
    let spelled_so : spell_option o ≡ o.kind ∷ (2 + length o.body) ∷ o.body = rw (eq_is o.kind 2 e) refl in
    let b = subst AreBytes spelled_so h in
    λ i. b (suc (suc i))

each_bytes : (list : List Opt) → AreBytes (spell_options list) → AllByRecursion IsBytewise (plains list)
each_bytes [] h = tt
each_bytes (o ∷ os) h =
    (body_bytes o (bytes_left (spell_option o) (spell_options os) h), each_bytes os (bytes_right (spell_option o) (spell_options os) h))

each_last : (list : List Opt) (p : ℕ) → AllByRecursion IsBytewise (plains list) → AllByRecursion IsBytewise (plains (list ++ ending p ∷ []))
each_last [] p h = (λ e. absurd (cc), tt)
each_last (o ∷ os) p h = (h.0, each_last os p h.1)

area_bytes : (list : List Opt) (tail area : List ℕ) → Area list tail area → AreBytes area → AllByRecursion IsBytewise (plains list)
area_bytes list tail area (inl a) b = each_bytes list (subst AreBytes a.2 b)
area_bytes list tail area (inr a) b =
    let front = bytes_left (spell_options a.0) (0 ∷ tail) (subst AreBytes a.3 b) in
    subst (λ (l : List Opt). AllByRecursion IsBytewise (plains l)) (sym a.2) (each_last a.0 (0 + length (spell_options a.0)) (each_bytes a.0 front))

-- ---- what each option tells

two_bytes : (n : ℕ) → n < 65536 → (slice_index (put2 n []) 0 * 256 + slice_index (put2 n []) 1) ≡ n
unfolding put2
two_bytes n h = omega arith

put2_two : (n : ℕ) → (length (put2 n []) == 2) ≡ true
unfolding put2
put2_two n = refl

low : (a b most : ℕ) → a < 256 → b < 256 → min (a * 256 + b) most - 20 < 65536
low a b most h k = omega arith

-- an option that stays, with those after it
one_told : (b : Bool) (o : Plain) (most : ℕ) (rest more : List ℕ) → ((o.kind == 2) && (length o.body == 2)) ≡ b → IsBytewise o → rest ≡ map (λ n. min n most - 20) more
    → (let x : Plain = if b then record { kind = 2; body = put2 (lowered most o.body) [] } else o in
    if (x.kind == 2) && (length x.body == 2) then (slice_index x.body 0 * 256 + slice_index x.body 1) ∷ rest else rest)
    ≡ map (λ n. min n most - 20) (if b then (slice_index o.body 0 * 256 + slice_index o.body 1) ∷ more else more)
one_told true o most rest more e h is =
    let two = and_two (o.kind == 2) (length o.body == 2) e in
    let bytes = h two.0 in
    let v = lowered most o.body in
    let fits : v < 65536 = low (slice_index o.body 0) (slice_index o.body 1) most (bytes 0) (bytes 1) in
    ap (λ (c : Bool). if c then (slice_index (put2 v []) 0 * 256 + slice_index (put2 v []) 1) ∷ rest else rest) (put2_two v)
    ∙ ap (λ (n : ℕ). n ∷ rest) (two_bytes v fits) ∙ ap (λ (l : List ℕ). v ∷ l) is
  where
    and_two : (a b : Bool) → (a && b) ≡ true → (a ≡ true) × (b ≡ true)
    and_two true b e = (refl, e)
    and_two false b e = absurd (cc)
one_told false o most rest more e h is = ap (λ (c : Bool). if c then (slice_index o.body 0 * 256 + slice_index o.body 1) ∷ rest else rest) e ∙ is

-- one that is left out tells none
out_is : (k : ℕ) (b : Bool) → ((k == 0) || (k == 29)) ≡ true → ((k == 2) && b) ≡ false
out_is k b e = let other : (k == 2) ≡ false = grind (arith, nat_tests) in rw other refl

came_told : (b : Bool) (o : Plain) (most : ℕ) (os : List Plain) (more : List ℕ) → ((o.kind == 0) || (o.kind == 29)) ≡ b → IsBytewise o → sizes_among os ≡ map (λ n. min n most - 20) more
    → sizes_among ((if b then [] else told_anew (Some most) o ∷ []) ++ os)
    ≡ map (λ n. min n most - 20) (if (o.kind == 2) && (length o.body == 2) then (slice_index o.body 0 * 256 + slice_index o.body 1) ∷ more else more)
came_told true o most os more e h is =
    is ∙ ap (λ (c : Bool). map (λ n. min n most - 20) (if c then (slice_index o.body 0 * 256 + slice_index o.body 1) ∷ more else more)) (sym (out_is o.kind (length o.body == 2) e))
came_told false o most os more e h is = one_told ((o.kind == 2) && (length o.body == 2)) o most (sizes_among os) more refl h is

none_filled : (n : ℕ) → sizes_among (replicate n nop) ≡ []
none_filled zero = refl
none_filled (suc n) = none_filled n

all_told : (most n : ℕ) (os : List Plain) → AllByRecursion IsBytewise os → sizes_among (comings (Some most) os ++ replicate n nop) ≡ map (λ n. min n most - 20) (sizes_among os)
all_told most n [] h = none_filled n
all_told most n (o ∷ os) h =
    let c = came (Some most) o in
    ap sizes_among (append_assoc c (comings (Some most) os) (replicate n nop))
    ∙ came_told ((o.kind == 0) || (o.kind == 29)) o most (comings (Some most) os ++ replicate n nop) (sizes_among os) refl h.0 (all_told most n os h.1)

-- ---- what a SYN tells that is handed on

syn_most : (mtu : ℕ) (d : Segment) → has SYN d ≡ true → most_mss mtu d ≡ Some (mtu - headers_length d.ip)
syn_most mtu d e = rw e refl

pub told_so : (here : Setting) (pair : Pair) (g : Kept) (d : Segment) (t : Opened) → Fits d → take_in here pair g d ≡ Ok t → has SYN d ≡ true
    → sizes_told t.segment ≡ map (left_of here.mtu d.ip) (sizes_told d)
told_so here pair g d t f h syn =
    let o = takes here pair g d t h in
    let most = here.mtu - headers_length d.ip in
    let os = plains (listed (options_of d.area)) in
    let area_is : t.segment.area ≡ coming_area (Some most) d.area =
    ap (λ (x : Opened). x.segment.area) o.taken_is ∙ (relaid_keeps d (coming_area (most_mss here.mtu d) d.area)).area_is ∙ ap (λ (m : Option ℕ). coming_area m d.area) (syn_most here.mtu d syn) in
    let a = area_of d.area f.listed in
    let bytes = area_bytes (listed (options_of d.area)) a.0 d.area a.1 f.area.bytes in
    ap (λ (l : List ℕ). sizes_among (plains (listed (options_of l)))) area_is
    ∙ ap (λ (x : Options). sizes_among (plains (listed x))) (handed_listed (Some most) d.area f.listed)
    ∙ ap sizes_among (plains_placed 0 (handed (Some most) os)) ∙ all_told most _ os bytes

-- what is told leaves room
low_told : (f : ℕ → ℕ) (most : ℕ) (xs : List ℕ) (k n : ℕ) → ((x : ℕ) → f x ≤ most) → k < length (map f xs) → slice_index_or (map f xs) k n ≡ n → n ≤ most
low_told f most [] k n h lt e = absurd (omega arith)
low_told f most (x ∷ xs) zero n h lt e = subst (λ (y : ℕ). y ≤ most) e (h x)
low_told f most (x ∷ xs) (suc k) n h lt e = low_told f most xs k n h (omega arith) e

left_low : (mtu headers n : ℕ) → min n (mtu - headers) - 20 ≤ (mtu - headers) - 20
left_low mtu headers n = omega arith

pub within : (here sending : Setting) (pair : Pair) (kept later : Kept) (syn d : Segment) (t : Opened) (m : Sealed) (told : ℕ) → Fits syn → take_in here pair kept syn ≡ Ok t → has SYN syn ≡ true
    → Contains (sizes_told t.segment) told → 0 < told → Fits d → headers_length d.ip ≡ headers_length syn.ip → KeepsTo d told → send_sealed sending pair later d ≡ Ok m
    → length (spell m.segment) ≤ here.mtu
within here sending pair kept later syn d t m told fs ht s c some fd family keeps hm =
    let n = headers_length syn.ip in
    let c2 = subst (λ (l : List ℕ). Contains l told) (told_so here pair kept syn t fs ht s) c in
    let low = low_told (left_of here.mtu syn.ip) ((here.mtu - n) - 20) (sizes_told syn) c2.0 told (λ x. left_low here.mtu n x) c2.1 c2.2 in
    let long = sealed_long sending pair later d m fd hm in
    omega arith
