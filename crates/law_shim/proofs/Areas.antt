-- The options of an area that is written option by option.
use Rattle.std.proofs.Common.{◌≡◌, ℕ, zero, suc, ◌+◌, ◌*◌, ◌<◌, ◌≤◌, ◌==◌, ◌||◌, Bool, true, false, List, [], ◌∷◌, ◌++◌, length, take, replicate, refl, sym, ap, subst, ◌∙◌, arith, length-append, append_assoc, if◌then◌else◌, inl, inr}
use Rattle.std.proofs.lemmas.List.{append-nil}
use Rattle.std.proofs.lemmas.Bool.Decides.{nat_tests}
use Rattle.std.specs.List.{list_any, AllByRecursion}
use Rattle.book_segments.specs.Areas.{spell_option, spell_options, Open, ending, Area}
use Rattle.book_segments.specs.Options.{Opt, Plain, Options, Listed, least, plains, listed, options_of, AreListed, of_kind, One, ao_of, found, find_ao}
use Rattle.book_segments.proofs.AreaLaws.{area_is, area_of}
use Rattle.book_keys.specs.Coordination.{Sending}
use Rattle.book_shim.specs.Relaying.{spelled, sack, going, is_left_out}
use Rattle.book_shim.specs.declared.trim.Trim.{Trim}
use Rattle.book_shim.specs.Leaving.{signs, ao_last}
use Rattle.book_endpoint.specs.Emissions.{written_ao}
use Rattle.std.specs.Prelude.{flat_map}

-- ---- options that are written

-- an option that has bytes
pub record IsPlain (o : Plain) : Type 0 where
  pub short : o.kind ≡ 1 → o.body ≡ []
  pub long : 2 ≤ o.kind → least o.kind ≤ 2 + length o.body

pub record IsOpenPlain (o : Plain) : Type 0 where
  pub kind : 0 < o.kind
  pub short : o.kind < 2 → o.body ≡ []
  pub long : 2 ≤ o.kind → least o.kind ≤ 2 + length o.body

-- options with their places
abbrev pub placed : ℕ → List Plain → List Opt
placed p [] = []
placed p (o ∷ os) = record { kind = o.kind; body = o.body; place = p } ∷ placed (p + length (spelled o)) os

pub open_placed : (p : ℕ) (os : List Plain) → AllByRecursion IsOpenPlain os → Open p (placed p os)
open_placed p [] h = tt
open_placed p (o ∷ os) h = (record { kind = h.0.kind; short = h.0.short; long = h.0.long }, refl, open_placed (p + length (spelled o)) os h.1)

pub spell_placed : (p : ℕ) (os : List Plain) → spell_options (placed p os) ≡ flat_map spelled os
spell_placed p [] = refl
spell_placed p (o ∷ os) = ap (λ (l : List ℕ). spelled o ++ l) (spell_placed (p + length (spelled o)) os)

pub written_listed : (os : List Plain) → AllByRecursion IsOpenPlain os → options_of (flat_map spelled os) ≡ Listed (placed 0 os)
written_listed os h = area_is (placed 0 os) [] (flat_map spelled os) (inl ((open_placed 0 os h, refl, sym (spell_placed 0 os))))

pub plains_placed : (p : ℕ) (os : List Plain) → plains (placed p os) ≡ os
plains_placed p [] = refl
plains_placed p (o ∷ os) = ap (λ (l : List Plain). o ∷ l) (plains_placed (p + length (spelled o)) os)

pub written_append : (w : Plain → List ℕ) (xs ys : List Plain) → flat_map w (xs ++ ys) ≡ flat_map w xs ++ flat_map w ys
written_append w [] ys = refl
written_append w (x ∷ xs) ys = ap (λ (l : List ℕ). w x ++ l) (written_append w xs ys) ∙ sym (append_assoc (w x) (flat_map w xs) (flat_map w ys))

pub placed_append : (p : ℕ) (xs ys : List Plain) → placed p (xs ++ ys) ≡ placed p xs ++ placed (p + length (flat_map spelled xs)) ys
placed_append p [] ys = let e : p ≡ p + 0 = omega arith in ap (λ (q : ℕ). placed q ys) e
placed_append p (x ∷ xs) ys =
    let a = length-append (spelled x) (flat_map spelled xs) in
    let e : p + length (spelled x) + length (flat_map spelled xs) ≡ p + length (spelled x ++ flat_map spelled xs) = omega arith in
    let o : Opt = record { kind = x.kind; body = x.body; place = p } in
    ap (λ (l : List Opt). o ∷ l) (placed_append (p + length (spelled x)) xs ys ∙ ap (λ (q : ℕ). placed (p + length (spelled x)) xs ++ placed q ys) e)

pub all_append : {X : Type 0} (P : X → Type 0) (xs ys : List X) → AllByRecursion P xs → AllByRecursion P ys → AllByRecursion P (xs ++ ys)
all_append P [] ys h k = k
all_append P (x ∷ xs) ys h k = (h.0, all_append P xs ys h.1 k)

-- ---- options that are found

abbrev pub IsNot : ℕ → Plain → Type 0
IsNot kind o = (o.kind == kind) ≡ false

kind_skips : (b : Bool) (o : Opt) (l : List Opt) → b ≡ false → (if b then o ∷ l else l) ≡ l
kind_skips true o l e = absurd (cc)
kind_skips false o l e = refl

pub none_of : (kind p : ℕ) (os : List Plain) → AllByRecursion (IsNot kind) os → of_kind kind (placed p os) ≡ []
none_of kind p [] h = refl
none_of kind p (o ∷ os) h =
    kind_skips (o.kind == kind) (record { kind = o.kind; body = o.body; place = p }) (of_kind kind (placed (p + length (spelled o)) os)) h.0 ∙ none_of kind (p + length (spelled o)) os h.1

kind_append_by : (b : Bool) (o : Opt) (l m n : List Opt) → l ≡ m ++ n → (if b then o ∷ l else l) ≡ (if b then o ∷ m else m) ++ n
kind_append_by true o l m n e = ap (λ (x : List Opt). o ∷ x) e
kind_append_by false o l m n e = e

pub kind_append : (kind : ℕ) (xs ys : List Opt) → of_kind kind (xs ++ ys) ≡ of_kind kind xs ++ of_kind kind ys
kind_append kind [] ys = refl
kind_append kind (x ∷ xs) ys = kind_append_by (x.kind == kind) x (of_kind kind (xs ++ ys)) (of_kind kind xs) (of_kind kind ys) (kind_append kind xs ys)

-- ---- the options as they go out

abbrev pub of_sack : List ℕ → List Plain
of_sack [] = []
of_sack (b ∷ bs) = record { kind = 5; body = b ∷ bs } ∷ []

-- what is left of an option
abbrev pub gone : Trim → Plain → List Plain
gone k o = if is_left_out k o then [] else (if o.kind == 5 then of_sack (take (8 * k.blocks) o.body) else o ∷ [])

abbrev pub goings : Trim → List Plain → List Plain
goings k [] = []
goings k (o ∷ os) = gone k o ++ goings k os

sack_is : (body : List ℕ) → flat_map spelled (of_sack body) ≡ sack body
sack_is [] = refl
sack_is (b ∷ bs) = append-nil (5 ∷ (2 + length (b ∷ bs)) ∷ b ∷ bs)

gone_by : (zero_kind five : Bool) (o : Plain) (body : List ℕ)
    → flat_map spelled (if zero_kind then [] else (if five then of_sack body else o ∷ [])) ≡ (if zero_kind then [] else (if five then sack body else spelled o))
gone_by true five o body = refl
gone_by false true o body = sack_is body
gone_by false false o body = append-nil (spelled o)

pub goings_written : (k : Trim) (os : List Plain) → flat_map spelled (goings k os) ≡ flat_map (going k) os
goings_written k [] = refl
goings_written k (o ∷ os) =
    written_append spelled (gone k o) (goings k os) ∙ ap (λ (l : List ℕ). l ++ flat_map spelled (goings k os)) (gone_by (is_left_out k o) (o.kind == 5) o (take (8 * k.blocks) o.body))
    ∙ ap (λ (l : List ℕ). going k o ++ l) (goings_written k os)

-- what holds of the option and of each of selective acknowledgements holds of what is left
gone_all : (P : Plain → Type 0) (zero_kind five : Bool) (o : Plain) (body : List ℕ) → (zero_kind ≡ false → P o) → ((b : ℕ) (bs : List ℕ) → P (record { kind = 5; body = b ∷ bs }))
    → AllByRecursion P (if zero_kind then [] else (if five then of_sack body else o ∷ []))
gone_all P true five o body h k = tt
gone_all P false true o [] h k = tt
gone_all P false true o (b ∷ bs) h k = (k b bs, tt)
gone_all P false false o body h k = (h refl, tt)

goings_all : (P Q : Plain → Type 0) (k : Trim) (os : List Plain) → AllByRecursion Q os → ((o : Plain) → Q o → is_left_out k o ≡ false → P o) → ((b : ℕ) (bs : List ℕ) → P (record { kind = 5; body = b ∷ bs }))
    → AllByRecursion P (goings k os)
goings_all P Q k [] h one two = tt
goings_all P Q k (o ∷ os) h one two =
    all_append P (gone k o) (goings k os) (gone_all P (is_left_out k o) (o.kind == 5) o (take (8 * k.blocks) o.body) (λ z. one o h.0 z) two) (goings_all P Q k os h.1 one two)

not_zero : (n : ℕ) → (n == 0) ≡ false → 0 < n
not_zero n e = grind (arith, nat_tests)

below_two : (n : ℕ) → 0 < n → n < 2 → n ≡ 1
below_two n a b = omega arith

open_plain : (o : Plain) → IsPlain o → (o.kind == 0) ≡ false → IsOpenPlain o
open_plain o h z = record { kind = not_zero o.kind z; short = λ two. h.short (below_two o.kind (not_zero o.kind z) two); long = h.long }

or_none : (a b : Bool) → (a || b) ≡ false → (a ≡ false) × (b ≡ false)
or_none true b e = absurd (cc)
or_none false b e = (refl, e)

pub goings_open : (k : Trim) (os : List Plain) → AllByRecursion IsPlain os → AllByRecursion IsOpenPlain (goings k os)
goings_open k os h = goings_all IsOpenPlain IsPlain k os h (λ o is z. open_plain o is (or_none (o.kind == 0) _ z).0) (λ b bs. record { kind = omega arith; short = λ e. absurd (omega arith); long = λ e. omega arith })

pub goings_not : (kind : ℕ) (k : Trim) (os : List Plain) → (5 == kind) ≡ false → AllByRecursion (IsNot kind) os → AllByRecursion (IsNot kind) (goings k os)
goings_not kind k os five h = goings_all (IsNot kind) (IsNot kind) k os h (λ o is z. is) (λ b bs. five)

-- ---- what was read is so

open_plains : (p : ℕ) (list : List Opt) → Open p list → AllByRecursion IsPlain (plains list)
open_plains p [] h = tt
open_plains p (o ∷ os) h = (record { short = λ e. h.0.short (omega arith); long = h.0.long }, open_plains (p + length (spell_option o)) os h.2)

plains_append : (xs ys : List Opt) → plains (xs ++ ys) ≡ plains xs ++ plains ys
plains_append [] ys = refl
plains_append (x ∷ xs) ys = ap (λ (l : List Plain). record { kind = x.kind; body = x.body } ∷ l) (plains_append xs ys)

area_plains : (list : List Opt) (tail bytes : List ℕ) → Area list tail bytes → AllByRecursion IsPlain (plains list)
area_plains list tail bytes (inl a) = open_plains 0 list a.0
area_plains list tail bytes (inr b) =
    let e : Opt = ending (0 + length (spell_options b.0)) in
    subst (λ (l : List Opt). AllByRecursion IsPlain (plains l)) (sym b.2)
    (subst (λ (l : List Plain). AllByRecursion IsPlain l) (sym (plains_append b.0 (e ∷ [])))
    (all_append IsPlain (plains b.0) (plains (e ∷ [])) (open_plains 0 b.0 b.1) ((record { short = λ z. absurd (cc); long = λ z. absurd (omega arith) }, tt))))

pub listed_plain : (area : List ℕ) → AreListed (options_of area) → AllByRecursion IsPlain (plains (listed (options_of area)))
listed_plain area h = let a = area_of area h in area_plains (listed (options_of area)) a.0 area a.1

pub unsigned : (os : List Plain) → list_any signs os ≡ false → AllByRecursion (IsNot 29) os × AllByRecursion (IsNot 19) os
unsigned [] e = (tt, tt)
unsigned (o ∷ os) e =
    let one = or_none (signs o) (list_any signs os) e in
    let two = or_none (o.kind == 29) (o.kind == 19) one.0 in
    let rest = unsigned os one.1 in
    ((two.0, rest.0), (two.1, rest.1))

-- ---- padding and TCP-AO after them

abbrev pub nop : Plain
nop = record { kind = 1; body = [] }

pub nops_written : (n : ℕ) → flat_map spelled (replicate n nop) ≡ replicate n 1
nops_written zero = refl
nops_written (suc n) = ap (λ (l : List ℕ). 1 ∷ l) (nops_written n)

nops_all : (P : Plain → Type 0) (n : ℕ) → P nop → AllByRecursion P (replicate n nop)
nops_all P zero h = tt
nops_all P (suc n) h = (h, nops_all P n h)

abbrev pub ao_plain : Sending → List ℕ → Plain
ao_plain s code = record { kind = 29; body = s.key_id ∷ s.rnext_key_id ∷ code }

-- the options of an area that goes out, with as many paddings, and TCP-AO after them
abbrev pub front : Trim → ℕ → List Plain → List Plain
front k n os = goings k os ++ replicate n nop

pub front_written : (k : Trim) (n : ℕ) (os : List Plain) → flat_map spelled (front k n os) ≡ flat_map (going k) os ++ replicate n 1
front_written k n os =
    written_append spelled (goings k os) (replicate n nop) ∙ ap (λ (l : List ℕ). l ++ flat_map spelled (replicate n nop)) (goings_written k os)
    ∙ ap (λ (l : List ℕ). flat_map (going k) os ++ l) (nops_written n)

ao_written : (s : Sending) (code : List ℕ) → flat_map spelled (ao_plain s code ∷ []) ≡ written_ao s code
ao_written s code =
    let e : 2 + length (s.key_id ∷ s.rnext_key_id ∷ code) ≡ 4 + length code = omega arith in
    append-nil (spelled (ao_plain s code)) ∙ ap (λ (n : ℕ). 29 ∷ n ∷ s.key_id ∷ s.rnext_key_id ∷ code) e

pub whole_written : (k : Trim) (n : ℕ) (os : List Plain) (s : Sending) (code : List ℕ)
    → flat_map spelled (front k n os ++ ao_plain s code ∷ []) ≡ (flat_map (going k) os ++ replicate n 1) ++ written_ao s code
whole_written k n os s code =
    written_append spelled (front k n os) (ao_plain s code ∷ []) ∙ ap (λ (l : List ℕ). l ++ flat_map spelled (ao_plain s code ∷ [])) (front_written k n os)
    ∙ ap (λ (l : List ℕ). (flat_map (going k) os ++ replicate n 1) ++ l) (ao_written s code)

pub whole_open : (k : Trim) (n : ℕ) (os : List Plain) (s : Sending) (code : List ℕ) → AllByRecursion IsPlain os → AllByRecursion IsOpenPlain (front k n os ++ ao_plain s code ∷ [])
whole_open k n os s code h =
    all_append IsOpenPlain (front k n os) (ao_plain s code ∷ [])
    (all_append IsOpenPlain (goings k os) (replicate n nop) (goings_open k os h) (nops_all IsOpenPlain n (record { kind = omega arith; short = λ e. refl; long = λ e. absurd (omega arith) })))
    ((record { kind = omega arith; short = λ e. absurd (omega arith); long = λ e. omega arith }, tt))

pub front_open : (k : Trim) (n : ℕ) (os : List Plain) → AllByRecursion IsPlain os → AllByRecursion IsOpenPlain (front k n os)
front_open k n os h =
    all_append IsOpenPlain (goings k os) (replicate n nop) (goings_open k os h) (nops_all IsOpenPlain n (record { kind = omega arith; short = λ e. refl; long = λ e. absurd (omega arith) }))

pub front_not : (kind : ℕ) (k : Trim) (n : ℕ) (os : List Plain) → (5 == kind) ≡ false → (1 == kind) ≡ false → AllByRecursion (IsNot kind) os → AllByRecursion (IsNot kind) (front k n os)
front_not kind k n os five one h = all_append (IsNot kind) (goings k os) (replicate n nop) (goings_not kind k os five h) (nops_all (IsNot kind) n one)

-- the TCP-AO option that stands last is found
pub ao_found : (k : Trim) (n : ℕ) (os : List Plain) (s : Sending) (code : List ℕ) → AllByRecursion IsPlain os → list_any signs os ≡ false
    → find_ao ((flat_map (going k) os ++ replicate n 1) ++ written_ao s code) ≡ One (ao_last (flat_map (going k) os ++ replicate n 1) s code)
unfolding find_ao
ao_found k n os s code h none =
    let area = flat_map (going k) os ++ replicate n 1 in
    let f = front k n os in
    let qs = f ++ ao_plain s code ∷ [] in
    let u = unsigned os none in
    let options : options_of (area ++ written_ao s code) ≡ Listed (placed 0 qs) = ap options_of (sym (whole_written k n os s code)) ∙ written_listed qs (whole_open k n os s code h) in
    let split = placed_append 0 f (ao_plain s code ∷ []) in
    let last = placed (0 + length (flat_map spelled f)) (ao_plain s code ∷ []) in
    let ours : of_kind 29 (placed 0 qs) ≡ last = ap (of_kind 29) split ∙ kind_append 29 (placed 0 f) last ∙ ap (λ (l : List Opt). l ++ of_kind 29 last) (none_of 29 0 f (front_not 29 k n os refl refl u.0)) in
    let md5 : of_kind 19 (placed 0 qs) ≡ [] = ap (of_kind 19) split ∙ kind_append 19 (placed 0 f) last ∙ ap (λ (l : List Opt). l ++ of_kind 19 last) (none_of 19 0 f (front_not 19 k n os refl refl u.1)) in
    let long : length (flat_map spelled f) ≡ length area = ap (λ (l : List ℕ). length l) (front_written k n os) in
    let place : 0 + length (flat_map spelled f) ≡ length area = omega arith in
    ap (λ (o : Options). found (of_kind 29 (listed o)) (of_kind 19 (listed o))) options
    ∙ ap (λ (l : List Opt). found l (of_kind 19 (placed 0 qs))) ours ∙ ap (λ (l : List Opt). found last l) md5
    ∙ ap (λ (p : ℕ). One (ao_of (record { kind = 29; body = s.key_id ∷ s.rnext_key_id ∷ code; place = p }))) place
