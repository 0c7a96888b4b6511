-- A TCP-AO option that is found lies in its area.
use Rattle.std.proofs.Common.{◌≡◌, ℕ, zero, suc, ◌+◌, ◌-◌, ◌≤◌, ◌==◌, nat_lt, Bool, true, false, List, [], ◌∷◌, length, take, drop, if◌then◌else◌, refl, sym, subst, arith, length-take, length-drop}
use Rattle.std.specs.List.{AllByRecursion}
use Rattle.book_base.specs.Fronts.{Front, Ends, Faulted, Leads}
use Rattle.book_segments.proofs.OptionFronts.{Leading, by_front, walked, options_from}
use Rattle.book_segments.specs.Options.{Opt, Options, Listed, Faulty, and_then, least, Sized, LengthFault, TooShort, TooLong, option_front, options_of, of_kind, listed, Ao, One, ao_of, found, find_ao}
use Rattle.book_segments.proofs.Fields.{eqb_is, lt_not}

-- an option of kind 29 has its two ids, and lies before this end
abbrev pub Within : ℕ → Opt → Type 0
Within end o = o.kind ≡ 29 → (2 ≤ length o.body) × (o.place + 2 + length o.body ≤ end)

-- all options of a list that may be faulty
abbrev pub AllListed : (Opt → Type 0) → Options → Type 0
AllListed P os = AllByRecursion P (listed os)

all_and : (P : Opt → Type 0) (o : Opt) (os : Options) → P o → AllListed P os → AllListed P (and_then o os)
all_and P o (Listed list) h hs = (h, hs)
all_and P o (Faulty f) h hs = tt

within-longer : (one two : ℕ) (list : List Opt) → one ≤ two → AllByRecursion (Within one) list → AllByRecursion (Within two) list
within-longer one two [] le h = tt
within-longer one two (o ∷ os) le h =
    ((λ is. let r = h.0 is in let low = r.1 in (r.0, omega arith)), within-longer one two os le h.1)

-- what is known of what stands at the front of an area
abbrev pub Bounds : Front Sized LengthFault → List ℕ → Type 0
Bounds (Leads o rest) area = (o.size + length rest ≤ length area) × (o.kind ≡ 29 → (2 ≤ length o.body) × (2 + length o.body ≤ o.size))
Bounds Ends area = Unit {0}
Bounds (Faulted fault) area = Unit {0}

-- by cases on a test
by_test : (P : Front Sized LengthFault → Type 0) (b : Bool) (t u : Front Sized LengthFault) → (b ≡ true → P t) → (b ≡ false → P u) → P (if b then t else u)
by_test P true t u one two = one refl
by_test P false t u one two = two refl

least_ao : (kind : ℕ) → kind ≡ 29 → least kind ≡ 4
least_ao kind e = subst (λ (k : ℕ). least k ≡ 4) (sym e) refl

least_two : (kind : ℕ) → 2 ≤ least kind
least_two kind = elim (kind == 29) as (λ b. 2 ≤ (if b then 4 else 2)) [ true ↦ omega arith | false ↦ omega arith ]

long_bounds : (kind size : ℕ) (rest : List ℕ) → least kind ≤ size → size ≤ length rest + 2
    → Bounds (Leading kind (take (size - 2) rest) size (drop (size - 2) rest)) (kind ∷ size ∷ rest)
long_bounds kind size rest low high =
    let two = least_two kind in
    let d = length-drop (size - 2) rest in
    let t = length-take (size - 2) rest in
    (omega arith, λ e. let four = least_ao kind e in (omega arith, omega arith))

front_bounds : (area : List ℕ) → Bounds (option_front area) area
front_bounds [] = tt
front_bounds (zero ∷ rest) = (omega arith, λ (e : 0 ≡ 29). absurd (cc))
front_bounds (suc zero ∷ rest) = (omega arith, λ (e : 1 ≡ 29). absurd (cc))
front_bounds (suc (suc k) ∷ []) = tt
front_bounds (suc (suc k) ∷ size ∷ rest) =
    let P : Front Sized LengthFault → Type 0 = λ f. Bounds f (suc (suc k) ∷ size ∷ rest) in
    by_test P (nat_lt size (least (suc (suc k)))) (Faulted TooShort) _ (λ is. tt) (λ long.
    by_test P (nat_lt (length rest + 2) size) (Faulted TooLong) _ (λ is. tt) (λ fits.
    long_bounds (suc (suc k)) size rest (lt_not size (least (suc (suc k))) long) (lt_not (length rest + 2) size fits)))

within_front : (f : Front Sized LengthFault) (k p : ℕ) (area : List ℕ) → Bounds f area
    → ((q : ℕ) (rest : List ℕ) → AllListed (Within (q + length rest)) (options_from k q rest))
    → AllListed (Within (p + length area)) (by_front f p (walked k))
within_front Ends k p area h others = tt
within_front (Faulted TooShort) k p area h others = tt
within_front (Faulted TooLong) k p area h others = tt
within_front (Leads o rest) k p area h others =
    let sizes = h.0 in
    let end = p + length area in
    all_and (Within end) (record { kind = o.kind; body = o.body; place = p }) (options_from k (p + o.size) rest)
    (λ at. let r = h.1 at in let one = r.0 in let two = r.1 in (one, omega arith))
    (within-longer (p + o.size + length rest) end (listed (options_from k (p + o.size) rest)) (omega arith) (others (p + o.size) rest))

pub all_within : (k p : ℕ) (area : List ℕ) → AllListed (Within (p + length area)) (options_from k p area)
all_within zero p area = tt
all_within (suc k) p area = within_front (option_front area) k p area (front_bounds area) (λ q rest. all_within k q rest)

-- an option among those of a kind
kind_if : (P : Opt → Type 0) (o : Opt) (os : List Opt) (b : Bool) → (b ≡ true → P o) → AllByRecursion P os → AllByRecursion P (if b then o ∷ os else os)
kind_if P o os true h hs = (h refl, hs)
kind_if P o os false h hs = hs

pub all_of_kind : (kind end : ℕ) (list : List Opt) → kind ≡ 29 → AllByRecursion (Within end) list → AllByRecursion (λ (o : Opt). (2 ≤ length o.body) × (o.place + 2 + length o.body ≤ end)) (of_kind kind list)
all_of_kind kind end [] is h = tt
all_of_kind kind end (o ∷ os) is h =
    kind_if (λ (o : Opt). (2 ≤ length o.body) × (o.place + 2 + length o.body ≤ end)) o (of_kind kind os) (o.kind == kind)
    (λ same. let k = eqb_is o.kind kind same in h.0 (cc)) (all_of_kind kind end os is h.1)

one_is : (ao bo : Ao) → One ao ≡ One bo → ao ≡ bo
one_is ao bo e = cc

found_one : (end : ℕ) (list md5 : List Opt) (ao : Ao) → AllByRecursion (λ (o : Opt). (2 ≤ length o.body) × (o.place + 2 + length o.body ≤ end)) list → found list md5 ≡ One ao
    → ao.place + 4 + length ao.mac ≤ end
found_one end [] md5 ao h e = absurd (cc)
found_one end (o ∷ p ∷ os) md5 ao h e = absurd (cc)
found_one end (o ∷ []) (m ∷ ms) ao h e = absurd (cc)
found_one end (o ∷ []) [] ao h e =
    let low = h.0.0 in
    let high = h.0.1 in
    let mac_is = length-drop 2 o.body in
    let fits : o.place + 4 + length (drop 2 o.body) ≤ end = omega arith in
    subst (λ (a : Ao). a.place + 4 + length a.mac ≤ end) (one_is (ao_of o) ao e) fits

-- the option with its MAC lies in the area
pub found_within : (area : List ℕ) (ao : Ao) → find_ao area ≡ One ao → ao.place + 4 + length ao.mac ≤ length area
unfolding find_ao options_of
found_within area ao e =
    let list = listed (options_from (suc (length area)) 0 area) in
    let all = within-longer (0 + length area) (length area) list (omega arith) (all_within (suc (length area)) 0 area) in
    found_one (length area) (of_kind 29 list) (of_kind 19 list) ao (all_of_kind 29 (length area) list refl all) e
