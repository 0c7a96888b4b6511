-- What one step over an option area gives, carried over the whole of it.
use Rattle.std.proofs.Common.{◌≡◌, ℕ, zero, suc, ◌+◌, ◌-◌, ◌<◌, ◌≤◌, Bool, true, false, cond, nat_lt, List, [], ◌∷◌, Option, Some, None, length, take, drop, refl, sym, ap, subst, ◌∙◌, arith}
use Rattle.std.specs.Prelude.{◌==◌}
use Rattle.std.proofs.lemmas.Bool.{ltb-false}
use Rattle.std.proofs.lemmas.List.{length-drop, length-take}
use Rattle.book_base.specs.Fronts.{Front, Ends, Faulted, Leads, Fronted, fronted}
use Rattle.book_base.proofs.FrontLaws.{Shrinks, fronted_step}
use Rattle.book_segments.specs.declared.fault.OptionFault.{OptionFault}
use Rattle.book_segments.specs.declared.fault.OptionFault.TheVariants.{ShortLength, PastEnd}
use Rattle.book_segments.proofs.OptionFronts.{Leading, Ending, by_front}
use Rattle.book_segments.specs.Options.{Opt, Options, Listed, Faulty, and_then, least, Sized, LengthFault, TooShort, TooLong, option_front, placed_from, options_at, options_of, listed, AreListed, Plain, plains}

-- what is known of an option at the front of n bytes
pub record IsLeading (kind : ℕ) (body : List ℕ) (size : ℕ) (rest : List ℕ) (n : ℕ) : Type 0 where
  pub less : length rest < n
  pub sizes : size + length rest ≤ n
  pub ao : kind ≡ 29 → 2 ≤ length body
  pub positive : 0 < size

abbrev pub IsLess : Front Sized LengthFault → ℕ → Type 0
IsLess (Leads o rest) n = IsLeading o.kind o.body o.size rest n
IsLess Ends n = Unit {0}
IsLess (Faulted fault) n = Unit {0}

abbrev long_front : Bool → Bool → ℕ → ℕ → List ℕ → Front Sized LengthFault
long_front short long kind size rest = cond short (Faulted TooShort) (cond long (Faulted TooLong) (Leading kind (take (size - 2) rest) size (drop (size - 2) rest)))

least_ao : (kind : ℕ) → kind ≡ 29 → least kind ≡ 4
least_ao kind e = subst (λ (k : ℕ). least k ≡ 4) (sym e) refl

least_two : (kind : ℕ) → 2 ≤ least kind
least_two kind = elim (kind == 29) as (λ b. 2 ≤ cond b 4 2) [ true ↦ omega arith | false ↦ omega arith ]

long_less : (short long : Bool) (kind size : ℕ) (rest : List ℕ) → short ≡ nat_lt size (least kind) → long ≡ nat_lt (length rest + 2) size → IsLess (long_front short long kind size rest) (2 + length rest)
long_less true long kind size rest s l = tt
long_less false true kind size rest s l = tt
long_less false false kind size rest s l =
    let a : least kind ≤ size = ltb-false _ _ (sym s) in
    let b : size ≤ length rest + 2 = ltb-false _ _ (sym l) in
    let two = least_two kind in
    let d = length-drop (size - 2) rest in
    let t = length-take (size - 2) rest in
    record { less = omega arith; sizes = omega arith; ao = λ e. let f = least_ao kind e in omega arith; positive = omega arith }

pub less : (bs : List ℕ) → IsLess (option_front bs) (length bs)
less [] = tt
less (zero ∷ bs) = record { less = omega arith; sizes = omega arith; ao = λ e. absurd (omega arith); positive = omega arith }
less (suc zero ∷ bs) = record { less = omega arith; sizes = omega arith; ao = λ e. absurd (omega arith); positive = omega arith }
less (suc (suc k) ∷ []) = tt
less (suc (suc k) ∷ size ∷ rest) =
    subst (λ (n : ℕ). IsLess (option_front (suc (suc k) ∷ size ∷ rest)) n) (omega arith) (long_less (nat_lt size (least (suc (suc k)))) (nat_lt (length rest + 2) size) (suc (suc k)) size rest refl refl)

pub leads : (bs : List ℕ) (kind : ℕ) (body : List ℕ) (size : ℕ) (rest : List ℕ) → Leading kind body size rest ≡ option_front bs → IsLeading kind body size rest (length bs)
leads bs kind body size rest e = subst (λ (f : Front Sized LengthFault). IsLess f (length bs)) (sym e) (less bs)

shrinks : Shrinks option_front
shrinks = record { shorter = λ bs o rest is. (leads bs o.kind o.body o.size rest (sym is)).less }

-- one step
pub step : (p : ℕ) (bs : List ℕ) (s : Front Sized LengthFault) → s ≡ option_front bs → options_at p bs ≡ by_front s p (fronted option_front)
step p bs s e =
    let f = fronted option_front in
    ap (λ (x : Fronted Sized LengthFault). placed_from p x.items x.fault) (fronted_step option_front shrinks bs) ∙ ap (λ (g : Front Sized LengthFault). by_front g p f) (sym e)

pub of_is : (bs : List ℕ) → options_of bs ≡ options_at 0 bs
unfolding options_of
of_is bs = refl

-- ---- what is behind an option

-- what holds of the options behind an option holds of all
pub record Passes (all behind : Options) : Type 0 where
  pub to_listed : AreListed behind → AreListed all
  pub from_listed : AreListed all → AreListed behind
  pub faulty : (f : OptionFault) → behind ≡ Faulty f → all ≡ Faulty f

pub passes_same : (o : Options) → Passes o o
passes_same o = record { to_listed = λ h. h; from_listed = λ h. h; faulty = λ f e. e }

pub passes_then : (o : Opt) (x : Options) → Passes (and_then o x) x
passes_then o (Listed list) = record { to_listed = λ h. h; from_listed = λ h. h; faulty = λ f e. absurd (cc) }
passes_then o (Faulty g) = record { to_listed = λ h. h; from_listed = λ h. h; faulty = λ f e. e }

pub passes_on : (x y z : Options) → Passes x y → Passes y z → Passes x z
passes_on x y z a b = record {
  to_listed = λ h. a.to_listed (b.to_listed h);
  from_listed = λ h. b.from_listed (a.from_listed h);
  faulty = λ f e. a.faulty f (b.faulty f e);
}

pub passes_step : (x : Options) (p : ℕ) (bs : List ℕ) (kind : ℕ) (body : List ℕ) (size : ℕ) (rest : List ℕ) → Leading kind body size rest ≡ option_front bs → Passes x (options_at p bs) → Passes x (options_at (p + size) rest)
passes_step x p bs kind body size rest e h =
    let o : Opt = record { kind = kind; body = body; place = p } in
    let s : options_at p bs ≡ and_then o (options_at (p + size) rest) = step p bs (Leading kind body size rest) e in
    passes_on x (and_then o (options_at (p + size) rest)) (options_at (p + size) rest) (subst (λ (y : Options). Passes x y) s h) (passes_then o (options_at (p + size) rest))

-- ---- options without their places

abbrev erased : Options → Option (List Plain)
erased (Listed list) = Some (plains list)
erased (Faulty f) = None

some_same : (a b : List Plain) → Some a ≡ Some b → a ≡ b
some_same a b e = cc

erased_then : (o u : Opt) (x y : Options) → o.kind ≡ u.kind → o.body ≡ u.body → erased x ≡ erased y → erased (and_then o x) ≡ erased (and_then u y)
erased_then o u (Listed a) (Listed b) k m e =
    let f = some_same (plains a) (plains b) e in
    cc
erased_then o u (Listed a) (Faulty g) k m e = absurd (cc)
erased_then o u (Faulty f) (Listed b) k m e = absurd (cc)
erased_then o u (Faulty f) (Faulty g) k m e = refl

erased_from : (p q : ℕ) (os : List Sized) (fault : Option LengthFault) → erased (placed_from p os fault) ≡ erased (placed_from q os fault)
erased_from p q [] None = refl
erased_from p q [] (Some TooShort) = refl
erased_from p q [] (Some TooLong) = refl
erased_from p q (o ∷ os) fault =
    erased_then (record { kind = o.kind; body = o.body; place = p }) (record { kind = o.kind; body = o.body; place = q }) (placed_from (p + o.size) os fault) (placed_from (q + o.size) os fault) refl refl
    (erased_from (p + o.size) (q + o.size) os fault)

erased_at : (p q : ℕ) (bs : List ℕ) → erased (options_at p bs) ≡ erased (options_at q bs)
erased_at p q bs = erased_from p q (fronted option_front bs).items (fronted option_front bs).fault

abbrev or_none : Option (List Plain) → List Plain
or_none (Some list) = list
or_none None = []

plains_are : (x : Options) → plains (listed x) ≡ or_none (erased x)
plains_are (Listed list) = refl
plains_are (Faulty f) = refl

same_listed : (x y : Options) → erased x ≡ erased y → AreListed x → AreListed y
same_listed (Listed a) (Listed b) e h = tt
same_listed (Listed a) (Faulty g) e h = absurd (cc)
same_listed (Faulty f) y e h = absurd h

pub plains_at : (p q : ℕ) (bs : List ℕ) → plains (listed (options_at p bs)) ≡ plains (listed (options_at q bs))
plains_at p q bs = plains_are (options_at p bs) ∙ ap or_none (erased_at p q bs) ∙ sym (plains_are (options_at q bs))

pub listed_at : (p q : ℕ) (bs : List ℕ) → AreListed (options_at p bs) → AreListed (options_at q bs)
listed_at p q bs h = same_listed (options_at p bs) (options_at q bs) (erased_at p q bs) h

plains_then : (o : Opt) (x : Options) → AreListed x → plains (listed (and_then o x)) ≡ record { kind = o.kind; body = o.body } ∷ plains (listed x)
plains_then o (Listed list) h = refl
plains_then o (Faulty f) h = absurd h

listed_then : (o : Opt) (x : Options) → AreListed x → listed (and_then o x) ≡ o ∷ listed x
listed_then o (Listed list) h = refl
listed_then o (Faulty f) h = absurd h

-- ---- a step over an area without a fault

pub record Goes (p : ℕ) (bs : List ℕ) (kind : ℕ) (body : List ℕ) (size : ℕ) (rest : List ℕ) : Type 0 where
  pub behind : AreListed (options_at (p + size) rest)
  pub list : listed (options_at p bs) ≡ record { kind = kind; body = body; place = p } ∷ listed (options_at (p + size) rest)

pub goes : (p : ℕ) (bs : List ℕ) (kind : ℕ) (body : List ℕ) (size : ℕ) (rest : List ℕ) → Leading kind body size rest ≡ option_front bs → AreListed (options_at p bs) → Goes p bs kind body size rest
goes p bs kind body size rest e h =
    let o : Opt = record { kind = kind; body = body; place = p } in
    let s : options_at p bs ≡ and_then o (options_at (p + size) rest) = step p bs (Leading kind body size rest) e in
    let b : AreListed (options_at (p + size) rest) = (passes_then o (options_at (p + size) rest)).from_listed (subst AreListed s h) in
    record { behind = b; list = ap listed s ∙ listed_then o (options_at (p + size) rest) b }

pub leading_listed : (bs : List ℕ) (kind : ℕ) (body : List ℕ) (size : ℕ) (rest : List ℕ) → Leading kind body size rest ≡ option_front bs → AreListed (options_of bs) → AreListed (options_of rest)
unfolding options_of
leading_listed bs kind body size rest e h = listed_at (0 + size) 0 rest (goes 0 bs kind body size rest e h).behind

pub leading_plains : (bs : List ℕ) (kind : ℕ) (body : List ℕ) (size : ℕ) (rest : List ℕ) → Leading kind body size rest ≡ option_front bs → AreListed (options_of bs)
    → plains (listed (options_of bs)) ≡ record { kind = kind; body = body } ∷ plains (listed (options_of rest))
unfolding options_of
leading_plains bs kind body size rest e h =
    let g = goes 0 bs kind body size rest e h in
    ap plains g.list ∙ ap (λ (l : List Plain). record { kind = kind; body = body } ∷ l) (plains_at (0 + size) 0 rest)

pub ending_at : (p : ℕ) (bs : List ℕ) → Ending ≡ option_front bs → options_at p bs ≡ Listed (record { kind = 0; body = []; place = p } ∷ [])
ending_at p bs e = step p bs Ending e

pub nothing_at : (p : ℕ) (bs : List ℕ) → Ends ≡ option_front bs → options_at p bs ≡ Listed []
nothing_at p bs e = step p bs Ends e

pub short_at : (p : ℕ) (bs : List ℕ) → Faulted TooShort ≡ option_front bs → options_at p bs ≡ Faulty (ShortLength p)
short_at p bs e = step p bs (Faulted TooShort) e

pub long_at : (p : ℕ) (bs : List ℕ) → Faulted TooLong ≡ option_front bs → options_at p bs ≡ Faulty (PastEnd p)
long_at p bs e = step p bs (Faulted TooLong) e

pub not_short : (p : ℕ) (bs : List ℕ) → AreListed (options_at p bs) → Faulted TooShort ≡ option_front bs → ⊥
not_short p bs h e = subst AreListed (short_at p bs e) h

pub not_long : (p : ℕ) (bs : List ℕ) → AreListed (options_at p bs) → Faulted TooLong ≡ option_front bs → ⊥
not_long p bs h e = subst AreListed (long_at p bs e) h
