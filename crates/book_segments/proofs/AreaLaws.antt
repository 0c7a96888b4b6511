-- The options that are read are those of the grammar.
use Rattle.std.proofs.Common.{◌≡◌, ℕ, zero, suc, ◌+◌, ◌-◌, ◌<◌, ◌≤◌, ◌⊎◌, false, nat_lt, List, [], ◌∷◌, ◌++◌, length, take, drop, refl, sym, ap, subst, ◌∙◌, arith, inl, inr, append_assoc}
use Rattle.std.proofs.lemmas.List.{length-append, take-append-drop, length-take, take_at, drop_at, append-nil}
use Rattle.std.proofs.lemmas.Bool.{cases_lt, le-ltb, lt-ltb}
use Rattle.book_segments.specs.declared.fault.OptionFault.{OptionFault}
use Rattle.book_segments.specs.declared.fault.OptionFault.TheVariants.{ShortLength, PastEnd}
use Rattle.book_base.specs.Fronts.{Front, Ends, Faulted, Leads}
use Rattle.book_segments.proofs.OptionFronts.{Leading, Ending}
use Rattle.book_segments.specs.Options.{Opt, Options, Listed, Faulty, and_then, least, Sized, LengthFault, TooShort, TooLong, option_front, options_at, options_of, listed, AreListed}
use Rattle.book_segments.specs.Areas.{spell_option, spell_options, IsOpen, Open, ending, AreaAt, Area, Refused, FaultFrom, FaultAt}
use Rattle.book_segments.proofs.Walks.{step, leads, goes, ending_at, nothing_at, short_at, long_at, not_short, not_long}

-- an option and its place
abbrev opt : ℕ → ℕ → List ℕ → Opt
opt p kind body = record { kind = kind; body = body; place = p }

-- kind 0 stands at the front
record IsEnding (o : Sized) (rest bs : List ℕ) : Type 0 where
  tail : List ℕ
  bytes : bs ≡ 0 ∷ tail
  front : Leads o rest ≡ Ending

-- another option stands at the front
record IsSpelled (o : Sized) (rest bs : List ℕ) : Type 0 where
  is_open : (p : ℕ) → IsOpen (opt p o.kind o.body)
  bytes : (p : ℕ) → bs ≡ spell_option (opt p o.kind o.body) ++ rest
  sized : (p : ℕ) → o.size ≡ length (spell_option (opt p o.kind o.body))

-- what one step says of the bytes
abbrev Tells : Front Sized LengthFault → List ℕ → Type 0
Tells Ends bs = bs ≡ []
Tells (Faulted TooShort) bs = (q : ℕ) → Refused bs q (ShortLength q)
Tells (Faulted TooLong) bs = (q : ℕ) → Refused bs q (PastEnd q)
Tells (Leads o rest) bs = IsEnding o rest bs ⊎ IsSpelled o rest bs

least_two : (k : ℕ) → 2 ≤ least k
least_two k = grind arith

long_found : (k size : ℕ) (rest : List ℕ) → least (suc (suc k)) ≤ size → size ≤ length rest + 2 → Tells (Leading (suc (suc k)) (take (size - 2) rest) size (drop (size - 2) rest)) (suc (suc k) ∷ size ∷ rest)
long_found k size rest lo hi =
    let two = least_two (suc (suc k)) in
    let n : 2 + length (take (size - 2) rest) ≡ size = omega (arith, length-take (size - 2) rest) in
    let big : nat_lt (suc (suc k)) 2 ≡ false = le-ltb _ _ (omega arith) in
    inr (record {
      is_open = λ p. record { kind = omega arith; short = λ h. absurd (omega arith); long = λ _. omega arith };
      bytes = λ p. rw (big, n, take-append-drop (size - 2) rest) refl;
      sized = λ p. rw big (omega (arith, n));
    })

long_tells : (k size : ℕ) (rest : List ℕ) → Tells (option_front (suc (suc k) ∷ size ∷ rest)) (suc (suc k) ∷ size ∷ rest)
long_tells k size rest = elim (cases_lt size (least (suc (suc k)))) [
  | inl lt ↦ rw (lt-ltb _ _ lt) (λ q. (refl, omega arith, lt))
  | inr le ↦ elim (cases_lt (length rest + 2) size) [
    | inl lt ↦ rw (le-ltb _ _ le, lt-ltb _ _ lt) (λ q. (refl, omega arith, le, lt))
    | inr ge ↦ rw (le-ltb _ _ le, le-ltb _ _ ge) (long_found k size rest le ge)
  ]
]

tells : (bs : List ℕ) → Tells (option_front bs) bs
tells [] = refl
tells (zero ∷ bs) = inl (record { tail = bs; bytes = refl; front = refl })
tells (suc zero ∷ bs) = inr (record { is_open = λ p. record { kind = omega arith; short = λ _. refl; long = λ h. absurd (omega arith) }; bytes = λ p. refl; sized = λ p. refl })
tells (suc (suc k) ∷ []) = λ q. (refl, omega arith)
tells (suc (suc k) ∷ size ∷ rest) = long_tells k size rest

again_at : (p kind : ℕ) (body after : List ℕ) → IsOpen (opt p kind body) → option_front (spell_option (opt p kind body) ++ after) ≡ Leading kind body (length (spell_option (opt p kind body))) after
again_at p zero body after o = absurd (omega (arith, o.kind))
again_at p (suc zero) body after o = rw (o.short (omega arith)) refl
again_at p (suc (suc k)) body after o =
    let big : nat_lt (suc (suc k)) 2 ≡ false = le-ltb _ _ (omega arith) in
    let lo : nat_lt (2 + length body) (least (suc (suc k))) ≡ false = le-ltb _ _ (o.long (omega arith)) in
    let hi : nat_lt (length (body ++ after) + 2) (2 + length body) ≡ false = le-ltb _ _ (omega (arith, length-append body after)) in
    let n : 2 + length body - 2 ≡ length body = omega arith in
    let m : 2 + length body ≡ suc (suc (length body)) = omega arith in
    rw (big, lo, hi, n, take_at body after (length body) refl, drop_at body after (length body) refl) (ap (λ (size : ℕ). Leading (suc (suc k)) body size after) m)

-- an option that is spelled at the front is found
again : (o : Opt) (after : List ℕ) → IsOpen o → Leading o.kind o.body (length (spell_option o)) after ≡ option_front (spell_option o ++ after)
again o after h = sym (again_at o.place o.kind o.body after h)

-- ---- what is read is of the grammar

-- kind 0 ends the list
ended : (p : ℕ) (bs : List ℕ) (o : Sized) (rest : List ℕ) → Leads o rest ≡ option_front bs → IsEnding o rest bs → options_at p bs ≡ Listed (ending p ∷ [])
ended p bs o rest e t = ending_at p bs (sym t.front ∙ e)

area_step : (s : Front Sized LengthFault) (p : ℕ) (bs : List ℕ) → s ≡ option_front bs → Tells s bs → AreListed (options_at p bs)
    → ((q : ℕ) (rest : List ℕ) → length rest < length bs → AreListed (options_at q rest) → (tail : List ℕ) × AreaAt q (listed (options_at q rest)) tail rest)
    → (tail : List ℕ) × AreaAt p (listed (options_at p bs)) tail bs
area_step Ends p bs e t l ih = let n : options_at p bs ≡ Listed [] = nothing_at p bs e in ([], rw n (inl (tt, refl, t)))
area_step (Faulted TooShort) p bs e t l ih = absurd (not_short p bs l e)
area_step (Faulted TooLong) p bs e t l ih = absurd (not_long p bs l e)
area_step (Leads o rest) p bs e (inl t) l ih =
    let n : options_at p bs ≡ Listed (ending p ∷ []) = ended p bs o rest e t in
    let z : p ≡ p + length (spell_options []) = omega arith in
    (t.tail, rw n (inr ([], tt, ap (λ (q : ℕ). ending q ∷ []) z, t.bytes)))
area_step (Leads s rest) p bs e (inr t) l ih =
    let g = goes p bs s.kind s.body s.size rest e l in
    let o : Opt = opt p s.kind s.body in
    let r = ih (p + s.size) rest (leads bs s.kind s.body s.size rest e).less g.behind in
    let at : p + s.size ≡ p + length (spell_option o) = ap (λ (k : ℕ). p + k) (t.sized p) in
    let L : List Opt = listed (options_at (p + s.size) rest) in (
      r.0,
      subst (λ (list : List Opt). AreaAt p list r.0 bs) (sym g.list) (elim r.1 [
        | inl a ↦ inl ((t.is_open p, refl, subst (λ (q : ℕ). Open q L) at a.0), a.1, t.bytes p ∙ ap (λ (x : List ℕ). spell_option o ++ x) a.2)
        | inr b ↦
            let far : p + s.size + length (spell_options b.0) ≡ p + length (spell_option o ++ spell_options b.0) = omega (arith, at, length-append (spell_option o) (spell_options b.0)) in
            inr (
              o ∷ b.0,
              (t.is_open p, refl, subst (λ (q : ℕ). Open q b.0) at b.1),
              ap (λ (x : List Opt). o ∷ x) (b.2 ∙ ap (λ (q : ℕ). b.0 ++ ending q ∷ []) far),
              t.bytes p ∙ (ap (λ (x : List ℕ). spell_option o ++ x) b.3 ∙ sym (append_assoc (spell_option o) (spell_options b.0) (0 ∷ r.0))),
            )
      ]),
    )

area_found : (n p : ℕ) (bs : List ℕ) → length bs ≤ n → AreListed (options_at p bs) → (tail : List ℕ) × AreaAt p (listed (options_at p bs)) tail bs
area_found zero p bs h l = area_step (option_front bs) p bs refl (tells bs) l (λ q rest lt m. absurd (omega arith))
area_found (suc n) p bs h l = area_step (option_front bs) p bs refl (tells bs) l (λ q rest lt m. area_found n q rest (omega arith) m)

-- an area without a fault is its options and a tail
pub area_of : (bs : List ℕ) → AreListed (options_of bs) → (tail : List ℕ) × Area (listed (options_of bs)) tail bs
unfolding options_of
area_of bs l = area_found (length bs) 0 bs (omega arith) l

then_fault : (o : Opt) (x : Options) (f : OptionFault) → and_then o x ≡ Faulty f → x ≡ Faulty f
then_fault o (Listed list) f e = absurd (cc)
then_fault o (Faulty g) f e = e

fault_is : (f g : OptionFault) → Faulty f ≡ Faulty g → f ≡ g
fault_is f g e = cc

fault_step : (s : Front Sized LengthFault) (p : ℕ) (bs : List ℕ) (f : OptionFault) → s ≡ option_front bs → Tells s bs → options_at p bs ≡ Faulty f
    → ((q : ℕ) (rest : List ℕ) → length rest < length bs → options_at q rest ≡ Faulty f → FaultFrom q rest f)
    → FaultFrom p bs f
fault_step Ends p bs f e t l ih =
    let is : Listed [] ≡ Faulty f = sym (nothing_at p bs e) ∙ l in
    absurd (cc)
fault_step (Faulted TooShort) p bs f e t l ih =
    let is : ShortLength p ≡ f = fault_is (ShortLength p) f (sym (short_at p bs e) ∙ l) in
    let z : p ≡ p + length (spell_options []) = omega arith in
    ([], bs, tt, refl, subst (λ (q : ℕ). Refused bs q f) z (subst (λ (g : OptionFault). Refused bs p g) is (t p)))
fault_step (Faulted TooLong) p bs f e t l ih =
    let is : PastEnd p ≡ f = fault_is (PastEnd p) f (sym (long_at p bs e) ∙ l) in
    let z : p ≡ p + length (spell_options []) = omega arith in
    ([], bs, tt, refl, subst (λ (q : ℕ). Refused bs q f) z (subst (λ (g : OptionFault). Refused bs p g) is (t p)))
fault_step (Leads o rest) p bs f e (inl t) l ih =
    let is : Listed (ending p ∷ []) ≡ Faulty f = sym (ended p bs o rest e t) ∙ l in
    absurd (cc)
fault_step (Leads i rest) p bs f e (inr t) l ih =
    let o : Opt = opt p i.kind i.body in
    let s : options_at p bs ≡ and_then o (options_at (p + i.size) rest) = step p bs (Leads i rest) e in
    let r = ih (p + i.size) rest (leads bs i.kind i.body i.size rest e).less (then_fault o (options_at (p + i.size) rest) f (sym s ∙ l)) in
    let at : p + i.size ≡ p + length (spell_option o) = ap (λ (j : ℕ). p + j) (t.sized p) in
    let far : p + i.size + length (spell_options r.0) ≡ p + length (spell_option o ++ spell_options r.0) = omega (arith, at, length-append (spell_option o) (spell_options r.0)) in
    (o ∷ r.0, r.1, (t.is_open p, refl, subst (λ (q : ℕ). Open q r.0) at r.2), t.bytes p ∙ (ap (λ (x : List ℕ). spell_option o ++ x) r.3 ∙ sym (append_assoc (spell_option o) (spell_options r.0) r.1)), subst (λ (q : ℕ). Refused r.1 q f) far r.4)

fault_found : (n p : ℕ) (bs : List ℕ) (f : OptionFault) → length bs ≤ n → options_at p bs ≡ Faulty f → FaultFrom p bs f
fault_found zero p bs f h l = fault_step (option_front bs) p bs f refl (tells bs) l (λ q rest lt m. absurd (omega arith))
fault_found (suc n) p bs f h l = fault_step (option_front bs) p bs f refl (tells bs) l (λ q rest lt m. fault_found n q rest f (omega arith) m)

-- a fault that is read stands in the bytes
pub fault_stands : (bs : List ℕ) (f : OptionFault) → options_of bs ≡ Faulty f → FaultAt bs f
unfolding options_of
fault_stands bs f e = fault_found (length bs) 0 bs f (omega arith) e

-- ---- what is of the grammar is read so

abbrev and_all : List Opt → Options → Options
and_all [] x = x
and_all (o ∷ os) x = and_then o (and_all os x)

read_open : (before : List Opt) (p : ℕ) (rest : List ℕ) → Open p before → options_at p (spell_options before ++ rest) ≡ and_all before (options_at (p + length (spell_options before)) rest)
read_open [] p rest h = let z : p ≡ p + 0 = omega arith in ap (λ (q : ℕ). options_at q rest) z
read_open (o ∷ os) p rest h =
    let g : spell_options (o ∷ os) ++ rest ≡ spell_option o ++ (spell_options os ++ rest) = append_assoc (spell_option o) (spell_options os) rest in
    let s = step p (spell_option o ++ (spell_options os ++ rest)) (Leading o.kind o.body (length (spell_option o)) (spell_options os ++ rest)) (again o (spell_options os ++ rest) h.0) in
    let i = read_open os (p + length (spell_option o)) rest h.2 in
    let n : p + length (spell_option o) + length (spell_options os) ≡ p + length (spell_option o ++ spell_options os) = omega (arith, length-append (spell_option o) (spell_options os)) in
    ap (options_at p) g ∙ s ∙ ap (λ (q : ℕ). and_then (opt q o.kind o.body) (options_at (p + length (spell_option o)) (spell_options os ++ rest))) (sym h.1)
    ∙ ap (λ (x : Options). and_then o x) (i ∙ ap (λ (q : ℕ). and_all os (options_at q rest)) n)

all_listed : (os more : List Opt) → and_all os (Listed more) ≡ Listed (os ++ more)
all_listed [] more = refl
all_listed (o ∷ os) more = ap (λ (x : Options). and_then o x) (all_listed os more)

all_faulty : (os : List Opt) (f : OptionFault) → and_all os (Faulty f) ≡ Faulty f
all_faulty [] f = refl
all_faulty (o ∷ os) f = ap (λ (x : Options). and_then o x) (all_faulty os f)

-- the options of an area of the grammar are those that it spells
pub area_is : (list : List Opt) (tail bs : List ℕ) → Area list tail bs → options_of bs ≡ Listed list
unfolding options_of
area_is list tail bs (inl a) =
    ap (options_at 0) (a.2 ∙ sym (append-nil (spell_options list))) ∙ read_open list 0 [] a.0 ∙ all_listed list [] ∙ ap (λ (l : List Opt). Listed l) (append-nil list)
area_is list tail bs (inr b) =
    let p : ℕ = 0 + length (spell_options b.0) in
    ap (options_at 0) b.3 ∙ read_open b.0 0 (0 ∷ tail) b.1 ∙ ap (and_all b.0) (ending_at p (0 ∷ tail) refl) ∙ all_listed b.0 (ending p ∷ []) ∙ ap (λ (l : List Opt). Listed l) (sym b.2)

refused_at : (rest : List ℕ) (p : ℕ) (f : OptionFault) → Refused rest p f → options_at p rest ≡ Faulty f
refused_at [] p (ShortLength q) r = absurd r
refused_at (kind ∷ []) p (ShortLength q) r = absurd r
refused_at (zero ∷ size ∷ body) p (ShortLength q) r = absurd (omega (arith, r.1))
refused_at (suc zero ∷ size ∷ body) p (ShortLength q) r = absurd (omega (arith, r.1))
refused_at (suc (suc k) ∷ size ∷ body) p (ShortLength q) r =
    let f : Faulted TooShort ≡ option_front (suc (suc k) ∷ size ∷ body) = rw (lt-ltb _ _ r.2) refl in
    short_at p (suc (suc k) ∷ size ∷ body) f ∙ ap (λ (j : ℕ). Faulty (ShortLength j)) (sym r.0)
refused_at [] p (PastEnd q) r = absurd r
refused_at (zero ∷ []) p (PastEnd q) r = absurd (omega (arith, r.1))
refused_at (suc zero ∷ []) p (PastEnd q) r = absurd (omega (arith, r.1))
refused_at (suc (suc k) ∷ []) p (PastEnd q) r = long_at p (suc (suc k) ∷ []) refl ∙ ap (λ (j : ℕ). Faulty (PastEnd j)) (sym r.0)
refused_at (zero ∷ size ∷ body) p (PastEnd q) r = absurd (omega (arith, r.1))
refused_at (suc zero ∷ size ∷ body) p (PastEnd q) r = absurd (omega (arith, r.1))
refused_at (suc (suc k) ∷ size ∷ body) p (PastEnd q) r =
    let f : Faulted TooLong ≡ option_front (suc (suc k) ∷ size ∷ body) = rw (le-ltb _ _ r.2, lt-ltb _ _ r.3) refl in
    long_at p (suc (suc k) ∷ size ∷ body) f ∙ ap (λ (j : ℕ). Faulty (PastEnd j)) (sym r.0)

-- a fault that stands in the bytes is read
pub fault_read : (bs : List ℕ) (f : OptionFault) → FaultAt bs f → options_of bs ≡ Faulty f
unfolding options_of
fault_read bs f (before, rest, h, e, r) =
    ap (options_at 0) e ∙ read_open before 0 rest h ∙ ap (and_all before) (refused_at rest (0 + length (spell_options before)) f r) ∙ all_faulty before f
