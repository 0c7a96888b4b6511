-- A TCP-AO option that is found in an area is found there too where its MAC is made zero.
use Rattle.std.proofs.Common.{◌≡◌, ℕ, zero, suc, ◌+◌, ◌-◌, ◌≤◌, ◌==◌, nat_lt, Bool, true, false, List, [], ◌∷◌, ◌++◌, length, take, drop, replicate, if◌then◌else◌, refl, sym, ap, ◌∙◌, subst, arith, length-append, length-take, length-drop, append_assoc}
use Rattle.std.proofs.lemmas.Bool.Decides.{nat_tests}
use Rattle.std.proofs.lemmas.List.{length-replicate}
use Rattle.book_base.specs.Fronts.{Front, Faulted, Leads}
use Rattle.book_segments.proofs.OptionFronts.{Leading, by_front, walked, options_from}
use Rattle.book_segments.specs.Options.{Opt, Options, Listed, Faulty, and_then, least, Sized, LengthFault, TooShort, TooLong, option_front, of_kind, listed, AreListed}
use Rattle.book_segments.proofs.Fields.{eqb_is, lt_not}
use Rattle.book_base.proofs.TestLaws.{by_bool}

-- the list with so many zeros from 4 past a place on
abbrev pub blanked : ℕ → ℕ → List ℕ → List ℕ
blanked zero m xs = take 4 xs ++ (replicate m 0 ++ drop (4 + m) xs)
blanked (suc j) m [] = []
blanked (suc j) m (x ∷ xs) = x ∷ blanked j m xs

pub length-blanked : (j m : ℕ) (xs : List ℕ) → j + 4 + m ≤ length xs → length (blanked j m xs) ≡ length xs
length-blanked zero m xs h =
    let whole = length-append (take 4 xs) (replicate {A = ℕ} m 0 ++ drop (4 + m) xs) in
    let part = length-append (replicate {A = ℕ} m 0) (drop (4 + m) xs) in
    let zeros : length (replicate {A = ℕ} m 0) ≡ m = length-replicate m 0 in
    let before = length-take 4 xs in
    let after = length-drop (4 + m) xs in
    omega arith
length-blanked (suc j) m [] h = refl
length-blanked (suc j) m (x ∷ xs) h = ap suc (length-blanked j m xs (omega arith))

take-blanked : (s j at m : ℕ) (xs : List ℕ) → at ≡ s + j → take s (blanked at m xs) ≡ take s xs
take-blanked zero j at m xs e = refl
take-blanked (suc s) j zero m xs e = absurd (omega arith)
take-blanked (suc s) j (suc at) m [] e = refl
take-blanked (suc s) j (suc at) m (x ∷ xs) e = ap (λ l. x ∷ l) (take-blanked s j at m xs (omega arith))

drop-blanked : (s j at m : ℕ) (xs : List ℕ) → at ≡ s + j → s ≤ length xs → drop s (blanked at m xs) ≡ blanked j m (drop s xs)
drop-blanked zero j at m xs e h = let same : at ≡ j = omega arith in rw same refl
drop-blanked (suc s) j zero m xs e h = absurd (omega arith)
drop-blanked (suc s) j (suc at) m [] e h = absurd (omega arith)
drop-blanked (suc s) j (suc at) m (x ∷ xs) e h = drop-blanked s j at m xs (omega arith) (omega arith)

pub take_exact : (xs ys : List ℕ) (n : ℕ) → length xs ≡ n → take n (xs ++ ys) ≡ xs
take_exact [] ys zero e = refl
take_exact [] ys (suc n) e = absurd (omega arith)
take_exact (x ∷ xs) ys zero e = absurd (omega arith)
take_exact (x ∷ xs) ys (suc n) e = ap (λ l. x ∷ l) (take_exact xs ys n (omega arith))

pub drop_exact : (xs ys : List ℕ) (n : ℕ) → length xs ≡ n → drop n (xs ++ ys) ≡ ys
drop_exact [] ys zero e = refl
drop_exact [] ys (suc n) e = absurd (omega arith)
drop_exact (x ∷ xs) ys zero e = absurd (omega arith)
drop_exact (x ∷ xs) ys (suc n) e = drop_exact xs ys n (omega arith)

-- the option with its MAC zero
abbrev pub blank_option : Opt → Opt
blank_option o = record { kind = 29; body = take 2 o.body ++ replicate (length o.body - 2) 0; place = o.place }

-- where one option of kind 29 is listed: its place, and what is listed where its MAC is made zero
pub record Blanks (k p : ℕ) (xs : List ℕ) (o : Opt) : Type 0 where
  pub offset : ℕ
  pub place : o.place ≡ p + offset
  pub two : 2 ≤ length o.body
  pub within : offset + 2 + length o.body ≤ length xs
  pub ao : of_kind 29 (listed (options_from k p (blanked offset (length o.body - 2) xs))) ≡ blank_option o ∷ []
  pub md5 : of_kind 19 (listed (options_from k p (blanked offset (length o.body - 2) xs))) ≡ of_kind 19 (listed (options_from k p xs))

listed_then : (a : Opt) (os : Options) → AreListed os → listed (and_then a os) ≡ a ∷ listed os
listed_then a (Listed list) h = refl
listed_then a (Faulty f) h = absurd h

-- a list without a fault in front of nothing more
one_more : (os : Options) (o : Opt) → of_kind 29 (listed os) ≡ o ∷ [] → AreListed os
one_more (Listed list) o e = tt
one_more (Faulty f) o e = absurd (cc)

keep_if : (a : Opt) (kind : ℕ) (l : List Opt) (b : Bool) → (a.kind == kind) ≡ b → of_kind kind (a ∷ l) ≡ (if b then a ∷ of_kind kind l else of_kind kind l)
keep_if a kind l b e = rw e refl

then_listed : (a o : Opt) (os : Options) → of_kind 29 (listed (and_then a os)) ≡ o ∷ [] → AreListed os
then_listed a o (Listed list) e = tt
then_listed a o (Faulty f) e = absurd (cc)

cons_is : (a o : Opt) (l : List Opt) → a ∷ l ≡ o ∷ [] → (a ≡ o) × (l ≡ [])
cons_is a o l e = (cc, cc)

-- the one option of kind 29 leads
lead_29 : (a o : Opt) (os : Options) → (a.kind == 29) ≡ true → of_kind 29 (listed (and_then a os)) ≡ o ∷ [] → (a ≡ o) × (of_kind 29 (listed os) ≡ [])
lead_29 a o os is e =
    let l = listed_then a os (then_listed a o os e) in
    cons_is a o (of_kind 29 (listed os)) (sym (ap (of_kind 29) l ∙ keep_if a 29 (listed os) true is) ∙ e)

-- it is behind another
behind_29 : (a o : Opt) (os : Options) → (a.kind == 29) ≡ false → of_kind 29 (listed (and_then a os)) ≡ o ∷ [] → of_kind 29 (listed os) ≡ o ∷ []
behind_29 a o os is e =
    let l = listed_then a os (then_listed a o os e) in
    sym (ap (of_kind 29) l ∙ keep_if a 29 (listed os) false is) ∙ e

-- the other front, with the same option of another kind in front
skipped : (a o : Opt) (os ns : Options) → (a.kind == 29) ≡ false → AreListed os → of_kind 29 (listed ns) ≡ o ∷ [] → of_kind 19 (listed ns) ≡ of_kind 19 (listed os)
    → (of_kind 29 (listed (and_then a ns)) ≡ o ∷ []) × (of_kind 19 (listed (and_then a ns)) ≡ of_kind 19 (listed (and_then a os)))
skipped a o os ns is old ao md5 =
    let l = listed_then a ns (one_more ns o ao) in
    let k = listed_then a os old in (
      ap (of_kind 29) l ∙ keep_if a 29 (listed ns) false is ∙ ao,
      ap (of_kind 19) l ∙ ap (λ rest. if a.kind == 19 then a ∷ rest else rest) md5 ∙ sym (ap (of_kind 19) k),
    )

-- by cases on a test
by_test : (P : Front Sized LengthFault → Type 0) (b : Bool) (t u : Front Sized LengthFault) → (b ≡ true → P t) → (b ≡ false → P u) → P (if b then t else u)
by_test P true t u one two = one refl
by_test P false t u one two = two refl

least_ao : (kind : ℕ) → kind ≡ 29 → least kind ≡ 4
least_ao kind e = subst (λ (k : ℕ). least k ≡ 4) (sym e) refl

least_two : (kind : ℕ) → 2 ≤ least kind
least_two kind = elim (kind == 29) as (λ b. 2 ≤ (if b then 4 else 2)) [ true ↦ omega arith | false ↦ omega arith ]

-- what stands at the front, where neither test refuses it
pub leading : (n size : ℕ) (rest : List ℕ) → nat_lt size (least (suc (suc n))) ≡ false → nat_lt (length rest + 2) size ≡ false
    → option_front (suc (suc n) ∷ size ∷ rest) ≡ Leading (suc (suc n)) (take (size - 2) rest) size (drop (size - 2) rest)
leading n size rest low high = rw (low, high) refl

same-eqb : (x y : ℕ) → x ≡ y → (x == y) ≡ true
same-eqb x y e = grind (arith, nat_tests)

not_19 : (x : ℕ) → x ≡ 29 → (x == 19) ≡ false
not_19 x e = grind (arith, nat_tests)

-- the option itself: its MAC is made zero
own_blanks : (k p n size : ℕ) (rest : List ℕ) (o : Opt) → nat_lt size (least (suc (suc n))) ≡ false → nat_lt (length rest + 2) size ≡ false → (suc (suc n) == 29) ≡ true
    → of_kind 29 (listed (and_then (record { kind = suc (suc n); body = take (size - 2) rest; place = p }) (options_from k (p + size) (drop (size - 2) rest)))) ≡ o ∷ []
    → Blanks (suc k) p (suc (suc n) ∷ size ∷ rest) o
own_blanks k p n size rest o low high is e =
    let kind = suc (suc n) in
    let left = drop (size - 2) rest in
    let os = options_from k (p + size) left in
    let a : Opt = record { kind = kind; body = take (size - 2) rest; place = p } in
    let kind_is : kind ≡ 29 = eqb_is kind 29 is in
    let four = least_ao kind kind_is in
    let size_low = lt_not size (least kind) low in
    let size_high = lt_not (length rest + 2) size high in
    let lead = lead_29 a o os is e in
    let os_listed = then_listed a o os e in
    let body_long = length-take (size - 2) rest in
    let o_long : length o.body ≡ size - 2 = ap (λ (x : Opt). length x.body) (sym lead.0) ∙ (let h : length (take (size - 2) rest) ≡ size - 2 = omega arith in h) in
    let m = length o.body - 2 in
    let body = take 2 o.body ++ replicate m 0 in
    let zeros : length (replicate {A = ℕ} m 0) ≡ m = length-replicate m 0 in
    let first_two = length-take 2 o.body in
    let body_append = length-append (take 2 o.body) (replicate {A = ℕ} m 0) in
    let body_size : length body ≡ size - 2 = omega arith in
    let two_same : take 2 rest ≡ take 2 o.body = two_of rest (size - 2) (omega arith) ∙ ap (λ (x : Opt). take 2 x.body) lead.0 in
    let tail_same : drop (4 + m) (kind ∷ size ∷ rest) ≡ left = let step : 4 + m ≡ suc (suc (size - 2)) = omega arith in ap (λ i. drop i (kind ∷ size ∷ rest)) step in
    let rest_same : take 2 rest ++ (replicate m 0 ++ drop (4 + m) (kind ∷ size ∷ rest)) ≡ body ++ left =
    ap (λ l. l ++ (replicate m 0 ++ drop (4 + m) (kind ∷ size ∷ rest))) two_same ∙ ap (λ l. take 2 o.body ++ (replicate m 0 ++ l)) tail_same
    ∙ sym (append_assoc (take 2 o.body) (replicate m 0) left) in
    let area_same : blanked 0 m (kind ∷ size ∷ rest) ≡ kind ∷ size ∷ (body ++ left) = ap (λ l. kind ∷ size ∷ l) rest_same in
    let left_long = length-drop (size - 2) rest in
    let whole = length-append body left in
    let new_high : nat_lt (length (body ++ left) + 2) size ≡ false = let same : length (body ++ left) ≡ length rest = omega arith in ap (λ i. nat_lt (i + 2) size) same ∙ high in
    let new : Opt = record { kind = kind; body = body; place = p } in
    let front_is : option_front (blanked 0 m (kind ∷ size ∷ rest)) ≡ Leading kind body size left =
    ap option_front area_same ∙ leading n size (body ++ left) low new_high
    ∙ ap (λ b. Leading kind b size (drop (size - 2) (body ++ left))) (take_exact body left (size - 2) body_size)
    ∙ ap (λ l. Leading kind body size l) (drop_exact body left (size - 2) body_size) in
    let all_is : listed (options_from (suc k) p (blanked 0 m (kind ∷ size ∷ rest))) ≡ new ∷ listed os =
    ap (λ f. listed (by_front f p (walked k))) front_is ∙ listed_then new os os_listed in
    let old_front : option_front (kind ∷ size ∷ rest) ≡ Leading kind (take (size - 2) rest) size left = leading n size rest low high in
    let old_is : listed (options_from (suc k) p (kind ∷ size ∷ rest)) ≡ a ∷ listed os =
    ap (λ f. listed (by_front f p (walked k))) old_front ∙ listed_then a os os_listed in
    let place_is : p ≡ o.place = ap (λ (x : Opt). x.place) lead.0 in
    let new_is : new ≡ blank_option o =
    ap (λ i. let x : Opt = record { kind = i; body = body; place = p } in x) kind_is ∙ ap (λ i. let x : Opt = record { kind = 29; body = body; place = i } in x) place_is in
    record {
      offset = 0;
      place = omega arith;
      two = omega arith;
      within = omega arith;
      ao = ap (of_kind 29) all_is ∙ keep_if new 29 (listed os) true is ∙ ap (λ l. new ∷ l) lead.1 ∙ ap (λ x. x ∷ []) new_is;
      md5 = ap (of_kind 19) all_is ∙ keep_if new 19 (listed os) false (not_19 kind kind_is) ∙ sym (ap (of_kind 19) old_is ∙ keep_if a 19 (listed os) false (not_19 kind kind_is));
    }
  where
    two_of : (xs : List ℕ) (i : ℕ) → 2 ≤ i → take 2 xs ≡ take 2 (take i xs)
    two_of [] zero h = refl
    two_of [] (suc i) h = refl
    two_of (x ∷ xs) zero h = absurd (omega arith)
    two_of (x ∷ []) (suc zero) h = refl
    two_of (x ∷ []) (suc (suc i)) h = refl
    two_of (x ∷ y ∷ xs) (suc zero) h = absurd (omega arith)
    two_of (x ∷ y ∷ xs) (suc (suc i)) h = refl

-- another option, and then the rest with the MAC zero
later_blanks : (k p n size : ℕ) (rest : List ℕ) (o : Opt) → nat_lt size (least (suc (suc n))) ≡ false → nat_lt (length rest + 2) size ≡ false → (suc (suc n) == 29) ≡ false
    → of_kind 29 (listed (and_then (record { kind = suc (suc n); body = take (size - 2) rest; place = p }) (options_from k (p + size) (drop (size - 2) rest)))) ≡ o ∷ []
    → Blanks k (p + size) (drop (size - 2) rest) o → Blanks (suc k) p (suc (suc n) ∷ size ∷ rest) o
later_blanks k p n size rest o low high is e h =
    let kind = suc (suc n) in
    let s = size - 2 in
    let left = drop s rest in
    let os = options_from k (p + size) left in
    let a : Opt = record { kind = kind; body = take s rest; place = p } in
    let two = least_two kind in
    let size_low = lt_not size (least kind) low in
    let size_high = lt_not (length rest + 2) size high in
    let at = suc (suc (s + h.offset)) in
    let m = length o.body - 2 in
    let place = h.place in
    let body_two = h.two in
    let within = h.within in
    let left_long = length-drop s rest in
    let new_rest = blanked (s + h.offset) m rest in
    let new_long = length-blanked (s + h.offset) m rest (omega arith) in
    let new_high : nat_lt (length new_rest + 2) size ≡ false = ap (λ i. nat_lt (i + 2) size) new_long ∙ high in
    let ns = options_from k (p + size) (blanked h.offset m left) in
    let front_is : option_front (blanked at m (kind ∷ size ∷ rest)) ≡ Leading kind (take s rest) size (blanked h.offset m left) =
    leading n size new_rest low new_high
    ∙ ap (λ b. Leading kind b size (drop s new_rest)) (take-blanked s h.offset (s + h.offset) m rest refl)
    ∙ ap (λ l. Leading kind (take s rest) size l) (drop-blanked s h.offset (s + h.offset) m rest refl (omega arith)) in
    let all_is : options_from (suc k) p (blanked at m (kind ∷ size ∷ rest)) ≡ and_then a ns = ap (λ f. by_front f p (walked k)) front_is in
    let old_is : options_from (suc k) p (kind ∷ size ∷ rest) ≡ and_then a os = ap (λ f. by_front f p (walked k)) (leading n size rest low high) in
    let both = skipped a (blank_option o) os ns is (then_listed a o os e) h.ao h.md5 in
    record {
      offset = at;
      place = omega arith;
      two = h.two;
      within = omega arith;
      ao = ap (λ x. of_kind 29 (listed x)) all_is ∙ both.0;
      md5 = ap (λ x. of_kind 19 (listed x)) all_is ∙ both.1 ∙ sym (ap (λ x. of_kind 19 (listed x)) old_is);
    }

-- kind 1, and then the rest with the MAC zero
pad_blanks : (k p : ℕ) (rest : List ℕ) (o : Opt) → of_kind 29 (listed (and_then (record { kind = 1; body = []; place = p }) (options_from k (p + 1) rest))) ≡ o ∷ []
    → Blanks k (p + 1) rest o → Blanks (suc k) p (1 ∷ rest) o
pad_blanks k p rest o e h =
    let a : Opt = record { kind = 1; body = []; place = p } in
    let place = h.place in
    let within = h.within in
    let both = skipped a (blank_option o) (options_from k (p + 1) rest) (options_from k (p + 1) (blanked h.offset (length o.body - 2) rest)) refl
    (then_listed a o (options_from k (p + 1) rest) e) h.ao h.md5 in
    record { offset = suc h.offset; place = omega arith; two = h.two; within = omega arith; ao = both.0; md5 = both.1 }

pub blanks : (k p : ℕ) (xs : List ℕ) (o : Opt) → of_kind 29 (listed (options_from k p xs)) ≡ o ∷ [] → Blanks k p xs o
blanks zero p xs o e = absurd (cc)
blanks (suc k) p [] o e = absurd (cc)
blanks (suc zero) p (zero ∷ rest) o e = absurd (cc)
blanks (suc (suc k)) p (zero ∷ rest) o e = absurd (cc)
blanks (suc k) p (suc zero ∷ rest) o e =
    pad_blanks k p rest o e (blanks k (p + 1) rest o (behind_29 (record { kind = 1; body = []; place = p }) o (options_from k (p + 1) rest) refl e))
blanks (suc k) p (suc (suc n) ∷ []) o e = absurd (cc)
blanks (suc k) p (suc (suc n) ∷ size ∷ rest) o e =
    let kind = suc (suc n) in
    let Goal = Blanks (suc k) p (kind ∷ size ∷ rest) o in
    let P : Front Sized LengthFault → Type 0 = λ f. of_kind 29 (listed (by_front f p (walked k))) ≡ o ∷ [] → Goal in
    let a : Opt = record { kind = kind; body = take (size - 2) rest; place = p } in
    let os = options_from k (p + size) (drop (size - 2) rest) in
    by_test P (nat_lt size (least kind)) (Faulted TooShort) _ (λ t h. absurd (cc)) (λ low.
    by_test P (nat_lt (length rest + 2) size) (Faulted TooLong) _ (λ t h. absurd (cc)) (λ high h.
    by_bool Goal (kind == 29) (λ is. own_blanks k p n size rest o low high is h)
    (λ is. later_blanks k p n size rest o low high is h (blanks k (p + size) (drop (size - 2) rest) o (behind_29 a o os is h))))) e
