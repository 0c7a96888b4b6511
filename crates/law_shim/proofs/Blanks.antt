-- What comes in of an area doesn't depend on the MAC in it.
use Rattle.std.proofs.Common.{◌≡◌, ℕ, ◌+◌, ◌-◌, ◌≤◌, ◌==◌, ◌||◌, Bool, true, false, Option, List, [], ◌∷◌, ◌++◌, length, take, drop, replicate, slice_index, refl, sym, ap, subst, ◌∙◌, arith, append_assoc, length-append, if◌then◌else◌, inl, inr}
use Rattle.std.proofs.lemmas.List.{append-nil, length-replicate}
use Rattle.std.proofs.lemmas.Bool.Decides.{nat_tests}
use Rattle.book_segments.specs.Areas.{spell_option, spell_options, IsOpen, Open, ending, Area}
use Rattle.book_segments.specs.Options.{Opt, Options, Plain, plains, listed, Listed, options_of, AreListed, of_kind, Ao, One, ao_of, found, find_ao}
use Rattle.book_segments.proofs.AreaLaws.{area_of, area_is}
use Rattle.book_segments.proofs.Blanked.{take_exact, drop_exact}
use Rattle.book_macs.specs.MacInput.{covered}
use Rattle.book_shim.specs.Relaying.{coming, in_words, rewritten, coming_area}
use Rattle.law_shim.proofs.Areas.{written_append, kind_append}
use Rattle.std.specs.Prelude.{flat_map}

one_is : (a b : Ao) → One a ≡ One b → a ≡ b
one_is a b e = cc

record FoundOne (ours : List Opt) (ao : Ao) : Type 0 where
  option : Opt
  ours_is : ours ≡ option ∷ []
  ao_is : ao_of option ≡ ao

found_one : (ours md5 : List Opt) (ao : Ao) → found ours md5 ≡ One ao → FoundOne ours ao
found_one [] md5 ao e = absurd (cc)
found_one (o ∷ p ∷ os) md5 ao e = absurd (cc)
found_one (o ∷ []) (m ∷ ms) ao e = absurd (cc)
found_one (o ∷ []) [] ao e = record { option = o; ours_is = refl; ao_is = one_is (ao_of o) ao e }

-- ---- the option among the others

record IsAmong (p : ℕ) (list : List Opt) (o : Opt) : Type 0 where
  before : List Opt
  after : List Opt
  list_is : list ≡ before ++ o ∷ after
  kind : o.kind ≡ 29
  place : o.place ≡ p + length (spell_options before)
  open_o : IsOpen o

eq_is : (x y : ℕ) → (x == y) ≡ true → x ≡ y
eq_is x y e = grind (arith, nat_tests)

head_is : (x o : Opt) (xs : List Opt) → x ∷ xs ≡ o ∷ [] → x ≡ o
head_is x o xs e = cc

among_by : (b : Bool) (p : ℕ) (x : Opt) (xs : List Opt) (o : Opt) → (x.kind == 29) ≡ b → Open p (x ∷ xs) → (if b then x ∷ of_kind 29 xs else of_kind 29 xs) ≡ o ∷ []
    → (of_kind 29 xs ≡ o ∷ [] → IsAmong (p + length (spell_option x)) xs o) → IsAmong p (x ∷ xs) o
among_by true p x xs o k h e later =
    let is : x ≡ o = head_is x o (of_kind 29 xs) e in
    subst (λ (y : Opt). IsAmong p (x ∷ xs) y) is (record {
      before = [];
      after = xs;
      list_is = refl;
      kind = eq_is x.kind 29 k;
      place = h.1 ∙ (let z : p ≡ p + 0 = omega arith in z);
      open_o = h.0;
    })
among_by false p x xs o k h e later =
    let r = later e in
    let a = length-append (spell_option x) (spell_options r.before) in
    let at = r.place in
    record {
      before = x ∷ r.before;
      after = r.after;
      list_is = ap (λ (l : List Opt). x ∷ l) r.list_is;
      kind = r.kind;
      place = omega arith;
      open_o = r.open_o;
    }

among : (p : ℕ) (list : List Opt) (o : Opt) → Open p list → of_kind 29 list ≡ o ∷ [] → IsAmong p list o
among p [] o h e = absurd (cc)
among p (x ∷ xs) o h e = among_by (x.kind == 29) p x xs o refl h e (λ f. among (p + length (spell_option x)) xs o h.2 f)

-- ---- the option with another MAC

-- an option of TCP-AO with its MAC zero
abbrev zeroed : Opt → Opt
zeroed o = record { kind = 29; body = slice_index o.body 0 ∷ slice_index o.body 1 ∷ replicate (length o.body - 2) 0; place = o.place }

body_is : (body : List ℕ) → 2 ≤ length body → body ≡ slice_index body 0 ∷ slice_index body 1 ∷ drop 2 body
body_is [] h = absurd (omega arith)
body_is (x ∷ []) h = absurd (omega arith)
body_is (x ∷ y ∷ rest) h = refl

least_ao : (k n : ℕ) → k ≡ 29 → (2 ≤ k → (if k == 29 then 4 else 2) ≤ 2 + n) → 2 ≤ n
least_ao k n e h = let four : (if k == 29 then 4 else 2) ≡ 4 = rw e refl in
    let m : 4 ≤ 2 + n = subst (λ (x : ℕ). x ≤ 2 + n) four (h (omega arith)) in
    omega arith

body_two : (o : Opt) → o.kind ≡ 29 → IsOpen o → 2 ≤ length o.body
body_two o k h = least_ao o.kind (length o.body) k h.long

zeroed_body : (o : Opt) → 2 ≤ length o.body → length (zeroed o).body ≡ length o.body
zeroed_body o h = let r : length (replicate {A = ℕ} (length o.body - 2) 0) ≡ length o.body - 2 = length-replicate (length o.body - 2) 0 in omega arith

spell_ao : (o : Opt) → o.kind ≡ 29 → spell_option o ≡ 29 ∷ (2 + length o.body) ∷ o.body
spell_ao o k = rw k refl

same_long : (o : Opt) → o.kind ≡ 29 → 2 ≤ length o.body → length (spell_option (zeroed o)) ≡ length (spell_option o)
same_long o k h =
    let a = ap (λ (l : List ℕ). length l) (spell_ao o k) in
    let b = zeroed_body o h in
    omega arith

open_zeroed : (p : ℕ) (xs ys : List Opt) (o : Opt) → o.kind ≡ 29 → 2 ≤ length o.body → Open p (xs ++ o ∷ ys) → Open p (xs ++ zeroed o ∷ ys)
open_zeroed p [] ys o k two h =
    let b = zeroed_body o two in (
      record { kind = omega arith; short = λ e. absurd (omega arith); long = λ e. omega arith },
      h.1,
      subst (λ (n : ℕ). Open (p + n) ys) (sym (same_long o k two)) h.2,
    )
open_zeroed p (x ∷ xs) ys o k two h = (h.0, h.1, open_zeroed (p + length (spell_option x)) xs ys o k two h.2)

spell_append : (xs ys : List Opt) → spell_options (xs ++ ys) ≡ spell_options xs ++ spell_options ys
spell_append [] ys = refl
spell_append (x ∷ xs) ys = ap (λ (l : List ℕ). spell_option x ++ l) (spell_append xs ys) ∙ sym (append_assoc (spell_option x) (spell_options xs) (spell_options ys))

-- the bytes, cut at the MAC
cut_at : (xs : List ℕ) (l k r : ℕ) (code rest : List ℕ) → (xs ++ ((29 ∷ l ∷ k ∷ r ∷ code) ++ rest)) ≡ (xs ++ (29 ∷ l ∷ k ∷ r ∷ [])) ++ (code ++ rest)
cut_at xs l k r code rest = sym (append_assoc xs (29 ∷ l ∷ k ∷ r ∷ []) (code ++ rest))

covered_cut : (xs : List ℕ) (l k r : ℕ) (code rest : List ℕ) (ao : Ao) → ao.place ≡ length xs → ao.mac ≡ code
    → covered true (xs ++ ((29 ∷ l ∷ k ∷ r ∷ code) ++ rest)) ao ≡ xs ++ ((29 ∷ l ∷ k ∷ r ∷ replicate (length code) 0) ++ rest)
covered_cut xs l k r code rest ao place mac =
    let bytes = xs ++ ((29 ∷ l ∷ k ∷ r ∷ code) ++ rest) in
    let head = xs ++ (29 ∷ l ∷ k ∷ r ∷ []) in
    let cut = cut_at xs l k r code rest in
    let m : length ao.mac ≡ length code = ap (λ (z : List ℕ). length z) mac in
    let head_long = length-append xs (29 ∷ l ∷ k ∷ r ∷ []) in
    let front : take (ao.place + 4) bytes ≡ head = ap (take (ao.place + 4)) cut ∙ take_exact head (code ++ rest) (ao.place + 4) (omega arith) in
    let two = length-append head code in
    let after : drop (ao.place + 4 + length ao.mac) bytes ≡ rest =
    ap (drop (ao.place + 4 + length ao.mac)) (cut ∙ sym (append_assoc head code rest)) ∙ drop_exact (head ++ code) rest (ao.place + 4 + length ao.mac) (omega arith) in
    ap (λ (z : List ℕ). z ++ (replicate (length ao.mac) 0 ++ drop (ao.place + 4 + length ao.mac) bytes)) front
    ∙ ap (λ (z : List ℕ). head ++ (replicate (length ao.mac) 0 ++ z)) after
    ∙ ap (λ (n : ℕ). head ++ (replicate n 0 ++ rest)) m
    ∙ append_assoc xs (29 ∷ l ∷ k ∷ r ∷ []) (replicate (length code) 0 ++ rest)

drop_long : (body : List ℕ) → length (drop 2 body) ≡ length body - 2
drop_long [] = refl
drop_long (x ∷ []) = refl
drop_long (x ∷ y ∷ body) = omega arith

-- the area with the MAC zero spells the options with the MAC zero
covers : (list : List Opt) (rest : List ℕ) (o : Opt) (ao : Ao) (i : IsAmong 0 list o) → ao_of o ≡ ao
    → covered true (spell_options list ++ rest) ao ≡ spell_options (i.before ++ zeroed o ∷ i.after) ++ rest
covers list rest o ao i is =
    let two = body_two o i.kind i.open_o in
    let xs = spell_options i.before in
    let ys = spell_options i.after in
    let at = i.place in
    let place : ao.place ≡ length xs = ap (λ (a : Ao). a.place) (sym is) ∙ (let z : o.place ≡ length xs = omega arith in z) in
    let mac : ao.mac ≡ drop 2 o.body = ap (λ (a : Ao). a.mac) (sym is) in
    let l = 2 + length o.body in
    let option : spell_option o ≡ 29 ∷ l ∷ slice_index o.body 0 ∷ slice_index o.body 1 ∷ drop 2 o.body = spell_ao o i.kind ∙ ap (λ (b : List ℕ). 29 ∷ l ∷ b) (body_is o.body two) in
    let old : spell_options list ++ rest ≡ xs ++ ((29 ∷ l ∷ slice_index o.body 0 ∷ slice_index o.body 1 ∷ drop 2 o.body) ++ (ys ++ rest)) =
    ap (λ (z : List Opt). spell_options z ++ rest) i.list_is ∙ ap (λ (z : List ℕ). z ++ rest) (spell_append i.before (o ∷ i.after)) ∙ append_assoc xs (spell_option o ++ ys) rest
    ∙ ap (λ (z : List ℕ). xs ++ z) (append_assoc (spell_option o) ys rest) ∙ ap (λ (z : List ℕ). xs ++ (z ++ (ys ++ rest))) option in
    let z = zeroed o in
    let zl : 2 + length z.body ≡ l = ap (λ (n : ℕ). 2 + n) (zeroed_body o two) in
    let zeros : length (drop 2 o.body) ≡ length o.body - 2 = drop_long o.body in
    let new_option : spell_option z ≡ 29 ∷ l ∷ slice_index o.body 0 ∷ slice_index o.body 1 ∷ replicate (length (drop 2 o.body)) 0 =
    ap (λ (n : ℕ). 29 ∷ n ∷ z.body) zl ∙ ap (λ (n : ℕ). 29 ∷ l ∷ slice_index o.body 0 ∷ slice_index o.body 1 ∷ replicate n 0) (sym zeros) in
    let new : spell_options (i.before ++ z ∷ i.after) ++ rest ≡ xs ++ ((29 ∷ l ∷ slice_index o.body 0 ∷ slice_index o.body 1 ∷ replicate (length (drop 2 o.body)) 0) ++ (ys ++ rest)) =
    ap (λ (y : List ℕ). y ++ rest) (spell_append i.before (z ∷ i.after)) ∙ append_assoc xs (spell_option z ++ ys) rest
    ∙ ap (λ (y : List ℕ). xs ++ y) (append_assoc (spell_option z) ys rest) ∙ ap (λ (y : List ℕ). xs ++ (y ++ (ys ++ rest))) new_option in
    ap (λ (y : List ℕ). covered true y ao) old ∙ covered_cut xs l (slice_index o.body 0) (slice_index o.body 1) (drop 2 o.body) (ys ++ rest) ao place mac ∙ sym new

-- ---- what comes in of both

plains_append : (xs ys : List Opt) → plains (xs ++ ys) ≡ plains xs ++ plains ys
plains_append [] ys = refl
plains_append (x ∷ xs) ys = ap (λ (l : List Plain). record { kind = x.kind; body = x.body } ∷ l) (plains_append xs ys)

ao_none : (b : Bool) (x : List ℕ) → (if b || true then [] else x) ≡ []
ao_none true x = refl
ao_none false x = refl

comes_none : (most : Option ℕ) (o : Plain) → o.kind ≡ 29 → coming most o ≡ []
comes_none most o k = rw k refl

written_split : (most : Option ℕ) (xs ys : List Opt) (o : Opt) → o.kind ≡ 29
    → flat_map (coming most) (plains (xs ++ o ∷ ys)) ≡ flat_map (coming most) (plains xs) ++ flat_map (coming most) (plains ys)
written_split most xs ys o k =
    let p : Plain = record { kind = o.kind; body = o.body } in
    ap (flat_map (coming most)) (plains_append xs (o ∷ ys)) ∙ written_append (coming most) (plains xs) (p ∷ plains ys)
    ∙ ap (λ (l : List ℕ). flat_map (coming most) (plains xs) ++ (l ++ flat_map (coming most) (plains ys))) (comes_none most p k)

rewritten_listed : (most : Option ℕ) (area : List ℕ) (list : List Opt) → options_of area ≡ Listed list → coming_area most area ≡ in_words (flat_map (coming most) (plains list))
unfolding rewritten
rewritten_listed most area list e = ap (λ (o : Options). in_words (flat_map (coming most) (plains (listed o)))) e

same_by : (most : Option ℕ) (list : List Opt) (area : List ℕ) (o : Opt) (ao : Ao) → Area list [] area → of_kind 29 list ≡ o ∷ [] → ao_of o ≡ ao → Open 0 list → area ≡ spell_options list
    → coming_area most (covered true area ao) ≡ coming_area most area
same_by most list area o ao a e is h bytes =
    let i = among 0 list o h e in
    let two = body_two o i.kind i.open_o in
    let new = i.before ++ zeroed o ∷ i.after in
    let open_new : Open 0 new = open_zeroed 0 i.before i.after o i.kind two (subst (λ (l : List Opt). Open 0 l) i.list_is h) in
    let c : covered true area ao ≡ spell_options new =
    ap (λ (l : List ℕ). covered true l ao) (bytes ∙ sym (append-nil (spell_options list))) ∙ covers list [] o ao i is ∙ append-nil (spell_options new) in
    let one = area_is new [] (covered true area ao) (inl ((open_new, refl, c))) in
    let two_is = area_is list [] area a in
    rewritten_listed most (covered true area ao) new one
    ∙ ap in_words (written_split most i.before i.after (zeroed o) refl ∙ sym (ap (λ (l : List Opt). flat_map (coming most) (plains l)) i.list_is ∙ written_split most i.before i.after o i.kind))
    ∙ sym (rewritten_listed most area list two_is)

same_ended : (most : Option ℕ) (before : List Opt) (tail area : List ℕ) (o : Opt) (ao : Ao) (last : Opt) → last ≡ ending (0 + length (spell_options before)) → Area (before ++ last ∷ []) tail area
    → of_kind 29 before ≡ o ∷ [] → ao_of o ≡ ao → Open 0 before → area ≡ spell_options before ++ 0 ∷ tail
    → coming_area most (covered true area ao) ≡ coming_area most area
same_ended most before tail area o ao last last_is a e is h bytes =
    let i = among 0 before o h e in
    let two = body_two o i.kind i.open_o in
    let new = i.before ++ zeroed o ∷ i.after in
    let open_new : Open 0 new = open_zeroed 0 i.before i.after o i.kind two (subst (λ (l : List Opt). Open 0 l) i.list_is h) in
    let c : covered true area ao ≡ spell_options new ++ 0 ∷ tail = ap (λ (l : List ℕ). covered true l ao) bytes ∙ covers before (0 ∷ tail) o ao i is in
    let end : Opt = ending (0 + length (spell_options new)) in
    let one = area_is (new ++ end ∷ []) tail (covered true area ao) (inr ((new, open_new, refl, c))) in
    let two_is = area_is (before ++ last ∷ []) tail area a in
    let p : Plain = record { kind = 0; body = [] } in
    let front : flat_map (coming most) (plains (new ++ end ∷ [])) ≡ flat_map (coming most) (plains new) ++ [] =
    ap (flat_map (coming most)) (plains_append new (end ∷ [])) ∙ written_append (coming most) (plains new) (plains (end ∷ [])) in
    let back : flat_map (coming most) (plains (before ++ last ∷ [])) ≡ flat_map (coming most) (plains before) ++ [] =
    ap (λ (x : Opt). flat_map (coming most) (plains (before ++ x ∷ []))) last_is
    ∙ ap (flat_map (coming most)) (plains_append before (ending (0 + length (spell_options before)) ∷ []))
    ∙ written_append (coming most) (plains before) (plains (ending (0 + length (spell_options before)) ∷ [])) in
    let same : flat_map (coming most) (plains new) ≡ flat_map (coming most) (plains before) =
    written_split most i.before i.after (zeroed o) refl ∙ sym (ap (λ (l : List Opt). flat_map (coming most) (plains l)) i.list_is ∙ written_split most i.before i.after o i.kind) in
    rewritten_listed most (covered true area ao) (new ++ end ∷ []) one
    ∙ ap in_words (front ∙ ap (λ (l : List ℕ). l ++ []) same ∙ sym back)
    ∙ sym (rewritten_listed most area (before ++ last ∷ []) two_is)

kind_last : (before : List Opt) (last : Opt) → last.kind ≡ 0 → of_kind 29 (before ++ last ∷ []) ≡ of_kind 29 before
kind_last before last k =
    let none : of_kind 29 (last ∷ []) ≡ [] = rw k refl in
    kind_append 29 before (last ∷ []) ∙ ap (λ (l : List Opt). of_kind 29 before ++ l) none ∙ append-nil (of_kind 29 before)

by_area : (most : Option ℕ) (list : List Opt) (tail area : List ℕ) (o : Opt) (ao : Ao) → Area list tail area → of_kind 29 list ≡ o ∷ [] → ao_of o ≡ ao
    → coming_area most (covered true area ao) ≡ coming_area most area
by_area most list tail area o ao (inl a) e is = same_by most list area o ao (inl ((a.0, refl, a.2))) e is a.0 a.2
by_area most list tail area o ao (inr b) e is =
    let last : Opt = ending (0 + length (spell_options b.0)) in
    let ours : of_kind 29 b.0 ≡ o ∷ [] = sym (kind_last b.0 last refl) ∙ ap (of_kind 29) (sym b.2) ∙ e in
    same_ended most b.0 tail area o ao last refl (inr ((b.0, b.1, refl, b.3))) ours is b.1 b.3

-- what comes in of an area is what comes in of it with its MAC zero
pub comes_blank : (most : Option ℕ) (area : List ℕ) (ao : Ao) → AreListed (options_of area) → find_ao area ≡ One ao → coming_area most (covered true area ao) ≡ coming_area most area
unfolding find_ao
comes_blank most area ao l e =
    let a = area_of area l in
    let f = found_one (of_kind 29 (listed (options_of area))) (of_kind 19 (listed (options_of area))) ao e in
    by_area most (listed (options_of area)) a.0 area f.option ao a.1 f.ours_is f.ao_is
