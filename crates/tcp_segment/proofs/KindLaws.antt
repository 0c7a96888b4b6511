-- Options of a kind, and the maximum segment size, along the list.
use Rattle.std.proofs.Common.{◌≡◌, ℕ, ◌+◌, ◌<◌, ◌≤◌, Bool, true, false, cond, List, [], ◌∷◌, Option, Some, None, length, refl, sym, ap, subst, ◌∙◌, arith, eq-eqb}
use Rattle.std.specs.Prelude.{◌==◌, ◌&&◌, slice_index, ◌*◌, is_some}
use Rattle.std.proofs.lemmas.Bool.{ne_eqb}
use Rattle.book_segments.specs.Options.{Opt, Options, Plain, AreListed, Listed, Faulty, option_front, options_at, options_of, listed, of_kind, plains, mss_among, Ao, AoFound, ao_of, found, find_ao}
use Rattle.book_segments.specs.Options as book
use Rattle.book_base.specs.Fronts.{Ends}
use Rattle.book_segments.proofs.OptionFronts.{Leading, Ending}
use Rattle.book_segments.proofs.Walks.{goes, leads, ending_at, nothing_at}
use Rattle.tcp_segment.specs.Views.{mss_or, IsFirst, IsAo, HitIs, hit_option, view_ao}
use Rattle.book_segments.specs.declared.fault.OptionFault.{OptionFault}
use Rattle.tcp_segment.specs.declared.ao.Hit.{Hit}
use Rattle.tcp_segment.specs.declared.ao.AoOption.{AoOption}

-- the maximum segment size among options without their places
abbrev pub mss_plain : List Plain → Option ℕ
mss_plain [] = None
mss_plain (o ∷ os) = mss_or o (mss_plain os)

pub mss_same : (os : List Opt) → mss_among os ≡ mss_plain (plains os)
mss_same [] = refl
mss_same (o ∷ os) = ap (λ (rest : Option ℕ). mss_or (record { kind = o.kind; body = o.body }) rest) (mss_same os)

pick_some : (b : Bool) (v x : ℕ) (o : Option ℕ) → Some x ≡ cond b (Some v) None → cond b (Some v) o ≡ Some x
pick_some true v x o e = sym e
pick_some false v x o e = absurd (cc)

pick_none : (b : Bool) (v : ℕ) (o : Option ℕ) → None ≡ cond b (Some v) None → cond b (Some v) o ≡ o
pick_none true v o e = absurd (cc)
pick_none false v o e = refl

pub mss_at : (items rest : List Plain) (o : Plain) (x : ℕ) → items ≡ o ∷ rest → Some x ≡ mss_or o None → Some x ≡ mss_plain items
mss_at items rest o x e f = sym (pick_some ((o.kind == 2) && (length o.body == 2)) (slice_index o.body 0 * 256 + slice_index o.body 1) x (mss_plain rest) f) ∙ sym (ap mss_plain e)

pub mss_past : (items rest : List Plain) (o : Plain) → items ≡ o ∷ rest → None ≡ mss_or o None → mss_plain rest ≡ mss_plain items
mss_past items rest o e f = sym (pick_none ((o.kind == 2) && (length o.body == 2)) (slice_index o.body 0 * 256 + slice_index o.body 1) (mss_plain rest) f) ∙ sym (ap mss_plain e)

-- ---- of a kind

kind_is : (b : Bool) (o : Opt) (os : List Opt) → b ≡ true → cond b (o ∷ os) os ≡ o ∷ os
kind_is true o os e = refl
kind_is false o os e = absurd (cc)

kind_not : (b : Bool) (o : Opt) (os : List Opt) → b ≡ false → cond b (o ∷ os) os ≡ os
kind_not true o os e = absurd (cc)
kind_not false o os e = refl

pub kind_here : (kind : ℕ) (o : Opt) (os : List Opt) → o.kind ≡ kind → of_kind kind (o ∷ os) ≡ o ∷ of_kind kind os
kind_here kind o os e = kind_is (o.kind == kind) o (of_kind kind os) (eq-eqb o.kind kind e)

pub kind_other : (kind : ℕ) (o : Opt) (os : List Opt) → (o.kind ≡ kind → ⊥) → of_kind kind (o ∷ os) ≡ of_kind kind os
kind_other kind o os e = kind_not (o.kind == kind) o (of_kind kind os) (ne_eqb o.kind kind e)

pub none_at_end : (kind p : ℕ) (bs : List ℕ) → 1 < kind → Ending ≡ option_front bs → of_kind kind (listed (options_at p bs)) ≡ []
none_at_end kind p bs k e =
    let o : Opt = record { kind = 0; body = []; place = p } in
    ap (λ (x : Options). of_kind kind (listed x)) (ending_at p bs e) ∙ kind_other kind o [] (λ z. omega arith)

pub none_in_none : (kind p : ℕ) (bs : List ℕ) → Ends ≡ option_front bs → of_kind kind (listed (options_at p bs)) ≡ []
none_in_none kind p bs e = ap (λ (x : Options). of_kind kind (listed x)) (nothing_at p bs e)

pub kind_first : (kind place p : ℕ) (area bs : List ℕ) (h : Hit) (size : ℕ) → of_kind kind (listed (options_at p bs)) ≡ of_kind kind (listed (options_at place area)) → AreListed (options_at p bs) → p + length bs ≤ place + length area
    → Leading h.option.kind h.option.body.now size h.behind.now ≡ option_front bs → h.option.kind ≡ kind → h.place ≡ p → h.behind_place ≡ p + size → IsFirst kind place area h
kind_first kind place p area bs h size same l room e k hp hb =
    let g = goes p bs h.option.kind h.option.body.now size h.behind.now e l in
    let d = leads bs h.option.kind h.option.body.now size h.behind.now e in
    let at : options_at (p + size) h.behind.now ≡ options_at h.behind_place h.behind.now = ap (λ (q : ℕ). options_at q h.behind.now) (sym hb) in
    let o : Opt = record { kind = h.option.kind; body = h.option.body.now; place = p } in
    record {
      options = sym same ∙ ap (of_kind kind) g.list ∙ kind_here kind o _ k ∙ ap (λ (x : Options). o ∷ of_kind kind (listed x)) at ∙ ap (λ (q : ℕ). record { kind = h.option.kind; body = h.option.body.now; place = q } ∷ of_kind kind (listed (options_at h.behind_place h.behind.now))) (sym hp);
      behind = subst AreListed at g.behind;
      room = omega (arith, d.sizes);
      ao = λ z. d.ao (k ∙ z);
    }

pub kind_passed : (kind p : ℕ) (bs : List ℕ) (k : ℕ) (body : List ℕ) (size : ℕ) (rest : List ℕ) → Leading k body size rest ≡ option_front bs → AreListed (options_at p bs) → (k ≡ kind → ⊥)
    → of_kind kind (listed (options_at (p + size) rest)) ≡ of_kind kind (listed (options_at p bs))
kind_passed kind p bs k body size rest e l n =
    let g = goes p bs k body size rest e l in
    sym (ap (of_kind kind) g.list ∙ kind_other kind (record { kind = k; body = body; place = p }) _ n)

-- ---- what was found of TCP-AO

pub listed_of : (bs : List ℕ) → AreListed (options_of bs) → AreListed (options_at 0 bs)
unfolding options_of
listed_of bs h = h

pub absent_is : (area : List ℕ) → HitIs 29 0 area None → book.Absent ≡ find_ao area
unfolding find_ao options_of
absent_is area e = sym (ap (λ (l : List Opt). found l (of_kind 19 (listed (options_at 0 area)))) e)

hit_some : (kind place : ℕ) (area : List ℕ) (o : Option Hit) → HitIs kind place area o → is_some o ≡ true → (h : Hit) × IsFirst kind place area h
hit_some kind place area None i e = absurd (cc)
hit_some kind place area (Some h) i e = (h, i)

hit_none : (kind place : ℕ) (area : List ℕ) (o : Option Hit) → HitIs kind place area o → is_some o ≡ false → of_kind kind (listed (options_at place area)) ≡ []
hit_none kind place area None i e = i
hit_none kind place area (Some h) i e = absurd (cc)

pub two_is : (area : List ℕ) (h : Hit) (o : Option Hit) → IsFirst 29 0 area h → HitIs 29 h.behind_place h.behind.now o → is_some o ≡ true → book.Two ≡ find_ao area
unfolding find_ao options_of
two_is area h o i j e =
    let s = hit_some 29 h.behind_place h.behind.now o j e in
    let md5 : List Opt = of_kind 19 (listed (options_at 0 area)) in
    sym (ap (λ (l : List Opt). found l md5) (i.options ∙ ap (λ (l : List Opt). hit_option h ∷ l) s.1.options))

pub md5_is : (area : List ℕ) (h : Hit) (o p : Option Hit) → IsFirst 29 0 area h → HitIs 29 h.behind_place h.behind.now o → is_some o ≡ false → HitIs 19 0 area p → is_some p ≡ true → book.WithMd5 ≡ find_ao area
unfolding find_ao options_of
md5_is area h o p i j e k f =
    let n = hit_none 29 h.behind_place h.behind.now o j e in
    let s = hit_some 19 0 area p k f in
    let md5 : List Opt = of_kind 19 (listed (options_at 0 area)) in
    sym (ap (λ (l : List Opt). found l md5) (i.options ∙ ap (λ (l : List Opt). hit_option h ∷ l) n) ∙ ap (λ (l : List Opt). found (hit_option h ∷ []) l) s.1.options)

pub one_is : (area : List ℕ) (h : Hit) (a : AoOption) (o p : Option Hit) → IsFirst 29 0 area h → HitIs 29 h.behind_place h.behind.now o → is_some o ≡ false → HitIs 19 0 area p → is_some p ≡ false → IsAo h a → book.One (view_ao a) ≡ find_ao area
unfolding find_ao options_of
one_is area h a o p i j e k f is =
    let n = hit_none 29 h.behind_place h.behind.now o j e in
    let s = hit_none 19 0 area p k f in
    let md5 : List Opt = of_kind 19 (listed (options_at 0 area)) in
    ap (λ (x : Ao). book.One x) is ∙ sym (ap (λ (l : List Opt). found l md5) (i.options ∙ ap (λ (l : List Opt). hit_option h ∷ l) n) ∙ ap (λ (l : List Opt). found (hit_option h ∷ []) l) s)

pub not_both : (bs : List ℕ) (list : List Opt) (f : OptionFault) → options_of bs ≡ Listed list → options_of bs ≡ Faulty f → ⊥
not_both bs list f a e = absurd (cc)
