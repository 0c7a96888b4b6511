-- What is drawn, kept and counted of a session after one segment more.
use Rattle.std.proofs.Common.{◌≡◌, ℕ, ◌+◌, Bool, true, false, List, [], ◌∷◌, ◌++◌, length, min, refl, ap, ◌∙◌, arith, cond, if◌then◌else◌}
use Rattle.std.specs.List.{filter, flat_map}
use Rattle.std.proofs.lemmas.List.{append-nil, length-append}
use Rattle.std.proofs.lemmas.List.Elements.{filter-append}
use Rattle.book_draw.specs.declared.session_rung.SessionEnds.{SessionEnds}
use Rattle.book_draw.specs.declared.session_rung.SessionRung.{SessionRung}
use Rattle.book_draw.specs.declared.span.DrawnTime.{DrawnTime}
use Rattle.book_draw.specs.declared.span.LeftOut.{LeftOut}
use Rattle.book_draw.specs.Folds.{counted_on}
use Rattle.book_draw.specs.SessionLadders.{session_ladder, session_rung_text}
use Rattle.book_draw.specs.SessionRungs.{rungs_of_session}
use Rattle.book_draw.specs.Times.{rungs_counted, is_early, is_late, is_timely, left_out, rungs_within}
use Rattle.page_draw_svg.specs.declared.form.LadderForm.{LadderForm}
use Rattle.page_draw_svg.specs.declared.form.LadderForm.TheVariants.{Text, Picture}
use Rattle.scope_ladder.specs.declared.drawer.Drawer.{Drawer}
use Rattle.scope_ladder.specs.declared.search.Shown.{Shown}
use Rattle.scope_ladder.specs.declared.search.Shown.TheVariants.{Nothing, First, Later}
use Rattle.scope_ladder.specs.Searches.{Seeks, flow_as, kept_as, kept_in, left_and, left_with, shown_as, shown_rungs, shown_text, timely_text}

-- ---- the text of one segment

timely_by : (b : Bool) (e : SessionEnds) (r : SessionRung) → flat_map (session_rung_text e) (cond b (r ∷ []) []) ≡ (if b then session_rung_text e r else [])
timely_by true e r = append-nil (session_rung_text e r)
timely_by false e r = refl

pub timely_is : (t : DrawnTime) (e : SessionEnds) (r : SessionRung) → flat_map (session_rung_text e) (rungs_within t (r ∷ [])) ≡ timely_text t e r
timely_is t e r = timely_by (is_timely t r) e r

-- ---- how many are left out

one_by : (b : Bool) (xs : List SessionRung) (r : SessionRung) → min (length (xs ++ cond b (r ∷ []) [])) 18446744073709551615 ≡ (if b then counted_on (min (length xs) 18446744073709551615) else min (length xs) 18446744073709551615)
one_by true xs r =
    let size : length (xs ++ r ∷ []) ≡ length xs + 1 = length-append xs (r ∷ []) in
    let sum : min (length (xs ++ r ∷ [])) 18446744073709551615 ≡ min (min (length xs) 18446744073709551615 + 1) 18446744073709551615 = omega arith in
    sum
one_by false xs r = ap (λ (ys : List SessionRung). min (length ys) 18446744073709551615) (append-nil xs)

counted_last : (test : SessionRung → Bool) (rs : List SessionRung) (r : SessionRung) → rungs_counted test (rs ++ r ∷ []) ≡ (if test r then counted_on (rungs_counted test rs) else rungs_counted test rs)
counted_last test rs r = ap (λ (ys : List SessionRung). min (length ys) 18446744073709551615) (filter-append test rs (r ∷ [])) ∙ one_by (test r) (filter test rs) r

left_same : (a b m n : ℕ) → a ≡ b → m ≡ n → ◌≡◌ {A = LeftOut} (record { before = a; after = m }) (record { before = b; after = n })
left_same a b m n e f = rw (e, f) refl

left_last : (t : DrawnTime) (rs : List SessionRung) (r : SessionRung) → left_out t (rs ++ r ∷ []) ≡ left_and t (left_out t rs) r
left_last t rs r = left_same _ _ _ _ (counted_last (is_early t) rs r) (counted_last (is_late t) rs r)

pub left_shown : (t : DrawnTime) (shown : Shown) (rs : List SessionRung) (r : SessionRung) → left_out t (rs ++ shown_rungs shown r) ≡ left_with t shown (left_out t rs) r
left_shown t Nothing rs r = ap (left_out t) (append-nil rs)
left_shown t (First e) rs r = left_last t rs r
left_shown t (Later e) rs r = left_last t rs r

-- ---- what is drawn and kept in a form

pub kept_more : (f : LadderForm) (t : DrawnTime) (n : ℕ) (rungs : List SessionRung) (r : SessionRung) (shown : Shown) → rungs_of_session n (rungs ++ r ∷ []) ≡ rungs_of_session n rungs ++ shown_rungs shown r
    → kept_in f t n (rungs ++ r ∷ []) ≡ kept_in f t n rungs ++ kept_as f t shown r
kept_more Text t n rungs r shown is = refl
kept_more Picture t n rungs r shown is = ap (rungs_within t) is ∙ filter-append (is_timely t) (rungs_of_session n rungs) (shown_rungs shown r)

pub flow_more : (f : LadderForm) (t : DrawnTime) (n : ℕ) (rungs : List SessionRung) (r : SessionRung) (shown : Shown) → session_ladder t n (rungs ++ r ∷ []) ≡ session_ladder t n rungs ++ shown_text t shown r
    → flow_as f t n (rungs ++ r ∷ []) ≡ flow_as f t n rungs ++ shown_as f t shown r
flow_more Text t n rungs r shown is = is
flow_more Picture t n rungs r shown is = refl

-- a segment was placed: this is shown of it, and was drawn and counted
pub record Places (before now : Drawer) (r : SessionRung) (shown : Shown) : Type 0 where
  pub empty : before.text.items ≡ []
  pub form : now.form ≡ before.form
  pub within : now.within ≡ before.within
  pub number : now.search.number ≡ before.search.number
  pub seeks : (rs : List SessionRung) → Seeks before.search rs → Seeks now.search (rs ++ r ∷ [])
  pub text : (t : DrawnTime) (rs : List SessionRung) → Seeks before.search rs → session_ladder t before.search.number (rs ++ r ∷ []) ≡ session_ladder t before.search.number rs ++ shown_text t shown r
  pub rungs : (rs : List SessionRung) → Seeks before.search rs → rungs_of_session before.search.number (rs ++ r ∷ []) ≡ rungs_of_session before.search.number rs ++ shown_rungs shown r
  pub left : now.left ≡ left_with before.within shown before.left r
  pub pushed : now.text.items ≡ before.text.items ++ shown_as before.form before.within shown r
