-- The ladder of a session, one segment more.
use Rattle.std.proofs.Common.{◌≡◌, ℕ, suc, ◌+◌, ◌==◌, Bool, true, false, List, [], ◌∷◌, ◌++◌, Some, None, refl, sym, ap, ◌∙◌, append_assoc, cond, if◌then◌else◌}
use Rattle.std.specs.Prelude.{is_some}
use Rattle.std.specs.List.{filter, flat_map}
use Rattle.std.specs.Option.{option_or}
use Rattle.std.proofs.lemmas.Grind.{flat_map-append}
use Rattle.std.proofs.lemmas.List.{append-nil}
use Rattle.std.proofs.lemmas.List.Elements.{filter-append}
use Rattle.book_draw.specs.declared.session_rung.SessionEnds.{SessionEnds}
use Rattle.book_draw.specs.declared.session_rung.SessionRung.{SessionRung}
use Rattle.book_draw.specs.declared.span.DrawnTime.{DrawnTime}
use Rattle.book_draw.specs.SessionRungs.{and_session, ends_of, is_between, same_ends, session_at, sessions_after, sessions_drawn}
use Rattle.book_draw.specs.SessionLadders.{ends_text, ladder_between, session_rung_text}
use Rattle.book_draw.specs.Times.{is_timely, rungs_within}
use Rattle.book_draw.proofs.Places.{like_place, number_now, place, place_of, session_more}
use Rattle.book_draw.proofs.Table.{Placed, placed_last, placed_more, some_number}

after_last : (known : List SessionEnds) (rs : List SessionRung) (r : SessionRung) → sessions_after known (rs ++ r ∷ []) ≡ and_session (sessions_after known rs) r
after_last known [] r = refl
after_last known (x ∷ rs) r = after_last (and_session known x) rs r

pub drawn_last : (rs : List SessionRung) (r : SessionRung) → sessions_drawn (rs ++ r ∷ []) ≡ and_session (sessions_drawn rs) r
drawn_last rs r = after_last [] rs r

after_placed : (known : List SessionEnds) (xs rs : List SessionRung) → Placed known xs → Placed (sessions_after known rs) (xs ++ rs)
after_placed known xs [] all = rw (append-nil xs) all
after_placed known xs (r ∷ rs) all =
    let here = some_number (place (ends_of r) (and_session known r)) (suc (place_of r known)) (number_now known r) in
    let more = after_placed (and_session known r) (xs ++ r ∷ []) rs (placed_last (and_session known r) r xs (placed_more known r xs all) here) in
    rw (append_assoc xs (r ∷ []) rs) at more

-- whether the session of a number is among those of one segment more
pub at_last : (n : ℕ) (rs : List SessionRung) (r : SessionRung) → session_at n (sessions_drawn (rs ++ r ∷ [])) ≡ option_or (session_at n (sessions_drawn rs)) (if suc (place_of r (sessions_drawn rs)) == n then Some (ends_of r) else None)
at_last n rs r = ap (session_at n) (drawn_last rs r) ∙ session_more (sessions_drawn rs) r n

none_by : (b : Bool) (known : List SessionEnds) (x r : SessionRung) (others : List SessionRung) → same_ends (ends_of x) (ends_of r) ≡ b → place (ends_of r) known ≡ None → is_some (place (ends_of x) known) ≡ true → others ≡ []
    → cond b (x ∷ others) others ≡ []
none_by true known x r others same none has is = let bad : is_some (place (ends_of x) known) ≡ false = ap is_some (like_place (ends_of x) (ends_of r) same known ∙ none) in absurd (cc)
none_by false known x r others same none has is = is

none_between : (known : List SessionEnds) (r : SessionRung) (rs : List SessionRung) → place (ends_of r) known ≡ None → Placed known rs → filter (is_between (ends_of r)) rs ≡ []
none_between known r [] none all = refl
none_between known r (x ∷ rs) none all = none_by (same_ends (ends_of x) (ends_of r)) known x r (filter (is_between (ends_of r)) rs) refl none all.0 (none_between known r rs none all.1)

filter_step : {X : Type 0} (b : Bool) (x : X) (more others last : List X) → more ≡ others ++ last → cond b (x ∷ more) more ≡ cond b (x ∷ others) others ++ last
filter_step true x more others last is = ap (λ ys. x ∷ ys) is
filter_step false x more others last is = is

-- the segments between these ends
pub filter_last : (e : SessionEnds) (rs : List SessionRung) (r : SessionRung) → filter (is_between e) (rs ++ r ∷ []) ≡ filter (is_between e) rs ++ (if is_between e r then r ∷ [] else [])
filter_last e [] r = refl
filter_last e (x ∷ rs) r = filter_step (is_between e x) x (filter (is_between e) (rs ++ r ∷ [])) (filter (is_between e) rs) _ (filter_last e rs r)

-- the text of a segment between these ends, where it was seen within a time
abbrev pub timely_text : DrawnTime → SessionEnds → SessionRung → List ℕ
timely_text t e r = flat_map (session_rung_text e) (rungs_within t (r ∷ []))

one_text : (b : Bool) (t : DrawnTime) (e : SessionEnds) (r : SessionRung) → flat_map (session_rung_text e) (rungs_within t (if b then r ∷ [] else [])) ≡ (if b then timely_text t e r else [])
one_text true t e r = refl
one_text false t e r = refl

-- the ladder between these ends
pub text_last : (t : DrawnTime) (e : SessionEnds) (rs : List SessionRung) (r : SessionRung) → ladder_between t (Some e) (rs ++ r ∷ []) ≡ ladder_between t (Some e) rs ++ (if is_between e r then timely_text t e r else [])
text_last t e rs r =
    let one : List SessionRung = if is_between e r then r ∷ [] else [] in
    let front = rungs_within t (filter (is_between e) rs) in
    ap (λ xs. ends_text e ++ flat_map (session_rung_text e) (rungs_within t xs)) (filter_last e rs r)
    ∙ (ap (λ xs. ends_text e ++ flat_map (session_rung_text e) xs) (filter-append (is_timely t) (filter (is_between e) rs) one)
    ∙ (ap (λ (text : List ℕ). ends_text e ++ text) (flat_map-append (session_rung_text e) front (rungs_within t one) ∙ ap (λ (text : List ℕ). flat_map (session_rung_text e) front ++ text) (one_text (is_between e r) t e r))
    ∙ sym (append_assoc (ends_text e) (flat_map (session_rung_text e) front) (if is_between e r then timely_text t e r else []))))

-- the first segment of a session
pub rungs_first : (rs : List SessionRung) (r : SessionRung) → place (ends_of r) (sessions_drawn rs) ≡ None → is_between (ends_of r) r ≡ true → filter (is_between (ends_of r)) (rs ++ r ∷ []) ≡ r ∷ []
rungs_first rs r none alike =
    filter_last (ends_of r) rs r
    ∙ (ap (λ xs. xs ++ (if is_between (ends_of r) r then r ∷ [] else [])) (none_between (sessions_drawn rs) r rs none (after_placed [] [] rs tt))
    ∙ ap (λ (b : Bool). if b then r ∷ [] else []) alike)

pub text_first : (t : DrawnTime) (rs : List SessionRung) (r : SessionRung) → place (ends_of r) (sessions_drawn rs) ≡ None → is_between (ends_of r) r ≡ true → ladder_between t (Some (ends_of r)) (rs ++ r ∷ []) ≡ ends_text (ends_of r) ++ timely_text t (ends_of r) r
text_first t rs r none alike =
    text_last t (ends_of r) rs r
    ∙ (ap (λ xs. (ends_text (ends_of r) ++ flat_map (session_rung_text (ends_of r)) (rungs_within t xs)) ++ (if is_between (ends_of r) r then timely_text t (ends_of r) r else [])) (none_between (sessions_drawn rs) r rs none (after_placed [] [] rs tt))
    ∙ (ap (λ xs. xs ++ (if is_between (ends_of r) r then timely_text t (ends_of r) r else [])) (append-nil (ends_text (ends_of r)))
    ∙ ap (λ (b : Bool). ends_text (ends_of r) ++ (if b then timely_text t (ends_of r) r else [])) alike))
