-- What the search for a session knows after one segment more.
use Rattle.std.proofs.Common.{◌≡◌, ℕ, suc, ◌+◌, ◌==◌, Bool, true, false, List, [], ◌∷◌, ◌++◌, length, Option, Some, None, refl, sym, ap, ◌∙◌, arith, if◌then◌else◌}
use Rattle.std.specs.Prelude.{is_some}
use Rattle.std.specs.List.{filter, list_any}
use Rattle.std.specs.Option.{option_or, unwrap_or}
use Rattle.std.proofs.lemmas.List.{append-nil, length-append}
use Rattle.book_draw.specs.declared.session_rung.SessionEnds.{SessionEnds}
use Rattle.book_draw.specs.declared.session_rung.SessionRung.{SessionRung}
use Rattle.book_draw.specs.declared.span.DrawnTime.{DrawnTime}
use Rattle.book_draw.specs.SessionRungs.{ends_of, is_between, rungs_between, rungs_of_session, session_at, sessions_drawn}
use Rattle.book_draw.specs.SessionLadders.{ends_text, ladder_between, session_ladder}
use Rattle.book_draw.proofs.Places.{any_place, ends_alike, place, place_of}
use Rattle.book_draw.proofs.Steps.{at_last, drawn_last, filter_last, rungs_first, text_first, text_last}
use Rattle.scope_ladder.specs.Searches.{SeeksBy, timely_text}
use Rattle.scope_ladder.proofs.Within.{timely_is}

-- the session isn't found behind these segments
abbrev Unfound : ℕ → List SessionRung → Type 0
Unfound n rs = session_at n (sessions_drawn rs) ≡ None

no_text : (t : DrawnTime) (n : ℕ) (rs : List SessionRung) → Unfound n rs → session_ladder t n rs ≡ []
no_text t n rs none = ap (λ o. ladder_between t o rs) none

no_more : (t : DrawnTime) (n : ℕ) (rs : List SessionRung) (r : SessionRung) → Unfound n rs → Unfound n (rs ++ r ∷ []) → session_ladder t n (rs ++ r ∷ []) ≡ session_ladder t n rs ++ []
no_more t n rs r none still = no_text t n (rs ++ r ∷ []) still ∙ sym (append-nil (session_ladder t n rs) ∙ no_text t n rs none)

no_rungs : (n : ℕ) (rs : List SessionRung) → Unfound n rs → rungs_of_session n rs ≡ []
no_rungs n rs none = ap (λ o. rungs_between o rs) none

no_more_rungs : (n : ℕ) (rs : List SessionRung) (r : SessionRung) → Unfound n rs → Unfound n (rs ++ r ∷ []) → rungs_of_session n (rs ++ r ∷ []) ≡ rungs_of_session n rs ++ []
no_more_rungs n rs r none still = no_rungs n (rs ++ r ∷ []) still ∙ sym (append-nil (rungs_of_session n rs) ∙ no_rungs n rs none)

no_place : (p : Option ℕ) → is_some p ≡ false → p ≡ None
no_place None none = refl
no_place (Some m) none = absurd (cc)

module _ (n : ℕ) (known : List SessionEnds) (rs : List SessionRung) (r : SessionRung) (seeks : SeeksBy None n known rs) where
  -- the session of the segment is known, and isn't the one
  pub known_seeks : list_any (λ e. is_between e r) known ≡ true → SeeksBy None n known (rs ++ r ∷ [])
  known_seeks any =
      let same : sessions_drawn (rs ++ r ∷ []) ≡ sessions_drawn rs = drawn_last rs r ∙ ap (λ (b : Bool). if b then sessions_drawn rs else sessions_drawn rs ++ ends_of r ∷ []) (ap (λ es. list_any (λ e. is_between e r) es) (sym seeks.1) ∙ any) in
      (ap (session_at n) same ∙ seeks.0, seeks.1 ∙ sym same)

  pub known_text : list_any (λ e. is_between e r) known ≡ true → (t : DrawnTime) → session_ladder t n (rs ++ r ∷ []) ≡ session_ladder t n rs ++ []
  known_text any t = no_more t n rs r seeks.0 (known_seeks any).0

  pub known_rungs : list_any (λ e. is_between e r) known ≡ true → rungs_of_session n (rs ++ r ∷ []) ≡ rungs_of_session n rs ++ []
  known_rungs any = no_more_rungs n rs r seeks.0 (known_seeks any).0

  module _ (now : List SessionEnds) (any : list_any (λ e. is_between e r) known ≡ false) (pushed : now ≡ known ++ ends_of r ∷ []) where
    none : place (ends_of r) (sessions_drawn rs) ≡ None
    none = no_place _ (any_place (ends_of r) (sessions_drawn rs) ∙ (ap (λ es. list_any (λ e. is_between e r) es) (sym seeks.1) ∙ any))

    drawn : now ≡ sessions_drawn (rs ++ r ∷ [])
    drawn = pushed ∙ (ap (λ es. es ++ ends_of r ∷ []) seeks.1
        ∙ sym (drawn_last rs r ∙ ap (λ (b : Bool). if b then sessions_drawn rs else sessions_drawn rs ++ ends_of r ∷ []) (ap (λ es. list_any (λ e. is_between e r) es) (sym seeks.1) ∙ any)))

    number : length now ≡ suc (place_of r (sessions_drawn rs))
    number =
        let size : length (known ++ ends_of r ∷ []) ≡ length known + 1 = length-append known (ends_of r ∷ []) in
        let at : place_of r (sessions_drawn rs) ≡ length known = ap (λ (o : Option ℕ). unwrap_or o (length (sessions_drawn rs))) none ∙ ap length (sym seeks.1) in
        let all : length now ≡ length (known ++ ends_of r ∷ []) = ap length pushed in
        omega arith

    at_now : session_at n (sessions_drawn (rs ++ r ∷ [])) ≡ (if length now == n then Some (ends_of r) else None)
    at_now =
        at_last n rs r
        ∙ (ap (λ o. option_or o (if suc (place_of r (sessions_drawn rs)) == n then Some (ends_of r) else None)) seeks.0
        ∙ ap (λ (m : ℕ). if m == n then Some (ends_of r) else None) (sym number))

    -- it is the one
    pub first_seeks : (length now == n) ≡ true → SeeksBy (Some (ends_of r)) n now (rs ++ r ∷ [])
    first_seeks is = at_now ∙ ap (λ (b : Bool). if b then Some (ends_of r) else None) is

    pub first_text : (length now == n) ≡ true → (t : DrawnTime) → session_ladder t n (rs ++ r ∷ []) ≡ session_ladder t n rs ++ (ends_text (ends_of r) ++ timely_text t (ends_of r) r)
    first_text is t =
        ap (λ o. ladder_between t o (rs ++ r ∷ [])) (first_seeks is)
        ∙ (text_first t rs r none (ends_alike (ends_of r))
        ∙ (ap (λ (xs : List ℕ). ends_text (ends_of r) ++ xs) (timely_is t (ends_of r) r)
        ∙ ap (λ (xs : List ℕ). xs ++ (ends_text (ends_of r) ++ timely_text t (ends_of r) r)) (sym (no_text t n rs seeks.0))))

    pub first_rungs : (length now == n) ≡ true → rungs_of_session n (rs ++ r ∷ []) ≡ rungs_of_session n rs ++ r ∷ []
    first_rungs is =
        ap (λ o. rungs_between o (rs ++ r ∷ [])) (first_seeks is)
        ∙ (rungs_first rs r none (ends_alike (ends_of r))
        ∙ ap (λ (xs : List SessionRung). xs ++ r ∷ []) (sym (no_rungs n rs seeks.0)))

    -- it is another one
    pub other_seeks : (length now == n) ≡ false → SeeksBy None n now (rs ++ r ∷ [])
    other_seeks is = (at_now ∙ ap (λ (b : Bool). if b then Some (ends_of r) else None) is, drawn)

    pub other_text : (length now == n) ≡ false → (t : DrawnTime) → session_ladder t n (rs ++ r ∷ []) ≡ session_ladder t n rs ++ []
    other_text is t = no_more t n rs r seeks.0 (other_seeks is).0

    pub other_rungs : (length now == n) ≡ false → rungs_of_session n (rs ++ r ∷ []) ≡ rungs_of_session n rs ++ []
    other_rungs is = no_more_rungs n rs r seeks.0 (other_seeks is).0

-- ---- it was found

module _ (n : ℕ) (known : List SessionEnds) (rs : List SessionRung) (r : SessionRung) (e : SessionEnds) (seeks : SeeksBy (Some e) n known rs) where
  pub later_seeks : SeeksBy (Some e) n known (rs ++ r ∷ [])
  later_seeks = at_last n rs r ∙ ap (λ o. option_or o (if suc (place_of r (sessions_drawn rs)) == n then Some (ends_of r) else None)) seeks

  pub later_text : (b : Bool) → is_between e r ≡ b → (t : DrawnTime) → session_ladder t n (rs ++ r ∷ []) ≡ session_ladder t n rs ++ (if b then timely_text t e r else [])
  later_text b is t =
      ap (λ o. ladder_between t o (rs ++ r ∷ [])) later_seeks
      ∙ (text_last t e rs r
      ∙ (ap (λ (text : List ℕ). ladder_between t (Some e) rs ++ (if is_between e r then text else [])) (timely_is t e r)
      ∙ (ap (λ (c : Bool). ladder_between t (Some e) rs ++ (if c then timely_text t e r else [])) is
      ∙ ap (λ o. ladder_between t o rs ++ (if b then timely_text t e r else [])) (sym seeks))))

  pub later_rungs : (b : Bool) → is_between e r ≡ b → rungs_of_session n (rs ++ r ∷ []) ≡ rungs_of_session n rs ++ (if b then r ∷ [] else [])
  later_rungs b is =
      ap (λ o. rungs_between o (rs ++ r ∷ [])) later_seeks
      ∙ (filter_last e rs r
      ∙ (ap (λ (c : Bool). filter (is_between e) rs ++ (if c then r ∷ [] else [])) is
      ∙ ap (λ o. rungs_between o rs ++ (if b then r ∷ [] else [])) (sym seeks)))

-- ---- whether it was found

pub as_none : (found : Option SessionEnds) (n : ℕ) (known : List SessionEnds) (rs : List SessionRung) → found ≡ None → SeeksBy found n known rs → SeeksBy None n known rs
as_none None n known rs is seeks = seeks
as_none (Some e) n known rs is seeks = absurd (cc)

pub from_none : (found : Option SessionEnds) (n : ℕ) (known : List SessionEnds) (rs : List SessionRung) → found ≡ None → SeeksBy None n known rs → SeeksBy found n known rs
from_none None n known rs is seeks = seeks
from_none (Some e) n known rs is seeks = absurd (cc)

pub as_some : (found : Option SessionEnds) (e : SessionEnds) (n : ℕ) (known : List SessionEnds) (rs : List SessionRung) → found ≡ Some e → SeeksBy found n known rs → SeeksBy (Some e) n known rs
as_some found e n known rs is seeks = rw is at seeks

pub from_some : (found : Option SessionEnds) (e : SessionEnds) (n : ℕ) (known : List SessionEnds) (rs : List SessionRung) → found ≡ Some e → SeeksBy (Some e) n known rs → SeeksBy found n known rs
from_some found e n known rs is seeks = rw is seeks
