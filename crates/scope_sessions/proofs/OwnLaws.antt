-- What is told of a session by its own uses is what is told of it by all.
use Rattle.std.proofs.Common.{◌≡◌, ◌≢◌, ℕ, ◌+◌, ◌<◌, ◌&&◌, ◌||◌, ◌==◌, Bool, true, false, not, List, [], ◌∷◌, ◌++◌, length, get_or, drop, Option, Some, None, Result, Ok, Err, OnOk, refl, sym, ap, ◌∙◌, append_assoc, arith, zero, suc, if◌then◌else◌}
use Rattle.std.specs.Prelude.{cond, filter, map, nat_lt}
use Rattle.std.specs.List.{find, flat_map, list_any, AllByRecursion}
use Rattle.book_sessions.specs.declared.uses.KeyUse.{KeyUse}
use Rattle.book_sessions.specs.SessionTexts.{heading_line, is_of_session, lines_of_session, opens_session, use_line, use_line_in}
use Rattle.page_sessions_json.specs.SessionJson.{heading_json, session_json, use_json}

-- ---- by those that pass a test

module _ (P : KeyUse → Bool) where
  find_own : (us : List KeyUse) → find P (filter P us) ≡ find P us
  find_own [] = refl
  find_own (u ∷ us) = at (P u) refl (find_own us)
    where
      at : (v : Bool) → P u ≡ v → find P (filter P us) ≡ find P us → find P (cond v (u ∷ filter P us) (filter P us)) ≡ cond v (Some u) (find P us)
      at true e h = ap (λ (w : Bool). cond w (Some u) (find P (filter P us))) e
      at false e h = h

  own_twice : (us : List KeyUse) → filter P (filter P us) ≡ filter P us
  own_twice [] = refl
  own_twice (u ∷ us) = at (P u) refl (own_twice us)
    where
      at : (v : Bool) → P u ≡ v → filter P (filter P us) ≡ filter P us → filter P (cond v (u ∷ filter P us) (filter P us)) ≡ cond v (u ∷ filter P us) (filter P us)
      at true e h = ap (λ (w : Bool). cond w (u ∷ filter P (filter P us)) (filter P (filter P us))) e ∙ ap (λ (l : List KeyUse). u ∷ l) h
      at false e h = h

  any_own : (Q : KeyUse → Bool) (us : List KeyUse) → AllByRecursion (λ (u : KeyUse). P u ≡ false → Q u ≡ false) us → list_any Q (filter P us) ≡ list_any Q us
  any_own Q [] f = refl
  any_own Q (u ∷ us) f = at (P u) refl (any_own Q us f.1)
    where
      at : (v : Bool) → P u ≡ v → list_any Q (filter P us) ≡ list_any Q us → list_any Q (cond v (u ∷ filter P us) (filter P us)) ≡ list_any Q (u ∷ us)
      at true e h = rw h refl
      at false e h = rw (f.0 e) h

  flat_own : (f : KeyUse → List ℕ) (us : List KeyUse) → ((u : KeyUse) → P u ≡ false → f u ≡ []) → flat_map f (filter P us) ≡ flat_map f us
  flat_own f [] g = refl
  flat_own f (u ∷ us) g = at (P u) refl (flat_own f us g)
    where
      at : (v : Bool) → P u ≡ v → flat_map f (filter P us) ≡ flat_map f us → flat_map f (cond v (u ∷ filter P us) (filter P us)) ≡ flat_map f (u ∷ us)
      at true e h = ap (λ (l : List ℕ). f u ++ l) h
      at false e h = rw (g u e) h

all_of : (Q : KeyUse → Type 0) (us : List KeyUse) → ((u : KeyUse) → Q u) → AllByRecursion Q us
all_of Q [] f = tt
all_of Q (u ∷ us) f = (f u, all_of Q us f)

-- ---- the lines of a session

pub own_lines : (n : ℕ) (uses : List KeyUse) → lines_of_session (filter (is_of_session n) uses) n ≡ lines_of_session uses n
own_lines n uses =
    rw (
      any_own (is_of_session n) (opens_session n) uses (all_of _ uses (λ u e. rw e refl)),
      find_own (is_of_session n) uses,
      flat_own (is_of_session n) (use_line_in n) uses (λ u e. rw e refl),
    ) refl

own_heading : (n : ℕ) (uses : List KeyUse) (o : Option KeyUse) → heading_json (filter (is_of_session n) uses) n o ≡ heading_json uses n o
unfolding heading_json
own_heading n uses None = refl
own_heading n uses (Some u) =
    rw (any_own (is_of_session n) (opens_session n) uses (all_of _ uses (λ w e. rw e refl)), own_twice (is_of_session n) uses) refl

-- the object of a session
pub own_json : (n : ℕ) (uses : List KeyUse) → session_json (filter (is_of_session n) uses) n ≡ session_json uses n
own_json n uses =
    ap (heading_json (filter (is_of_session n) uses) n) (find_own (is_of_session n) uses) ∙ own_heading n uses (find (is_of_session n) uses)

-- the lines and the object of a session, by what was put behind a text
pub lines_on : {E : Type 0} (result : Result (Unit {0}) E) (new out : List ℕ) (own uses : List KeyUse) (n : ℕ) → own ≡ filter (is_of_session n) uses → OnOk result (new ≡ out ++ lines_of_session own n)
    → OnOk result (new ≡ out ++ lines_of_session uses n)
lines_on (Ok done) new out own uses n is h = h ∙ ap (λ (l : List ℕ). out ++ l) (ap (λ (us : List KeyUse). lines_of_session us n) is ∙ own_lines n uses)
lines_on (Err e) new out own uses n is h = tt

pub json_on : {E : Type 0} (result : Result (Unit {0}) E) (new out : List ℕ) (own uses : List KeyUse) (n : ℕ) → own ≡ filter (is_of_session n) uses → OnOk result (new ≡ out ++ session_json own n)
    → OnOk result (new ≡ out ++ session_json uses n)
json_on (Ok done) new out own uses n is h = h ∙ ap (λ (l : List ℕ). out ++ l) (ap (λ (us : List KeyUse). session_json us n) is ∙ own_json n uses)
json_on (Err e) new out own uses n is h = tt
