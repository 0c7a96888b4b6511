-- What a table of sessions says of one segment more.
use Rattle.std.proofs.Common.{◌≡◌, ℕ, ◌+◌, ◌==◌, ◌&&◌, Bool, true, false, List, [], ◌∷◌, Option, Some, None, refl, sym, ap, ◌∙◌, arith, cond, if◌then◌else◌}
use Rattle.std.specs.Prelude.{option_map}
use Rattle.std.specs.List.{find}
use Rattle.std.specs.Option.{option_or}
use Rattle.std.proofs.lemmas.Bool.{and_parts}
use Rattle.book_segments.proofs.SocketLaws.{same_socket_is}
use Rattle.book_segments.specs.Sockets.{same_socket}
use Rattle.book_sessions.specs.declared.uses.KeyUse.{KeyUse}
use Rattle.book_sessions.specs.declared.uses.SeenSegment.{SeenSegment}
use Rattle.book_sessions.specs.declared.uses.Signs.{Signs}
use Rattle.book_sessions.specs.Sessions.{carries_ids_of, goes_as, is_session_of, is_use_of, passed_as, same_outcome, session_of, used_again, with_use}
use Rattle.book_sessions.specs.SessionTexts.{is_of_session}
use Rattle.book_draw.specs.declared.session_rung.SessionEnds.{SessionEnds}
use Rattle.book_draw.specs.declared.session_rung.SessionRung.{SessionRung}
use Rattle.book_draw.specs.SessionRungs.{and_session, counted_in, ends_of_use, same_ends}
use Rattle.book_draw.proofs.Places.{number_more, number_of}

-- the sockets of a segment that was seen
abbrev pub seen_ends : SeenSegment → SessionEnds
seen_ends s = record { left = s.source; right = s.destination }

use_ends : (s : SeenSegment) (u : KeyUse) → is_use_of s u ≡ true → seen_ends s ≡ ends_of_use u
use_ends s u is =
    let halves = and_parts (goes_as s u) (carries_ids_of s u && (same_outcome s.outcome u.outcome && passed_as s u)) is in
    let both = and_parts (same_socket s.source u.source) (same_socket s.destination u.destination) halves.0 in
    ap (λ x. record { left = x; right = s.destination }) (same_socket_is s.source u.source both.0)
    ∙ ap (λ x. record { left = u.source; right = x }) (same_socket_is s.destination u.destination both.1)

module _ {X : Type 0} where
  or_none : (p : Option X) → p ≡ option_or p None
  or_none None = refl
  or_none (Some x) = refl

  first_or : (b : Bool) (x : X) → (if b then Some x else None) ≡ option_or None (if b then Some x else None)
  first_or b x = refl

  again_or : (b : Bool) (x y : X) (rest : Option X) → (if b then Some x else rest) ≡ option_or (if b then Some x else rest) (if b then Some y else None)
  again_or true x y rest = refl
  again_or false x y rest = or_none rest

  kept_or : (b : Bool) (x : X) (more rest last : Option X) → more ≡ option_or rest last → (if b then Some x else more) ≡ option_or (if b then Some x else rest) last
  kept_or true x more rest last is = refl
  kept_or false x more rest last is = is

  pull : {U : Type 0} (f : U → X) (b : Bool) (u : U) (rest : Option U) → option_map f (cond b (Some u) rest) ≡ (if b then Some (f u) else option_map f rest)
  pull f true u rest = refl
  pull f false u rest = refl

-- ---- the number of the session between two sockets

abbrev pub number_in : SessionEnds → List KeyUse → Option ℕ
number_in e [] = None
number_in e (u ∷ us) = if same_ends e (ends_of_use u) then Some u.session else number_in e us

pub session_number : (s : SeenSegment) (us : List KeyUse) → session_of s us ≡ number_in (seen_ends s) us
session_number s [] = refl
session_number s (u ∷ us) =
    pull (λ v. v.session) (is_session_of s u) u (find (is_session_of s) us)
    ∙ ap (λ (n : Option ℕ). if same_ends (seen_ends s) (ends_of_use u) then Some u.session else n) (session_number s us)

module _ (e : SessionEnds) (k : ℕ) (g : Signs) (s : SeenSegment) where
  number_step : (c : Bool) (u : KeyUse) (us : List KeyUse) → is_use_of s u ≡ c → number_in e (with_use k g s us) ≡ option_or (number_in e us) (if same_ends e (seen_ends s) then Some k else None)
      → number_in e (if c then used_again g s u ∷ us else u ∷ with_use k g s us) ≡ option_or (number_in e (u ∷ us)) (if same_ends e (seen_ends s) then Some k else None)
  number_step true u us is others =
      again_or (same_ends e (ends_of_use u)) u.session k (number_in e us)
      ∙ ap (λ x. option_or (number_in e (u ∷ us)) (if same_ends e x then Some k else None)) (sym (use_ends s u is))
  number_step false u us is others = kept_or (same_ends e (ends_of_use u)) u.session _ (number_in e us) _ others

  pub number_used : (us : List KeyUse) → number_in e (with_use k g s us) ≡ option_or (number_in e us) (if same_ends e (seen_ends s) then Some k else None)
  number_used [] = first_or (same_ends e (seen_ends s)) k
  number_used (u ∷ us) = number_step (is_use_of s u) u us refl (number_used us)

-- ---- the table numbers as the order does

abbrev pub Agree : List SessionEnds → List KeyUse → Type 0
Agree known [] = Unit {0}
Agree known (u ∷ us) = (number_of (ends_of_use u) known ≡ Some u.session) × Agree known us

-- whatever is one of these is of the session of this number
abbrev pub IsOf : ℕ → SeenSegment → List KeyUse → Type 0
IsOf k s [] = Unit {0}
IsOf k s (u ∷ us) = (is_use_of s u ≡ true → u.session ≡ k) × IsOf k s us

some_is : (a b : ℕ) → Some a ≡ Some b → a ≡ b
some_is a b e = cc

still : (p q : Option ℕ) (n : ℕ) → p ≡ Some n → option_or p q ≡ Some n
still p q n is = rw is refl

module _ (known : List SessionEnds) (r : SessionRung) where
  pub agree_more : (us : List KeyUse) → Agree known us → Agree (and_session known r) us
  agree_more [] agree = tt
  agree_more (u ∷ us) agree = (number_more known r (ends_of_use u) ∙ still (number_of (ends_of_use u) known) _ u.session agree.0, agree_more us agree.1)

module _ (known : List SessionEnds) (k : ℕ) (g : Signs) (s : SeenSegment) (now : number_of (seen_ends s) known ≡ Some k) where
  agree_step : (c : Bool) (u : KeyUse) (us : List KeyUse) → Agree known (u ∷ us) → Agree known (with_use k g s us) → Agree known (if c then used_again g s u ∷ us else u ∷ with_use k g s us)
  agree_step true u us agree others = (agree.0, agree.1)
  agree_step false u us agree others = (agree.0, others)

  pub agree_used : (us : List KeyUse) → Agree known us → Agree known (with_use k g s us)
  agree_used [] agree = (now, tt)
  agree_used (u ∷ us) agree = agree_step (is_use_of s u) u us agree (agree_used us agree.1)

  pub all_of : (us : List KeyUse) → Agree known us → IsOf k s us
  all_of [] agree = tt
  all_of (u ∷ us) agree =
      (λ is. some_is u.session k (sym agree.0 ∙ (ap (λ e. number_of e known) (sym (use_ends s u is)) ∙ now)), all_of us agree.1)

-- ---- the sockets of the session of a number

abbrev pub ends_in : ℕ → List KeyUse → Option SessionEnds
ends_in n [] = None
ends_in n (u ∷ us) = if is_of_session n u then Some (ends_of_use u) else ends_in n us

pub ends_found : (n : ℕ) (us : List KeyUse) → option_map ends_of_use (find (is_of_session n) us) ≡ ends_in n us
ends_found n [] = refl
ends_found n (u ∷ us) =
    pull ends_of_use (is_of_session n u) u (find (is_of_session n) us)
    ∙ ap (λ (o : Option SessionEnds). if is_of_session n u then Some (ends_of_use u) else o) (ends_found n us)

module _ (n k : ℕ) (g : Signs) (s : SeenSegment) where
  ends_step : (c : Bool) (u : KeyUse) (us : List KeyUse) → is_use_of s u ≡ c → (is_use_of s u ≡ true → u.session ≡ k)
      → ends_in n (with_use k g s us) ≡ option_or (ends_in n us) (if k == n then Some (seen_ends s) else None)
      → ends_in n (if c then used_again g s u ∷ us else u ∷ with_use k g s us) ≡ option_or (ends_in n (u ∷ us)) (if k == n then Some (seen_ends s) else None)
  ends_step true u us is of others =
      again_or (u.session == n) (ends_of_use u) (seen_ends s) (ends_in n us)
      ∙ ap (λ (m : ℕ). option_or (ends_in n (u ∷ us)) (if m == n then Some (seen_ends s) else None)) (of is)
  ends_step false u us is of others = kept_or (is_of_session n u) (ends_of_use u) _ (ends_in n us) _ others

  pub ends_used : (us : List KeyUse) → IsOf k s us → ends_in n (with_use k g s us) ≡ option_or (ends_in n us) (if k == n then Some (seen_ends s) else None)
  ends_used [] all = first_or (k == n) (seen_ends s)
  ends_used (u ∷ us) all = ends_step (is_use_of s u) u us refl all.0 (ends_used us all.1)

  -- ---- how many are counted of it

  one_first : (b : Bool) → (if b then 1 else 0) + 0 ≡ 0 + (if b then 1 else 0)
  one_first true = refl
  one_first false = refl

  one_again : (b : Bool) (segments rest : ℕ) → (if b then segments + 1 else 0) + rest ≡ ((if b then segments else 0) + rest) + (if b then 1 else 0)
  one_again true segments rest = omega arith
  one_again false segments rest = omega arith

  one_behind : (a b c d : ℕ) → b ≡ c + d → a + b ≡ (a + c) + d
  one_behind a b c d is = omega arith

  count_step : (c : Bool) (u : KeyUse) (us : List KeyUse) → is_use_of s u ≡ c → (is_use_of s u ≡ true → u.session ≡ k)
      → counted_in n (with_use k g s us) ≡ counted_in n us + (if k == n then 1 else 0)
      → counted_in n (if c then used_again g s u ∷ us else u ∷ with_use k g s us) ≡ counted_in n (u ∷ us) + (if k == n then 1 else 0)
  count_step true u us is of others =
      one_again (u.session == n) u.segments (counted_in n us) ∙ ap (λ (m : ℕ). counted_in n (u ∷ us) + (if m == n then 1 else 0)) (of is)
  count_step false u us is of others = one_behind (if is_of_session n u then u.segments else 0) (counted_in n (with_use k g s us)) (counted_in n us) (if k == n then 1 else 0) others

  pub count_used : (us : List KeyUse) → IsOf k s us → counted_in n (with_use k g s us) ≡ counted_in n us + (if k == n then 1 else 0)
  count_used [] all = one_first (k == n)
  count_used (u ∷ us) all = count_step (is_use_of s u) u us refl all.0 (count_used us all.1)
