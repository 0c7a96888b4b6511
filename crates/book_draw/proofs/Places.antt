-- The places of sessions in their order.
use Rattle.std.proofs.Common.{◌≡◌, ℕ, zero, suc, ◌+◌, ◌==◌, ◌&&◌, ◌||◌, Bool, true, false, List, [], ◌∷◌, ◌++◌, length, Option, Some, None, refl, sym, ap, ◌∙◌, arith, if◌then◌else◌}
use Rattle.std.specs.Prelude.{is_some, option_map, slice_get}
use Rattle.std.specs.List.{list_any}
use Rattle.std.specs.Option.{option_or, unwrap_or}
use Rattle.std.proofs.lemmas.List.{length-append}
use Rattle.std.proofs.lemmas.Bool.Decides.{nat_tests}
use Rattle.std.proofs.lemmas.Bool.{and_parts, eqb-true}
use Rattle.book_segments.proofs.SocketLaws.{same_socket-refl, same_socket_is}
use Rattle.book_segments.specs.Sockets.{same_socket}
use Rattle.book_draw.specs.declared.session_rung.SessionEnds.{SessionEnds}
use Rattle.book_draw.specs.declared.session_rung.SessionRung.{SessionRung}
use Rattle.book_draw.specs.SessionRungs.{and_session, ends_of, same_ends, session_at}

-- ---- the same two sockets

or_true : (b : Bool) → true ≡ b || true
or_true true = refl
or_true false = refl

crossed : (w x y z : Bool) → (w && x) || (y && z) ≡ (z && y) || (x && w)
crossed true true y z = or_true (z && y)
crossed true false true true = refl
crossed true false true false = refl
crossed true false false true = refl
crossed true false false false = refl
crossed false true true true = refl
crossed false true true false = refl
crossed false true false true = refl
crossed false true false false = refl
crossed false false true true = refl
crossed false false true false = refl
crossed false false false true = refl
crossed false false false false = refl

module _ (a b c : SessionEnds) where
  like_by : (p q : Bool) → (same_socket a.left b.left && same_socket a.right b.right) ≡ p → (same_socket a.left b.right && same_socket a.right b.left) ≡ q → p || q ≡ true → same_ends a c ≡ same_ends b c
  like_by true q straight cross e =
      let both = and_parts (same_socket a.left b.left) (same_socket a.right b.right) straight in
      let first = same_socket_is a.left b.left both.0 in
      let second = same_socket_is a.right b.right both.1 in
      ap (λ x. same_ends (record { left = x; right = a.right }) c) first ∙ ap (λ x. same_ends (record { left = b.left; right = x }) c) second
  like_by false true straight cross e =
      let both = and_parts (same_socket a.left b.right) (same_socket a.right b.left) cross in
      let first = same_socket_is a.left b.right both.0 in
      let second = same_socket_is a.right b.left both.1 in
      ap (λ x. same_ends (record { left = x; right = a.right }) c) first
      ∙ (ap (λ x. same_ends (record { left = b.right; right = x }) c) second
      ∙ crossed (same_socket b.right c.left) (same_socket b.left c.right) (same_socket b.right c.right) (same_socket b.left c.left))
  like_by false false straight cross e = absurd (cc)

  -- what is the same as one of two that are the same is the same as the other
  pub like_ends : same_ends a b ≡ true → same_ends a c ≡ same_ends b c
  like_ends e = like_by (same_socket a.left b.left && same_socket a.right b.right) (same_socket a.left b.right && same_socket a.right b.left) refl refl e

-- ---- the place of a session, from 0

abbrev pub place : SessionEnds → List SessionEnds → Option ℕ
place e [] = None
place e (k ∷ ks) = if same_ends e k then Some 0 else option_map (λ n. suc n) (place e ks)

some_later : (p : Option ℕ) → is_some (option_map (λ n. suc n) p) ≡ is_some p
some_later None = refl
some_later (Some n) = refl

any_by : (b : Bool) (p : Option ℕ) → is_some (if b then Some 0 else option_map (λ n. suc n) p) ≡ b || is_some p
any_by true p = refl
any_by false p = some_later p

pub any_place : (e : SessionEnds) (ks : List SessionEnds) → is_some (place e ks) ≡ list_any (λ k. same_ends e k) ks
any_place e [] = refl
any_place e (k ∷ ks) = any_by (same_ends e k) (place e ks) ∙ ap (λ b. same_ends e k || b) (any_place e ks)

pub like_place : (a b : SessionEnds) → same_ends a b ≡ true → (ks : List SessionEnds) → place a ks ≡ place b ks
like_place a b e [] = refl
like_place a b e (k ∷ ks) = rw (like_ends a b k e, like_place a b e ks) refl

later_or : (p : Option ℕ) (b : Bool) (n : ℕ) → option_map (λ n. suc n) (option_or p (if b then Some n else None)) ≡ option_or (option_map (λ n. suc n) p) (if b then Some (suc n) else None)
later_or None true n = refl
later_or None false n = refl
later_or (Some m) b n = refl

at_end : (b : Bool) (e x : SessionEnds) (ks : List SessionEnds) → place e (ks ++ x ∷ []) ≡ option_or (place e ks) (if same_ends e x then Some (length ks) else None)
    → (if b then Some 0 else option_map (λ n. suc n) (place e (ks ++ x ∷ []))) ≡ option_or (if b then Some 0 else option_map (λ n. suc n) (place e ks)) (if same_ends e x then Some (suc (length ks)) else None)
at_end true e x ks is = refl
at_end false e x ks is = ap (λ p. option_map (λ n. suc n) p) is ∙ later_or (place e ks) (same_ends e x) (length ks)

place_last : (e x : SessionEnds) (ks : List SessionEnds) → place e (ks ++ x ∷ []) ≡ option_or (place e ks) (if same_ends e x then Some (length ks) else None)
place_last e x [] = refl
place_last e x (k ∷ ks) = at_end (same_ends e k) e x ks (place_last e x ks)

-- ---- the session at a place

pub zero_other : (n : ℕ) → (0 == suc n) ≡ false
zero_other n = grind (arith, nat_tests)

pub other_zero : (n : ℕ) → (suc n == 0) ≡ false
other_zero n = grind (arith, nat_tests)

pub one_less : (m n : ℕ) → (suc m == suc n) ≡ (m == n)
one_less m n = grind (arith, nat_tests)

get_last : (x : SessionEnds) (ks : List SessionEnds) (n : ℕ) → slice_get (ks ++ x ∷ []) n ≡ option_or (slice_get ks n) (if length ks == n then Some x else None)
get_last x [] zero = refl
get_last x [] (suc n) = sym (ap (λ (b : Bool). if b then Some x else None) (zero_other n))
get_last x (k ∷ ks) zero = refl
get_last x (k ∷ ks) (suc n) = get_last x ks n ∙ ap (λ (b : Bool). option_or (slice_get ks n) (if b then Some x else None)) (sym (one_less (length ks) n))

-- ---- one segment more

-- the place of a segment's session, where it is known, or behind the others
abbrev pub place_of : SessionRung → List SessionEnds → ℕ
place_of r known = unwrap_or (place (ends_of r) known) (length known)

or_none : (p : Option ℕ) → p ≡ option_or p None
or_none None = refl
or_none (Some n) = refl

module _ (known : List SessionEnds) (r : SessionRung) where
  -- it is known
  pub known_still : (m : ℕ) → place (ends_of r) known ≡ Some m → and_session known r ≡ known
  known_still m is = let any = sym (any_place (ends_of r) known) ∙ ap is_some is in rw any refl

  -- it isn't
  pub known_more : place (ends_of r) known ≡ None → and_session known r ≡ known ++ ends_of r ∷ []
  known_more is = let any = sym (any_place (ends_of r) known) ∙ ap is_some is in rw any refl

  by_like : (e : SessionEnds) (b : Bool) (m : ℕ) → same_ends e (ends_of r) ≡ b → place (ends_of r) known ≡ Some m → place e known ≡ option_or (place e known) (if b then Some m else None)
  by_like e true m like is = let here = like_place e (ends_of r) like known ∙ is in rw here refl
  by_like e false m like is = or_none (place e known)

  place_by : (found : Option ℕ) → place (ends_of r) known ≡ found → (e : SessionEnds) → place e (and_session known r) ≡ option_or (place e known) (if same_ends e (ends_of r) then Some (unwrap_or found (length known)) else None)
  place_by None is e = rw (known_more is) (place_last e (ends_of r) known)
  place_by (Some m) is e = rw (known_still m is) (by_like e (same_ends e (ends_of r)) m refl is)

  pub place_more : (e : SessionEnds) → place e (and_session known r) ≡ option_or (place e known) (if same_ends e (ends_of r) then Some (place_of r known) else None)
  place_more e = place_by (place (ends_of r) known) refl e

-- ---- the number of a session

abbrev pub number_of : SessionEnds → List SessionEnds → Option ℕ
number_of e known = option_map (λ n. suc n) (place e known)

pub ends_alike : (e : SessionEnds) → same_ends e e ≡ true
ends_alike e = rw (same_socket-refl e.left, same_socket-refl e.right) refl

place_here : (known : List SessionEnds) (r : SessionRung) (found : Option ℕ) → place (ends_of r) known ≡ found → option_or (place (ends_of r) known) (Some (unwrap_or found (length known))) ≡ Some (unwrap_or found (length known))
place_here known r None is = rw is refl
place_here known r (Some m) is = rw is refl

module _ (known : List SessionEnds) (r : SessionRung) where
  pub number_more : (e : SessionEnds) → number_of e (and_session known r) ≡ option_or (number_of e known) (if same_ends e (ends_of r) then Some (suc (place_of r known)) else None)
  number_more e = ap (λ p. option_map (λ n. suc n) p) (place_more known r e) ∙ later_or (place e known) (same_ends e (ends_of r)) (place_of r known)

  -- of the segment itself
  pub number_now : number_of (ends_of r) (and_session known r) ≡ Some (suc (place_of r known))
  number_now =
      ap (λ p. option_map (λ n. suc n) p) (place_more known r (ends_of r)
      ∙ (ap (λ (b : Bool). option_or (place (ends_of r) known) (if b then Some (place_of r known) else None)) (ends_alike (ends_of r))
      ∙ place_here known r (place (ends_of r) known) refl))

some_is : (a b : ℕ) → Some a ≡ Some b → a ≡ b
some_is a b e = cc

has_by : (b : Bool) (e : SessionEnds) (ks : List SessionEnds) (k : SessionEnds) (m : ℕ) → ((i : ℕ) → place e ks ≡ Some i → is_some (slice_get ks i) ≡ true) → (p : Option ℕ) → place e ks ≡ p
    → (if b then Some 0 else option_map (λ n. suc n) p) ≡ Some m → is_some (slice_get (k ∷ ks) m) ≡ true
has_by true e ks k zero later p is here = refl
has_by true e ks k (suc m) later p is here = absurd (cc)
has_by false e ks k m later None is here = absurd (cc)
has_by false e ks k zero later (Some i) is here = absurd (cc)
has_by false e ks k (suc m) later (Some i) is here = let same : i ≡ m = omega (arith, some_is (suc i) (suc m) here) in later m (is ∙ ap (λ n. Some n) same)

place_has : (e : SessionEnds) (ks : List SessionEnds) (m : ℕ) → place e ks ≡ Some m → is_some (slice_get ks m) ≡ true
place_has e [] m is = absurd (cc)
place_has e (k ∷ ks) m is = has_by (same_ends e k) e ks k m (λ i here. place_has e ks i here) (place e ks) refl is

some_or : (b : Bool) (o : Option SessionEnds) (x : SessionEnds) → (b ≡ true → is_some o ≡ true) → o ≡ option_or o (if b then Some x else None)
some_or true None x has = let bad = has refl in absurd (cc)
some_or false None x has = refl
some_or b (Some y) x has = refl

one_longer : (ks : List SessionEnds) (x : SessionEnds) → length (ks ++ x ∷ []) ≡ length ks + 1
one_longer ks x = length-append ks (x ∷ [])

module _ (known : List SessionEnds) (r : SessionRung) where
  get_by : (found : Option ℕ) → place (ends_of r) known ≡ found → (n : ℕ) → slice_get (and_session known r) n ≡ option_or (slice_get known n) (if unwrap_or found (length known) == n then Some (ends_of r) else None)
  get_by None is n = rw (known_more known r is) (get_last (ends_of r) known n)
  get_by (Some m) is n =
      ap (λ ks. slice_get ks n) (known_still known r m is)
      ∙ some_or (m == n) (slice_get known n) (ends_of r) (λ same. let at : m ≡ n = eqb-true m n same in place_has (ends_of r) known n (is ∙ ap (λ i. Some i) at))

  pub session_more : (n : ℕ) → session_at n (and_session known r) ≡ option_or (session_at n known) (if suc (place_of r known) == n then Some (ends_of r) else None)
  session_more zero = sym (ap (λ (b : Bool). option_or None (if b then Some (ends_of r) else None)) (other_zero (place_of r known)))
  session_more (suc n) =
      get_by (place (ends_of r) known) refl n
      ∙ ap (λ (b : Bool). option_or (slice_get known n) (if b then Some (ends_of r) else None)) (sym (one_less (place_of r known) n))

  many_by : (found : Option ℕ) → place (ends_of r) known ≡ found → length (and_session known r) ≡ (if is_some found then length known else length known + 1)
  many_by None is = ap length (known_more known r is) ∙ one_longer known (ends_of r)
  many_by (Some m) is = ap length (known_still known r m is)

  pub many_more : length (and_session known r) ≡ (if is_some (place (ends_of r) known) then length known else length known + 1)
  many_more = many_by (place (ends_of r) known) refl
