-- Until it is to be saved again, what is kept is less than a stretch ahead of what was saved.
use Rattle.std.proofs.Common.{◌≡◌, ℕ, ◌+◌, ◌/◌, ◌<◌, ◌≤◌, ◌==◌, ◌&&◌, ◌||◌, not, max, Bool, true, false, List, [], ◌∷◌, Option, Some, None, is_some, refl, sym, ap, subst, ◌∙◌, arith, if◌then◌else◌}
use Rattle.std.proofs.lemmas.Bool.Decides.{nat_tests}
use Rattle.book_base.specs.declared.address.Pair.{Pair}
use Rattle.book_segments.specs.Segments.{Segment, has, SYN, ACK, segment_length}
use Rattle.book_segments.proofs.Fields.{eqb_is}
use Rattle.book_shim.specs.declared.kept.Isns.{Isns}
use Rattle.book_shim.specs.declared.kept.Kept.{Kept}
use Rattle.book_shim.specs.Keeping.{own_isn, is_the_number, are_isns, is_opening_syn, answered_isn, connection_begun}
use Rattle.book_shim.specs.Saving.{resumed, is_same_connection, same_row, is_to_save, saved_stretch}
use Rattle.book_shim.specs.Leaving.{opening, accepting, entered, resets, past_sent}
use Rattle.book_shim.specs.Arriving.{answered_anew, joined, admitted, is_of_connection, past_heard}
use Rattle.law_shim.proofs.Mirrors.{these}
use Rattle.law_shim.proofs.Behind.{begins}
use Rattle.law_shim.proofs.Resets.{isns_are}
use Rattle.law_shim.proofs.Steps.{after_by}
use Rattle.law_shim.specs.Restoring.{IsBehind}
use Rattle.law_shim.specs.Unsaved.{IsApart, Coming, after, kept_after, NoneWasSaved, GoesOn}

-- in the same connection the numbers grow, and the SYN that is out isn't its own
record Grown (c : Isns) (g k : Kept) : Type 0 where
  sent : g.sent ≤ k.sent
  heard : g.heard ≤ k.heard
  another : is_the_number k.opening c.own ≡ false

abbrev Grows : Isns → Kept → Kept → Type 0
Grows c g k = are_isns k.isns c.own c.peer ≡ true → Grown c g k

same_is : (n : ℕ) → (n == n) ≡ true
same_is n = grind (arith, nat_tests)

pub other_way : (a b : ℕ) → (a == b) ≡ false → (b == a) ≡ false
other_way a b e = grind (arith, nat_tests)

and_two : (a b : Bool) → (a && b) ≡ true → (a ≡ true) × (b ≡ true)
and_two true true e = (refl, refl)
and_two true false e = absurd (cc)
and_two false b e = absurd (cc)

-- numbers that aren't those of the connection begin another one
another_one : (c : Isns) (own peer : ℕ) → are_isns (Some c) own peer ≡ false → are_isns (these own peer) c.own c.peer ≡ true → ⊥
another_one c own peer e f =
    let t = and_two (own == c.own) (peer == c.peer) f in
    let o = eqb_is own c.own t.0 in
    let p = eqb_is peer c.peer t.1 in
    let is : are_isns (Some c) own peer ≡ true = rw (o, p, same_is c.own, same_is c.peer) refl in
    let no : true ≡ false = sym is ∙ e in
    absurd (cc)

module _ (c : Isns) (g : Kept) (own_is : g.isns ≡ Some c) (another : is_the_number g.opening c.own ≡ false) where
  stays : Grows c g g
  stays same = record { sent = omega arith; heard = omega arith; another = another }

  begun : (own peer : ℕ) → are_isns g.isns own peer ≡ false → Grows c g (connection_begun g own peer)
  begun own peer e same = absurd (another_one c own peer (ap (λ i. are_isns i own peer) (sym own_is) ∙ e) same)

  accepts : (own peer : ℕ) → Grows c g (accepting g own peer)
  accepts own peer = by_test (are_isns g.isns own peer) refl
    where
      by_test : (b : Bool) → are_isns g.isns own peer ≡ b → Grows c g (if b then g else connection_begun g own peer)
      by_test true e = stays
      by_test false e = begun own peer e

  opens : (own : ℕ) → Grows c g (opening g own)
  opens own = by_test (is_the_number (own_isn g) own) (is_the_number g.opening own) refl
    where
      by_test : (x y : Bool) → is_the_number (own_isn g) own ≡ x → Grows c g (if x || y then g else record g { opening = Some own; given_up = g.opening; current = None })
      by_test true y e = stays
      by_test false true e = stays
      by_test false false e = λ same. record {
        sent = omega arith;
        heard = omega arith;
        another = other_way c.own own (ap (λ (i : Option Isns). is_the_number (own_isn (record g { isns = i })) own) (sym own_is) ∙ e);
      }

  enters : (d : Segment) → Grows c g (entered g d)
  enters d = by_tests (has SYN d) (has ACK d)
    where
      by_tests : (x y : Bool) → Grows c g (if x then (if y then accepting g d.sequence (answered_isn d) else opening g d.sequence) else g)
      by_tests true true = accepts d.sequence (answered_isn d)
      by_tests true false = opens d.sequence
      by_tests false y = stays

  late_joins : (b : Bool) (own peer : ℕ) (k : Kept) → Grows c g k → Grows c g (if b then record g { late = these own peer } else k)
  late_joins true own peer k more = λ same. record { sent = omega arith; heard = omega arith; another = another }
  late_joins false own peer k more = more

  anew : (own peer : ℕ) → Grows c g (answered_anew g own peer)
  anew own peer = by_test (are_isns g.isns own peer) g.settled refl
    where
      by_test : (x y : Bool) → are_isns g.isns own peer ≡ x → Grows c g (if x || y then g else record g { isns = these own peer; heard = peer + 1 })
      by_test true y e = stays
      by_test false true e = stays
      by_test false false e = λ same. absurd (another_one c own peer (ap (λ i. are_isns i own peer) (sym own_is) ∙ e) same)

  joins : (own peer : ℕ) → Grows c g (joined g own peer)
  joins own peer = by_test (is_the_number g.opening own) refl
    where
      is_out : (o : Option ℕ) → is_the_number o own ≡ true → is_the_number o c.own ≡ false → (own == c.own) ≡ false
      is_out None e f = absurd (cc)
      is_out (Some n) e f = let same = eqb_is n own e in subst (λ m. (m == c.own) ≡ false) same f

      by_test : (b : Bool) → is_the_number g.opening own ≡ b
          → Grows c g (if b then connection_begun g own peer else (if is_the_number g.given_up own then record g { late = these own peer } else answered_anew g own peer))
      by_test true e = λ same. let t = and_two (own == c.own) (peer == c.peer) same in let no = is_out g.opening e another in absurd (cc)
      by_test false e = late_joins (is_the_number g.given_up own) own peer (answered_anew g own peer) (anew own peer)

  admits : (d : Segment) → Grows c g (admitted g d)
  admits d = by_test (has SYN d && has ACK d)
    where
      by_test : (b : Bool) → Grows c g (if b then joined g (answered_isn d) d.sequence else g)
      by_test true = joins (answered_isn d) d.sequence
      by_test false = stays

  past_out : (k : Kept) (d : Segment) (n : ℕ) (w : Option ℕ) → Grows c g k → Grows c g (record (past_sent k d n) { current = w })
  past_out k d n w more = by_tests (is_opening_syn d) (resets k.late d)
    where
      by_tests : (x y : Bool) → Grows c g (record (if x then k else (if y then record k { late = None } else record k { sent = max k.sent (n + segment_length d); settled = k.settled || not (has SYN d) })) { current = w })
      by_tests true y = λ same. let m = more same in record { sent = m.sent; heard = m.heard; another = m.another }
      by_tests false true = λ same. let m = more same in record { sent = m.sent; heard = m.heard; another = m.another }
      by_tests false false = λ same. let m = more same in let low = m.sent in record { sent = omega arith; heard = m.heard; another = m.another }

  past_in : (k : Kept) (d : Segment) (n : ℕ) (w : Option ℕ) → Grows c g k → Grows c g (record (past_heard k d n) { current = w })
  past_in k d n w more = by_test (is_of_connection k d)
    where
      by_test : (b : Bool) → Grows c g (record (if b then record k { heard = max k.heard (n + segment_length d); settled = k.settled || not (has SYN d) } else k) { current = w })
      by_test true = λ same. let m = more same in let low = m.heard in record { sent = m.sent; heard = omega arith; another = m.another }
      by_test false = λ same. let m = more same in record { sent = m.sent; heard = m.heard; another = m.another }

  grows : (pair : Pair) (e : Coming) → Grows c g (after pair g e)
  grows pair e = after_by (Grows c g) g stays (λ d n w. past_out (entered g d) d n w (enters d)) (λ d n w. past_in (admitted g d) d n w (admits d)) pair e

-- ---- what isn't to be saved

or_none : (a b : Bool) → (a || b) ≡ false → (a ≡ false) × (b ≡ false)
or_none true b e = absurd (cc)
or_none false b e = (refl, e)

not_false : (b : Bool) → not b ≡ false → b ≡ true
not_false true e = refl
not_false false e = absurd (cc)

row_is : (o p : Option ℕ) → same_row o p ≡ true → p ≡ o
row_is None None e = refl
row_is None (Some n) e = absurd (cc)
row_is (Some n) None e = absurd (cc)
row_is (Some n) (Some m) e = ap (λ (k : ℕ). Some k) (eqb_is m n e)

-- between two times at which it is saved
record Same (c : Isns) (g k : Kept) : Type 0 where
  isns : are_isns k.isns c.own c.peer ≡ true
  current : k.current ≡ g.current
  sent : g.sent / saved_stretch ≡ k.sent / saved_stretch
  heard : g.heard / saved_stretch ≡ k.heard / saved_stretch

unsaved : (c : Isns) (g k : Kept) → g.isns ≡ Some c → is_to_save g k ≡ false → Same c g k
unsaved c g k is e =
    let one = or_none (not (is_same_connection g.isns k.isns)) _ e in
    let two = or_none (is_some k.isns && not (same_row g.current k.current)) _ one.1 in
    let three = or_none (not (g.sent / saved_stretch == k.sent / saved_stretch)) (not (g.heard / saved_stretch == k.heard / saved_stretch)) two.1 in
    let same : are_isns k.isns c.own c.peer ≡ true = ap (λ (i : Option Isns). is_same_connection i k.isns) (sym is) ∙ not_false (is_same_connection g.isns k.isns) one.0 in
    let key : not (same_row g.current k.current) ≡ false = ap (λ (i : Option Isns). is_some i && not (same_row g.current k.current)) (sym (isns_are k.isns c.own c.peer same)) ∙ two.0 in
    record {
      isns = same;
      current = row_is g.current k.current (not_false _ key);
      sent = eqb_is _ _ (not_false _ three.0);
      heard = eqb_is _ _ (not_false _ three.1);
    }

-- ---- since it was saved

record Since (c : Isns) (saved k : Kept) : Type 0 where
  isns : k.isns ≡ Some c
  another : is_the_number k.opening c.own ≡ false
  current : k.current ≡ saved.current
  sent : saved.sent / saved_stretch ≡ k.sent / saved_stretch
  sent_low : saved.sent ≤ k.sent
  heard : saved.heard / saved_stretch ≡ k.heard / saved_stretch
  heard_low : saved.heard ≤ k.heard

since : (pair : Pair) (saved : Kept) (c : Isns) (events : List Coming) → saved.isns ≡ Some c → is_the_number saved.opening c.own ≡ false → NoneWasSaved pair saved events
    → Since c saved (kept_after pair saved events)
since pair saved c [] is another none =
    record { isns = is; another = another; current = refl; sent = refl; sent_low = omega arith; heard = refl; heard_low = omega arith }
since pair saved c (e ∷ past) is another none =
    let g = kept_after pair saved past in
    let k = after pair g e in
    let old = since pair saved c past is another none.1 in
    let same = unsaved c g k old.isns none.0 in
    let more = grows c g old.isns old.another pair e same.isns in
    let low = old.sent_low in
    let far = old.heard_low in
    let up = more.sent in
    let on = more.heard in
    record {
      isns = isns_are k.isns c.own c.peer same.isns;
      another = more.another;
      current = same.current ∙ old.current;
      sent = old.sent ∙ same.sent;
      sent_low = omega arith;
      heard = old.heard ∙ same.heard;
      heard_low = omega arith;
    }

near : (a b : ℕ) → a / saved_stretch ≡ b / saved_stretch → a ≤ b → b < a + saved_stretch
near a b e h = omega arith

pub goes_on : (pair : Pair) (saved : Kept) (isns : Isns) (events : List Coming) → saved.isns ≡ Some isns → IsApart saved → NoneWasSaved pair saved events
    → GoesOn saved isns (kept_after pair saved events)
goes_on pair saved c events is apart none =
    let k = kept_after pair saved events in
    let s = since pair saved c events is (apart c is) none in
    let sent = near saved.sent k.sent s.sent s.sent_low in
    let heard = near saved.heard k.heard s.heard s.heard_low in
    record {
      connection = s.isns;
      current = s.current;
      numbers = record { same = refl; sent = s.sent_low; sent_near = sent; heard = s.heard_low; heard_near = heard };
      behind = λ quiet. subst (λ (w : Option ℕ). IsBehind k (resumed c saved.sent saved.heard w)) s.current (begins k c saved.sent saved.heard s.isns quiet s.sent_low sent s.heard_low heard);
    }
