-- The own SYN that is out is never that of the connection in use.
use Rattle.std.proofs.Common.{◌≡◌, ℕ, ◌+◌, ◌&&◌, ◌||◌, not, max, Bool, true, false, List, [], ◌∷◌, Option, Some, None, refl, sym, ap, subst, ◌∙◌, if◌then◌else◌}
use Rattle.book_base.specs.declared.address.Pair.{Pair}
use Rattle.book_segments.specs.Segments.{Segment, has, SYN, ACK, segment_length}
use Rattle.book_segments.proofs.Fields.{some_is}
use Rattle.book_shim.specs.declared.kept.Isns.{Isns}
use Rattle.book_shim.specs.declared.kept.Kept.{Kept}
use Rattle.book_shim.specs.Keeping.{fresh, own_isn, is_the_number, are_isns, is_opening_syn, answered_isn, connection_begun}
use Rattle.book_shim.specs.Saving.{resumed}
use Rattle.book_shim.specs.Leaving.{opening, accepting, entered, resets, past_sent}
use Rattle.book_shim.specs.Arriving.{answered_anew, joined, admitted, is_of_connection, past_heard}
use Rattle.law_shim.proofs.Mirrors.{these}
use Rattle.law_shim.proofs.Growing.{other_way}
use Rattle.law_shim.proofs.Steps.{after_by}
use Rattle.law_shim.specs.Unsaved.{Coming, kept_after, IsApart}

pub afresh : IsApart fresh
afresh c e = refl

pub anew : (isns : Isns) (sent heard : ℕ) (current : Option ℕ) → IsApart (resumed isns sent heard current)
anew isns sent heard current c e = refl

begun : (g : Kept) (own peer : ℕ) → IsApart (connection_begun g own peer)
begun g own peer c e = refl

module _ (g : Kept) (apart : IsApart g) where
  accepts : (own peer : ℕ) → IsApart (accepting g own peer)
  accepts own peer = by_test (are_isns g.isns own peer)
    where
      by_test : (b : Bool) → IsApart (if b then g else connection_begun g own peer)
      by_test true = apart
      by_test false = begun g own peer

  opens : (own : ℕ) → IsApart (opening g own)
  opens own = by_test (is_the_number (own_isn g) own) (is_the_number g.opening own) refl
    where
      by_test : (x y : Bool) → is_the_number (own_isn g) own ≡ x → IsApart (if x || y then g else record g { opening = Some own; given_up = g.opening; current = None })
      by_test true y e = apart
      by_test false true e = apart
      by_test false false e = λ c is. other_way c.own own (ap (λ (i : Option Isns). is_the_number (own_isn (record g { isns = i })) own) (sym is) ∙ e)

  enters : (d : Segment) → IsApart (entered g d)
  enters d = by_tests (has SYN d) (has ACK d)
    where
      by_tests : (x y : Bool) → IsApart (if x then (if y then accepting g d.sequence (answered_isn d) else opening g d.sequence) else g)
      by_tests true true = accepts d.sequence (answered_isn d)
      by_tests true false = opens d.sequence
      by_tests false y = apart

  answers : (own peer : ℕ) → is_the_number g.opening own ≡ false → IsApart (answered_anew g own peer)
  answers own peer other = by_test (are_isns g.isns own peer || g.settled)
    where
      by_test : (b : Bool) → IsApart (if b then g else record g { isns = these own peer; heard = peer + 1 })
      by_test true = apart
      by_test false = λ c e. subst (λ n. is_the_number g.opening n ≡ false) (ap (λ (i : Isns). i.own) (some_is (record { own = own; peer = peer }) c e)) other

  late_joins : (b : Bool) (own peer : ℕ) (k : Kept) → IsApart k → IsApart (if b then record g { late = these own peer } else k)
  late_joins true own peer k more = apart
  late_joins false own peer k more = more

  joins : (own peer : ℕ) → IsApart (joined g own peer)
  joins own peer = by_test (is_the_number g.opening own) refl
    where
      by_test : (b : Bool) → is_the_number g.opening own ≡ b
          → IsApart (if b then connection_begun g own peer else (if is_the_number g.given_up own then record g { late = these own peer } else answered_anew g own peer))
      by_test true e = begun g own peer
      by_test false e = late_joins (is_the_number g.given_up own) own peer (answered_anew g own peer) (answers own peer e)

  admits : (d : Segment) → IsApart (admitted g d)
  admits d = by_test (has SYN d && has ACK d)
    where
      by_test : (b : Bool) → IsApart (if b then joined g (answered_isn d) d.sequence else g)
      by_test true = joins (answered_isn d) d.sequence
      by_test false = apart

past_out : (k : Kept) (d : Segment) (n : ℕ) (w : Option ℕ) → IsApart k → IsApart (record (past_sent k d n) { current = w })
past_out k d n w h = by_tests (is_opening_syn d) (resets k.late d)
  where
    by_tests : (x y : Bool) → IsApart (record (if x then k else (if y then record k { late = None } else record k { sent = max k.sent (n + segment_length d); settled = k.settled || not (has SYN d) })) { current = w })
    by_tests true y = h
    by_tests false true = h
    by_tests false false = h

past_in : (k : Kept) (d : Segment) (n : ℕ) (w : Option ℕ) → IsApart k → IsApart (record (past_heard k d n) { current = w })
past_in k d n w h = by_test (is_of_connection k d)
  where
    by_test : (b : Bool) → IsApart (record (if b then record k { heard = max k.heard (n + segment_length d); settled = k.settled || not (has SYN d) } else k) { current = w })
    by_test true = h
    by_test false = h

pub later : (pair : Pair) (g : Kept) (events : List Coming) → IsApart g → IsApart (kept_after pair g events)
later pair g [] h = h
later pair g (e ∷ past) h =
    let k = kept_after pair g past in
    let old = later pair g past h in
    after_by IsApart k old (λ d n w. past_out (entered k d) d n w (enters k old d)) (λ d n w. past_in (admitted k d) d n w (admits k old d)) pair e
