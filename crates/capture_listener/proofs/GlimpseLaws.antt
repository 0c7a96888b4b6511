-- What a segment tells of initial sequence numbers.
use Rattle.std.proofs.Common.{◌≡◌, ℕ, ◌&&◌, Bool, true, false, List, Option, Some, None, refl, sym, ap, ◌∙◌}
use Rattle.std.specs.Prelude.{◌==◌, option_map}
use Rattle.std.specs.List.{find}
use Rattle.book_segments.specs.Segments.{Segment, has, SYN, ACK}
use Rattle.book_segments.proofs.Fields.{some_is}
use Rattle.book_cmd_check.specs.Captures.{Connection, Saying, acknowledged_isn}
use Rattle.book_sessions.specs.Glimpses.{Opening, acknowledged, answered_by, glimpsed, is_judged, is_opening_from, is_outdated, is_unknown, opening_of, openings_after, opens_anew, opens_with, with_opening, without_opening}
use Rattle.capture_listener.specs.Begun.{and_begun, completing}
use Rattle.capture_check.specs.Expecting.{numbers_of}
use Rattle.capture_listener.specs.declared.openings.KeptOpening.{KeptOpening}
use Rattle.capture_listener.specs.Openings.{kept_anew, kept_of, kept_outdated, kept_with, opened_between}
use Rattle.capture_listener.proofs.OpeningLaws.{none_taken}

-- the first ACK behind an opening
pub completes : (d : Segment) (s : Saying) (os : List Opening) (guessed : List Connection) (kept : KeptOpening) → has ACK d ≡ true → has SYN d ≡ false → is_unknown s ≡ true
    → opened_between d.source d.destination os ≡ Some kept → glimpsed d s os guessed ≡ and_begun (completing d kept.isn) guessed
completes d s os guessed kept ack syn u e = rw (ack, syn, u) (at (find (is_opening_from d.source d.destination) os) e)
  where
    at : (o : Option Opening) → option_map kept_of o ≡ Some kept → acknowledged d o guessed ≡ and_begun (completing d kept.isn) guessed
    at None e = absurd (cc)
    at (Some o) e = let is : o.isn ≡ kept.isn = ap (λ (k : KeptOpening). k.isn) (some_is (kept_of o) kept e) in rw (← is) refl

-- a SYN without ACK opens
pub opens : (d : Segment) (s : Saying) (os : List Opening) → is_judged s ≡ true → has SYN d ≡ true → has ACK d ≡ false → openings_after d s os ≡ with_opening (opening_of d s) os
opens d s os j syn ack = rw (j, syn, ack) refl

-- one with ACK answers
pub answers : (d : Segment) (s : Saying) (os : List Opening) → is_judged s ≡ true → has SYN d ≡ true → has ACK d ≡ true → openings_after d s os ≡ answered_by d os
answers d s os j syn ack = rw (j, syn, ack) refl

pub unjudged_stays : (d : Segment) (s : Saying) (os : List Opening) → is_judged s ≡ false → openings_after d s os ≡ os
unjudged_stays d s os j = rw j refl

and_false : (b : Bool) → (b && false) ≡ false
and_false true = refl
and_false false = refl

pub later_stays : (d : Segment) (s : Saying) (os : List Opening) → has SYN d ≡ false → openings_after d s os ≡ os
later_stays d s os syn = rw (syn, and_false (is_judged s)) refl

-- ---- what an answer leaves

-- the opening that is kept has this number where the one among the others has
pub kept_as_opened : (isn : ℕ) (o : Option Opening) → kept_with isn (option_map kept_of o) ≡ opens_with isn o
kept_as_opened isn None = refl
kept_as_opened isn (Some o) = refl

pub answered_same : (d : Segment) (os : List Opening) → opens_with (acknowledged_isn d) (find (is_opening_from d.destination d.source) os) ≡ true → answered_by d os ≡ os
answered_same d os e = rw e refl

pub answered_other : (d : Segment) (os : List Opening) → opens_with (acknowledged_isn d) (find (is_opening_from d.destination d.source) os) ≡ false → answered_by d os ≡ without_opening d.destination d.source os
answered_other d os e = rw e refl

none_opened : (o : Option Opening) → option_map kept_of o ≡ None → o ≡ None
none_opened None e = refl
none_opened (Some o) e = absurd (cc)

pub answered_none : (d : Segment) (os : List Opening) → opened_between d.destination d.source os ≡ None → answered_by d os ≡ os
answered_none d os e =
    let none = none_opened (find (is_opening_from d.destination d.source) os) e in
    answered_other d os (ap (opens_with (acknowledged_isn d)) none) ∙ none_taken d.destination d.source os none

pub answers_other : (d : Segment) (os : List Opening) (kept : KeptOpening) → opened_between d.destination d.source os ≡ Some kept → (kept.isn == acknowledged_isn d) ≡ false → answered_by d os ≡ without_opening d.destination d.source os
answers_other d os kept e other =
    answered_other d os (sym (kept_as_opened (acknowledged_isn d) (find (is_opening_from d.destination d.source) os)) ∙ (ap (kept_with (acknowledged_isn d)) e ∙ other))

pub answers_same : (d : Segment) (os : List Opening) (kept : KeptOpening) → opened_between d.destination d.source os ≡ Some kept → (kept.isn == acknowledged_isn d) ≡ true → answered_by d os ≡ os
answers_same d os kept e same =
    answered_same d os (sym (kept_as_opened (acknowledged_isn d) (find (is_opening_from d.destination d.source) os)) ∙ (ap (kept_with (acknowledged_isn d)) e ∙ same))

-- ---- whether the sockets were opened anew

anew_at : (isn : ℕ) (o : Option Opening) → kept_anew isn (option_map kept_of o) ≡ opens_anew isn o
anew_at isn None = refl
anew_at isn (Some o) = refl

pub outdated_as_kept : (onward back : Option Opening) (c : Option Connection) → kept_outdated (option_map kept_of onward) (option_map kept_of back) (option_map numbers_of c) ≡ is_outdated onward back c
outdated_as_kept onward back None = refl
outdated_as_kept onward back (Some c) = rw (anew_at c.one.isn onward, anew_at c.two.isn back) refl
