-- What a listener says of a segment, and what it knows afterwards.
use Rattle.std.proofs.Common.{◌≡◌, ℕ, Bool, true, false, List, Option, None, option_map, ◌⊎◌, refl, sym, ◌∙◌, subst}
use Rattle.std.specs.Prelude.{if◌then◌else◌}
use Rattle.book_base.specs.declared.address.Pair.{Pair}
use Rattle.book_segments.specs.Segments.{Segment, Read, has, SYN, ACK}
use Rattle.book_cmd_check.specs.Captures.{Connection}
use Rattle.book_sessions.specs.Glimpses.{Opening, is_unknown}
use Rattle.book_sessions.specs.Laps.{Judging, hear_over}
use Rattle.book_sessions.specs.declared.uses.SeenPass.{SeenPass}
use Rattle.book_sessions.specs.Listening.{Listening, heard_once, heard_twice, listen, pass_of, said_of}
use Rattle.book_sessions.specs.Sessions.{seen_pass}
use Rattle.capture_check.specs.declared.answer.CheckLine.{CheckLine}
use Rattle.capture_check.specs.declared.flows.Flows.{Flows}
use Rattle.capture_check.specs.Answers.{Says}
use Rattle.capture_check.specs.Checkers.{Hears, StandsFor}
use Rattle.capture_listener.specs.declared.outcomes.HeardSegment.{HeardSegment}
use Rattle.capture_listener.specs.Lines.{by_line, by_seen_line, says_refused, says_unknown}
use Rattle.capture_listener.specs.Listeners.{Hearing, KnowsStill, Listens, seen_to_begin, seen_to_open}
use Rattle.capture_listener.specs.Openings.{KeepsOpenings}
use Rattle.capture_listener.proofs.LineLaws.{outcome_told, refused_told, unconfirmed_told, unknown_told}
use Rattle.capture_listener.proofs.OverLaws.{fair_over}

-- what is told of a segment by one line, of the connections held
abbrev pub told_once : CheckLine → Option SeenPass → HeardSegment
told_once l pass = record { outcome = by_line l; pass = pass }

-- what is told of it by a second one, of the connections that are taken to have begun
abbrev pub told_twice : CheckLine → HeardSegment
told_twice more = record { outcome = by_seen_line more; pass = None }

-- a segment was heard by the connections held alone
pub listens_once : (after : Hearing) (j : Judging) (k : Listening) (now : ℕ) (d : Segment) (l told : CheckLine) (pass : Option SeenPass) → Hears after.held l (hear_over j k.held now d) → Says told (said_of j k now d) → says_unknown told ≡ false
    → StandsFor after.guessed (seen_to_begin j k now d) → KeepsOpenings after.openings (seen_to_open j k now d)
    → pass ≡ option_map (seen_pass d (hear_over j k.held now d).connections) (pass_of (hear_over j k.held now d).saying) → Listens after (told_once l pass) d (listen j k now (Read d))
unfolding listen
listens_once after j k now d l told pass H S e G O found =
    let unknown : is_unknown (said_of j k now d) ≡ false = sym (unknown_told told (said_of j k now d) S) ∙ e in
    let one : Listens after (told_once l pass) d (heard_once (hear_over j k.held now d) (seen_to_begin j k now d) (seen_to_open j k now d)) = record {
      outcome = outcome_told l (hear_over j k.held now d).saying H.says (fair_over j k.held now d).readable;
      pass = found;
      knows = record { held = H.stands; guessed = G; openings = O };
    } in
    subst (λ (b : Bool). Listens after (told_once l pass) d (if b then heard_twice (hear_over j k.held now d) (hear_over j (seen_to_begin j k now d) now d) (seen_to_open j k now d)
    else heard_once (hear_over j k.held now d) (seen_to_begin j k now d) (seen_to_open j k now d))) (sym unknown) one

-- a segment was heard by the connections held, and then by those that are taken to have begun
pub listens_twice : (after : Hearing) (j : Judging) (k : Listening) (now : ℕ) (d : Segment) (l told more : CheckLine) → Hears after.held l (hear_over j k.held now d) → Says told (said_of j k now d) → says_unknown told ≡ true
    → Hears after.guessed more (hear_over j (seen_to_begin j k now d) now d) → KeepsOpenings after.openings (seen_to_open j k now d) → Listens after (told_twice more) d (listen j k now (Read d))
unfolding listen
listens_twice after j k now d l told more H S e G O =
    let unknown : is_unknown (said_of j k now d) ≡ true = sym (unknown_told told (said_of j k now d) S) ∙ e in
    let two : Listens after (told_twice more) d (heard_twice (hear_over j k.held now d) (hear_over j (seen_to_begin j k now d) now d) (seen_to_open j k now d)) = record {
      outcome = unconfirmed_told more (hear_over j (seen_to_begin j k now d) now d).saying G.says (fair_over j (seen_to_begin j k now d) now d).readable;
      pass = refl;
      knows = record { held = H.stands; guessed = G.stands; openings = O };
    } in
    subst (λ (b : Bool). Listens after (told_twice more) d (if b then heard_twice (hear_over j k.held now d) (hear_over j (seen_to_begin j k now d) now d) (seen_to_open j k now d)
    else heard_once (hear_over j k.held now d) (seen_to_begin j k now d) (seen_to_open j k now d))) (sym unknown) two

-- ---- want of memory

-- where a segment is refused, the connections held stay
pub refused_stands : (es : List (Pair × Flows)) (j : Judging) (k : Listening) (now : ℕ) (d : Segment) (l : CheckLine) → Hears es l (hear_over j k.held now d) → says_refused l ≡ true → StandsFor es k.held
refused_stands es j k now d l H e =
    let refused = sym (refused_told l (hear_over j k.held now d).saying H.says) ∙ e in
    subst (λ (cs : List Connection). StandsFor es cs) ((fair_over j k.held now d).refused refused) H.stands

-- and where it is a SYN without ACK
pub opening_stands : (es : List (Pair × Flows)) (j : Judging) (k : Listening) (now : ℕ) (d : Segment) (l : CheckLine) → Hears es l (hear_over j k.held now d) → has SYN d ≡ true → has ACK d ≡ false → StandsFor es k.held
opening_stands es j k now d l H syn ack = subst (λ (cs : List Connection). StandsFor es cs) ((fair_over j k.held now d).opening syn ack) H.stands

pub still : (after : Hearing) (j : Judging) (k : Listening) (now : ℕ) (d : Segment) (guessed : List Connection) (openings : List Opening) → StandsFor after.held k.held
    → (guessed ≡ k.guessed) ⊎ (guessed ≡ seen_to_begin j k now d) → StandsFor after.guessed guessed
    → (openings ≡ k.openings) ⊎ (openings ≡ seen_to_open j k now d) → KeepsOpenings after.openings openings → KnowsStill after j k now d
still after j k now d guessed openings H b G o O =
    record { guessed = guessed; begun = b; openings = openings; opened = o; knows = record { held = H; guessed = G; openings = O } }
