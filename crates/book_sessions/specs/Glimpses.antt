-- What segments tell of initial sequence numbers where no handshake is verified (RFC 9293, section
-- 3.5, and own). Its tops: `openings_after`, `told_anew` and `glimpsed`.
use Rattle.std.specs.Prelude.{ℕ, ◌==◌, Bool, true, false, not, ◌&&◌, ◌||◌, List, [], ◌∷◌}
use Rattle.std.specs.Prelude.{Option, Some, None, if◌then◌else◌, Err, filter}
use Rattle.std.specs.List.{find}
use Rattle.book_base.specs.declared.address.Socket.{Socket}
use Rattle.book_segments.specs.Segments.{Segment, has, SYN, ACK}
use Rattle.book_segments.specs.Sockets.{same_socket}
use Rattle.book_endpoint.specs.declared.refusal.Refusal.TheVariants.{BadMac, NoContext}
use Rattle.book_endpoint.specs.declared.refusal.Refusal.TheVariants.{Range}
use Rattle.book_cmd_check.specs.declared.given.GivenIsns.{GivenIsns}
use Rattle.book_cmd_check.specs.Captures.{Connection, Saying, Judged, acknowledged_isn}
use Rattle.book_cmd_check.specs.Captures.{connection_between, is_pass}
use Rattle.book_cmd_check.specs.Handshakes.{and_given, told_by}

-- a SYN without ACK: its sockets, its initial sequence number, and whether it was verified (RFC
-- 9293, section 3.5)
pub record Opening : Type 0 where
  pub source : Socket
  pub destination : Socket
  pub isn : ℕ
  pub passes : Bool

-- what a SYN opens, of which this is said (RFC 9293, section 3.5)
abbrev pub opening_of : Segment → Saying → Opening
opening_of d said = record {
  source = d.source;
  destination = d.destination;
  isn = d.sequence;
  passes = is_pass said;
}

-- an opening went from one socket to another (own)
abbrev pub is_opening_from : (source destination : Socket) → Opening → Bool
is_opening_from a b o = same_socket o.source a && same_socket o.destination b

-- the openings with this one in the place of that between its sockets, or behind the others (own)
abbrev pub with_opening : Opening → List Opening → List Opening
with_opening o [] = o ∷ []
with_opening o (p ∷ ps) =
    if is_opening_from o.source o.destination p then o ∷ ps else p ∷ with_opening o ps

-- a node judged the segment (own)
abbrev pub is_judged : Saying → Bool
is_judged (Judged judgement checksum) = true
is_judged _ = false

-- a node refused the segment (own)
abbrev pub is_refused : Saying → Bool
is_refused (Judged (Err why) checksum) = true
is_refused _ = false

-- a node knows no context for the segment (RFC 5925, section 5.2)
abbrev pub is_unknown : Saying → Bool
is_unknown (Judged (Err NoContext) checksum) = true
is_unknown _ = false

-- there is an opening, and it has this number (own)
abbrev pub opens_with : (isn : ℕ) → Option Opening → Bool
opens_with isn None = false
opens_with isn (Some o) = o.isn == isn

-- the openings without those from one socket to another (own)
abbrev pub without_opening : (source destination : Socket) → List Opening → List Opening
without_opening a b openings = filter (λ o. not (is_opening_from a b o)) openings

-- the openings behind an answer: the one the other way stays where it is the SYN that the answer
-- acknowledges, and an older one goes (RFC 9293, section 3.5, and own)
abbrev pub answered_by : Segment → List Opening → List Opening
answered_by d openings =
    if opens_with (acknowledged_isn d) (find (is_opening_from d.destination d.source) openings)
    then openings
    else without_opening d.destination d.source openings

-- the openings after a segment of which this is said: a SYN opens, and a SYN with ACK tells which
-- SYN it answers (RFC 9293, section 3.5, and own)
abbrev pub openings_after : Segment → Saying → List Opening → List Opening
openings_after d said openings =
    if not (is_judged said && has SYN d) then openings
    else if has ACK d then answered_by d openings
    else with_opening (opening_of d said) openings

-- an opening was verified, and has another number than this one (own)
abbrev pub opens_anew : (isn : ℕ) → Option Opening → Bool
opens_anew isn None = false
opens_anew isn (Some o) = o.passes && not (o.isn == isn)

-- one of the openings of the two directions has another number than the connection (own)
abbrev pub is_outdated : (onward back : Option Opening) → Option Connection → Bool
is_outdated onward back None = false
is_outdated onward back (Some c) = opens_anew c.one.isn onward || opens_anew c.two.isn back

-- behind the connection that is held between the sockets of a segment that isn't a SYN, a verified
-- SYN began another one (RFC 9293, section 3.5, and own)
abbrev pub is_opened_anew : Segment → List Connection → List Opening → Bool
is_opened_anew d held openings = (not (has SYN d) && not (same_socket d.source d.destination))
    && is_outdated (find (is_opening_from d.source d.destination) openings)
    (find (is_opening_from d.destination d.source) openings) (connection_between d held)

-- what is said of a segment: where its sockets were opened anew, a refusal by the numbers of the
-- older connection says that no context is known (own)
abbrev pub told_anew : (anew : Bool) → Saying → Saying
told_anew true (Judged (Err BadMac) checksum) = Judged (Err NoContext) checksum
told_anew true (Judged (Err Range) checksum) = Judged (Err NoContext) checksum
told_anew anew said = said

-- the numbers that the first ACK behind a SYN tells: of the SYN its own, and the one that it
-- acknowledges (RFC 9293, section 3.5)
abbrev pub completed_by : Segment → Opening → GivenIsns
completed_by d o = record {
  one = d.source;
  one_isn = o.isn;
  other = d.destination;
  other_isn = acknowledged_isn d;
}

-- the connection began with this opening, as far as is known (own)
abbrev pub began_with : Opening → Option Connection → Bool
began_with o None = false
began_with o (Some c) = c.one.isn == o.isn

-- the connections once an ACK was seen behind the opening of its sender: the first one begins a
-- connection (RFC 9293, section 3.5, and own)
abbrev pub acknowledged : Segment → Option Opening → List Connection → List Connection
acknowledged d None guessed = guessed
acknowledged d (Some o) guessed = if began_with o (connection_between d guessed)
    then guessed
    else and_given (completed_by d o) guessed

-- the connections that are taken to have begun, after a segment of which this is said: with the
-- numbers of a SYN with ACK that is refused, or of a SYN and the first ACK behind it (own)
abbrev pub glimpsed : Segment → Saying → List Opening → List Connection → List Connection
glimpsed d said openings guessed =
    if not (has ACK d) then guessed
    else if has SYN d
    then (if is_refused said then and_given (told_by d) guessed else guessed)
    else if is_unknown said
    then acknowledged d (find (is_opening_from d.source d.destination) openings) guessed
    else guessed
