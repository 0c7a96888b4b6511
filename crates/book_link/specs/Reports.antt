-- The text of a run. Our own format. Its top is `report`.
use Rattle.std.specs.Prelude.{ℕ, suc, ◌+◌, ◌==◌, Bool, true, false, List, [], ◌∷◌, ◌++◌, length}
use Rattle.std.specs.Prelude.{decimal, codes, Option, Some, None, if◌then◌else◌}
use Rattle.book_base.specs.declared.end.End.{End}
use Rattle.book_base.specs.declared.end.End.TheVariants.{A, B}
use Rattle.book_base.specs.Hexadecimal.{hex_of}
use Rattle.book_lines.specs.Texts.{line_text, numbered_text, end_text}
use Rattle.book_segments.specs.Faults.{fault_text}
use Rattle.book_segments.specs.Segments.{FIN, SYN, PSH, ACK}
use Rattle.book_endpoint.specs.declared.arrival.Arrival.{Arrival}
use Rattle.book_endpoint.specs.declared.arrival.Arrival.TheVariants.{Bad, Foreign, Checksum}
use Rattle.book_endpoint.specs.declared.arrival.Arrival.TheVariants.{Closed as AtClosed, Refused}
use Rattle.book_endpoint.specs.declared.arrival.Arrival.TheVariants.{Unexpected, Window, Challenge}
use Rattle.book_endpoint.specs.declared.arrival.Arrival.TheVariants.{NoAck, BadAck, TooManyRuns}
use Rattle.book_endpoint.specs.declared.arrival.Arrival.TheVariants.{Reset, Taken}
use Rattle.book_endpoint.specs.declared.phase.Phase.{Phase}
use Rattle.book_endpoint.specs.declared.phase.Phase.TheVariants.{Listen, SynSent, SynReceived}
use Rattle.book_endpoint.specs.declared.phase.Phase.TheVariants.{Established, FinWait1, FinWait2}
use Rattle.book_endpoint.specs.declared.phase.Phase.TheVariants.{CloseWait, Closing, LastAck}
use Rattle.book_endpoint.specs.declared.phase.Phase.TheVariants.{TimeWait, Closed}
use Rattle.book_endpoint.specs.declared.refusal.Refusal.{Refusal}
use Rattle.book_endpoint.specs.declared.refusal.Refusal.TheVariants.{NoAo, TwoAo, WithMd5}
use Rattle.book_endpoint.specs.declared.refusal.Refusal.TheVariants.{NoTuple, Expired, MacLength}
use Rattle.book_endpoint.specs.declared.refusal.Refusal.TheVariants.{NoContext, Range, BadMac}
use Rattle.book_link.specs.declared.event.Event.{Event}
use Rattle.book_link.specs.Outcomes.{Outcome, Done, Sent, Answered, Took, Image, Added, IsnUsed}
use Rattle.book_link.specs.Outcomes.{NoSession, NoSegment, NoPlace, Full, HasClosed, WithoutKey}
use Rattle.book_link.specs.Outcomes.{Idle, Nothing, TooManyRows, OverlapWith, NoRow}
use Rattle.book_link.specs.Worlds.{Setup, Session, Made, World, forgeries, segments}
use Rattle.book_link.specs.Runs.{empty, run, outcomes_from}

-- the word for a verdict on a segment's TCP-AO option (own)
abbrev pub verdict_text : Refusal → List ℕ
verdict_text NoAo = codes "no-ao"
verdict_text TwoAo = codes "two-ao"
verdict_text WithMd5 = codes "with-md5"
verdict_text NoTuple = codes "no-tuple"
verdict_text Expired = codes "expired"
verdict_text MacLength = codes "mac-length"
verdict_text NoContext = codes "no-context"
verdict_text Range = codes "range"
verdict_text BadMac = codes "bad-mac"

-- the words for an answer to an arrival (own)
abbrev pub answer_texts : Arrival → List (List ℕ)
answer_texts (Bad fault) = codes "bad" ∷ fault_text fault ∷ []
answer_texts Foreign = codes "foreign" ∷ []
answer_texts Checksum = codes "checksum" ∷ []
answer_texts AtClosed = codes "closed" ∷ []
answer_texts (Refused why) = codes "refused" ∷ verdict_text why ∷ []
answer_texts Unexpected = codes "unexpected" ∷ []
answer_texts Window = codes "window" ∷ []
answer_texts Challenge = codes "challenge" ∷ []
answer_texts NoAck = codes "no-ack" ∷ []
answer_texts BadAck = codes "bad-ack" ∷ []
answer_texts TooManyRuns = codes "too-many-runs" ∷ []
answer_texts Reset = codes "reset" ∷ []
answer_texts Taken = codes "taken" ∷ []

-- the flags of a segment that was made: S, SA, AP, AF, A or R (own)
abbrev pub flags_text : ℕ → List ℕ
flags_text flags =
    if flags == SYN then codes "S"
    else if flags == SYN + ACK then codes "SA"
    else if flags == PSH + ACK then codes "AP"
    else if flags == FIN + ACK then codes "AF"
    else if flags == ACK then codes "A"
    else codes "R"

-- a number in decimal, or a hyphen for none (own)
abbrev pub number_text : Option ℕ → List ℕ
number_text None = codes "-"
number_text (Some n) = decimal n

-- the words for a segment that was made (own)
abbrev pub sent_texts : Made → List (List ℕ)
sent_texts m =
    let e = m.emission in
    codes "sent" ∷ decimal m.name ∷ flags_text e.flags
    ∷ codes "seq" ∷ decimal e.number ∷ codes "ack" ∷ number_text e.acknowledged
    ∷ codes "len" ∷ decimal (length e.segment.payload)
    ∷ codes "key" ∷ decimal e.sending.key_id ∷ codes "next" ∷ decimal e.sending.rnext_key_id ∷ []

-- bytes in hexadecimal, or a hyphen for none (own)
abbrev pub hex_or_none : List ℕ → List ℕ
hex_or_none [] = codes "-"
hex_or_none (b ∷ bytes) = hex_of (b ∷ bytes)

-- the word for the end of a stream, where it is reached (own)
abbrev pub end_mark : Bool → List (List ℕ)
end_mark true = codes "end" ∷ []
end_mark false = []

-- the words for an outcome (own)
abbrev pub outcome_texts : Outcome → List (List ℕ)
outcome_texts Done = codes "ok" ∷ []
outcome_texts (Sent m) = sent_texts m
outcome_texts (Answered answer) = answer_texts answer
outcome_texts (Took bytes shown) = codes "took" ∷ hex_or_none bytes ∷ end_mark shown
outcome_texts (Image bytes) = codes "datagram" ∷ hex_of bytes ∷ []
outcome_texts (Added number) = codes "added" ∷ codes "row" ∷ decimal number ∷ []
outcome_texts IsnUsed = codes "isn-used" ∷ []
outcome_texts NoSession = codes "no-session" ∷ []
outcome_texts NoSegment = codes "no-segment" ∷ []
outcome_texts NoPlace = codes "no-place" ∷ []
outcome_texts Full = codes "full" ∷ []
outcome_texts HasClosed = codes "closed" ∷ []
outcome_texts WithoutKey = codes "no-key" ∷ []
outcome_texts Idle = codes "idle" ∷ []
outcome_texts Nothing = codes "nothing" ∷ []
outcome_texts TooManyRows = codes "too-many-rows" ∷ []
outcome_texts (OverlapWith number) = codes "overlap" ∷ decimal number ∷ []
outcome_texts NoRow = codes "no-row" ∷ []

-- the line of an outcome, with its number (own)
abbrev pub outcome_line : ℕ → Outcome → List ℕ
outcome_line n o = numbered_text n (outcome_texts o)

-- a line for each outcome, the first one having this number (own)
abbrev pub lines_from : ℕ → List Outcome → List ℕ
lines_from n [] = []
lines_from n (o ∷ os) = outcome_line n o ++ lines_from (suc n) os

-- the word for a phase of a connection: the states of RFC 9293, section 3.3.2
abbrev pub phase_text : Phase → List ℕ
phase_text Listen = codes "listen"
phase_text SynSent = codes "syn-sent"
phase_text SynReceived = codes "syn-received"
phase_text Established = codes "established"
phase_text FinWait1 = codes "fin-wait-1"
phase_text FinWait2 = codes "fin-wait-2"
phase_text CloseWait = codes "close-wait"
phase_text Closing = codes "closing"
phase_text LastAck = codes "last-ack"
phase_text TimeWait = codes "time-wait"
phase_text Closed = codes "closed"

-- the word that says whether a take showed the end of the stream (own)
abbrev pub shown_text : Bool → List ℕ
shown_text shown = if shown then codes "end" else codes "open"

-- the line of a session: of which end and which of its sessions, its initial sequence numbers,
-- its phase, and how many bytes it was given and delivered (own)
abbrev pub session_line : End → ℕ → List ℕ → Session → List ℕ
session_line e index phase s =
    line_text (codes "session" ∷ end_text e ∷ decimal index
    ∷ codes "isn" ∷ decimal s.state.isn ∷ codes "peer" ∷ number_text s.state.peer_isn ∷ phase
    ∷ codes "given" ∷ decimal (length s.state.given)
    ∷ codes "delivered" ∷ decimal (length s.state.taken) ∷ shown_text s.end_shown ∷ [])

-- the lines of the dropped sessions of an end, the oldest first (own)
abbrev pub dropped_lines : End → List Session → List ℕ
dropped_lines e [] = []
dropped_lines e (s ∷ older) =
    dropped_lines e older ++ session_line e (suc (length older)) (codes "dropped") s

-- the lines of all sessions of an end, the oldest first (own)
abbrev pub session_lines : End → List Session → List ℕ
session_lines e [] = []
session_lines e (s ∷ older) =
    dropped_lines e older ++ session_line e (suc (length older)) (phase_text s.state.phase) s

-- the last line of a report: how many segments were made, and how many forgeries are counted
-- (own)
abbrev pub counts_line : World → List ℕ
counts_line w =
    line_text (codes "segments" ∷ decimal (segments w.history)
    ∷ codes "forgeries" ∷ decimal (forgeries w.history) ∷ [])

-- the lines of the sessions of both ends, and the counts (own)
unfoldable pub summary : World → List ℕ
summary w = session_lines A w.a.sessions ++ (session_lines B w.b.sessions ++ counts_line w)

-- the lines of the outcomes of a run, and its summary (own)
unfoldable pub report : Setup → List Event → List ℕ
report setup events =
    lines_from 1 (outcomes_from setup (empty setup) events) ++ summary (run setup events)
