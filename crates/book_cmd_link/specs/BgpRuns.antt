-- The bytes that a link's sessions took, read as BGP messages (RFC 4271, section 4, and own). Its
-- top is `bgp_text`.
use Rattle.std.specs.Prelude.{ℕ, suc, ◌+◌, nat_lt, Bool, List, [], ◌∷◌, ◌++◌, length, drop, codes}
use Rattle.std.specs.Prelude.{decimal, Option, Some, None}
use Rattle.book_base.specs.declared.end.End.{End}
use Rattle.book_lines.specs.Texts.{numbered_text, end_text}
use Rattle.book_bgp.specs.declared.bgp_fault.BgpFault.{BgpFault}
use Rattle.book_bgp.specs.declared.bgp_fault.BgpFault.TheVariants as fault
use Rattle.book_bgp.specs.Messages.{Message, message_length, messages, fault_in, place_of}
use Rattle.book_link.specs.declared.event.Event.{Event}
use Rattle.book_link.specs.declared.event.Event.TheVariants as event
use Rattle.book_link.specs.declared.event.Action.TheVariants as action
use Rattle.book_link.specs.Reports.{summary}
use Rattle.book_link.specs.Worlds.{Setup, Session, World, side, live}
use Rattle.book_link.specs.Steps.{step}
use Rattle.book_link.specs.Runs.{empty, run}

-- the word for a fault (RFC 4271, section 6.1)
abbrev pub bgp_fault_text : BgpFault → List ℕ
bgp_fault_text fault.Marker = codes "marker"
bgp_fault_text fault.Length = codes "length"
bgp_fault_text fault.Kind = codes "kind"

-- where a line of a take is from: the event's number, the end, and the number of its session
-- (own)
pub record Place : Type 0 where
  pub number : ℕ
  pub end : End
  pub session : ℕ

-- the line of a message: its type and its length (RFC 4271, section 4.1, and own)
abbrev pub message_line : Place → Message → List ℕ
message_line p m =
    numbered_text p.number (codes "message" ∷ end_text p.end ∷ decimal p.session
    ∷ codes "type" ∷ decimal m.kind ∷ codes "length" ∷ decimal (message_length m) ∷ [])

-- the lines of messages, one after another (own)
abbrev pub message_lines : Place → List Message → List ℕ
message_lines p [] = []
message_lines p (m ∷ ms) = message_line p m ++ message_lines p ms

-- the line of a fault that the messages of a session have now and had not before (RFC 4271,
-- section 6.1, and own)
abbrev pub fault_line : Place → List ℕ → (old new : Option BgpFault) → List ℕ
fault_line p bytes None (Some f) =
    numbered_text p.number (codes "bgp-fault" ∷ end_text p.end ∷ decimal p.session
    ∷ bgp_fault_text f ∷ codes "at" ∷ decimal (place_of bytes) ∷ [])
fault_line p bytes old new = []

-- what a take adds to the messages of a session: the messages that it completes, and the fault
-- that it reaches (own)
abbrev pub taken_lines : Place → (old new : List ℕ) → List ℕ
taken_lines p old new =
    message_lines p (drop (length (messages old)) (messages new))
    ++ fault_line p new (fault_in old) (fault_in new)

-- the bytes that a live session took, or none (own)
abbrev pub taken_by : Option Session → List ℕ
taken_by None = []
taken_by (Some s) = s.state.taken

-- where a take of an end is from (own)
abbrev pub place_at : World → End → ℕ → Place
place_at w e n = record { number = n; end = e; session = length (side w e).sessions }

-- the lines of an event, between the worlds before and after it; only a take has any (own)
abbrev pub event_lines : ℕ → Event → (before after : World) → List ℕ
event_lines n (event.At e (action.Take count)) before after =
    taken_lines (place_at before e n) (taken_by (live (side before e).sessions))
    (taken_by (live (side after e).sessions))
event_lines n _ before after = []

-- the lines of events that begin in this world, the first event having this number (own)
abbrev pub bgp_lines_from : Setup → ℕ → World → List Event → List ℕ
bgp_lines_from setup n w [] = []
bgp_lines_from setup n w (e ∷ es) =
    let after = (step setup w e).world in
    event_lines n e w after ++ bgp_lines_from setup (suc n) after es

-- the messages of all sessions in the order in which they were taken, and the summary of the run
-- (own)
unfoldable pub bgp_text : Setup → List Event → List ℕ
bgp_text setup events = bgp_lines_from setup 1 (empty setup) events ++ summary (run setup events)

-- 1 for a stream that ends in a faulty header, else 0 (RFC 4271, section 6.1, and own)
abbrev pub is_faulty : Option BgpFault → ℕ
is_faulty None = 0
is_faulty (Some f) = 1

-- how many of these sessions reached a faulty header (RFC 4271, section 6.1, and own)
abbrev pub faults_of : List Session → ℕ
faults_of [] = 0
faults_of (s ∷ ss) = is_faulty (fault_in s.state.taken) + faults_of ss

-- how many sessions of a link reached a faulty header (RFC 4271, section 6.1, and own)
abbrev pub bgp_faults : World → ℕ
bgp_faults w = faults_of w.a.sessions + faults_of w.b.sessions
