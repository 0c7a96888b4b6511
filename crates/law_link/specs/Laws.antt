-- What holds of every run: no gap, rollover, origin and reset.
use Rattle.std.specs.Prelude.{◌≡◌, ◌⊎◌, ℕ, ◌+◌, ◌<◌, ◌≤◌, ◌^◌, true, false, List, [], ◌∷◌}
use Rattle.std.specs.Prelude.{Some, None, ⊤}
use Rattle.std.specs.List.{AllByRecursion}
use Rattle.book_base.specs.declared.address.Address.{Address}
use Rattle.book_base.specs.declared.address.Address.TheVariants.{V4, V6}
use Rattle.book_base.specs.declared.end.End.{End}
use Rattle.book_segments.specs.Options.{Ao, One, find_ao}
use Rattle.book_segments.specs.Segments.{Segment, Read, reading, has, SYN}
use Rattle.book_segments.specs.Spelling.{AreBytes, IsV4, IsV6}
use Rattle.book_keys.specs.Lifetimes.{greatest_time}
use Rattle.book_keys.specs.Rows.{Row}
use Rattle.book_keys.specs.Overlaps.{IsValid}
use Rattle.book_keys.specs.Plans.{AlignedFrom, IsGap}
use Rattle.book_endpoint.specs.States.{EndState, is_closed}
use Rattle.book_endpoint.specs.Verdicts.{Finding}
use Rattle.book_endpoint.specs.declared.arrival.Arrival.{Arrival}
use Rattle.book_endpoint.specs.declared.arrival.Arrival.TheVariants.{Bad, Foreign, Checksum}
use Rattle.book_endpoint.specs.declared.arrival.Arrival.TheVariants.{Closed as AtClosed, Refused}
use Rattle.book_endpoint.specs.declared.arrival.Arrival.TheVariants.{Unexpected, Window, Challenge}
use Rattle.book_endpoint.specs.declared.arrival.Arrival.TheVariants.{NoAck, BadAck, TooManyRuns}
use Rattle.book_endpoint.specs.declared.arrival.Arrival.TheVariants.{Reset, Taken}
use Rattle.book_link.specs.declared.event.Event.{Event}
use Rattle.book_link.specs.declared.event.Event.TheVariants.{At, Dump}
use Rattle.book_link.specs.declared.event.Action.TheVariants.{Clock, Connect, Listen, Start, Give}
use Rattle.book_link.specs.declared.event.Action.TheVariants.{Fill, Send, Resend, Deliver, Inject}
use Rattle.book_link.specs.declared.event.Action.TheVariants.{Alter, Take, Close, Abort, AddRow}
use Rattle.book_link.specs.declared.event.Action.TheVariants.{Withdraw}
use Rattle.book_link.specs.Outcomes.{Outcome, Answered}
use Rattle.book_keys.specs.Tables.{row_of_new}
use Rattle.book_link.specs.Worlds.{other, Setup, pair_of, first_rows, Session, Made, Came, Happening}
use Rattle.book_link.specs.Worlds.{Making, Coming, World, side, find, live, partner, addressed}
use Rattle.book_link.specs.Worlds.{forgeries, segment_named}
use Rattle.book_link.specs.Steps.{step}

-- the columns of a row fit their places: ids of one byte, a key of bytes
-- (RFC 5925, section 2.2; RFC 7210, section 2)
pub record RowFits (r : Row) : Type 0 where
  pub recv_id : r.recv_id < 256
  pub send_id : r.send_id < 256
  pub master : AreBytes r.master

-- two addresses of one family, each as long as its family's are
-- (RFC 791, section 3.1; RFC 8200, section 3)
abbrev pub AddressesFit : Address → Address → Type 0
AddressesFit (V4 one) (V4 two) = IsV4 (V4 one) × IsV4 (V4 two)
AddressesFit (V6 one) (V6 two) = IsV6 (V6 one) × IsV6 (V6 two)
AddressesFit _ _ = ⊥

-- what the types of a setup say (RFC 9293, section 3.1; RFC 7210, section 2)
pub record SetupFits (setup : Setup) : Type 0 where
  pub family : AddressesFit setup.a.address setup.b.address
  pub a_port : setup.a.port < 65536
  pub b_port : setup.b.port < 65536
  pub rows : (e : End) → AllByRecursion RowFits (first_rows setup e)

-- the tables with which both ends begin are valid: no two of their rows overlap
-- (RFC 7210, section 3)
pub record TablesFit (setup : Setup) : Type 0 where
  pub valid : (e : End) → IsValid (first_rows setup e)

-- what the types of an event say: initial sequence numbers are 32-bit numbers (RFC 9293, section
-- 3.4.1), contents are bytes; and clock readings are times of a key file (own)
abbrev pub EventFits : Event → Type 0
EventFits (At e (Clock seconds)) = seconds ≤ greatest_time
EventFits (At e (Connect isn)) = isn < 2 ^ 32
EventFits (At e (Listen isn)) = isn < 2 ^ 32
EventFits (At e (Start isn peer)) = (isn < 2 ^ 32) × (peer < 2 ^ 32)
EventFits (At e (Give piece)) = AreBytes piece
EventFits (At e (Fill count byte)) = byte < 256
EventFits (At e Send) = ⊤
EventFits (At e Resend) = ⊤
EventFits (At e (Deliver name)) = ⊤
EventFits (At e (Inject bytes)) = AreBytes bytes
EventFits (At e (Alter name place mask fixing)) = mask < 256
EventFits (At e (Take count)) = ⊤
EventFits (At e Close) = ⊤
EventFits (At e Abort) = ⊤
EventFits (At e (AddRow row)) = RowFits (row_of_new row)
EventFits (At e (Withdraw number)) = ⊤
EventFits (Dump name) = ⊤

-- a range of times that has no gap in the end's table, and that holds the end's reading (own)
pub record IsCovered (setup : Setup) (w : World) (e : End) : Type 0 where
  pub low : ℕ
  pub high : ℕ
  pub no_gap : IsGap (side w e).rows (pair_of setup e) low high None
  pub after : low ≤ (side w e).clock
  pub before : (side w e).clock ≤ high

-- a number is within 2^31 of the number expected (RFC 5925, section 6.2)
pub record IsNear (n x : ℕ) : Type 0 where
  pub ahead : n < x + 2147483648
  pub behind : x ≤ n + 2147483648

-- a segment that the other end made is about to be delivered as it was made, within so long before
-- and after its making; the tables are aligned, from the maker's when it was made to the receiver's
-- now; the live session isn't closed, and the segment is addressed to it
-- (RFC 5925, section 7.5; the premises: own)
pub record RollsOver (setup : Setup) (w : World) (e : End) (name : ℕ) (m : Made) : Type 0 where
  pub made : segment_named name w.history ≡ Some m
  pub maker : m.maker ≡ other e
  pub lead : ℕ
  pub lag : ℕ
  pub early : m.clock ≤ (side w e).clock + lead
  pub late : (side w e).clock ≤ m.clock + lag
  pub aligned : AlignedFrom m.rows (side w e).rows (pair_of setup (other e)) lead lag
  pub sender : Session
  pub sent : find (side w (other e)).sessions m.isn ≡ Some sender
  pub receiver : Session
  pub lives : live (side w e).sessions ≡ Some receiver
  pub awake : is_closed receiver.state.phase ≡ false
  pub addressed : addressed m.emission.segment sender.state receiver.state ≡ true
  pub near : has SYN m.emission.segment ≡ false → IsNear m.emission.number receiver.state.expected

-- an answer other than Bad, Foreign, Checksum and Refused (own)
abbrev pub IsHeard : Arrival → Type 0
IsHeard (Bad fault) = ⊥
IsHeard Foreign = ⊥
IsHeard Checksum = ⊥
IsHeard AtClosed = ⊤
IsHeard (Refused why) = ⊥
IsHeard Unexpected = ⊤
IsHeard Window = ⊤
IsHeard Challenge = ⊤
IsHeard NoAck = ⊤
IsHeard BadAck = ⊤
IsHeard TooManyRuns = ⊤
IsHeard Reset = ⊤
IsHeard Taken = ⊤

-- an arrival with such an answer (own)
abbrev pub IsAdmitted : Outcome → Type 0
IsAdmitted (Answered answer) = IsHeard answer
IsAdmitted _ = ⊥

-- an entry was made in this history (own)
abbrev pub IsAmong : Made → List Happening → Type 0
IsAmong m [] = ⊥
IsAmong m (Making k ∷ past) = (k ≡ m) ⊎ IsAmong m past
IsAmong m (Coming r ∷ past) = IsAmong m past

-- a segment with one TCP-AO option says what an entry says (RFC 5925, section 5.1)
pub record Repeats (m : Made) (n : ℕ) (d : Segment) (ao : Ao) : Type 0 where
  pub number : m.emission.number ≡ n
  pub flags : m.emission.segment.flags ≡ d.flags
  pub acknowledgement : m.emission.segment.acknowledgement ≡ d.acknowledgement
  pub window : m.emission.segment.window ≡ d.window
  pub key_id : m.emission.sending.key_id ≡ ao.key_id
  pub rnext_key_id : m.emission.sending.rnext_key_id ≡ ao.rnext_key_id
  pub payload : m.emission.segment.payload ≡ d.payload

-- the session's partner had made a segment that says what this one says (own)
pub record FromPartner (w : World) (e : End) (s : EndState)
    (n : ℕ) (d : Segment) (ao : Ao) : Type 0 where
  pub session : Session
  pub is_partner : partner w e s ≡ Some session
  pub made : Made
  pub among : IsAmong made w.history
  pub maker : made.maker ≡ other e
  pub isn : made.isn ≡ session.state.isn
  pub repeats : Repeats made n d ao

-- the session's partner had abort called on it (RFC 9293, section 3.10.5)
pub record PartnerAborted (w : World) (e : End) (s : EndState) : Type 0 where
  pub session : Session
  pub is_partner : partner w e s ≡ Some session
  pub aborted : session.state.aborted ≡ true

-- an event of this world is an arrival at the live session of an end (own)
pub record Arrives (setup : Setup) (w : World) (event : Event) (r : Came) : Type 0 where
  pub session : Session
  pub lives : live (side w r.at).sessions ≡ Some session
  pub came : (step setup w event).world.history ≡ Coming r ∷ w.history

-- where no forgery is counted: an arrival without SYN that passes says what the session's partner
-- had said before (RFC 5925, section 5.1)
abbrev pub HasOrigin : Setup → World → Event → Type 0
HasOrigin setup w event =
    forgeries (step setup w event).world.history ≡ 0
    → (r : Came) (a : Arrives setup w event r) (p : Finding) (d : Segment)
    → r.passed ≡ Some p → reading r.bytes ≡ Read d → has SYN d ≡ false
    → (ao : Ao) × (find_ao d.area ≡ One ao) × FromPartner w r.at a.session.state p.number d ao

-- where no forgery is counted: a reset comes only of a partner that had abort called
-- (RFC 9293, section 3.10.5)
abbrev pub ResetsByAbort : Setup → World → Event → Type 0
ResetsByAbort setup w event =
    forgeries (step setup w event).world.history ≡ 0
    → (r : Came) (a : Arrives setup w event r) → r.answer ≡ Reset
    → PartnerAborted w r.at a.session.state
