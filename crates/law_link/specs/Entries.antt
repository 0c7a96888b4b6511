-- What every made entry is.
use Rattle.std.specs.Prelude.{◌≡◌, ℕ, ◌+◌, ◌%◌, ◌<◌, ◌≤◌, ◌^◌, true, false, List, [], ◌∷◌, length}
use Rattle.std.specs.Prelude.{slice_index_or, Option, Some, None, ⊤}
use Rattle.book_segments.specs.Options.{Ao, One, find_ao}
use Rattle.book_segments.specs.Bytes.{ring}
use Rattle.book_segments.specs.Segments.{Segment, spell, has, segment_length, FIN, RST, ACK}
use Rattle.book_segments.specs.Spelling.{Fits, Good, finished}
use Rattle.book_macs.specs.Contexts.{context_of}
use Rattle.book_macs.specs.MacInput.{mac_input}
use Rattle.book_macs.specs.Keys.{traffic_key, mac}
use Rattle.book_keys.specs.Rows.{Row, sendable}
use Rattle.book_endpoint.specs.States.{EndState, given_end}
use Rattle.book_endpoint.specs.Emissions.{Draft, slice_at, written}
use Rattle.book_link.specs.Worlds.{Setup, pair_of, Session, Made, Happening, Making, Coming}
use Rattle.book_link.specs.Worlds.{World, side, find}

-- a row stands in a table (own)
abbrev pub StandsIn : List Row → Row → Type 0
StandsIn rows r = (k : ℕ) × (k < length rows) × ((d : Row) → slice_index_or rows k d ≡ r)

-- the acknowledgement of a segment is this number around the ring, or there is none
-- (RFC 9293, section 3.1)
abbrev pub AcknowledgesAs : Option ℕ → Segment → Type 0
AcknowledgesAs None d = (has ACK d ≡ false) × (d.acknowledgement ≡ 0)
AcknowledgesAs (Some a) d = (has ACK d ≡ true) × (d.acknowledgement ≡ a % ring)

-- a row of the maker's table then, which was sendable at the entry's reading, and whose SendID is
-- the entry's KeyID (RFC 5925, section 7.4)
pub record FromRow (setup : Setup) (m : Made) : Type 0 where
  pub stands : StandsIn m.rows m.emission.sending.row
  pub may : sendable (pair_of setup m.maker) m.clock m.emission.sending.row ≡ true
  pub key_id : m.emission.sending.key_id ≡ m.emission.sending.row.send_id

-- the segment is in the written form of some draft under the entry's row (own), and its flags and
-- acknowledgement are the entry's (RFC 9293, section 3.1)
pub record Written (setup : Setup) (m : Made) : Type 0 where
  pub state : EndState
  pub draft : Draft
  pub mac : List ℕ
  pub form : m.emission.segment
      ≡ finished (written (pair_of setup m.maker) state draft m.emission.sending mac)
  pub flags : m.emission.flags ≡ m.emission.segment.flags
  pub acknowledged : AcknowledgesAs m.emission.acknowledged m.emission.segment

-- the segment has a right checksum, and the MAC of the row's algorithm and key under the
-- session's context, over the input with the row's flag (RFC 5925, sections 5.1 and 7.4)
pub record Protected (m : Made) (session : Session) : Type 0 where
  pub fits : Fits m.emission.segment
  pub good : Good m.emission.segment
  pub bytes : m.bytes ≡ spell m.emission.segment
  pub context : context_of m.emission.segment (Some session.state.isn) session.state.peer_isn
      ≡ Some m.emission.context
  pub ao : Ao
  pub option : find_ao m.emission.segment.area ≡ One ao
  pub key_id : ao.key_id ≡ m.emission.sending.key_id
  pub rnext_key_id : ao.rnext_key_id ≡ m.emission.sending.rnext_key_id
  pub input : m.emission.input
      ≡ mac_input m.emission.number m.emission.segment ao m.emission.sending.row.with_options
  pub mac : ao.mac
      ≡ mac m.emission.sending.row.algorithm
      (traffic_key m.emission.sending.row.algorithm m.emission.sending.row.master
      m.emission.context)
      m.emission.input

-- the segment's place in the stream (RFC 9293, section 3.4): a number that ends at 2^63 at most,
-- the bytes given there; a FIN only after close, behind all given bytes; a RST only after abort;
-- what is acknowledged is at most what is expected
pub record Placed (m : Made) (session : Session) : Type 0 where
  pub sequence : m.emission.segment.sequence ≡ m.emission.number % 2 ^ 32
  pub number : m.emission.number + segment_length m.emission.segment ≤ 2 ^ 63
  pub payload : m.emission.segment.payload
      ≡ slice_at session.state m.emission.number (length m.emission.segment.payload)
  pub fin : has FIN m.emission.segment ≡ true
      → (session.state.closing ≡ true) × (m.emission.segment.payload ≡ [])
      × (m.emission.number ≡ given_end session.state)
  pub rst : has RST m.emission.segment ≡ true → session.state.aborted ≡ true
  pub heard : (a : ℕ) → m.emission.acknowledged ≡ Some a → a ≤ session.state.expected

-- as made: one of the maker's sessions made the entry so (own)
pub record AsMade (setup : Setup) (w : World) (m : Made) : Type 0 where
  pub session : Session
  pub found : find (side w m.maker).sessions m.isn ≡ Some session
  pub row : FromRow setup m
  pub written : Written setup m
  pub wire : Protected m session
  pub place : Placed m session

-- all segments that were made are so (own)
abbrev pub AllMade : (Made → Type 0) → List Happening → Type 0
AllMade P [] = ⊤
AllMade P (Making m ∷ past) = P m × AllMade P past
AllMade P (Coming r ∷ past) = AllMade P past

-- the segment carries, at its number, the bytes that were given to its session at that place, and
-- its datagram is the spelling of that segment (RFC 9293, section 3.4)
pub record Carried (w : World) (m : Made) : Type 0 where
  pub session : Session
  pub found : find (side w m.maker).sessions m.isn ≡ Some session
  pub sequence : m.emission.segment.sequence ≡ m.emission.number % 2 ^ 32
  pub payload : m.emission.segment.payload
      ≡ slice_at session.state m.emission.number (length m.emission.segment.payload)
  pub bytes : m.bytes ≡ spell m.emission.segment
