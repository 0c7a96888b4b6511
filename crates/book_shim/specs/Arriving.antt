-- What becomes of a datagram from the peer. The file's tops: `take_in` and `inbound`.
use Rattle.std.specs.Prelude.{ℕ, ◌+◌, ◌&&◌, ◌||◌, Bool, true, not, max, nat_lt, if◌then◌else◌, List}
use Rattle.std.specs.Prelude.{Option, Some, None, is_some, Result, Ok, Err}
use Rattle.book_base.specs.declared.address.Pair.{Pair}
use Rattle.book_base.specs.Results.{◌>>=◌}
use Rattle.book_segments.specs.Segments.{Segment, Reading, Bad as Unread, Read, reading, has, good}
use Rattle.book_segments.specs.Segments.{SYN, ACK, RST, segment_length}
use Rattle.book_keys.specs.Coordination.{follow}
use Rattle.book_endpoint.specs.declared.refusal.Refusal.TheVariants.{NoContext}
use Rattle.book_endpoint.specs.Verdicts.{Finding, Judgement, Known, judge}
use Rattle.book_endpoint.specs.Arrivals.{from_peer}
use Rattle.book_shim.specs.declared.refusal.Untaken.{Untaken}
use Rattle.book_shim.specs.declared.refusal.Untaken.TheVariants.{Bad, Foreign, Unkeyed, Checksum}
use Rattle.book_shim.specs.declared.refusal.Untaken.TheVariants.{Refused}
use Rattle.book_shim.specs.declared.kept.Isns.{Isns}
use Rattle.book_shim.specs.declared.kept.Kept.{Kept}
use Rattle.book_shim.specs.Keeping.{Setting, own_isn, is_the_number, are_isns, is_opening_syn}
use Rattle.book_shim.specs.Keeping.{answered_isn, connection_begun, demand, is_keyed}
use Rattle.book_shim.specs.Relaying.{coming_area, most_mss, relaid}

-- what is handed to the own kernel in place of a datagram from the peer, and what is kept (own)
pub record Opened : Type 0 where
  pub kept : Kept
  pub passed : Finding  -- what the check found
  pub segment : Segment

-- the SYN with ACK answers an own SYN: one out, one given up, or that of the connection (own)
abbrev pub is_awaited : Kept → Segment → Bool
is_awaited g d =
    is_the_number g.opening (answered_isn d)
    || (is_the_number g.given_up (answered_isn d) || is_the_number (own_isn g) (answered_isn d))

-- what is known for a segment without SYN: the connection's numbers (RFC 5925, section 5.2)
abbrev pub known_in : Option Isns → (heard : ℕ) → Known
known_in None heard = record { own_isn = 0; peer_isn = None; expected = None }
known_in (Some c) heard = record { own_isn = c.own; peer_isn = Some c.peer; expected = Some heard }

-- what is known for a segment: with SYN the number that it answers (RFC 5925, section 5.2)
abbrev pub known_for : Kept → Segment → Known
known_for g d =
    if has SYN d then record { own_isn = answered_isn d; peer_isn = None; expected = None }
    else known_in g.isns g.heard

-- the verdict on a segment; a SYN with ACK must be awaited (RFC 5925, section 7.5, and own)
unfoldable pub judged_arrival : Setting → Pair → Kept → Segment → Judgement
judged_arrival here pair g d =
    if has SYN d && has ACK d && not (is_awaited g d) then Err NoContext
    else judge here.rows pair (known_for g d) here.now d

-- the verdict as an answer about a datagram (own)
abbrev pub as_taken : Judgement → Result Finding Untaken
as_taken (Ok p) = Ok p
as_taken (Err why) = Err (Refused why)

-- the peer answered the connection's SYN anew: that counts while nothing but SYNs passed (own)
abbrev pub answered_anew : Kept → (own peer : ℕ) → Kept
answered_anew g own peer =
    if are_isns g.isns own peer || g.settled then g
    else record g { isns = Some (record { own = own; peer = peer }); heard = peer + 1 }

-- a SYN with ACK passed: the connection begins whose SYN is out, or it is late, or anew (own)
abbrev pub joined : Kept → (own peer : ℕ) → Kept
joined g own peer =
    if is_the_number g.opening own then connection_begun g own peer
    else if is_the_number g.given_up own
    then record g { late = Some (record { own = own; peer = peer }) } else answered_anew g own peer

-- what is kept once a segment passed: a SYN without ACK may be a replay, and changes nothing (own)
abbrev pub admitted : Kept → Segment → Kept
admitted g d = if has SYN d && has ACK d then joined g (answered_isn d) d.sequence else g

-- the segment is of the connection in use: a SYN with ACK has its two numbers (own)
abbrev pub is_of_connection : Kept → Segment → Bool
is_of_connection g d =
    if has SYN d then has ACK d && are_isns g.isns (answered_isn d) d.sequence else true

-- the greatest number moves by what is of the connection in use (own)
abbrev pub past_heard : Kept → Segment → ℕ → Kept
past_heard g d n =
    if is_of_connection g d then record g {
      heard = max g.heard (n + segment_length d);
      settled = g.settled || not (has SYN d);
    } else g

-- it may be a replay: a SYN beside a connection, a SYN with ACK of another, an old segment (own)
abbrev pub may_be_replayed : Kept → Segment → (number : ℕ) → Bool
may_be_replayed g d n =
    if is_opening_syn d then is_some g.isns || is_some g.opening
    else not (is_of_connection (admitted g d) d)
    || nat_lt (n + segment_length d) (admitted g d).heard

-- the RNextKeyID that is followed: not a RST's, nor a possible replay's (RFC 5925, section 7.5)
abbrev pub asked_id : Kept → Segment → Finding → Option ℕ
asked_id g d p =
    if has RST d || may_be_replayed g d p.number then None else Some p.rnext_key_id

-- the current row once this key identifier is asked for, if one is (RFC 5925, section 7.5)
abbrev pub row_asked : Setting → Pair → (current asked : Option ℕ) → Option ℕ
row_asked here pair current None = current
row_asked here pair current (Some id) = follow current here.rows pair id here.now

-- what is handed on of a segment that passed, and what is kept then (own)
abbrev pub handed_on : Setting → Pair → Kept → Segment → Finding → Opened
handed_on here pair g d p = record {
  kept = record (past_heard (admitted g d) d p.number) {
    current = row_asked here pair g.current (asked_id g d p);
  };
  passed = p;
  segment = relaid d (coming_area (most_mss here.mtu d) d.area);
}

-- what is handed to the own kernel, or the first refusal that holds (RFC 5925, section 7.5)
unfoldable pub take_in : Setting → Pair → Kept → Segment → Result Opened Untaken
take_in here pair g d = do
  keyed ← demand (is_keyed here.rows pair) Unkeyed
  right ← demand (good d) Checksum
  p ← as_taken (judged_arrival here pair g d)
  Ok (handed_on here pair g d p)

-- what is handed to the own kernel in place of what was read (own)
abbrev pub take_read : Setting → Pair → Kept → Reading → Result Opened Untaken
take_read here pair g (Unread fault) = Err (Bad fault)
take_read here pair g (Read d) = if from_peer pair d then take_in here pair g d else Err Foreign

-- what is handed to the own kernel in place of bytes that came (own)
abbrev pub inbound : Setting → Pair → Kept → List ℕ → Result Opened Untaken
inbound here pair g bytes = take_read here pair g (reading bytes)
