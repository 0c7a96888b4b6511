-- The initial sequence numbers that other connections on the sockets of a segment had. Its top is
-- `other_isns`.
use Rattle.std.specs.Prelude.{◌≡◌, ℕ, ◌+◌, ◌-◌, ◌%◌, ◌==◌, ◌&&◌, ◌||◌, not}
use Rattle.std.specs.Prelude.{Bool, false, List, [], ◌∷◌, ◌++◌, Contains, Option, Some, None}
use Rattle.std.specs.Prelude.{if◌then◌else◌}
use Rattle.std.specs.List.{flat_map, list_any}
use Rattle.book_segments.specs.Bytes.{ring}
use Rattle.book_segments.specs.Segments.{Segment, Reading, Read, Bad, reading, has, SYN, ACK}
use Rattle.book_segments.specs.Sockets.{same_socket}
use Rattle.book_cmd_check.specs.declared.given.GivenIsns.{GivenIsns}
use Rattle.book_cmd_check.specs.Captures.{Stored, acknowledged_isn}
use Rattle.book_why.specs.declared.change.IsnPair.{IsnPair}
use Rattle.book_why.specs.Sights.{isns_of_syn}

-- what a SYN tells of initial sequence numbers: with ACK both, without it its own, and a 0 in place
-- of the other one (RFC 9293, section 3.5)
abbrev pub numbers_of_syn : Segment → GivenIsns
numbers_of_syn d = record {
  one = d.source;
  one_isn = (isns_of_syn d).source_isn;
  other = d.destination;
  other_isn = (isns_of_syn d).destination_isn;
}

-- what stored bytes tell of initial sequence numbers: a SYN alone does (RFC 9293, section 3.5)
abbrev pub told_by_reading : Reading → List GivenIsns
told_by_reading (Bad fault) = []
told_by_reading (Read d) = if has SYN d then numbers_of_syn d ∷ [] else []

-- the initial sequence numbers of connections, as stored segments tell them, whether they pass or
-- not (own)
abbrev pub told_by_stored : List Stored → List GivenIsns
told_by_stored stored = flat_map (λ s. told_by_reading (reading s.bytes)) stored

-- the initial sequence numbers of a connection, seen from the source of a segment, where it is
-- between the segment's sockets (RFC 5925, section 5.2)
abbrev pub isns_seen_from : Segment → GivenIsns → Option IsnPair
isns_seen_from d g =
    if same_socket g.one d.source && same_socket g.other d.destination
    then Some (record { source_isn = g.one_isn; destination_isn = g.other_isn })
    else if same_socket g.one d.destination && same_socket g.other d.source
    then Some (record { source_isn = g.other_isn; destination_isn = g.one_isn })
    else None

-- the initial sequence number of a SYN's destination, as the first segments behind the SYN tell it:
-- the number in front of the one that the SYN's source acknowledges, or of the destination's own
-- (RFC 9293, section 3.5)
abbrev pub destination_isn_by : Segment → GivenIsns → ℕ
destination_isn_by d g =
    if same_socket g.one d.source then acknowledged_isn d else (d.sequence + (ring - 1)) % ring

-- a segment itself may tell the number that a SYN couldn't: it acknowledges, and is no SYN (own)
abbrev pub may_tell : Segment → GivenIsns → Bool
may_tell d g = (g.other_isn == 0) && (has ACK d && not (has SYN d))

-- what is told of a connection, with the number of the destination that a segment tells (own)
abbrev pub with_destination : Segment → GivenIsns → GivenIsns
with_destination d g = record g { other_isn = destination_isn_by d g }

-- what is told of a connection, and also with the number that the segment in question tells (own)
abbrev pub told_at : Segment → GivenIsns → List GivenIsns
told_at d g = if may_tell d g then g ∷ with_destination d g ∷ [] else g ∷ []

-- all that is told, at the segment in question (own)
abbrev pub all_told_at : Segment → List GivenIsns → List GivenIsns
all_told_at d told = flat_map (told_at d) told

-- two pairs of initial sequence numbers are the same (own)
abbrev pub same_isn_pair : (one other : IsnPair) → Bool
same_isn_pair p q =
    (p.source_isn == q.source_isn) && (p.destination_isn == q.destination_isn)

-- these are the initial sequence numbers of the segment's own connection, where they are known, or
-- those of its SYN, under which another change has it: `NoDestinationIsn` (own)
abbrev pub are_own : (own : Option IsnPair) → IsnPair → Bool
are_own None p = false
are_own (Some own) p =
    same_isn_pair own p || same_isn_pair (record own { destination_isn = 0 }) p

-- pairs with one more, where it is another connection's, and isn't among them (own)
abbrev pub with_isn_pair : (own : Option IsnPair) → List IsnPair → Option IsnPair → List IsnPair
with_isn_pair own pairs None = pairs
with_isn_pair own pairs (Some p) =
    if are_own own p || list_any (same_isn_pair p) pairs then pairs else pairs ++ p ∷ []

-- pairs with those of more connections on the sockets of a segment (own)
abbrev pub with_isn_pairs :
    Segment → (own : Option IsnPair) → List IsnPair → List GivenIsns → List IsnPair
with_isn_pairs d own pairs [] = pairs
with_isn_pairs d own pairs (g ∷ gs) =
    with_isn_pairs d own (with_isn_pair own pairs (isns_seen_from d g)) gs

-- the initial sequence numbers of other connections on the sockets of a segment: of those that are
-- told, each pair once, but for those of its own connection (own)
unfoldable pub other_isns : Segment → (own : Option IsnPair) → List GivenIsns → List IsnPair
other_isns d own told = with_isn_pairs d own [] (all_told_at d told)

-- some of what is told at a segment are these initial sequence numbers, seen from its source, and
-- they aren't those of its own connection (own)
pub record TellsIsns (d : Segment) (own : Option IsnPair) (told : List GivenIsns)
    (isns : IsnPair) : Type 0 where
  pub teller : GivenIsns
  pub among : Contains (all_told_at d told) teller
  pub seen : isns_seen_from d teller ≡ Some isns
  pub another : are_own own isns ≡ false
