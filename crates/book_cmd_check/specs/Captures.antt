-- Stored segments, judged one after another by what was heard before (RFC 5925, sections 5.2, 6.2
-- and 7.5, and own). Its top is `capture_run`.
use Rattle.std.specs.Prelude.{ℕ, ◌+◌, ◌-◌, ◌%◌, ◌==◌, max, nat_lt, nat_le, Bool, true, false, not}
use Rattle.std.specs.Prelude.{◌&&◌, ◌||◌, List, [], ◌∷◌, ◌++◌, length, codes, decimal, Option, Some}
use Rattle.std.specs.Prelude.{None, option_map, if◌then◌else◌, Ok, Err}
use Rattle.std.specs.List.{find, list_any, flat_map}
use Rattle.book_base.specs.declared.address.Pair.{Pair}
use Rattle.book_base.specs.declared.address.Socket.{Socket}
use Rattle.book_segments.specs.Bytes.{ring}
use Rattle.book_segments.specs.Faults.{fault_text}
use Rattle.book_segments.specs.Sockets.{same_socket}
use Rattle.book_segments.specs.declared.fault.DatagramFault.{DatagramFault}
use Rattle.book_segments.specs.Segments.{Segment, Reading, Read, Bad, reading, has, SYN, ACK}
use Rattle.book_segments.specs.Segments.{segment_length}
use Rattle.book_keys.specs.Rows.{Row, Table, has_address}
use Rattle.book_endpoint.specs.Verdicts.{Finding, Judgement, Known, judge}
use Rattle.book_link.specs.Reports.{verdict_text}
use Rattle.book_lines.specs.Texts.{numbered_text}
use Rattle.book_cmd_check.specs.declared.checksum.Checksum.{Checksum}
use Rattle.book_cmd_check.specs.DatagramTexts.{checksum_in, checksum_text}
use Rattle.book_segments.specs.Segments.{pair_reached}

-- a datagram that was stored: its number in the input, its time, its bytes (own)
pub record Stored : Type 0 where
  pub number : ℕ
  pub time : ℕ
  pub bytes : List ℕ

-- one side of a connection: its socket, its initial sequence number, and the number expected of
-- it (RFC 5925, section 5.2, and own)
pub record KnownSide : Type 0 where
  pub socket : Socket
  pub isn : ℕ
  pub expected : ℕ

-- a connection whose two initial sequence numbers are known (RFC 5925, section 5.2)
pub record Connection : Type 0 where
  pub one : KnownSide
  pub two : KnownSide

-- what is said of a stored segment, and whether its TCP checksum is right (own)
pub data Saying : Type 0 where
  Unreadable : (fault : DatagramFault) → Saying
  UnknownNode : Saying
  Judged : (judgement : Judgement) (checksum : Checksum) → Saying
  TooManyConnections : (checksum : Checksum) → Saying

-- the connections after a segment, and what is said of it (own)
pub record Heard : Type 0 where
  pub connections : List Connection
  pub saying : Saying

-- the connection is between these two sockets, in either order (own)
abbrev pub joins : (one other : Socket) → Connection → Bool
joins a b c =
    (same_socket c.one.socket a && same_socket c.two.socket b)
    || (same_socket c.one.socket b && same_socket c.two.socket a)

-- the connection seen from its side with this socket, which comes first (own)
abbrev pub seen_from : Socket → Connection → Connection
seen_from socket c =
    if same_socket c.one.socket socket then c else record { one = c.two; two = c.one }

-- the connection of a segment, seen from its source (own)
abbrev pub connection_between : Segment → List Connection → Option Connection
connection_between d held =
    option_map (seen_from d.source) (find (joins d.source d.destination) held)

-- the connections with this one in the place of the one between its sockets, or behind the others
-- (own)
abbrev pub with_connection : Connection → List Connection → List Connection
with_connection c [] = c ∷ []
with_connection c (k ∷ ks) =
    if joins c.one.socket c.two.socket k then c ∷ ks else k ∷ with_connection c ks

-- the connection, where this number is expected of its first side (own)
abbrev pub expecting : ℕ → Connection → Connection
expecting n c = record c { one = record (c.one) { expected = n } }

-- the initial sequence number that a SYN with ACK acknowledges (RFC 9293, section 3.5)
abbrev pub acknowledged_isn : Segment → ℕ
acknowledged_isn d = (d.acknowledgement + (ring - 1)) % ring

-- the verdict on a segment without SYN, by what is known of its connection (RFC 5925, section
-- 7.5, and own)
abbrev pub judge_later : List Row → Pair → ℕ → Segment → Option Connection → Judgement
judge_later rows pair now d None =
    judge rows pair (record { own_isn = 0; peer_isn = None; expected = None }) now d
judge_later rows pair now d (Some c) =
    let known : Known = record {
      own_isn = c.two.isn;
      peer_isn = Some c.one.isn;
      expected = Some c.one.expected;
    } in
    judge rows pair known now d

-- the verdict on a segment; a SYN tells its own initial sequence number, and with ACK the other
-- one (RFC 5925, section 5.2)
abbrev pub judge_stored : List Row → Pair → ℕ → Segment → Option Connection → Judgement
judge_stored rows pair now d held =
    let opening : Known =
    record { own_isn = acknowledged_isn d; peer_isn = None; expected = None } in
    if has SYN d then judge rows pair opening now d else judge_later rows pair now d held

-- the connection that a SYN with ACK fixes (RFC 9293, section 3.5)
abbrev pub fixed : Segment → Connection
fixed d = record {
  one = record { socket = d.source; isn = d.sequence; expected = d.sequence + 1 };
  two = record {
    socket = d.destination;
    isn = acknowledged_isn d;
    expected = acknowledged_isn d + 1;
  };
}

-- a connection has these initial sequence numbers already (own)
abbrev pub same_isns : (one other : Connection) → Bool
same_isns c k = (c.one.isn == k.one.isn) && (c.two.isn == k.two.isn)

-- the most connections that are held (own)
abbrev pub most_connections : ℕ
most_connections = 65536

-- a SYN with ACK passed: it fixes both initial sequence numbers, unless they are fixed already,
-- or too many connections are held (own)
abbrev pub hear_syn_ack : List Connection → Segment → Judgement → Option Connection → Heard
hear_syn_ack held d j (Some c) = record {
  connections = if same_isns c (fixed d) then held else with_connection (fixed d) held;
  saying = Judged j (checksum_in d);
}
hear_syn_ack held d j None =
    if nat_le most_connections (length held)
    then record { connections = held; saying = TooManyConnections (checksum_in d) }
    else record { connections = with_connection (fixed d) held; saying = Judged j (checksum_in d) }

-- a segment without SYN passed at number n: what is expected of its side is at least the number
-- behind it (own)
abbrev pub hear_later : List Connection → Segment → ℕ → Judgement → Option Connection → Heard
hear_later held d n j None = record { connections = held; saying = Judged j (checksum_in d) }
hear_later held d n j (Some c) =
    let side = record (c.one) { expected = max c.one.expected (n + segment_length d) } in
    record {
      connections = with_connection (record c { one = side }) held;
      saying = Judged j (checksum_in d);
    }

-- what is said of a segment with its verdict, and the connections after it; a SYN alone fixes
-- nothing (own)
abbrev pub hear_judged : List Connection → Segment → Option Connection → Judgement → Heard
hear_judged held d known (Err why) =
    record { connections = held; saying = Judged (Err why) (checksum_in d) }
hear_judged held d known (Ok p) =
    if not (has SYN d) then hear_later held d p.number (Ok p) known
    else if has ACK d then hear_syn_ack held d (Ok p) known
    else record { connections = held; saying = Judged (Ok p) (checksum_in d) }

-- a segment, judged by the table of its destination; no node has it, or both sockets are one (own)
abbrev pub hear_at : Option Table → List Connection → ℕ → Segment → Heard
hear_at None held now d = record { connections = held; saying = UnknownNode }
hear_at (Some t) held now d =
    if same_socket d.source d.destination then record { connections = held; saying = UnknownNode }
    else let known = connection_between d held in
    hear_judged held d known (judge_stored t.rows (pair_reached d) now d known)

-- what is said of a stored datagram, and the connections after it (own)
abbrev pub hear_read : List Table → List Connection → ℕ → Reading → Heard
hear_read tables held now (Bad fault) = record { connections = held; saying = Unreadable fault }
hear_read tables held now (Read d) =
    hear_at (find (has_address d.destination.address) tables) held now d

-- what is said of the bytes that were stored at a time, and the connections after them (own)
unfoldable pub hear : List Table → List Connection → ℕ → List ℕ → Heard
hear tables held time bytes = hear_read tables held time (reading bytes)

-- what is said of each of the stored datagrams, one after another (own)
abbrev pub sayings_from : List Table → List Connection → List Stored → List Saying
sayings_from tables held [] = []
sayings_from tables held (s ∷ rest) =
    let h = hear tables held s.time s.bytes in
    h.saying ∷ sayings_from tables h.connections rest

-- the words for what is said of a segment (own)
abbrev pub saying_texts : Saying → List (List ℕ)
saying_texts (Unreadable fault) = codes "bad" ∷ fault_text fault ∷ []
saying_texts UnknownNode = codes "unknown-node" ∷ []
saying_texts (Judged (Ok p) checksum) =
    codes "pass" ∷ codes "row" ∷ decimal p.row ∷ codes "number" ∷ decimal p.number
    ∷ codes "checksum" ∷ checksum_text checksum ∷ []
saying_texts (Judged (Err why) checksum) =
    codes "refused" ∷ verdict_text why ∷ codes "checksum" ∷ checksum_text checksum ∷ []
saying_texts (TooManyConnections checksum) =
    codes "full" ∷ codes "checksum" ∷ checksum_text checksum ∷ []

-- what is said is a pass, whatever the checksum (own)
abbrev pub is_pass : Saying → Bool
is_pass (Judged (Ok p) checksum) = true
is_pass _ = false

-- the lines of stored datagrams with what is said of them (own)
abbrev pub lines_of_sayings : List Stored → List Saying → List ℕ
lines_of_sayings [] sayings = []
lines_of_sayings (s ∷ rest) [] = []
lines_of_sayings (s ∷ rest) (w ∷ ws) =
    numbered_text s.number (saying_texts w) ++ lines_of_sayings rest ws

-- the lines of stored datagrams, judged by the tables (own)
unfoldable pub capture_run : List Table → List Stored → List ℕ
capture_run tables stored = lines_of_sayings stored (sayings_from tables [] stored)

-- some stored datagram isn't a pass (own)
abbrev pub has_refusal : List Table → List Stored → Bool
has_refusal tables stored = list_any (λ w. not (is_pass w)) (sayings_from tables [] stored)
