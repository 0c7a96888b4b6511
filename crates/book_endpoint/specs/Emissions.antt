-- The segments that an end makes (RFC 9293, section 3.10; RFC 5925, section 7.4). Its top: `emit`
-- and `resend`.
use Rattle.std.specs.Prelude.{ℕ, ◌+◌, ◌-◌, ◌/◌, ◌%◌, ◌==◌, min, nat_lt, Bool, true, false, not}
use Rattle.std.specs.Prelude.{◌&&◌, List, [], ◌∷◌, ◌++◌, length, take, drop, replicate, Option}
use Rattle.std.specs.Prelude.{Some, None, if◌then◌else◌}
use Rattle.book_base.specs.declared.address.Address.{Address}
use Rattle.book_base.specs.declared.address.Address.TheVariants.{V4, V6}
use Rattle.book_base.specs.declared.address.Pair.{Pair}
use Rattle.book_base.specs.Algorithms.{mac_length_of}
use Rattle.book_segments.specs.Bytes.{put2, ring}
use Rattle.book_segments.specs.Sockets.{octets}
use Rattle.book_segments.specs.Options.{Ao, ao_kind, ao_head_length, mss_kind}
use Rattle.book_segments.specs.Segments.{IpHeader, Ipv4, Ipv6, Segment, complement_of, FIN, SYN}
use Rattle.book_segments.specs.Segments.{RST, PSH, ACK, ipv4_header_length, tcp_header_length}
use Rattle.book_segments.specs.Spelling.{finished}
use Rattle.book_macs.specs.Contexts.{context_of}
use Rattle.book_macs.specs.MacInput.{mac_input}
use Rattle.book_macs.specs.Keys.{traffic_key, mac}
use Rattle.book_keys.specs.Rows.{Row}
use Rattle.book_keys.specs.Coordination.{Sending, choose}
use Rattle.book_endpoint.specs.declared.phase.Phase.{Phase}
use Rattle.book_endpoint.specs.declared.phase.Phase.TheVariants.{Listen, SynSent, SynReceived}
use Rattle.book_endpoint.specs.declared.phase.Phase.TheVariants.{Established, FinWait1, CloseWait}
use Rattle.book_endpoint.specs.declared.phase.Phase.TheVariants.{Closing, LastAck, Closed}
use Rattle.book_endpoint.specs.States.{EndState, window, greatest_window, own_mss, given_end}

-- A segment that an end is about to make, and the state after it (own).
pub record Draft : Type 0 where
  pub flags : ℕ
  pub number : ℕ
  pub payload : List ℕ
  pub state : EndState

-- A segment that an end made, with what it was made by and the state after it (own).
pub record Emission : Type 0 where
  pub state : EndState
  pub flags : ℕ
  pub number : ℕ  -- the number of its first byte, of which it carries the sequence
  pub acknowledged : Option ℕ  -- the number that it acknowledges, with ACK
  pub sending : Sending  -- the row under whose key it is, and its two key identifiers
  pub context : List ℕ  -- the context of its traffic key
  pub input : List ℕ  -- what its MAC is computed over
  pub segment : Segment

-- Nothing is to be sent, no row is there to send it with, or a segment (own).
pub data Emitted : Type 0 where
  Quiet : Emitted
  NoKey : Emitted
  Emits : (emission : Emission) → Emitted

-- What may be due to be sent (RFC 9293, section 3.10).
pub data Due : Type 0 where
  Rst : Due
  Syn : Due
  SynAck : Due
  Data : Due
  Fin : Due
  Ack : Due

-- The phases in which data is sent (RFC 9293, section 3.10.2).
abbrev pub is_sending : Phase → Bool
is_sending Established = true
is_sending CloseWait = true
is_sending _ = false

-- The phases in which no ACK is sent (RFC 9293, section 3.3.2).
abbrev pub is_silent : Phase → Bool
is_silent Listen = true
is_silent SynSent = true
is_silent Closed = true
is_silent _ = false

-- The phase is SYN-SENT (RFC 9293, section 3.3.2).
abbrev pub is_syn_sent : Phase → Bool
is_syn_sent SynSent = true
is_syn_sent _ = false

-- The phase is SYN-RECEIVED (RFC 9293, section 3.3.2).
abbrev pub is_syn_received : Phase → Bool
is_syn_received SynReceived = true
is_syn_received _ = false

-- How many given bytes are not sent: those from SND.NXT on (own).
abbrev pub unsent : EndState → ℕ
unsent s = given_end s - s.next

-- So many of the given bytes from a number on (own).
abbrev pub slice_at : EndState → (number count : ℕ) → List ℕ
slice_at s n count = take count (drop (n - (s.isn + 1)) s.given)

-- The phase once the own FIN is sent (RFC 9293, section 3.10.4).
abbrev pub fin_sent : Phase → Phase
fin_sent Established = FinWait1
fin_sent CloseWait = LastAck
fin_sent phase = phase

-- The draft of a segment (own).
abbrev pub drafted : (flags number : ℕ) → List ℕ → EndState → Draft
drafted flags number payload state = record {
  flags = flags;
  number = number;
  payload = payload;
  state = state;
}

-- A RST at SND.NXT (RFC 9293, section 3.10.5).
abbrev pub rst_draft : EndState → Draft
rst_draft s = drafted RST s.next [] (record s { rst_owed = false })

-- The SYN at ISS, with the state after it (RFC 9293, section 3.10.1).
abbrev pub syn_draft : (before after : EndState) → Draft
syn_draft s after = drafted SYN s.isn [] after

-- The SYN with ACK at ISS, with the state after it (RFC 9293, section 3.10.7.2).
abbrev pub syn_ack_draft : (before after : EndState) → Draft
syn_ack_draft s after = drafted (SYN + ACK) s.isn [] (record after { ack_owed = false })

-- ACK and PSH with so many of the unsent bytes, which SND.NXT then is past (RFC 9293, section
-- 3.10.2).
abbrev pub data_draft : EndState → ℕ → Draft
data_draft s count =
    drafted (PSH + ACK) s.next (slice_at s s.next count)
    (record s { next = s.next + count; ack_owed = false })

-- ACK and PSH with so many of the bytes from SND.UNA on, again (RFC 9293, section 3.10.8).
abbrev pub again_draft : EndState → ℕ → Draft
again_draft s count =
    drafted (PSH + ACK) s.una (slice_at s s.una count) (record s { ack_owed = false })

-- The FIN at SND.NXT, which then is past it (RFC 9293, section 3.10.4).
abbrev pub fin_draft : EndState → Draft
fin_draft s =
    drafted (FIN + ACK) s.next []
    (record s { next = s.next + 1; ack_owed = false; phase = fin_sent s.phase })

-- The FIN at SND.UNA, again (RFC 9293, section 3.10.8).
abbrev pub fin_again_draft : EndState → Draft
fin_again_draft s = drafted (FIN + ACK) s.una [] (record s { ack_owed = false })

-- An ACK at SND.NXT (RFC 9293, section 3.10.7.4).
abbrev pub ack_draft : EndState → Draft
ack_draft s = drafted ACK s.next [] (record s { ack_owed = false })

-- The first number that the peer's window doesn't hold: SND.UNA + SND.WND (RFC 9293, section
-- 3.8.6).
abbrev pub window_end : EndState → ℕ
window_end s = s.una + s.send_window

-- Data is to be sent where bytes are unsent and the peer's window holds the next of them (RFC 9293,
-- section 3.10.2).
abbrev pub sends_data : EndState → Bool
sends_data s = is_sending s.phase && nat_lt 0 (unsent s) && nat_lt s.next (window_end s)

-- The FIN is to be sent where close was called, all bytes are sent, and the peer's window holds it
-- (RFC 9293, section 3.10.4).
abbrev pub sends_fin : EndState → Bool
sends_fin s =
    is_sending s.phase && s.closing && (unsent s == 0) && nat_lt s.next (window_end s)

-- As many of the unsent bytes as the peer's window holds, at most so many (RFC 9293, section
-- 3.8.6).
abbrev pub fitting : EndState → ℕ → ℕ
fitting s most = min (unsent s) (min (window_end s - s.next) most)

-- What is due to be sent next, the first of these: RST, SYN, SYN with ACK, data, FIN, ACK (RFC
-- 9293, section 3.10; the order: own).
unfoldable pub due_next : EndState → Option Due
due_next s =
    if s.rst_owed then Some Rst
    else (if is_syn_sent s.phase && (s.next == s.isn) then Some Syn
    else (if is_syn_received s.phase && (s.next == s.isn) then Some SynAck
    else (if sends_data s then Some Data
    else (if sends_fin s then Some Fin
    else (if s.ack_owed && not (is_silent s.phase) then Some Ack
    else None)))))

-- The draft of what is due next, its data of at most so many bytes (RFC 9293, section 3.10).
abbrev pub draft_next : EndState → Due → ℕ → Draft
draft_next s Rst most = rst_draft s
draft_next s Syn most = syn_draft s (record s { next = s.isn + 1 })
draft_next s SynAck most = syn_ack_draft s (record s { next = s.isn + 1 })
draft_next s Data most = data_draft s (fitting s most)
draft_next s Fin most = fin_draft s
draft_next s Ack most = ack_draft s

-- The phases in which data and FIN may be sent again (RFC 9293, section 3.10.8).
abbrev pub resends : Phase → Bool
resends Established = true
resends CloseWait = true
resends FinWait1 = true
resends Closing = true
resends LastAck = true
resends _ = false

-- All that was sent is acknowledged, and the peer's window is zero (RFC 9293, section 3.8.6.1).
abbrev pub is_blocked : EndState → Bool
is_blocked s = is_sending s.phase && (s.una == s.next) && (s.send_window == 0)

-- What a window of zero is probed with: data, or the FIN (RFC 9293, section 3.8.6.1).
abbrev pub due_probe : EndState → Option Due
due_probe s =
    if nat_lt 0 (unsent s) then Some Data
    else (if s.closing then Some Fin else None)

-- What is due to be sent again, the first of these: the SYN, the SYN with ACK, what isn't
-- acknowledged, a probe of a window of zero (RFC 9293, sections 3.10.8 and 3.8.6.1).
unfoldable pub due_again : EndState → Option Due
due_again s =
    if is_syn_sent s.phase && nat_lt s.isn s.next then Some Syn
    else (if is_syn_received s.phase && nat_lt s.isn s.next then Some SynAck
    else (if resends s.phase && nat_lt s.una s.next
    then Some (if nat_lt s.una (given_end s) then Data else Fin)
    else (if is_blocked s then due_probe s
    else None)))

-- The draft of what is due again: what isn't acknowledged from SND.UNA on, its data of at most so
-- many bytes, or else a probe, its data of one byte; neither RST nor ACK is ever due again (RFC
-- 9293, sections 3.10.8 and 3.8.6.1).
abbrev pub draft_again : EndState → Due → ℕ → Draft
draft_again s Syn most = syn_draft s s
draft_again s SynAck most = syn_ack_draft s s
draft_again s Data most =
    if nat_lt s.una s.next then again_draft s (min (s.next - s.una) most) else data_draft s 1
draft_again s Fin most = if nat_lt s.una s.next then fin_again_draft s else fin_draft s
draft_again s Rst most = draft_next s Rst most
draft_again s Ack most = draft_next s Ack most

-- The flag is among these (RFC 9293, section 3.1).
abbrev pub sets : (flags flag : ℕ) → Bool
sets flags flag = (flags / flag) % 2 == 1

-- The length of the TCP-AO option with a MAC of the row's algorithm (RFC 5925, section 2.2).
abbrev pub ao_length : Sending → ℕ
ao_length sending = 4 + mac_length_of sending.row.algorithm

-- The most bytes of a segment: the lesser of both maximum segment sizes less the TCP-AO option (RFC
-- 9293, section 3.7.1).
abbrev pub most_bytes : Pair → EndState → Sending → ℕ
most_bytes pair s sending = min (own_mss pair.local.address) s.mss - ao_length sending

-- The time to live, or hop limit, of the written form (RFC 1122, section 3.2.1.7; the value: own).
abbrev pub hop_limit : ℕ
hop_limit = 64

-- The IPv4 header of the written form with its checksum zero: service 0, identification 0, don't
-- fragment, TCP (RFC 791, section 3.1; the values: own).
abbrev pub ip_words : Pair → ℕ → List ℕ
ip_words pair total =
    0x45 ∷ 0 ∷ put2 total (0 ∷ 0 ∷ 0x40 ∷ 0 ∷ hop_limit ∷ 6 ∷ 0 ∷ 0
    ∷ octets pair.local.address ++ octets pair.remote.address)

-- The IP header of the written form over so many TCP bytes (RFC 791, section 3.1; RFC 8200, section
-- 3; the values: own).
abbrev pub written_ip : Pair → ℕ → Address → IpHeader
written_ip pair size (V4 bytes) =
    Ipv4 0 0 1 hop_limit (complement_of (ip_words pair (ipv4_header_length + size))) []
written_ip pair size (V6 bytes) = Ipv6 0 hop_limit

-- The TCP-AO option with this MAC (RFC 5925, section 2.2).
abbrev pub written_ao : Sending → List ℕ → List ℕ
written_ao sending m =
    ao_kind ∷ (ao_head_length + length m) ∷ sending.key_id ∷ sending.rnext_key_id ∷ m

-- The option area of the written form: with SYN the maximum segment size, of length 4, and then
-- TCP-AO (RFC 9293, section 3.2; RFC 5925, section 2.2; the order: own).
abbrev pub written_area : Pair → Bool → Sending → List ℕ → List ℕ
written_area pair true sending m =
    mss_kind ∷ 4 ∷ put2 (own_mss pair.local.address) (written_ao sending m)
written_area pair false sending m = written_ao sending m

-- How many bytes of the written option area stand before TCP-AO: with SYN those of the maximum
-- segment size (own).
abbrev pub ao_place : Bool → ℕ
ao_place true = 4
ao_place false = 0

-- The window that is told: RCV.WND with ACK, none with RST, and all before the peer is heard (RFC
-- 9293, section 3.8.6; without ACK: own).
abbrev pub told_window : EndState → ℕ → ℕ
told_window s flags =
    if sets flags RST then 0
    else (if sets flags ACK then window s else greatest_window)

-- The segment of a draft with this MAC, its checksum still 0 (RFC 9293, section 3.1).
abbrev pub written : Pair → EndState → Draft → Sending → List ℕ → Segment
written pair s out sending m = record {
  ip = written_ip pair
      (tcp_header_length + ao_head_length + length m + ao_place (sets out.flags SYN)
      + length out.payload)
      pair.local.address;
  source = pair.local;
  destination = pair.remote;
  sequence = out.number % ring;
  acknowledgement = if sets out.flags ACK then s.expected % ring else 0;
  reserved = 0;
  flags = out.flags;
  window = told_window s out.flags;
  checksum = 0;
  urgent = 0;
  area = written_area pair (sets out.flags SYN) sending m;
  payload = out.payload;
}

-- A MAC of the row's length that is still zero (RFC 5925, section 5.1).
abbrev pub no_mac : Sending → List ℕ
no_mac sending = replicate (mac_length_of sending.row.algorithm) 0

-- The segment of a draft with the MAC zero (RFC 5925, section 5.1).
abbrev pub blank : Pair → EndState → Draft → Sending → Segment
blank pair s out sending = written pair s out sending (no_mac sending)

-- The fields of the TCP-AO option of a draft with this MAC (RFC 5925, section 2.2).
abbrev pub own_ao : Draft → Sending → List ℕ → Ao
own_ao out sending m = record {
  key_id = sending.key_id;
  rnext_key_id = sending.rnext_key_id;
  mac = m;
  place = ao_place (sets out.flags SYN);
}

-- What the MAC of a draft is computed over, with the options or without as the row says (RFC 5925,
-- section 5.1).
abbrev pub input_of : Pair → EndState → Draft → Sending → List ℕ
input_of pair s out sending =
    mac_input out.number (blank pair s out sending) (own_ao out sending (no_mac sending))
    sending.row.with_options

-- The MAC of a draft under the traffic key of this context (RFC 5925, section 7.4).
abbrev pub seal_of : Pair → EndState → Draft → Sending → List ℕ → List ℕ
seal_of pair s out sending context =
    mac sending.row.algorithm
    (traffic_key sending.row.algorithm sending.row.master context)
    (input_of pair s out sending)

-- The segment of a draft under this context; its row is the one of the current key from now on (RFC
-- 5925, section 7.4).
abbrev pub sealed : Pair → EndState → Draft → Sending → List ℕ → Emission
sealed pair s out sending context = record {
  state = record (out.state) { current = Some sending.number };
  flags = out.flags;
  number = out.number;
  acknowledged = if sets out.flags ACK then Some s.expected else None;
  sending = sending;
  context = context;
  input = input_of pair s out sending;
  segment = finished (written pair s out sending (seal_of pair s out sending context));
}

-- The segment of a draft where its context is known, as it always is in a run (RFC 5925, section
-- 5.2).
abbrev pub seal_known : Pair → EndState → Draft → Sending → Option (List ℕ) → Emitted
seal_known pair s out sending None = Quiet
seal_known pair s out sending (Some context) = Emits (sealed pair s out sending context)

-- The segment of a draft under the key of a row (RFC 5925, section 7.4).
abbrev pub made_under : Pair → EndState → Sending → Draft → Emitted
made_under pair s sending out =
    seal_known pair s out sending (context_of (blank pair s out sending) (Some s.isn) s.peer_isn)

-- What an end makes of what is due, by its drafts, with the row to send with: nothing where nothing
-- is due, else nothing for want of a key where there is no row, else the segment, of at most as
-- many bytes as one under that row has (RFC 5925, section 7.4).
abbrev pub made_if_due : Pair → EndState → (Due → ℕ → Draft) → Option Due → Option Sending → Emitted
made_if_due pair s draft None row = Quiet
made_if_due pair s draft (Some due) None = NoKey
made_if_due pair s draft (Some due) (Some sending) =
    made_under pair s sending (draft due (most_bytes pair s sending))

-- The next segment of an end, or none (RFC 9293, section 3.10; RFC 5925, section 7.4).
unfoldable pub emit : List Row → Pair → ℕ → EndState → Emitted
emit rows pair now s =
    made_if_due pair s (draft_next s) (due_next s) (choose s.current rows pair now)

-- What an end sends again, or none (RFC 9293, section 3.10.8).
unfoldable pub resend : List Row → Pair → ℕ → EndState → Emitted
resend rows pair now s =
    made_if_due pair s (draft_again s) (due_again s) (choose s.current rows pair now)
