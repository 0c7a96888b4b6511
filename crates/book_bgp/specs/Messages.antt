-- Messages of BGP one after another in a stream of bytes (RFC 4271, section 4; RFC 2918, section
-- 3): `messages` and `fault_in` are the file's tops.
use Rattle.std.specs.Prelude.{ℕ, zero, suc, ◌+◌, ◌*◌, ◌/◌, ◌%◌, ◌==◌, ◌≤◌, nat_lt, nat_le}
use Rattle.std.specs.Prelude.{Bool, not, ◌&&◌, ◌||◌, IsTrue, Option, Some, None, if◌then◌else◌}
use Rattle.std.specs.Prelude.{List, [], ◌∷◌, ◌++◌, length, take, drop, replicate}
use Rattle.std.specs.Prelude.{slice_index, slice_range, bytes_eq}
use Rattle.book_base.specs.Fronts.{Front, Ends, Faulted, Leads, fronted}
use Rattle.book_bgp.specs.declared.bgp_fault.BgpFault.{BgpFault}
use Rattle.book_bgp.specs.declared.bgp_fault.BgpFault.TheVariants.{Marker, Length, Kind}

-- a message: its type, and what follows its header (RFC 4271, section 4.1)
pub record Message : Type 0 where
  pub kind : ℕ
  pub body : List ℕ

-- the type of an OPEN message (RFC 4271, section 4.1)
abbrev pub OPEN : ℕ
OPEN = 1

-- the type of an UPDATE message (RFC 4271, section 4.1)
abbrev pub UPDATE : ℕ
UPDATE = 2

-- the type of a NOTIFICATION message (RFC 4271, section 4.1)
abbrev pub NOTIFICATION : ℕ
NOTIFICATION = 3

-- the type of a KEEPALIVE message (RFC 4271, section 4.1)
abbrev pub KEEPALIVE : ℕ
KEEPALIVE = 4

-- the type of a ROUTE-REFRESH message (RFC 2918, section 3)
abbrev pub ROUTE_REFRESH : ℕ
ROUTE_REFRESH = 5

-- how many bytes a header has (RFC 4271, section 4.1)
abbrev pub header_length : ℕ
header_length = 19

-- the greatest length of a message (RFC 4271, section 4.1)
abbrev pub greatest_length : ℕ
greatest_length = 4096

-- the 16 bytes that begin a message (RFC 4271, section 4.1)
abbrev pub marker : List ℕ
marker = replicate {A = ℕ} 16 0xff

-- a message may have this type (RFC 4271, section 4.1; RFC 2918, section 3)
abbrev pub is_kind : ℕ → Bool
is_kind kind = nat_le OPEN kind && nat_le kind ROUTE_REFRESH

-- the least length of a message of this type (RFC 4271, sections 4.2 to 4.5; RFC 2918, section 3)
abbrev pub least_length : ℕ → ℕ
least_length kind =
    if kind == OPEN then 29
    else if kind == UPDATE then 23
    else if kind == NOTIFICATION then 21
    else if kind == ROUTE_REFRESH then 23
    else header_length

-- a message of this type may have this length; a KEEPALIVE message is a header alone (RFC 4271,
-- section 4.4)
abbrev pub fits_kind : (kind size : ℕ) → Bool
fits_kind kind len =
    if kind == KEEPALIVE then len == header_length else nat_le (least_length kind) len

-- the length of a message with its header (RFC 4271, section 4.1)
abbrev pub message_length : Message → ℕ
message_length m = header_length + length m.body

-- the bytes of a message: marker, length, type and body (RFC 4271, section 4.1)
abbrev pub spell_message : Message → List ℕ
spell_message m =
    marker ++ (message_length m / 0x100 ∷ message_length m % 0x100 ∷ m.kind ∷ m.body)

-- the bytes of messages one after another (RFC 4271, section 4)
abbrev pub spell_messages : List Message → List ℕ
spell_messages [] = []
spell_messages (m ∷ ms) = spell_message m ++ spell_messages ms

-- a message has a known type, and a length that this type may have (RFC 4271, sections 4.1 to 4.5;
-- RFC 2918, section 3)
pub record IsMessage (m : Message) : Type 0 where
  pub known : IsTrue (is_kind m.kind)
  pub fits : IsTrue (fits_kind m.kind (message_length m))
  pub most : message_length m ≤ greatest_length

-- the length in a header (RFC 4271, section 4.1)
abbrev pub length_in : List ℕ → ℕ
length_in header = slice_index header 16 * 0x100 + slice_index header 17

-- the type in a header (RFC 4271, section 4.1)
abbrev pub kind_in : List ℕ → ℕ
kind_in header = slice_index header 18

-- what is wrong with a header, the first of: the marker, the length, the type, the length against
-- the type (RFC 4271, section 6.1)
unfoldable pub header_fault : List ℕ → Option BgpFault
header_fault header =
    if not (bytes_eq (take 16 header) marker) then Some Marker
    else if nat_lt (length_in header) header_length
    || nat_lt greatest_length (length_in header) then Some Length
    else if not (is_kind (kind_in header)) then Some Kind
    else if not (fits_kind (kind_in header) (length_in header)) then Some Length
    else None

-- the front of bytes that begin with a header, by the header's fault, type and length (RFC 4271,
-- section 4.1)
abbrev pub front_by : Option BgpFault → (kind size : ℕ) → List ℕ → Front Message BgpFault
front_by (Some fault) kind len bytes = Faulted fault
front_by None kind len bytes =
    if nat_lt (length bytes) len then Ends
    else Leads (record { kind = kind; body = slice_range bytes header_length len })
    (drop len bytes)

-- the front of bytes that begin with this header (RFC 4271, section 4.1)
abbrev pub front_behind : (header bytes : List ℕ) → Front Message BgpFault
front_behind header bytes =
    front_by (header_fault header) (kind_in header) (length_in header) bytes

-- what stands at the front of a stream: bytes that end no message yet, a faulty header, or a
-- message; a header is judged as soon as its 19 bytes are there (RFC 4271, sections 4 and 6.1)
unfoldable pub message_front : List ℕ → Front Message BgpFault
message_front bytes =
    if nat_lt (length bytes) header_length then Ends
    else front_behind (take header_length bytes) bytes

-- the messages that stand one after another from the front of a stream, as many as there are (RFC
-- 4271, section 4)
unfoldable pub messages : List ℕ → List Message
messages bytes = (fronted message_front bytes).items

-- how many bytes the messages of a stream take (RFC 4271, section 4)
unfoldable pub place_of : List ℕ → ℕ
place_of bytes = length (spell_messages (messages bytes))

-- what follows the messages of a stream (RFC 4271, section 4)
unfoldable pub behind : List ℕ → List ℕ
behind bytes = drop (place_of bytes) bytes

-- the fault that ends the messages of a stream, where there is one (RFC 4271, section 6.1)
unfoldable pub fault_in : List ℕ → Option BgpFault
fault_in bytes = (fronted message_front bytes).fault
