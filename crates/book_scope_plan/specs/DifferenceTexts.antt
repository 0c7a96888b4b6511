-- What is written of a row that no row of the other end takes: in which columns the nearest ones
-- differ, and how. No byte of a key is written, but for a line feed at its end. Its top is
-- `refused_text`.
use Rattle.std.specs.Prelude.{ℕ, ◌+◌, ◌-◌, ◌==◌, ◌&&◌, ◌||◌, not, nat_lt, Bool, true, false}
use Rattle.std.specs.Prelude.{List, [], ◌∷◌, ◌++◌, length, take, slice_get, codes, decimal}
use Rattle.std.specs.Prelude.{Option, Some, None, if◌then◌else◌}
use Rattle.std.specs.List.{list_any}
use Rattle.book_base.specs.declared.address.Address.{Address}
use Rattle.book_base.specs.declared.address.Pair.{Pair}
use Rattle.book_base.specs.Algorithms.{name_of}
use Rattle.book_keys.specs.declared.direction.Direction.{Direction}
use Rattle.book_keys.specs.declared.direction.Direction.TheVariants.{Receive, Send, Both, Disabled}
use Rattle.book_keys.specs.Rows.{Row, names}
use Rattle.book_plans.specs.declared.differences.Differences.{Differences}
use Rattle.book_plans.specs.Differences.{differences}
use Rattle.book_segments.specs.Bytes.{same_bytes}
use Rattle.book_scope_texts.specs.Addresses.{usual_address_text}
use Rattle.book_scope_texts.specs.Instants.{instant_text}
use Rattle.book_scope_plan.specs.FindingTexts.{Facing, difference_count, fewest, row_name, text_if}
use Rattle.book_scope_plan.specs.FindingTexts.{unmet_line}

-- a byte, if any, is a line feed (own)
abbrev pub is_feed : Option ℕ → Bool
is_feed None = false
is_feed (Some b) = b == 10

-- the last of the bytes is a line feed (own)
abbrev pub ends_in_feed : List ℕ → Bool
ends_in_feed bytes = is_feed (slice_get bytes (length bytes - 1))

-- the longer bytes are the shorter ones with a line feed behind them (own)
abbrev pub is_with_feed : (longer shorter : List ℕ) → Bool
is_with_feed longer shorter =
    (length longer == length shorter + 1)
    && (ends_in_feed longer && same_bytes (take (length shorter) longer) shorter)

-- how two keys that aren't equal differ (own)
abbrev pub unequal_words : (one other : List ℕ) → List ℕ
unequal_words one two =
    if is_with_feed two one then codes " bytes, equal but for 0a at the end of the second\n"
    else if is_with_feed one two then codes " bytes, equal but for 0a at the end of the first\n"
    else codes " bytes, not equal\n"

-- how many bytes the two keys have, and how they differ; no key is shown (RFC 7210, section 2, and
-- own)
unfoldable pub key_text : (one other : List ℕ) → List ℕ
key_text one two =
    codes "Key: " ++ (decimal (length one)
    ++ (codes " and " ++ (decimal (length two) ++ unequal_words one two)))

-- the other end's row has the ids of the row that sends, but not exchanged (RFC 5925, section 3.1)
abbrev pub has_same_ids : (sending other : Row) → Bool
has_same_ids r o = (o.recv_id == r.recv_id) && (o.send_id == r.send_id)

-- the end of a line on KeyIDs, by whether they alone differ and stand at the wrong ends (own)
abbrev pub ids_end : (exchanged : Bool) → List ℕ
ids_end true = codes ": LocalKeyName and PeerKeyName are exchanged\n"
ids_end false = codes "\n"

-- the two KeyIDs (RFC 5925, section 3.1)
unfoldable pub ids_text : (sending other : Row) → (exchanged : Bool) → List ℕ
ids_text r o exchanged =
    codes "KeyID: sent " ++ (decimal r.send_id
    ++ (codes ", received " ++ (decimal o.recv_id ++ ids_end exchanged)))

-- the two algorithms (RFC 5926, section 3.2)
unfoldable pub algorithms_text : (sending other : Row) → List ℕ
algorithms_text r o =
    codes "AlgID: " ++ (name_of r.algorithm ++ (codes " and " ++ (name_of o.algorithm ++ 10 ∷ [])))

-- that one of two rows leaves the TCP options out of the MAC (RFC 5925, section 5.1)
unfoldable pub options_words : List ℕ
options_words = codes "ProtocolSpecificInfo: one alone covers the TCP options\n"

-- a Direction as a key file writes it (RFC 7210, section 2)
abbrev pub direction_name : Direction → List ℕ
direction_name Receive = codes "in"
direction_name Send = codes "out"
direction_name Both = codes "both"
direction_name Disabled = codes "disabled"

-- that a row with this Direction isn't for what comes in (RFC 7210, section 2)
unfoldable pub wrong_direction_text : Direction → List ℕ
wrong_direction_text d =
    codes "Direction: " ++ (direction_name d ++ codes " isn't for what comes in\n")

-- that the peers of a row don't have the address (RFC 7210, section 2)
unfoldable pub peers_text : Address → List ℕ
peers_text address = codes "Peers: they don't have " ++ (usual_address_text address ++ 10 ∷ [])

-- the port of a row, by the name of its column, and that of the connection (own)
unfoldable pub port_text : (column : List ℕ) → (one connected : ℕ) → List ℕ
port_text column one port =
    column ++ (codes ": " ++ (decimal one ++ (codes ", the connection has "
    ++ (decimal port ++ 10 ∷ []))))

-- a row of the other end, of this name, differs in a column (own)
unfoldable pub difference_head : (row : List ℕ) → List ℕ
difference_head row = codes "    " ++ (row ++ codes " differs in ")

-- the line of a row, of this name, on what it differs in, where it does (own)
abbrev pub line_if : Bool → (row text : List ℕ) → List ℕ
line_if b row text = text_if b (difference_head row ++ text)

-- the line of a row's port that isn't that of the connection (own)
abbrev pub port_line : (row column : List ℕ) → (port : Option ℕ) → (connected : ℕ) → List ℕ
port_line row column None port = []
port_line row column (Some one) port = line_if (not (one == port)) row (port_text column one port)

-- a peer of a row is this address, or is `any` (RFC 7210, section 2)
abbrev pub has_peer : Row → Address → Bool
has_peer o address = list_any (λ peer. names peer address) o.peers

-- the lines of the columns by which a row of the other end isn't for the connection, which is given
-- as the end that sends sees it (RFC 7210, section 2, and own)
unfoldable pub connection_lines : (row : List ℕ) → Pair → (other : Row) → List ℕ
connection_lines row pair o =
    line_if (not (has_peer o pair.local.address)) row (peers_text pair.local.address)
    ++ (port_line row (codes "LocalPort") o.local_port pair.remote.port
    ++ port_line row (codes "PeerPort") o.peer_port pair.local.port)

-- the KeyIDs alone differ, and would not if they were exchanged at one end (own)
abbrev pub are_exchanged : Differences → (sending other : Row) → Bool
are_exchanged d r o = (difference_count d == 1) && has_same_ids r o

-- the lines of the columns that make up the key in which a row of the other end, of this name,
-- differs from one that accepts what a row sends (RFC 7210, section 2, and own)
unfoldable pub key_column_lines : (row : List ℕ) → (sending other : Row) → Differences → List ℕ
key_column_lines row r o d =
    line_if d.key_id row (ids_text r o (are_exchanged d r o))
    ++ (line_if d.master row (key_text r.master o.master)
    ++ line_if d.algorithm row (algorithms_text r o))

-- the lines of the columns that say what for (RFC 7210, section 2, and own)
unfoldable pub use_column_lines : (row : List ℕ) → Pair → (other : Row) → Differences → List ℕ
use_column_lines row pair o d =
    line_if d.options row options_words
    ++ (line_if d.direction row (wrong_direction_text o.direction) ++ connection_lines row pair o)

-- the lines of all columns in which it differs (RFC 7210, section 2, and own)
unfoldable pub difference_lines :
    (row : List ℕ) → Pair → (sending other : Row) → Differences → List ℕ
difference_lines row pair r o d =
    key_column_lines row r o d ++ use_column_lines row pair o d

-- the lines of the rows of the other end that differ in so many columns, the first row having
-- number n (own)
abbrev pub nearest_lines : Facing → Row → (count first : ℕ) → (others : List Row) → List ℕ
nearest_lines f r count n [] = []
nearest_lines f r count n (o ∷ os) =
    text_if (difference_count (differences f.pair r o) == count)
    (difference_lines (row_name f.document f.other.name n) f.pair r o (differences f.pair r o))
    ++ nearest_lines f r count (n + 1) os

-- some of the rows has this RecvID (RFC 5925, section 3.1)
abbrev pub has_recv_id : ℕ → List Row → Bool
has_recv_id id rows = list_any (λ o. o.recv_id == id) rows

-- that no row of the other end has a RecvID (own)
unfoldable pub no_id_line : (name : List ℕ) → ℕ → List ℕ
no_id_line name id =
    codes "    " ++ (name ++ (codes " has no row for KeyID " ++ (decimal id ++ 10 ∷ [])))

-- that a row's send lifetime ended before the plan begins (own)
unfoldable pub ended_line : ℕ → List ℕ
ended_line time =
    codes "    its send lifetime ended before FROM, at " ++ (instant_text time ++ 10 ∷ [])

-- the nearest rows of the other end, which differ in so many columns, are told: some row has the
-- KeyID, or it is all in which they differ (own)
abbrev pub are_told : (has_id : Bool) → (count : ℕ) → Bool
are_told has_id count = has_id || (count == 1)

-- in which columns the nearest rows of the other end differ, by whether one has the KeyID (own)
abbrev pub nearest_text : Facing → Row → (has_id : Bool) → (count : ℕ) → List ℕ
nearest_text f r has_id count =
    text_if (not has_id) (no_id_line f.other.name r.send_id)
    ++ text_if (are_told has_id count) (nearest_lines f r count 1 f.other.rows)

-- what is said of a row that no row of the other end accepts (own)
abbrev pub refused_text : Facing → ℕ → Option Row → List ℕ
refused_text f n None = []
refused_text f n (Some r) =
    unmet_line f n r (codes " takes it\n")
    ++ (text_if (nat_lt r.sending.last f.plan.from) (ended_line r.sending.last)
    ++ nearest_text f r (has_recv_id r.send_id f.other.rows) (fewest f.pair r 7 f.other.rows))
