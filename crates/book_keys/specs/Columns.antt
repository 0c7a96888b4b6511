-- The columns of a row, each by the value at its key (RFC 7210, section 2, in this profile):
-- `row_of` is the file's top.
use Rattle.std.specs.Prelude.{ℕ, suc, ◌&&◌, nat_le, nat_lt, if◌then◌else◌, Bool, true, false}
use Rattle.std.specs.Prelude.{List, [], ◌∷◌, length, codes, Option, Some, None}
use Rattle.std.specs.Prelude.{option_map, option_and_then, Result, Ok, Err}
use Rattle.std.specs.List.{list_any}
use Rattle.std.specs.Str.{bytes_eq}
use Rattle.toml.specs.Data.{Data, array, table, Items, no_items, item}
use Rattle.toml.specs.Data.{Members, no_members, member, get_member, as_str}
use Rattle.book_base.specs.declared.address.Address.{Address}
use Rattle.book_base.specs.declared.algorithm.Algorithm.{Algorithm}
use Rattle.book_base.specs.declared.algorithm.Algorithm.TheVariants.{HmacSha1, AesCmac, HmacSha256}
use Rattle.book_base.specs.Addresses.{address_of, greatest_port}
use Rattle.book_base.specs.Algorithms.{name_of}
use Rattle.book_base.specs.Decimals.{decimal_of}
use Rattle.book_base.specs.Hexadecimal.{bytes_of_hex}
use Rattle.book_keys.specs.declared.direction.Direction.{Direction}
use Rattle.book_keys.specs.declared.direction.Direction.TheVariants.{Receive, Send, Both, Disabled}
use Rattle.book_keys.specs.declared.lifetime.Lifetime.{Lifetime}
use Rattle.book_keys.specs.Lifetimes.{greatest_time}
use Rattle.book_keys.specs.MasterKeys.{is_master_key}
use Rattle.book_keys.specs.Rows.{Row, peer_limit, greatest_key_id}
use Rattle.book_keys.specs.declared.fault.Column.{Column}
use Rattle.book_keys.specs.declared.fault.Column.TheVariants as column
use Rattle.book_keys.specs.declared.fault.TableFault.{TableFault}
use Rattle.book_keys.specs.declared.fault.TableFault.TheVariants as fault
use Rattle.book_keys.specs.declared.groups.Ids.{Ids}
use Rattle.book_keys.specs.declared.groups.Terms.{Terms}
use Rattle.book_keys.specs.declared.groups.Ports.{Ports}
use Rattle.book_keys.specs.Times.{time_of}
use Rattle.book_keys.specs.Reading.{must, each}
use Rattle.book_base.specs.Results.{◌>>=◌, or_fault}

-- the text at a key of a table, where there is one (own)
abbrev pub text_of : List ℕ → Members → Option (List ℕ)
text_of key ms = option_and_then as_str (get_member key ms)

-- a text is there, and is this word (own)
abbrev pub is_word : List ℕ → Option (List ℕ) → Bool
is_word word None = false
is_word word (Some text) = bytes_eq text word

-- each key of a table is among the known ones (own)
abbrev pub only : List (List ℕ) → Members → Bool
only known no_members = true
only known (member key d ms) = list_any (bytes_eq key) known && only known ms

-- the keys of a row (RFC 7210, section 2; the ports are own)
abbrev pub row_keys : List (List ℕ)
row_keys =
    codes "AdminKeyName" ∷ codes "LocalKeyName" ∷ codes "PeerKeyName" ∷ codes "Peers"
    ∷ codes "Interfaces" ∷ codes "Protocol" ∷ codes "ProtocolSpecificInfo" ∷ codes "KDF"
    ∷ codes "AlgID" ∷ codes "Key" ∷ codes "Direction" ∷ codes "SendLifetimeStart"
    ∷ codes "SendLifetimeEnd" ∷ codes "AcceptLifetimeStart" ∷ codes "AcceptLifetimeEnd"
    ∷ codes "LocalPort" ∷ codes "PeerPort" ∷ []

-- how many bytes an AdminKeyName has at most (own)
abbrev pub longest_admin_name : ℕ
longest_admin_name = 255

-- a text is an AdminKeyName: at least one byte and at most 255 (own)
abbrev pub is_admin : Option (List ℕ) → Bool
is_admin None = false
is_admin (Some text) = nat_le 1 (length text) && nat_le (length text) longest_admin_name

-- the number, where there is one and it is at most this (own)
abbrev pub up_to : ℕ → Option ℕ → Option ℕ
up_to most None = None
up_to most (Some n) = if nat_le n most then Some n else None

-- the id that a text writes: a decimal from 0 to 255 (RFC 5925, section 3.1)
abbrev pub id_of_text : List ℕ → Option ℕ
id_of_text text = up_to greatest_key_id (decimal_of text)

-- the ids of row r of node n: AdminKeyName, LocalKeyName (RecvID), PeerKeyName (SendID) (RFC 7210,
-- section 2)
unfoldable pub ids_of : (node row : ℕ) → Members → Result Ids TableFault
ids_of n r ms = do
  named ← must (is_admin (text_of (codes "AdminKeyName") ms)) (fault.Field n r column.AdminKeyName)
  recv ← or_fault (option_and_then id_of_text (text_of (codes "LocalKeyName") ms))
      (fault.Field n r column.LocalKeyName)
  send ← or_fault (option_and_then id_of_text (text_of (codes "PeerKeyName") ms))
      (fault.Field n r column.PeerKeyName)
  Ok (record { recv_id = recv; send_id = send })

-- the peer that a text writes: an address, or `any` (RFC 7210, section 2)
abbrev pub peer_of_text : List ℕ → Option (Option Address)
peer_of_text text =
    if bytes_eq text (codes "any") then Some None else option_map Some (address_of text)

-- the peer that a value writes (RFC 7210, section 2)
abbrev pub peer_of : Data → Option (Option Address)
peer_of d = option_and_then peer_of_text (as_str d)

-- the peer at some place of row r of node n (RFC 7210, section 2)
abbrev pub peer_at : (node row place : ℕ) → Data → Result (Option Address) TableFault
peer_at n r place d = or_fault (peer_of d) (fault.Field n r column.Peers)

-- how many items an array has (own)
abbrev pub count : Items → ℕ
count no_items = 0
count (item d ds) = suc (count ds)

-- the peers of row r of node n: an array of 1 to 16 texts (RFC 7210, section 2; the limit is own)
unfoldable pub peers_of : (node row : ℕ) → Option Data → Result (List (Option Address)) TableFault
peers_of n r (Some (array ds)) =
    if nat_le 1 (count ds) && nat_le (count ds) peer_limit then each (peer_at n r) 1 ds
    else Err (fault.Field n r column.Peers)
peers_of n r _ = Err (fault.Field n r column.Peers)

-- a value is absent, or is the text of this word (own)
abbrev pub is_absent_or : List ℕ → Option Data → Bool
is_absent_or word None = true
is_absent_or word (Some d) = is_word word (as_str d)

-- whether the MAC covers the options, as a text says it (RFC 5925, section 5.1)
abbrev pub options_flag_of : List ℕ → Option Bool
options_flag_of text =
    if bytes_eq text (codes "options") then Some true
    else if bytes_eq text (codes "no-options") then Some false
    else None

-- whether the MAC covers the options, in row r of node n: Interfaces, Protocol, and then
-- ProtocolSpecificInfo, which says it (RFC 7210, section 2)
unfoldable pub protocol_of : (node row : ℕ) → Members → Result Bool TableFault
protocol_of n r ms = do
  everywhere ← must (is_absent_or (codes "all") (get_member (codes "Interfaces") ms))
      (fault.Field n r column.Interfaces)
  ao ← must (is_word (codes "TCP-AO") (text_of (codes "Protocol") ms))
      (fault.Field n r column.Protocol)
  or_fault (option_and_then options_flag_of (text_of (codes "ProtocolSpecificInfo") ms))
      (fault.Field n r column.ProtocolSpecificInfo)

-- the name of the key derivation function of an algorithm (RFC 5926, section 3.1, and own)
abbrev pub kdf_name : Algorithm → List ℕ
kdf_name HmacSha1 = codes "HMAC-SHA-1"
kdf_name AesCmac = codes "AES-128-CMAC"
kdf_name HmacSha256 = codes "HMAC-SHA-256"

-- the algorithm to which the key derivation function of this name belongs (RFC 5926, section 3.1,
-- and own)
abbrev pub kdf_of : List ℕ → Option Algorithm
kdf_of text =
    if bytes_eq text (kdf_name HmacSha1) then Some HmacSha1
    else if bytes_eq text (kdf_name AesCmac) then Some AesCmac
    else if bytes_eq text (kdf_name HmacSha256) then Some HmacSha256
    else None

-- the algorithm of row r of node n: KDF, and AlgID, which is the name of the algorithm to which
-- that belongs (RFC 7210, section 2)
unfoldable pub algorithm_at : (node row : ℕ) → Members → Result Algorithm TableFault
algorithm_at n r ms = do
  kdf ← or_fault (option_and_then kdf_of (text_of (codes "KDF") ms)) (fault.Field n r column.Kdf)
  named ← must (is_word (name_of kdf) (text_of (codes "AlgID") ms)) (fault.Field n r column.AlgId)
  Ok kdf

-- bytes, where they are a master key (own)
abbrev pub sized : Option (List ℕ) → Option (List ℕ)
sized None = None
sized (Some bytes) = if is_master_key bytes then Some bytes else None

-- the master key of row r of node n, which a text writes (RFC 7210, section 2)
unfoldable pub master_of : (node row : ℕ) → Option (List ℕ) → Result (List ℕ) TableFault
master_of n r None = Err (fault.Field n r column.Key)
master_of n r (Some text) = or_fault (sized (bytes_of_hex text)) (fault.Field n r column.Key)

-- the direction that a word names (RFC 7210, section 2)
unfoldable pub direction_of : List ℕ → Option Direction
direction_of text =
    if bytes_eq text (codes "in") then Some Receive
    else if bytes_eq text (codes "out") then Some Send
    else if bytes_eq text (codes "both") then Some Both
    else if bytes_eq text (codes "disabled") then Some Disabled
    else None

-- the time that a value writes, or what stands for an absent one (own)
abbrev pub time_or : ℕ → Option Data → Option ℕ
time_or absent None = Some absent
time_or absent (Some d) = option_and_then time_of (as_str d)

-- a time of a row: the name of its key, and the column that a fault of it tells (own)
pub record TimeCell : Type 0 where
  pub name : List ℕ
  pub column : Column

-- a lifetime of row r of node n, by the cells of its start and end; an end before its start is a
-- fault of the end (RFC 7210, section 2)
unfoldable pub lifetime_of :
    (node row : ℕ) → (start end : TimeCell) → Members → Result Lifetime TableFault
lifetime_of n r start end ms = do
  first ← or_fault (time_or 0 (get_member start.name ms)) (fault.Field n r start.column)
  last ← or_fault (time_or greatest_time (get_member end.name ms)) (fault.Field n r end.column)
  if nat_lt last first then Err (fault.Field n r end.column)
      else Ok (record { first = first; last = last })

-- where a row says from when on it sends (RFC 7210, section 2)
abbrev pub sending_start : TimeCell
sending_start =
    record { name = codes "SendLifetimeStart"; column = column.SendLifetimeStart }

-- where a row says until when it sends (RFC 7210, section 2)
abbrev pub sending_end : TimeCell
sending_end = record { name = codes "SendLifetimeEnd"; column = column.SendLifetimeEnd }

-- where a row says from when on it accepts (RFC 7210, section 2)
abbrev pub accepting_start : TimeCell
accepting_start =
    record { name = codes "AcceptLifetimeStart"; column = column.AcceptLifetimeStart }

-- where a row says until when it accepts (RFC 7210, section 2)
abbrev pub accepting_end : TimeCell
accepting_end = record { name = codes "AcceptLifetimeEnd"; column = column.AcceptLifetimeEnd }

-- the port that a value writes, a decimal from 0 to 65535, or any port where it is absent (own)
abbrev pub port_of : Option Data → Option (Option ℕ)
port_of None = Some None
port_of (Some d) = option_map Some (up_to greatest_port (option_and_then decimal_of (as_str d)))

-- the terms of row r of node n: Direction and the two lifetimes (RFC 7210, section 2)
unfoldable pub terms_of : (node row : ℕ) → Members → Result Terms TableFault
terms_of n r ms = do
  direction ← or_fault (option_and_then direction_of (text_of (codes "Direction") ms))
      (fault.Field n r column.Direction)
  sending ← lifetime_of n r sending_start sending_end ms
  accepting ← lifetime_of n r accepting_start accepting_end ms
  Ok (record { direction = direction; sending = sending; accepting = accepting })

-- the ports of row r of node n: LocalPort and PeerPort (own)
unfoldable pub ports_of : (node row : ℕ) → Members → Result Ports TableFault
ports_of n r ms = do
  local ← or_fault (port_of (get_member (codes "LocalPort") ms)) (fault.Field n r column.LocalPort)
  peer ← or_fault (port_of (get_member (codes "PeerPort") ms)) (fault.Field n r column.PeerPort)
  Ok (record { local_port = local; peer_port = peer })

-- row r of node n by its columns in their order, each with its own fault (RFC 7210, section 2, in
-- this profile)
unfoldable pub columns_of : (node row : ℕ) → Members → Result Row TableFault
columns_of n r ms = do
  ids ← ids_of n r ms
  peers ← peers_of n r (get_member (codes "Peers") ms)
  with_options ← protocol_of n r ms
  algorithm ← algorithm_at n r ms
  master ← master_of n r (text_of (codes "Key") ms)
  terms ← terms_of n r ms
  ports ← ports_of n r ms
  Ok (record {
    recv_id = ids.recv_id;
    send_id = ids.send_id;
    peers = peers;
    local_port = ports.local_port;
    peer_port = ports.peer_port;
    algorithm = algorithm;
    master = master;
    with_options = with_options;
    direction = terms.direction;
    sending = terms.sending;
    accepting = terms.accepting;
  })

-- row r of node n: a table without another key (own)
unfoldable pub row_of : (node row : ℕ) → Data → Result Row TableFault
row_of n r (table ms) =
    if only row_keys ms then columns_of n r ms else Err (fault.Field n r column.Other)
row_of n r _ = Err (fault.Field n r column.Other)
