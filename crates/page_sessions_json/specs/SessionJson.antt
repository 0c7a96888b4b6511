-- A table of sessions in JSON: what its text says, line for line. Our own format. Its top is
-- `sessions_json`.
use Rattle.std.specs.Prelude.{ℕ, suc, Bool, List, [], ◌∷◌, ◌++◌, codes, length}
use Rattle.std.specs.Prelude.{decimal, filter, flat_map, map, Option, Some, None}
use Rattle.std.specs.Prelude.{true, false, if◌then◌else◌}
use Rattle.std.specs.List.{find, list_any}
use Rattle.book_base.specs.declared.address.Address.{Address}
use Rattle.book_base.specs.declared.address.Socket.{Socket}
use Rattle.book_segments.specs.Sockets.{same_socket}
use Rattle.book_keys.specs.Rows.{Row, Table}
use Rattle.book_scope_plan.specs.AdminNames.{KeyFile, admin_name}
use Rattle.book_scope_texts.specs.Addresses.{usual_address_text}
use Rattle.book_scope_texts.specs.Instants.{instant_text}
use Rattle.book_sessions.specs.declared.retiring.MayGo.{MayGo}
use Rattle.book_sessions.specs.declared.retiring.MayGo.TheVariants as go
use Rattle.book_sessions.specs.declared.uses.KeyUse.{KeyUse}
use Rattle.book_sessions.specs.declared.uses.PassedCount.{PassedCount}
use Rattle.book_sessions.specs.declared.uses.Protection.{Protection}
use Rattle.book_sessions.specs.declared.uses.Protection.TheVariants as protection
use Rattle.book_sessions.specs.OutcomeTexts.{outcome_text, passed_text}
use Rattle.book_sessions.specs.Counts.{all_counted, all_passed}
use Rattle.book_sessions.specs.Foreign.{foreign_sessions, listed_sessions, segments_of}
use Rattle.book_sessions.specs.KeyLines.{asks_still, last_of}
use Rattle.book_sessions.specs.Peers.{peers_told}
use Rattle.book_sessions.specs.Retiring.{Evidence, carries_row, evidence_of, latest_seen, may_go}
use Rattle.book_sessions.specs.SessionTexts.{earliest_seen, is_of_session}
use Rattle.book_sessions.specs.SessionTexts.{opens_session}
use Rattle.book_sessions.specs.TableTexts.{has_amiss}
use Rattle.book_sessions.specs.Sessions.{SessionTable}
use Rattle.page_sessions_json.specs.Json.{json_string, json_array, json_object, json_member}
use Rattle.page_sessions_json.specs.Json.{json_bool, json_null}

-- a time, in seconds since 1970, as a string (RFC 3339, section 5.6)
unfoldable pub time_json : ℕ → List ℕ
time_json seconds = json_string (instant_text seconds)

-- an address as a string (RFC 5952, section 4)
unfoldable pub address_json : Address → List ℕ
address_json address = json_string (usual_address_text address)

-- a KeyID, if there is one (RFC 5925, section 2.2, and own)
abbrev pub id_json : Option ℕ → List ℕ
id_json None = json_null
id_json (Some id) = decimal id

-- packets that are passed over for one reason (own)
unfoldable pub passed_json : PassedCount → List ℕ
passed_json c = json_object (json_member (codes "packets") (decimal c.packets)
    ∷ json_member (codes "reason") (json_string (passed_text c.why)) ∷ [])

-- when the first of these segments was seen, if there are some (own)
abbrev pub first_json : List KeyUse → List ℕ
first_json [] = json_null
first_json (u ∷ us) = time_json (earliest_seen u.first us)

-- when the last of these segments was seen, if there are some (own)
abbrev pub last_json : List KeyUse → List ℕ
last_json [] = json_null
last_json (u ∷ us) = time_json (latest_seen u.last us)

-- the packets of a capture: how many are segments, from when to when these were seen, how many are
-- none, and why, and how many segments have no header checksum (own)
unfoldable pub packets_json : SessionTable → List ℕ
packets_json t = json_object (json_member (codes "segments") (decimal (all_counted t.uses))
    ∷ json_member (codes "first") (first_json t.uses)
    ∷ json_member (codes "last") (last_json t.uses)
    ∷ json_member (codes "other") (decimal (all_passed t.passed))
    ∷ json_member (codes "reasons") (json_array (map passed_json t.passed))
    ∷ json_member (codes "ip_checksum") (decimal t.unset) ∷ [])

-- an end of a session (own)
unfoldable pub end_json : Socket → List ℕ
end_json s = json_object (json_member (codes "address") (address_json s.address)
    ∷ json_member (codes "port") (decimal s.port) ∷ [])

-- the place of a segment's sender among the ends of its session, from 0, of which these are the
-- first segments (own)
abbrev pub sender_place : (heading one : KeyUse) → ℕ
sender_place heading u = if same_socket u.source heading.source then 0 else 1

-- how segments are protected, in a word (own)
abbrev pub protection_word : Protection → List ℕ
protection_word protection.Ao = codes "ao"
protection_word protection.Md5 = codes "md5"
protection_word protection.Plain = codes "plain"
protection_word protection.Unclear = codes "unclear"

-- the segments of one direction with one KeyID, of which the same is said (own)
unfoldable pub use_json : (heading one : KeyUse) → List ℕ
use_json heading u = json_object (json_member (codes "sender") (decimal (sender_place heading u))
    ∷ json_member (codes "key_id") (id_json u.key_id)
    ∷ json_member (codes "protection") (json_string (protection_word u.protection))
    ∷ json_member (codes "outcome") (json_string (outcome_text u.outcome))
    ∷ json_member (codes "segments") (decimal u.segments)
    ∷ json_member (codes "first") (time_json u.first)
    ∷ json_member (codes "last") (time_json u.last)
    ∷ json_member (codes "asks") (id_json u.asked)
    ∷ json_member (codes "packet") (decimal u.packet) ∷ [])

-- the segments of the session of this number (own)
abbrev pub uses_json : (number : ℕ) → (heading : KeyUse) → List KeyUse → List ℕ
uses_json number heading uses =
    json_array (map (use_json heading) (filter (is_of_session number) uses))

-- a session, by the first segments of it; there is none without segments (own)
unfoldable pub heading_json : List KeyUse → (number : ℕ) → Option KeyUse → List ℕ
heading_json uses number None = json_null
heading_json uses number (Some u) = json_object (json_member (codes "number") (decimal number)
    ∷ json_member (codes "ends") (json_array (end_json u.source ∷ end_json u.destination ∷ []))
    ∷ json_member (codes "handshake_seen")
    (json_bool (list_any (opens_session number) uses))
    ∷ json_member (codes "directions") (uses_json number u uses) ∷ [])

-- the session of this number (own)
abbrev pub session_json : List KeyUse → (number : ℕ) → List ℕ
session_json uses number = heading_json uses number (find (is_of_session number) uses)

-- who sent the last of the segments that carry a row's KeyID, and when (own)
unfoldable pub last_used_json : Option KeyUse → List ℕ
last_used_json None = json_null
last_used_json (Some u) = json_object (json_member (codes "at") (time_json u.last)
    ∷ json_member (codes "packet") (decimal u.packet)
    ∷ json_member (codes "session") (decimal u.session)
    ∷ json_member (codes "from") (address_json u.source.address) ∷ [])

-- who asks for a row (own)
unfoldable pub asked_for_json : Option KeyUse → List ℕ
asked_for_json None = json_null
asked_for_json (Some u) = json_object (json_member (codes "by") (address_json u.source.address)
    ∷ json_member (codes "session") (decimal u.session) ∷ [])

-- whether a row may go, if that is known (own)
abbrev pub may_go_json : MayGo → List ℕ
may_go_json go.Yes = json_bool true
may_go_json go.No = json_bool false
may_go_json go.Unknown = json_null

-- how many peers were seen of a row that is for any peer (own)
abbrev pub peers_json : Option ℕ → List ℕ
peers_json None = json_null
peers_json (Some n) = decimal n

-- what the operator calls a row, if it is named (RFC 7210, section 2, and own)
abbrev pub name_json : Option (List ℕ) → List ℕ
name_json None = json_null
name_json (Some name) = json_string name

-- the row of this number of a node (own)
unfoldable pub key_json : KeyFile → Evidence → Table → (number : ℕ) → Row → List ℕ
key_json keys e t n r = json_object (json_member (codes "node") (json_string t.name)
    ∷ json_member (codes "row") (decimal n)
    ∷ json_member (codes "name") (name_json (admin_name keys.document t.name n))
    ∷ json_member (codes "send_id") (decimal r.send_id)
    ∷ json_member (codes "recv_id") (decimal r.recv_id)
    ∷ json_member (codes "last_used") (last_used_json (last_of (carries_row t n r) e.uses))
    ∷ json_member (codes "asked_for") (asked_for_json (find (asks_still e t n r) e.live))
    ∷ json_member (codes "may_go") (may_go_json (may_go e keys.tables t n r))
    ∷ json_member (codes "peers_seen") (peers_json (peers_told e t r)) ∷ [])

-- the rows of a node, the first one having number n (own)
abbrev pub rows_json : KeyFile → Evidence → Table → (number : ℕ) → List Row → List (List ℕ)
rows_json keys e t n [] = []
rows_json keys e t n (r ∷ rs) = key_json keys e t n r ∷ rows_json keys e t (suc n) rs

-- the rows of all nodes (own)
abbrev pub keys_json : KeyFile → Evidence → List (List ℕ)
keys_json keys e = flat_map (λ t. rows_json keys e t 1 t.rows) keys.tables

-- the foreign sessions of these numbers: how many they are, and how many segments they have (own)
unfoldable pub foreign_json : List KeyUse → (numbers : List ℕ) → List ℕ
foreign_json uses numbers = json_object (json_member (codes "sessions") (decimal (length numbers))
    ∷ json_member (codes "segments") (decimal (segments_of uses numbers)) ∷ [])

-- a table of sessions: the capture's packets, how many sessions are foreign, each session that is
-- listed, each key of the key file, and whether anything is amiss; a line feed behind (own)
unfoldable pub sessions_json : (all : Bool) → KeyFile → SessionTable → List ℕ
sessions_json all keys t = json_object (json_member (codes "packets") (packets_json t)
    ∷ json_member (codes "foreign") (foreign_json t.uses (foreign_sessions keys.tables t))
    ∷ json_member (codes "sessions")
    (json_array (map (session_json t.uses) (listed_sessions all keys.tables t)))
    ∷ json_member (codes "keys") (json_array (keys_json keys (evidence_of t)))
    ∷ json_member (codes "amiss") (json_bool (has_amiss keys.tables t)) ∷ []) ++ 10 ∷ []
