-- The members of objects of JSON, as they are written one part behind another (own).
use Rattle.std.specs.Prelude.{ℕ, List, [], ◌∷◌, Option, codes, decimal}
use Rattle.toml.specs.Data.{Members}
use Rattle.book_scope_plan.specs.AdminNames.{admin_name}
use Rattle.book_keys.specs.Rows.{Row, Table}
use Rattle.book_sessions.specs.declared.uses.KeyUse.{KeyUse}
use Rattle.book_sessions.specs.OutcomeTexts.{outcome_text}
use Rattle.page_sessions_json.specs.Json.{json_member, json_string}
use Rattle.page_sessions_json.specs.SessionJson.{address_json, asked_for_json, id_json, last_used_json, name_json, peers_json}
use Rattle.page_sessions_json.specs.SessionJson.{protection_word, sender_place, time_json}

-- of segments: who sent them, under which KeyID, and how they are protected
abbrev pub sender_members : (heading one : KeyUse) → List (List ℕ)
sender_members heading u = json_member (codes "sender") (decimal (sender_place heading u))
    ∷ json_member (codes "key_id") (id_json u.key_id)
    ∷ json_member (codes "protection") (json_string (protection_word u.protection)) ∷ []

-- of segments: what is said of them, how many they are, and when the first was seen
abbrev pub span_members : KeyUse → List (List ℕ)
span_members u = json_member (codes "outcome") (json_string (outcome_text u.outcome))
    ∷ json_member (codes "segments") (decimal u.segments)
    ∷ json_member (codes "first") (time_json u.first) ∷ []

-- of segments: when the last was seen, what they ask for, and the last packet
abbrev pub asked_members : KeyUse → List (List ℕ)
asked_members u = json_member (codes "last") (time_json u.last)
    ∷ json_member (codes "asks") (id_json u.asked)
    ∷ json_member (codes "packet") (decimal u.packet) ∷ []

-- of segments: when the last was seen, and what they ask for
abbrev pub late_members : KeyUse → List (List ℕ)
late_members u = json_member (codes "last") (time_json u.last)
    ∷ json_member (codes "asks") (id_json u.asked) ∷ []

-- of the last use of a row: its time and its packet
abbrev pub seen_members : KeyUse → List (List ℕ)
seen_members u = json_member (codes "at") (time_json u.last)
    ∷ json_member (codes "packet") (decimal u.packet) ∷ []

-- of the last use of a row: its session, and who sent it
abbrev pub from_members : KeyUse → List (List ℕ)
from_members u = json_member (codes "session") (decimal u.session)
    ∷ json_member (codes "from") (address_json u.source.address) ∷ []

-- of a row: its node, its number, and what the operator calls it
abbrev pub node_members : Members → Table → (number : ℕ) → List (List ℕ)
node_members document t n = json_member (codes "node") (json_string t.name)
    ∷ json_member (codes "row") (decimal n)
    ∷ json_member (codes "name") (name_json (admin_name document t.name n)) ∷ []

-- of a row: its ids
abbrev pub id_members : Row → List (List ℕ)
id_members r = json_member (codes "send_id") (decimal r.send_id)
    ∷ json_member (codes "recv_id") (decimal r.recv_id) ∷ []

-- of a row: who used it last, who asks for it, and whether it may go
abbrev pub state_members : (last asking : Option KeyUse) → (may : List ℕ) → List (List ℕ)
state_members last asking may = json_member (codes "last_used") (last_used_json last)
    ∷ json_member (codes "asked_for") (asked_for_json asking)
    ∷ json_member (codes "may_go") may ∷ []

-- of a row: the same, and how many peers were seen
abbrev pub told_members : (last asking : Option KeyUse) → (may : List ℕ) → (peers : Option ℕ) → List (List ℕ)
told_members last asking may peers = json_member (codes "last_used") (last_used_json last)
    ∷ json_member (codes "asked_for") (asked_for_json asking)
    ∷ json_member (codes "may_go") may
    ∷ json_member (codes "peers_seen") (peers_json peers) ∷ []
