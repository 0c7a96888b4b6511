-- How many peers a capture shows of a row that is for any peer. Its top is `peers_told`.
use Rattle.std.specs.Prelude.{ℕ, Bool, true, false, List, [], ◌∷◌, ◌++◌, length, Option, Some, None}
use Rattle.std.specs.Prelude.{if◌then◌else◌}
use Rattle.std.specs.List.{list_any}
use Rattle.book_base.specs.declared.address.Address.{Address}
use Rattle.book_segments.specs.Sockets.{same_address}
use Rattle.book_keys.specs.Rows.{Row, Table}
use Rattle.book_sessions.specs.declared.uses.KeyUse.{KeyUse}
use Rattle.book_sessions.specs.Retiring.{Evidence, sent_by, shows_peer}

-- the peer is `any` (RFC 7210, section 2)
abbrev pub is_any : Option Address → Bool
is_any None = true
is_any (Some address) = false

-- the address of the peer of these, which are at the row (own)
abbrev pub peer_address : Table → Row → KeyUse → Address
peer_address t r u = if sent_by t r u then u.destination.address else u.source.address

-- these addresses, with one more where it isn't among them (own)
abbrev pub with_address : Address → List Address → List Address
with_address a found = if list_any (same_address a) found then found else found ++ a ∷ []

-- the different addresses that chosen uses have (own)
abbrev pub addresses_of : (chosen : KeyUse → Bool) → (KeyUse → Address) → List KeyUse → List Address
addresses_of chosen address [] = []
addresses_of chosen address (u ∷ us) = if chosen u
    then with_address (address u) (addresses_of chosen address us)
    else addresses_of chosen address us

-- how many different peers of the row were seen in connections that go on, and that no other
-- followed (own)
abbrev pub peers_seen : Evidence → Table → Row → ℕ
peers_seen e t r = length (addresses_of (shows_peer e.uses t r None) (peer_address t r) e.live)

-- the same, of a row that is for any peer (own)
abbrev pub peers_told : Evidence → Table → Row → Option ℕ
peers_told e t r = if list_any is_any r.peers then Some (peers_seen e t r) else None
