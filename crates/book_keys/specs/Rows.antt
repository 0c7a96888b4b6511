-- Rows and tables of keys, and which rows are usable (RFC 7210): `sendable` and `acceptable` are
-- the file's tops.
use Rattle.std.specs.Prelude.{ℕ, ◌==◌, ◌&&◌, Bool, true, false, List, Option, Some, None}
use Rattle.std.specs.List.{list_any}
use Rattle.book_base.specs.declared.address.Address.{Address}
use Rattle.book_base.specs.declared.address.Pair.{Pair}
use Rattle.book_base.specs.declared.algorithm.Algorithm.{Algorithm}
use Rattle.book_segments.specs.Sockets.{same_address}
use Rattle.book_keys.specs.declared.direction.Direction.{Direction}
use Rattle.book_keys.specs.declared.direction.Direction.TheVariants.{Receive, Send, Both}
use Rattle.book_keys.specs.declared.lifetime.Lifetime.{Lifetime}
use Rattle.book_keys.specs.Lifetimes.{contains}

-- the greatest KeyID (RFC 5925, section 2.2)
abbrev pub greatest_key_id : ℕ
greatest_key_id = 0xff

-- how many nodes a key file has at most (own)
abbrev pub node_limit : ℕ
node_limit = 16

-- how many rows a table has at most (own)
abbrev pub row_limit : ℕ
row_limit = 64

-- how many peers a row names at most (own)
abbrev pub peer_limit : ℕ
peer_limit = 16

-- a row of a key table; the peer None is `any`, a port None is any port (RFC 7210, section 2, and
-- own)
pub record Row : Type 0 where
  pub recv_id : ℕ
  pub send_id : ℕ
  pub peers : List (Option Address)
  pub local_port : Option ℕ
  pub peer_port : Option ℕ
  pub algorithm : Algorithm
  pub master : List ℕ
  pub with_options : Bool
  pub direction : Direction
  pub sending : Lifetime
  pub accepting : Lifetime

-- the table of a node; its rows are numbered from 1 (own)
pub record Table : Type 0 where
  pub name : List ℕ
  pub address : Address
  pub rows : List Row

-- the peer of a row is this address, or is `any` (RFC 7210, section 2)
abbrev pub names : Option Address → Address → Bool
names None address = true
names (Some one) address = same_address one address

-- a port of a row is absent, or is this port (own)
abbrev pub fits_port : Option ℕ → ℕ → Bool
fits_port None port = true
fits_port (Some one) port = one == port

-- the row matches the pair: its peers name the remote address, and both ports fit (RFC 7210,
-- section 3, and own)
abbrev pub matches : Row → Pair → Bool
matches r pair =
    list_any (λ peer. names peer pair.remote.address) r.peers
    && (fits_port r.local_port pair.local.port && fits_port r.peer_port pair.remote.port)

-- a row with this Direction is for segments that come in (RFC 7210, section 2)
abbrev pub receives : Direction → Bool
receives Receive = true
receives Both = true
receives _ = false

-- a row with this Direction is for segments that go out (RFC 7210, section 2)
abbrev pub sends : Direction → Bool
sends Send = true
sends Both = true
sends _ = false

-- the row sends for the pair: it matches, and is for what goes out (RFC 7210, section 3)
abbrev pub sends_for : Pair → Row → Bool
sends_for pair r = matches r pair && sends r.direction

-- the row may send for the pair at the time (RFC 7210, section 3)
abbrev pub sendable : Pair → ℕ → Row → Bool
sendable pair time r =
    matches r pair && (sends r.direction && contains r.sending time)

-- the row may accept for the pair at the time (RFC 7210, section 3)
abbrev pub acceptable : Pair → ℕ → Row → Bool
acceptable pair time r =
    matches r pair && (receives r.direction && contains r.accepting time)

-- the table is that of the node with this address (own)
abbrev pub has_address : Address → Table → Bool
has_address address t = same_address t.address address
