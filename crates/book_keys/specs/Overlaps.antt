-- Rows that overlap, and the least two of them (own): `overlaps`, `IsValid` and `first_overlap` are
-- the file's tops.
use Rattle.std.specs.Prelude.{◌≡◌, ◌⊎◌, ℕ, ◌+◌, ◌-◌, ◌≤◌, ◌<◌, ◌==◌, max, min, nat_le}
use Rattle.std.specs.Prelude.{Bool, true, false, ◌&&◌, ◌||◌, List, [], ◌∷◌, length, slice_index_or}
use Rattle.std.specs.Prelude.{Option, Some, None, option_map}
use Rattle.std.specs.List.{list_any, position_from, AllPairs}
use Rattle.std.specs.Option.{option_or}
use Rattle.book_base.specs.declared.address.Address.{Address}
use Rattle.book_base.specs.declared.address.Pair.{Pair}
use Rattle.book_keys.specs.declared.lifetime.Lifetime.{Lifetime}
use Rattle.book_segments.specs.Sockets.{same_address}
use Rattle.book_keys.specs.Rows.{Row, row_limit, receives, sends, sendable, acceptable}

-- both rows may accept for the pair at the time, under one RecvID (RFC 7210, section 3)
pub record BothAccept (a b : Row) (pair : Pair) (time : ℕ) : Type 0 where
  pub one_id : a.recv_id ≡ b.recv_id
  pub left : acceptable pair time a ≡ true
  pub right : acceptable pair time b ≡ true

-- both rows may send for the pair at the time, under one SendID (RFC 7210, section 3)
pub record BothSend (a b : Row) (pair : Pair) (time : ℕ) : Type 0 where
  pub one_id : a.send_id ≡ b.send_id
  pub left : sendable pair time a ≡ true
  pub right : sendable pair time b ≡ true

-- for some pair at some time both rows may accept, or both may send, under one id (own)
abbrev pub Overlap : (one other : Row) → Type 0
Overlap a b = (pair : Pair) × (time : ℕ) × (BothAccept a b pair time ⊎ BothSend a b pair time)

-- two peers of rows name a common address (own)
abbrev pub peer_meets : (one other : Option Address) → Bool
peer_meets None q = true
peer_meets (Some a) None = true
peer_meets (Some a) (Some b) = same_address a b

-- some address is named by both lists of peers (own)
abbrev pub peers_meet : (one other : List (Option Address)) → Bool
peers_meet ps qs = list_any (λ p. list_any (peer_meets p) qs) ps

-- two ports of rows fit a common port (own)
abbrev pub ports_meet : (one other : Option ℕ) → Bool
ports_meet None q = true
ports_meet (Some a) None = true
ports_meet (Some a) (Some b) = a == b

-- two lifetimes have a common second (own)
abbrev pub lifetimes_meet : (one other : Lifetime) → Bool
lifetimes_meet a b = nat_le (max a.first b.first) (min a.last b.last)

-- some pair matches both rows (own)
abbrev pub pairs_meet : (one other : Row) → Bool
pairs_meet a b =
    (ports_meet a.local_port b.local_port && ports_meet a.peer_port b.peer_port)
    && peers_meet a.peers b.peers

-- both rows are for what comes in, under one RecvID, in a common second (own)
abbrev pub accepts_meet : (one other : Row) → Bool
accepts_meet a b =
    (receives a.direction && receives b.direction)
    && ((a.recv_id == b.recv_id) && lifetimes_meet a.accepting b.accepting)

-- both rows are for what goes out, under one SendID, in a common second (own)
abbrev pub sends_meet : (one other : Row) → Bool
sends_meet a b =
    (sends a.direction && sends b.direction)
    && ((a.send_id == b.send_id) && lifetimes_meet a.sending b.sending)

-- the test whether two rows overlap, by their columns (own)
unfoldable pub overlaps : (one other : Row) → Bool
overlaps a b = (accepts_meet a b || sends_meet a b) && pairs_meet a b

-- no two of these rows overlap (own)
abbrev pub AreApart : List Row → Type 0
AreApart rows = AllPairs (λ a b. overlaps a b ≡ false) rows

-- a table is valid where no two of its rows overlap and it has at most 64 rows (own)
pub record IsValid (rows : List Row) : Type 0 where
  pub apart : AreApart rows
  pub limit : length rows ≤ row_limit

-- the numbers of two rows, in order (own)
pub record TwoRows : Type 0 where
  pub first : ℕ
  pub second : ℕ

-- the numbers of two rows, from the one and the other (own)
abbrev pub two_rows : (one other : ℕ) → TwoRows
two_rows r s = record { first = r; second = s }

-- the least two numbers of rows that overlap, where the first row has number r (own)
unfoldable pub first_overlap : ℕ → List Row → Option TwoRows
first_overlap r [] = None
first_overlap r (a ∷ rest) =
    option_or (option_map (two_rows r) (position_from (overlaps a) (r + 1) rest))
    (first_overlap (r + 1) rest)

-- rows j and k, counted from 0, overlap (own)
abbrev pub overlap_at : List Row → Row → (one other : ℕ) → Bool
overlap_at rows d j k = overlaps (slice_index_or rows j d) (slice_index_or rows k d)

-- the rows of these numbers overlap, and no two rows before them in order do (own)
pub record IsFirstOverlap (rows : List Row) (two : TwoRows) : Type 0 where
  pub counted : 1 ≤ two.first
  pub ordered : two.first < two.second
  pub within : two.second ≤ length rows
  pub overlap : (d : Row) → overlap_at rows d (two.first - 1) (two.second - 1) ≡ true
  pub earlier : (j k : ℕ) (d : Row) → j < two.first - 1 → j < k → k < length rows
      → overlap_at rows d j k ≡ false
  pub beside : (k : ℕ) (d : Row) → two.first - 1 < k → k < two.second - 1
      → overlap_at rows d (two.first - 1) k ≡ false
