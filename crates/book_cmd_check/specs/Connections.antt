-- The connections that are held while stored datagrams are judged, as a map (own). Its top is
-- `IsMap`.
use Rattle.std.specs.Prelude.{◌≡◌, ℕ, ◌<◌, true, List, [], ◌∷◌, length, slice_index_or}
use Rattle.book_base.specs.declared.address.Socket.{Socket}
use Rattle.book_keys.specs.Rows.{Table}
use Rattle.book_cmd_check.specs.Captures.{Stored, Connection, joins, hear}

-- the connections after these stored datagrams, judged one after another (own)
abbrev pub connections_after : List Table → List Connection → List Stored → List Connection
connections_after tables held [] = held
connections_after tables held (s ∷ rest) =
    connections_after tables (hear tables held s.time s.bytes).connections rest

-- at most one of the connections is between two sockets, whichever they are (own)
abbrev pub IsMap : List Connection → Type 0
IsMap held =
    (a b : Socket) (j k : ℕ) (d : Connection) → j < length held → k < length held
    → joins a b (slice_index_or held j d) ≡ true → joins a b (slice_index_or held k d) ≡ true
    → j ≡ k
