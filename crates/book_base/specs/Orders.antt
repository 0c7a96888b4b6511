-- Sockets and pairs in order, as maps have them (own).
use Rattle.std.specs.Prelude.{Bool, not, if◌then◌else◌}
use Rattle.std.specs.Ordering.{is_lt}
use Rattle.std.specs.declared.cmp.Ordering.{Ordering}
use Rattle.book_base.specs.declared.address.Address.{Address}
use Rattle.book_base.specs.declared.address.Socket.{Socket}
use Rattle.book_base.specs.declared.address.Pair.{Pair}
use Rattle.book_base.specs.contracts.address.AddressOrd.TheImpl as address_ord
use Rattle.book_base.specs.contracts.address.SocketOrd.TheImpl as socket_ord
use Rattle.book_base.specs.contracts.address.PairOrd.TheImpl as pair_ord

-- the order of addresses: IPv4 first, then by their bytes (own)
abbrev pub by_address : (one other : Address) → Ordering
by_address = (address_ord.ghosts).cmp

-- the order of sockets: by their ports, then by their addresses (own)
abbrev pub by_socket : (one other : Socket) → Ordering
by_socket = (socket_ord.ghosts).cmp

-- the order of pairs: by their local sockets, then by their remote ones (own)
abbrev pub by_pair : (one other : Pair) → Ordering
by_pair = (pair_ord.ghosts).cmp

-- the first socket stands before the other one in the order of sockets, or is the same (own)
abbrev pub is_low : (one other : Socket) → Bool
is_low one other = not (is_lt (by_socket other one))

-- two sockets in their order, the lower one in the place of the local one (own)
abbrev pub sorted_pair : (one other : Socket) → Pair
sorted_pair one other = if is_low one other then record { local = one; remote = other }
    else record { local = other; remote = one }
