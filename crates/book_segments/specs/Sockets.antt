-- Addresses and sockets as the bytes in which they are sent.
use Rattle.std.specs.Prelude.{ℕ, ◌==◌, Bool, false, not, ◌&&◌, List}
use Rattle.book_base.specs.declared.address.Address.{Address}
use Rattle.book_base.specs.declared.address.Address.TheVariants.{V4, V6}
use Rattle.book_base.specs.declared.address.Socket.{Socket}
use Rattle.book_base.specs.Addresses.{same_family}
use Rattle.book_segments.specs.Bytes.{same_bytes}

-- the bytes of an address in the order in which they are sent (RFC 791, section 3.1; RFC 8200,
-- section 3)
abbrev pub octets : Address → List ℕ
octets (V4 bytes) = bytes
octets (V6 bytes) = bytes

-- both addresses are of one family and have the same bytes (own)
abbrev pub same_address : (one other : Address) → Bool
same_address (V4 one) (V4 two) = same_bytes one two
same_address (V4 one) (V6 two) = false
same_address (V6 one) (V4 two) = false
same_address (V6 one) (V6 two) = same_bytes one two

-- both addresses are of one family and differ (own)
abbrev pub are_two_of_a_family : (one other : Address) → Bool
are_two_of_a_family one other = same_family one other && not (same_address one other)

-- both sockets have the same address and port (RFC 9293, section 4)
abbrev pub same_socket : (one other : Socket) → Bool
same_socket one two = same_address one.address two.address && (one.port == two.port)
