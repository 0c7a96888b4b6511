-- What the types of sockets say.
use Rattle.std.specs.Prelude.{◌<◌}
use Rattle.book_base.specs.declared.address.Address.{Address}
use Rattle.book_base.specs.declared.address.Address.TheVariants.{V4, V6}
use Rattle.book_base.specs.declared.address.Socket.{Socket}
use Rattle.book_segments.specs.Spelling.{IsV4, IsV6}
use Rattle.law_link.specs.Laws.{AddressesFit}

-- an address as long as its family's are, of bytes
-- (RFC 791, section 3.1; RFC 8200, section 3)
abbrev pub IsPlace : Address → Type 0
IsPlace (V4 bytes) = IsV4 (V4 bytes)
IsPlace (V6 bytes) = IsV6 (V6 bytes)

-- two addresses of one family, each as long as its family's are, and ports of 16 bits
-- (RFC 791, section 3.1; RFC 8200, section 3; RFC 9293, section 3.1)
pub record SocketsFit (a b : Socket) : Type 0 where
  pub family : AddressesFit a.address b.address
  pub a_port : a.port < 65536
  pub b_port : b.port < 65536
