-- The words of a line that name a socket, its address in its usual form. Its top is
-- `usual_socket_in`.
use Rattle.std.specs.Prelude.{List, ℕ, Result, Ok}
use Rattle.book_base.specs.declared.address.Address.{Address}
use Rattle.book_base.specs.declared.address.Socket.{Socket}
use Rattle.book_lines.specs.declared.line_kind.LineKind.{LineKind}
use Rattle.book_lines.specs.declared.line_kind.LineKind.TheVariants.{Word}
use Rattle.book_base.specs.Results.{◌>>=◌}
use Rattle.book_lines.specs.Words.{Taken, word_as, number_in}
use Rattle.book_base.specs.Addresses.{greatest_port}
use Rattle.book_scope_texts.specs.Addresses.{usual_address_of}

-- the next word as an address in its usual form (RFC 4291, section 2.2, and own)
unfoldable pub usual_address_in : List (List ℕ) → Result (Taken Address) LineKind
usual_address_in ws = word_as usual_address_of Word ws

-- the next two words as an address in its usual form, and a port of two bytes (own)
unfoldable pub usual_socket_in : List (List ℕ) → Result (Taken Socket) LineKind
usual_socket_in ws = do
  address ← usual_address_in ws
  port ← number_in 0 greatest_port address.rest
  Ok (record { value = record { address = address.value; port = port.value }; rest = port.rest })
