-- The connection that a line names, its addresses in their usual form. Its top is `plan_pair_of`.
use Rattle.std.specs.Prelude.{ℕ, List, if◌then◌else◌, Result, Ok, Err}
use Rattle.book_base.specs.declared.address.Address.{Address}
use Rattle.book_base.specs.declared.address.Pair.{Pair}
use Rattle.book_lines.specs.declared.line_kind.LineKind.{LineKind}
use Rattle.book_lines.specs.declared.line_kind.LineKind.TheVariants.{Range}
use Rattle.book_base.specs.Results.{◌>>=◌}
use Rattle.book_segments.specs.Sockets.{are_two_of_a_family}
use Rattle.book_lines.specs.Words.{Taken, number_in, nothing_in}
use Rattle.book_scope_texts.specs.AddressWords.{usual_address_in, usual_socket_in}
use Rattle.book_base.specs.Addresses.{greatest_port}

-- the next word as an address of this one's family that differs from it (own)
abbrev pub usual_address_beside : Address → List (List ℕ) → Result (Taken Address) LineKind
usual_address_beside a ws = do
  b ← usual_address_in ws
  if are_two_of_a_family a b.value then Ok b else Err Range

-- the connection that the words of a line say: two sockets, and no more; the first one is end a
-- (own)
unfoldable pub plan_pair_of : List (List ℕ) → Result Pair LineKind
plan_pair_of ws = do
  a ← usual_socket_in ws
  b ← usual_address_beside a.value.address a.rest
  port ← number_in 0 greatest_port b.rest
  none ← nothing_in port.rest
  Ok (record { local = a.value; remote = record { address = b.value; port = port.value } })
