-- The lines that give the initial sequence numbers of sessions whose handshake isn't in a capture.
-- Our own format. Its top is `given_isns_of`.
use Rattle.std.specs.Prelude.{ℕ, ◌&&◌, not, Bool, if◌then◌else◌, List, [], ◌∷◌}
use Rattle.std.specs.Prelude.{Result, Ok, Err}
use Rattle.book_base.specs.declared.address.Socket.{Socket}
use Rattle.book_lines.specs.declared.line_kind.LineKind.{LineKind}
use Rattle.book_lines.specs.declared.line_kind.LineKind.TheVariants.{Range}
use Rattle.book_base.specs.Addresses.{same_family}
use Rattle.book_base.specs.Results.{◌>>=◌}
use Rattle.book_segments.specs.Sockets.{same_socket}
use Rattle.book_lines.specs.declared.text_fault.TextFault.{TextFault}
use Rattle.book_lines.specs.Said.{Said, said_in}
use Rattle.book_lines.specs.Words.{Taken, number_in, nothing_in}
use Rattle.book_scope_texts.specs.AddressWords.{usual_socket_in}
use Rattle.book_cmd_link.specs.LinkEvents.{greatest_isn}
use Rattle.book_cmd_check.specs.declared.given.GivenIsns.{GivenIsns}

-- two sockets are those of a connection: of one family, and not the same (RFC 9293, section
-- 3.3.1, and own)
abbrev pub can_connect : (one other : Socket) → Bool
can_connect a b = same_family a.address b.address && not (same_socket a b)

-- the next two words as a socket that can connect with this one (own)
unfoldable pub other_socket_in : Socket → List (List ℕ) → Result (Taken Socket) LineKind
other_socket_in one ws = do
  other ← usual_socket_in ws
  if can_connect one other.value then Ok other else Err Range

-- what the words of a line give: two sockets, each with its initial sequence number of four bytes
-- (RFC 9293, section 3.1, and own)
unfoldable pub given_isns_in : List (List ℕ) → Result GivenIsns LineKind
given_isns_in ws = do
  one ← usual_socket_in ws
  one_isn ← number_in 0 greatest_isn one.rest
  other ← other_socket_in one.value one_isn.rest
  other_isn ← number_in 0 greatest_isn other.rest
  none ← nothing_in other_isn.rest
  Ok (record {
    one = one.value;
    one_isn = one_isn.value;
    other = other.value;
    other_isn = other_isn.value;
  })

-- what lines give (own)
abbrev pub given_by : List (Said GivenIsns) → List GivenIsns
given_by [] = []
given_by (s ∷ ss) = s.value ∷ given_by ss

-- what the lines of a text give, or its first faulty line (own)
unfoldable pub given_isns_of : List ℕ → Result (List GivenIsns) TextFault
given_isns_of text = do
  said ← said_in given_isns_in text
  Ok (given_by said)
