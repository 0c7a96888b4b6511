-- What the words of a test vector say. Our own format.
use Rattle.std.specs.Prelude.{ℕ, ◌||◌, ◌==◌, if◌then◌else◌, Bool, List, [], length, codes, Option}
use Rattle.std.specs.Prelude.{Some, Result, Ok, Err}
use Rattle.std.specs.Str.{bytes_eq}
use Rattle.book_lines.specs.declared.line_kind.LineKind.{LineKind}
use Rattle.book_lines.specs.declared.line_kind.LineKind.TheVariants.{Hex, Range}
use Rattle.book_base.specs.Hexadecimal.{bytes_of_hex}
use Rattle.book_lines.specs.Words.{Taken, word_as, choice_in, hex_in}
use Rattle.book_base.specs.Results.{◌>>=◌}

-- the next word as a message in hexadecimal, or a hyphen for the empty one (own)
unfoldable pub message_in : List (List ℕ) → Result (Taken (List ℕ)) LineKind
message_in ws = word_as (λ w. if bytes_eq w (codes "-") then Some [] else bytes_of_hex w) Hex ws

-- the context of a traffic key: 20 bytes over IPv4, 44 over IPv6 (RFC 5925, section 5.2)
unfoldable pub context_in : List (List ℕ) → Result (Taken (List ℕ)) LineKind
context_in ws = do
  bytes ← hex_in ws
  if (length bytes.value == 20) || (length bytes.value == 44) then Ok bytes else Err Range

-- whether all options are under a MAC: `options`, or `no-options` (RFC 5925, section 3.1)
abbrev pub covering_in : List (List ℕ) → Result (Taken Bool) LineKind
covering_in ws = choice_in (codes "no-options") (codes "options") ws
