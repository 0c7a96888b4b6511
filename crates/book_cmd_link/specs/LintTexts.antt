-- What is judged of a key file: a line for each connection. Our own format. Its top is
-- `lint_text`.
use Rattle.std.specs.Prelude.{ℕ, not, Bool, true, false, List, [], ◌∷◌, codes, decimal, Result, Ok}
use Rattle.std.specs.Prelude.{Err, if◌then◌else◌}
use Rattle.std.specs.List.{list_any, flat_map}
use Rattle.book_base.specs.declared.address.Pair.{Pair}
use Rattle.book_base.specs.declared.address.Address.{Address}
use Rattle.book_lines.specs.declared.line_kind.LineKind.{LineKind}
use Rattle.book_lines.specs.declared.line_kind.LineKind.TheVariants.{Range}
use Rattle.book_keys.specs.declared.lint.LintAnswer.{LintAnswer}
use Rattle.book_keys.specs.declared.lint.LintAnswer.TheVariants as answer
use Rattle.book_keys.specs.Plans.{lint_of}
use Rattle.book_keys.specs.Rows.{Table}
use Rattle.book_lines.specs.Said.{Said}
use Rattle.book_lines.specs.Texts.{numbered_text, end_text}
use Rattle.book_lines.specs.Words.{Taken, address_in, number_in, socket_in, nothing_in}
use Rattle.book_base.specs.Results.{◌>>=◌}
use Rattle.book_keys.specs.declared.plan.Plan.{Plan}
use Rattle.book_segments.specs.Sockets.{are_two_of_a_family}
use Rattle.book_base.specs.Addresses.{greatest_port}

-- the next word as an address of this one's family that differs from it (own)
abbrev pub address_beside : Address → List (List ℕ) → Result (Taken Address) LineKind
address_beside a ws = do
  b ← address_in ws
  if are_two_of_a_family a b.value then Ok b else Err Range

-- the connection that the words of a line say: two sockets, and no more; the first one is end a
-- (own)
unfoldable pub lint_pair_of : List (List ℕ) → Result Pair LineKind
lint_pair_of ws = do
  a ← socket_in ws
  b ← address_beside a.value.address a.rest
  port ← number_in 0 greatest_port b.rest
  none ← nothing_in port.rest
  Ok (record { local = a.value; remote = record { address = b.value; port = port.value } })

-- the words for a judgement on a connection (own)
abbrev pub lint_texts : LintAnswer → List (List ℕ)
lint_texts answer.Aligned = codes "aligned" ∷ []
lint_texts (answer.NoPeerRow e r) = codes "no-peer-row" ∷ end_text e ∷ decimal r ∷ []
lint_texts (answer.ShortAccept e r) = codes "short-accept" ∷ end_text e ∷ decimal r ∷ []
lint_texts (answer.Gap e time) = codes "gap" ∷ end_text e ∷ decimal time ∷ []

-- the judgement on the connection of a line (own)
abbrev pub lint_said : List Table → Plan → Said Pair → LintAnswer
lint_said tables plan said = lint_of tables said.value plan

-- the line of a connection (own)
abbrev pub lint_line : List Table → Plan → Said Pair → List ℕ
lint_line tables plan said = numbered_text said.number (lint_texts (lint_said tables plan said))

-- the lines of the connections, one after another (own)
unfoldable pub lint_text : List Table → Plan → List (Said Pair) → List ℕ
lint_text tables plan said = flat_map (lint_line tables plan) said

-- a judgement says that the tables carry the connection through its rollovers (own)
abbrev pub is_aligned : LintAnswer → Bool
is_aligned answer.Aligned = true
is_aligned _ = false

-- some connection isn't aligned (own)
abbrev pub has_misfit : List Table → Plan → List (Said Pair) → Bool
has_misfit tables plan said = list_any (λ s. not (is_aligned (lint_said tables plan s))) said
