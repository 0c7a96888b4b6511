-- What the words of a line say, from the left, or the kind of the first faulty one. Our own
-- format. Each definition whose name ends in `_in` reads words from the left and leaves those
-- after them.
use Rattle.std.specs.Prelude.{ℕ, ◌&&◌, nat_le, nat_lt, if◌then◌else◌, Bool, true, false, List, []}
use Rattle.std.specs.Prelude.{◌∷◌, length, codes, Option, Some, None, Result, Ok, Err}
use Rattle.std.specs.Str.{bytes_eq}
use Rattle.book_base.specs.declared.address.Address.{Address}
use Rattle.book_base.specs.declared.address.Socket.{Socket}
use Rattle.book_base.specs.declared.algorithm.Algorithm.{Algorithm}
use Rattle.book_base.specs.declared.end.End.{End}
use Rattle.book_base.specs.declared.end.End.TheVariants.{A, B}
use Rattle.book_lines.specs.declared.line_kind.LineKind.{LineKind}
use Rattle.book_lines.specs.declared.line_kind.LineKind.TheVariants.{Word, Number, Hex, Range}
use Rattle.book_base.specs.Addresses.{address_of, greatest_port}
use Rattle.book_base.specs.Algorithms.{algorithm_of}
use Rattle.book_base.specs.Decimals.{decimal_of}
use Rattle.book_base.specs.Hexadecimal.{bytes_of_hex}
use Rattle.book_base.specs.Results.{◌>>=◌, or_fault}

-- what words in front say, and the words after them (own)
pub record Taken (A : Type 0) : Type 0 where
  pub value : A
  pub rest : List (List ℕ)

-- no word is left: each one that is has the kind of a faulty word (own)
unfoldable pub nothing_in : List (List ℕ) → Result (Unit {0}) LineKind
nothing_in [] = Ok tt
nothing_in (w ∷ ws) = Err Word

-- the next word, which may not be missing (own)
unfoldable pub word_in : List (List ℕ) → Result (Taken (List ℕ)) LineKind
word_in [] = Err Word
word_in (w ∷ ws) = Ok (record { value = w; rest = ws })

-- a word that is what a reading makes of it, or else is of the kind (own)
abbrev pub word_as : {A : Type 0} → (List ℕ → Option A) → LineKind → List (List ℕ) →
    Result (Taken A) LineKind
word_as meaning kind ws = do
  w ← word_in ws
  x ← or_fault (meaning w.value) kind
  Ok (record { value = x; rest = w.rest })

-- the next word, which is this very text (own)
unfoldable pub literal_in : List ℕ → List (List ℕ) → Result (Taken (Unit {0})) LineKind
literal_in text ws = word_as (λ w. if bytes_eq w text then Some tt else None) Word ws

-- which of two texts a word is: whether it is the other one (own)
abbrev pub choice_of : (one other word : List ℕ) → Option Bool
choice_of one other w =
    if bytes_eq w one then Some false
    else if bytes_eq w other then Some true
    else None

-- the next word, which is one of two texts: whether it is the other one (own)
unfoldable pub choice_in : (one other : List ℕ) → List (List ℕ) → Result (Taken Bool) LineKind
choice_in one other ws = word_as (choice_of one other) Word ws

-- the end that a word names, `a` or `b` (own)
unfoldable pub end_of : List ℕ → Option End
end_of w =
    if bytes_eq w (codes "a") then Some A
    else if bytes_eq w (codes "b") then Some B
    else None

-- the next word as an end (own)
unfoldable pub end_in : List (List ℕ) → Result (Taken End) LineKind
end_in ws = word_as end_of Word ws

-- the next word as an address (own)
unfoldable pub address_in : List (List ℕ) → Result (Taken Address) LineKind
address_in ws = word_as address_of Word ws

-- the next word as the name of an algorithm (RFC 5926, section 3.2, and own)
unfoldable pub algorithm_in : List (List ℕ) → Result (Taken Algorithm) LineKind
algorithm_in ws = word_as algorithm_of Word ws

-- the value, where the number is from low to high (own)
abbrev pub if_within : {A : Type 0} → (low high number : ℕ) → A → Result A LineKind
if_within low high n x = if nat_le low n && nat_le n high then Ok x else Err Range

-- the next word as a decimal from low to high (own)
unfoldable pub number_in : (low high : ℕ) → List (List ℕ) → Result (Taken ℕ) LineKind
number_in low high ws = do
  n ← word_as decimal_of Number ws
  if_within low high n.value n

-- the next two words as an address, and a port of two bytes (own)
unfoldable pub socket_in : List (List ℕ) → Result (Taken Socket) LineKind
socket_in ws = do
  address ← address_in ws
  port ← number_in 0 greatest_port address.rest
  Ok (record { value = record { address = address.value; port = port.value }; rest = port.rest })

-- the next word as bytes in hexadecimal (own)
unfoldable pub hex_in : List (List ℕ) → Result (Taken (List ℕ)) LineKind
hex_in ws = word_as bytes_of_hex Hex ws

-- the next word as from low to high bytes in hexadecimal (own)
unfoldable pub sized_hex_in : (low high : ℕ) → List (List ℕ) → Result (Taken (List ℕ)) LineKind
sized_hex_in low high ws = do
  bytes ← hex_in ws
  if_within low high (length bytes.value) bytes

-- the next word as at least one byte in hexadecimal (own)
unfoldable pub some_hex_in : List (List ℕ) → Result (Taken (List ℕ)) LineKind
some_hex_in ws = do
  bytes ← hex_in ws
  if nat_lt 0 (length bytes.value) then Ok bytes else Err Range

-- the first byte of bytes, or 0 (own)
abbrev pub first_of : List ℕ → ℕ
first_of [] = 0
first_of (b ∷ bs) = b

-- the next word as a byte in two digits (own)
unfoldable pub byte_in : List (List ℕ) → Result (Taken ℕ) LineKind
byte_in ws = do
  bytes ← sized_hex_in 1 1 ws
  Ok (record { value = first_of bytes.value; rest = bytes.rest })
