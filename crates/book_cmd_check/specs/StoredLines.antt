-- The lines of stored segments: a time and a datagram each. Our own format. Its top is
-- `stored_input`.
use Rattle.std.specs.Prelude.{ℕ, ◌+◌, nat_lt, List, [], ◌∷◌, length, Option, Some, None, Result, Ok}
use Rattle.std.specs.Prelude.{Err, if◌then◌else◌}
use Rattle.book_lines.specs.declared.line_kind.LineKind.{LineKind}
use Rattle.book_lines.specs.declared.line_kind.LineKind.TheVariants.{Range}
use Rattle.book_base.specs.Lines.{lines_of, words_of}
use Rattle.book_keys.specs.Lifetimes.{greatest_time}
use Rattle.book_lines.specs.Lines.{says_something}
use Rattle.book_lines.specs.Words.{number_in, sized_hex_in, nothing_in}
use Rattle.book_base.specs.Results.{◌>>=◌}
use Rattle.book_pcap.specs.Packets.{longest_datagram}
use Rattle.book_cmd_check.specs.Captures.{Stored}

-- the most bytes of a line of an input of stored segments (own)
abbrev pub most_line : ℕ
most_line = 131200

-- the stored segment that words say: a time, and a datagram in hexadecimal, not empty and no longer
-- than the longest (own)
abbrev pub stored_of : ℕ → List (List ℕ) → Result Stored LineKind
stored_of n ws = do
  time ← number_in 0 greatest_time ws
  bytes ← sized_hex_in 1 longest_datagram time.rest
  none ← nothing_in bytes.rest
  Ok (record { number = n; time = time.value; bytes = bytes.value })

-- what the words of a line have: nothing, where the line says nothing (own)
abbrev pub stored_in : ℕ → List (List ℕ) → Result (Option Stored) LineKind
stored_in n ws = if says_something ws then (do s ← stored_of n ws; Ok (Some s)) else Ok None

-- what a line has; one that is too long is refused, whatever its words (own)
unfoldable pub stored_line : ℕ → List ℕ → Result (Option Stored) LineKind
stored_line n line =
    if nat_lt most_line (length line) then Err Range else stored_in n (words_of line)

-- a faulty line: its number among all lines, and the kind of its first faulty word (own)
pub record LineFault : Type 0 where
  pub number : ℕ
  pub kind : LineKind

-- the stored datagrams of an input up to its first fault, and that fault, if there is one (own)
pub record StoredInput : Type 0 where
  pub stored : List Stored
  pub fault : Option LineFault

-- a stored datagram, if there is one, in front of others (own)
abbrev pub with_stored : Option Stored → StoredInput → StoredInput
with_stored None input = input
with_stored (Some s) input = record { stored = s ∷ input.stored; fault = input.fault }

-- what a line has, with what the lines behind it have (own)
abbrev pub by_line : ℕ → Result (Option Stored) LineKind → StoredInput → StoredInput
by_line n (Err kind) others = record {
  stored = [];
  fault = Some (record { number = n; kind = kind });
}
by_line n (Ok s) others = with_stored s others

-- the stored datagrams of these lines, the first line having number n (own)
abbrev pub stored_from : ℕ → List (List ℕ) → StoredInput
stored_from n [] = record { stored = []; fault = None }
stored_from n (l ∷ ls) = by_line n (stored_line n l) (stored_from (n + 1) ls)

-- the stored datagrams of a text (own)
unfoldable pub stored_input : List ℕ → StoredInput
stored_input text = stored_from 1 (lines_of text)
