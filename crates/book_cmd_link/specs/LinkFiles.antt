-- The script that a link file is, or its first fault. Our own format. Its top is `script_of`.
use Rattle.std.specs.Prelude.{ℕ, ◌+◌, Bool, true, false, List, [], ◌∷◌, length, codes, Option}
use Rattle.std.specs.Prelude.{Some, None, Result, Ok, Err, if◌then◌else◌}
use Rattle.std.specs.Str.{bytes_eq}
use Rattle.book_base.specs.declared.address.Socket.{Socket}
use Rattle.book_lines.specs.declared.line_kind.LineKind.{LineKind}
use Rattle.book_lines.specs.declared.line_kind.LineKind.TheVariants as kind
use Rattle.book_base.specs.Lines.{lines_of}
use Rattle.book_segments.specs.Sockets.{are_two_of_a_family}
use Rattle.book_keys.specs.MasterKeys.{longest_master_key}
use Rattle.book_keys.specs.Rows.{Table}
use Rattle.book_keys.specs.Shared.{shared_tables}
use Rattle.book_lines.specs.declared.text_fault.TextFault.{TextFault}
use Rattle.book_lines.specs.declared.text_fault.TextFault.TheVariants as fault
use Rattle.book_lines.specs.Lines.{Line, saying_lines}
use Rattle.book_lines.specs.Said.{at_number, if_few_lines}
use Rattle.book_lines.specs.Words.{nothing_in, literal_in, socket_in, algorithm_in, sized_hex_in}
use Rattle.book_base.specs.Results.{◌>>=◌}
use Rattle.book_link.specs.declared.event.Event.{Event}
use Rattle.book_cmd_link.specs.declared.script.KeysFrom.{KeysFrom}
use Rattle.book_cmd_link.specs.declared.script.KeysFrom.TheVariants as keys_from
use Rattle.book_cmd_link.specs.declared.script.SharedKey.{SharedKey}
use Rattle.book_cmd_link.specs.declared.script.Script.{Script}
use Rattle.book_cmd_link.specs.LinkEvents.{link_event_of}

-- what a line says, and the lines after it (own)
pub record Left (A : Type 0) : Type 0 where
  pub value : A
  pub rest : List Line

-- the line of a file's title, of two words: a name and its version (own)
unfoldable pub title_of : List ℕ → List (List ℕ) → Result (Unit {0}) LineKind
title_of title ws = do
  name ← literal_in title ws
  version ← literal_in (codes "1") name.rest
  nothing_in version.rest

-- the line `a ADDRESS PORT`, or with `b` (own)
unfoldable pub socket_of : List ℕ → List (List ℕ) → Result Socket LineKind
socket_of end ws = do
  name ← literal_in end ws
  socket ← socket_in name.rest
  none ← nothing_in socket.rest
  Ok socket.value

-- the line `b ADDRESS PORT`, beside the socket of a (own)
unfoldable pub peer_socket_of : Socket → List (List ℕ) → Result Socket LineKind
peer_socket_of a ws = do
  b ← socket_of (codes "b") ws
  if are_two_of_a_family a.address b.address then Ok b else Err kind.Word

-- the line `shared ALGORITHM HEX`, of 1 to 255 bytes (own)
unfoldable pub shared_key_of : List (List ℕ) → Result SharedKey LineKind
shared_key_of ws = do
  name ← literal_in (codes "shared") ws
  algorithm ← algorithm_in name.rest
  master ← sized_hex_in 1 longest_master_key algorithm.rest
  none ← nothing_in master.rest
  Ok (record { alg = algorithm.value; master = master.value })

-- what a line says, every fault of it being of one kind (own)
abbrev pub at_line : {A : Type 0} → ℕ → LineKind → List Line → Result A LineKind →
    Result (Left A) TextFault
at_line n kind rest (Ok x) = Ok (record { value = x; rest = rest })
at_line n kind rest (Err e) = Err (fault.Line n kind)

-- what the next line says; one that is missing has the number after all lines (own)
unfoldable pub line_in : {A : Type 0} → ℕ → LineKind → (List (List ℕ) → Result A LineKind) →
    List Line → Result (Left A) TextFault
line_in missing kind meaning [] = Err (fault.Line missing kind)
line_in missing kind meaning (l ∷ ls) = at_line l.number kind ls (meaning l.words)

-- the shared key that a line says, where there is no key file (own)
unfoldable pub key_in : KeysFrom → ℕ → List Line → Result (Left (Option SharedKey)) TextFault
key_in keys_from.KeyFile missing ls = Ok (record { value = None; rest = ls })
key_in keys_from.LinkFile missing ls = do
  key ← line_in missing kind.Shared shared_key_of ls
  Ok (record { value = Some key.value; rest = key.rest })

-- the first word of a line is `shared` (own)
unfoldable pub is_shared : List (List ℕ) → Bool
is_shared [] = false
is_shared (w ∷ ws) = bytes_eq w (codes "shared")

-- what a line of an event says; a `shared` line there is refused however it goes on (own)
abbrev pub event_at : {A : Type 0} → (List (List ℕ) → Result A LineKind) → Line → Result A TextFault
event_at meaning l =
    if is_shared l.words then Err (fault.Line l.number kind.Shared)
    else at_number l.number (meaning l.words)

-- what the lines of events say (own)
unfoldable pub events_of : {A : Type 0} → (List (List ℕ) → Result A LineKind) → List Line →
    Result (List A) TextFault
events_of meaning [] = Ok []
events_of meaning (l ∷ ls) = do
  e ← event_at meaning l
  others ← events_of meaning ls
  Ok (e ∷ others)

-- the two sockets that a link file names in front of its events (own)
pub record Head : Type 0 where
  pub a : Socket
  pub b : Socket

-- what the three lines in front say (own)
unfoldable pub link_head_in : ℕ → List Line → Result (Left Head) TextFault
link_head_in missing ls = do
  title ← line_in missing kind.Header (title_of (codes "aotcp-link")) ls
  a ← line_in missing kind.Header (socket_of (codes "a")) title.rest
  b ← line_in missing kind.Header (peer_socket_of a.value) a.rest
  Ok (record { value = record { a = a.value; b = b.value }; rest = b.rest })

-- the script that the lines of a link file make (own)
unfoldable pub script_in : KeysFrom → ℕ → List Line → Result Script TextFault
script_in keys missing ls = do
  head ← link_head_in missing ls
  key ← key_in keys missing head.rest
  events ← events_of link_event_of key.rest
  Ok (record { a = head.value.a; b = head.value.b; shared = key.value; events = events })

-- the number that a missing line of a text has (own)
abbrev pub missing_in : List ℕ → ℕ
missing_in text = length (lines_of text) + 1

-- the script of a link file, or its first fault (own)
unfoldable pub script_of : KeysFrom → List ℕ → Result Script TextFault
script_of keys text = if_few_lines text (script_in keys (missing_in text) (saying_lines text))

-- where the keys come from, as a script's shared key tells (own)
abbrev pub keys_by : Option SharedKey → KeysFrom
keys_by None = keys_from.KeyFile
keys_by (Some key) = keys_from.LinkFile

-- a table for each end of a script, with the key that both share (own)
abbrev pub shared_by : Script → Option SharedKey → List Table
shared_by s (Some key) = shared_tables s.a.address s.b.address key.alg key.master
shared_by s None = []
