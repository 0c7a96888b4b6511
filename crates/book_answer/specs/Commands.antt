-- The words of each command, and what it reads. Our own format. Its top is `command_of`.
use Rattle.std.specs.Prelude.{ℕ, ◌&&◌, ◌||◌, nat_le, Bool, true, false, List, [], ◌∷◌, ◌++◌}
use Rattle.std.specs.Prelude.{codes, Option, Some, None, if◌then◌else◌}
use Rattle.std.specs.Str.{bytes_eq}
use Rattle.book_base.specs.Decimals.{decimal_of}
use Rattle.book_keys.specs.Lifetimes.{greatest_time}
use Rattle.book_keys.specs.Times.{◌>>=◌, time_of}
use Rattle.book_answer.specs.declared.command.Command.{Command}
use Rattle.book_answer.specs.declared.command.Command.TheVariants as command

-- a word as a decimal up to a number (own)
abbrev pub decimal_up_to : ℕ → List ℕ → Option ℕ
decimal_up_to most w = do
  n ← decimal_of w
  if nat_le n most then Some n else None

-- the command of one word: `link`, `show` or `vectors` (own)
abbrev pub alone_of : List ℕ → Option Command
alone_of name =
    if bytes_eq name (codes "link") then Some command.Link
    else if bytes_eq name (codes "show") then Some command.Show
    else if bytes_eq name (codes "vectors") then Some command.Vectors
    else None

-- the command of a word and a key file: `link KEYS`, `check KEYS`, `bgp KEYS`, `timed KEYS` or
-- `node KEYS` (own)
abbrev pub with_keys_of : List ℕ → Option Command
with_keys_of name =
    if bytes_eq name (codes "link") then Some command.LinkKeys
    else if bytes_eq name (codes "check") then Some command.Check
    else if bytes_eq name (codes "bgp") then Some command.Bgp
    else if bytes_eq name (codes "timed") then Some command.Timed
    else if bytes_eq name (codes "node") then Some command.Node
    else None

-- the command `check --pcap KEYS`; another word than `--pcap` names none (own)
abbrev pub pcap_of : List ℕ → Option Command
pcap_of option = if bytes_eq option (codes "--pcap") then Some command.CheckPcap else None

-- the command `keys KEYS TIME` (own)
abbrev pub keys_of : List ℕ → Option Command
keys_of time = do
  t ← time_of time
  Some (command.Keys t)

-- the most events of a storm that are drawn (own)
abbrev pub most_drawn : ℕ
most_drawn = 10000

-- the command `storm SEED COUNT` (own)
abbrev pub storm_of : (seed count : List ℕ) → Option Command
storm_of seed count = do
  s ← decimal_of seed
  n ← decimal_up_to most_drawn count
  Some (command.Storm s n)

-- the command of three words (own)
abbrev pub three_of : (first second third : List ℕ) → Option Command
three_of name second third =
    if bytes_eq name (codes "keys") then keys_of third
    else if bytes_eq name (codes "storm") then storm_of second third
    else if bytes_eq name (codes "check") then pcap_of second
    else None

-- the command `lint KEYS LEAD LAG FROM TO`, where FROM isn't after TO (own)
abbrev pub lint_command : (lead lag from to : List ℕ) → Option Command
lint_command lead lag from to = do
  a ← decimal_up_to greatest_time lead
  b ← decimal_up_to greatest_time lag
  low ← time_of from
  high ← time_of to
  if nat_le low high
      then Some (command.Lint (record { lead = a; lag = b; from = low; to = high }))
      else None

-- the command that the words name (own)
unfoldable pub command_of : List (List ℕ) → Option Command
command_of (name ∷ []) = alone_of name
command_of (name ∷ keys ∷ []) = with_keys_of name
command_of (name ∷ second ∷ third ∷ []) = three_of name second third
command_of (name ∷ keys ∷ lead ∷ lag ∷ from ∷ to ∷ []) =
    if bytes_eq name (codes "lint") then lint_command lead lag from to else None
command_of _ = None

-- the command reads the key file (own)
abbrev pub reads_keys : Command → Bool
reads_keys command.Link = false
reads_keys command.Show = false
reads_keys command.Vectors = false
reads_keys (command.Storm seed count) = false
reads_keys _ = true

-- the command reads standard input (own)
abbrev pub reads_input : Command → Bool
reads_input (command.Keys time) = false
reads_input (command.Storm seed count) = false
reads_input _ = true

-- the text where the words name no command (own)
abbrev pub usage : List ℕ
usage =
    codes "usage: aotcp link [KEYS] | check KEYS | show | vectors | keys KEYS TIME | "
    ++ codes "lint KEYS LEAD LAG FROM TO | storm SEED COUNT | check --pcap KEYS | "
    ++ codes "bgp KEYS | timed KEYS | node KEYS\n"
