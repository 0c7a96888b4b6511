-- A checker: the tables, and what it knows of each connection.
use Rattle.std.specs.Prelude.{◌≡◌, ◌≤◌, ◌<◌, ◌+◌, ℕ, false, List, length, Option, Some, None, option_map}
use Rattle.std.specs.List.{find}
use Rattle.std.specs.Map.{lookup}
use Rattle.std.specs.BTreeMap.{is_at}
use Rattle.book_base.specs.declared.address.Socket.{Socket}
use Rattle.book_base.specs.declared.address.Pair.{Pair}
use Rattle.book_base.specs.Orders.{by_pair, sorted_pair}
use Rattle.book_segments.specs.Options.{find_ao}
use Rattle.book_segments.specs.Segments.{Segment, has, SYN}
use Rattle.book_segments.specs.Sockets.{same_socket}
use Rattle.book_keys.specs.Rows.{Row, Table}
use Rattle.book_cmd_check.specs.Captures.{Connection, Heard, joins, seen_from}
use Rattle.book_segments.specs.Segments.{pair_reached}
use Rattle.ao_kdf.specs.declared.way.Way.TheVariants.{Inbound}
use Rattle.ao_kdf.specs.Cache.{kept}
use Rattle.ao_check.specs.Verdicts.{judging}
use Rattle.capture_check.specs.declared.answer.CheckLine.{CheckLine}
use Rattle.capture_check.specs.declared.flows.Flows.{Flows}
use Rattle.capture_check.specs.Answers.{Says}
use Rattle.capture_check.specs.Flows.{flow_from, IsFlow, shown}

-- a checker is: the tables, and what it knows of each connection
pub record Checking : Type 0 where
  pub tables : List Table
  pub entries : List (Pair × Flows)

-- what is known of a connection
abbrev pub found : List (Pair × Flows) → Pair → Option Flows
found es k = lookup (is_at (by_pair k)) es

-- each connection that is known has both its ways
abbrev pub IsSound : List Table → List (Pair × Flows) → Type 0
IsSound tables es =
    (a b : Socket) (h : Flows) → same_socket a b ≡ false → found es (sorted_pair a b) ≡ Some h → IsFlow tables a b (flow_from a b h) (flow_from b a h)

-- the connection between two sockets as the first of them sees it
abbrev pub known : Socket → Socket → List Connection → Option Connection
known a b held = option_map (seen_from a) (find (joins a b) held)

-- the same of what a checker knows
abbrev pub told : Socket → Socket → Option Flows → Option Connection
told a b None = None
told a b (Some h) = Some (shown a b h)

-- the checker knows the connections that are held: as many, and the same between each two sockets
pub record StandsFor (es : List (Pair × Flows)) (held : List Connection) : Type 0 where
  pub same : (a b : Socket) → same_socket a b ≡ false → told a b (found es (sorted_pair a b)) ≡ known a b held
  pub count : length es ≡ length held

-- the answer is what is said of a segment, and the checker knows the connections after it
pub record Hears (es : List (Pair × Flows)) (line : CheckLine) (h : Heard) : Type 0 where
  pub says : Says line h.saying
  pub stands : StandsFor es h.connections

-- the traffic key that is kept for a row and what goes from one socket to another
abbrev pub key_in : Socket → Socket → ℕ → Option Flows → Option (List ℕ)
key_in a b n None = None
key_in a b n (Some h) = kept (flow_from a b h).receiver.keys n Inbound

-- the same, of a checker
abbrev pub kept_key : List (Pair × Flows) → Socket → Socket → ℕ → Option (List ℕ)
kept_key es a b n = key_in a b n (found es (sorted_pair a b))

-- the initial sequence numbers of a connection
pub record Isns : Type 0 where
  pub one : ℕ
  pub two : ℕ

-- the initial sequence numbers of the connection between two sockets, the first socket's first, if it is known
abbrev pub isns : List (Pair × Flows) → Socket → Socket → Option Isns
isns es a b = option_map (λ (h : Flows). record { one = (flow_from a b h).isn; two = (flow_from b a h).isn }) (found es (sorted_pair a b))

-- keys are dropped exactly where the initial sequence numbers of their connection are fixed anew: while these stay, no kept key is lost; where they change, none is kept
pub record KeepsKeys (before after : List (Pair × Flows)) : Type 0 where
  pub stay : (a b : Socket) (n : ℕ) (k : List ℕ) → same_socket a b ≡ false → isns after a b ≡ isns before a b → kept_key before a b n ≡ Some k → kept_key after a b n ≡ Some k
  pub drop : (a b : Socket) (n : ℕ) → same_socket a b ≡ false → (isns after a b ≡ isns before a b → ⊥) → kept_key after a b n ≡ None

-- at most one derivation; none for a segment without SYN where a key is kept for its connection, direction and row; a key that is derived for such a segment is kept
pub record Derives (before after : List (Pair × Flows)) (rows : List Row) (now : ℕ) (d : Segment) (old new : ℕ) : Type 0 where
  pub least : old ≤ new
  pub most : new ≤ old + 1
  pub none : (n : ℕ) (k : List ℕ) → has SYN d ≡ false → judging rows (pair_reached d) now (find_ao d.area) ≡ Some n → kept_key before d.source d.destination n ≡ Some k → new ≡ old
  pub derived : (n : ℕ) → has SYN d ≡ false → judging rows (pair_reached d) now (find_ao d.area) ≡ Some n → old < new → (k : List ℕ) × (kept_key after d.source d.destination n ≡ Some k)
