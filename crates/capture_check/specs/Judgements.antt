-- What a checker does with a segment (own).
use Rattle.std.specs.Prelude.{◌≡◌, ◌≤◌, ◌+◌, ◌==◌, ◌&&◌, nat_le, ℕ, Bool, true, false, not, is_some, List, length, Option, Some, None, cond, if◌then◌else◌}
use Rattle.std.specs.BTreeMap.{is_at}
use Rattle.book_base.specs.declared.address.Pair.{Pair}
use Rattle.book_base.specs.Orders.{by_pair, is_low, sorted_pair}
use Rattle.book_segments.specs.Options.{find_ao}
use Rattle.book_segments.specs.Segments.{Segment, has, SYN}
use Rattle.book_keys.specs.Rows.{Row, Table}
use Rattle.book_endpoint.specs.Verdicts.{judge}
use Rattle.book_cmd_check.specs.declared.given.GivenIsns.{GivenIsns}
use Rattle.book_cmd_check.specs.Captures.{most_connections}
use Rattle.book_cmd_check.specs.Handshakes.{told_by}
use Rattle.book_segments.specs.Segments.{pair_reached}
use Rattle.ao_check.specs.Verdicts.{Verdict, Tells, judging}
use Rattle.capture_check.specs.declared.flows.Flows.{Flows}
use Rattle.capture_check.specs.declared.known.KnownConnection.{KnownConnection}
use Rattle.tcp_segment.specs.Counter.{number}
use Rattle.capture_check.specs.Checkers.{found}
use Rattle.capture_check.specs.Flows.{way, FlowHears, new_flows}

-- this is known of the connection with this key from now on, and the same as before of all others
pub record Puts (before after : List (Pair × Flows)) (k : Pair) (h : Flows) : Type 0 where
  pub finds : (q : Pair) → found after q ≡ cond (is_at (by_pair k) q) (Some h) (found before q)
  pub count : length after ≡ (if is_some (found before k) then length before else length before + 1)

-- the key of the connection of a segment
abbrev pub key_at : Segment → Pair
key_at d = sorted_pair d.source d.destination

-- the segment comes from the lower socket of its connection
abbrev pub from_low : Segment → Bool
from_low d = is_low d.source d.destination

-- a segment without SYN is heard on one of both ways, by a given number or by the one that is expected
pub record FlowsHear (rows : List Row) (now : ℕ) (given : Option ℕ) (d : Segment) (low : Bool) (before after : Flows) (verdict : Verdict) (old new : ℕ) : Type 0 where
  pub hears : FlowHears rows now given d (way low before) (way low after) verdict old new
  pub other : way (not low) after ≡ way (not low) before

-- the verdict on a segment of which nothing is known but its destination's initial sequence number; without SYN no step is counted for a row that judges it
pub record Alone (rows : List Row) (now own : ℕ) (d : Segment) (result : Verdict) : Type 0 where
  pub tells : Tells rows (pair_reached d) d result (judge rows (pair_reached d) (record { own_isn = own; peer_isn = None; expected = None }) now d)

-- the steps that this costs
pub record AloneCounts (rows : List Row) (now : ℕ) (d : Segment) (old new : ℕ) : Type 0 where
  pub least : old ≤ new
  pub most : new ≤ old + 1
  pub free : (n : ℕ) → has SYN d ≡ false → judging rows (pair_reached d) now (find_ao d.area) ≡ Some n → new ≡ old

-- a segment without SYN of a connection that is known, by a given number or by the one that is expected
pub record OfKnown (rows : List Row) (now : ℕ) (given : Option ℕ) (d : Segment) (before after : List (Pair × Flows)) (h : Flows) (result : Verdict) (old new : ℕ) : Type 0 where
  pub next : Flows
  pub puts : Puts before after (key_at d) next
  pub hears : FlowsHear rows now given d (from_low d) h next result old new

-- a segment without SYN of a connection that isn't known
pub record OfUnknown (rows : List Row) (now : ℕ) (d : Segment) (before after : List (Pair × Flows)) (result : Verdict) (old new : ℕ) : Type 0 where
  pub same : after ≡ before
  pub alone : Alone rows now 0 d result
  pub counts : AloneCounts rows now d old new

-- a segment without SYN, by what is known of its connection
abbrev pub HearsLater : List Row → ℕ → Option ℕ → Segment → List (Pair × Flows) → List (Pair × Flows) → Option Flows → Verdict → ℕ → ℕ → Type 0
HearsLater rows now given d before after (Some h) result old new = OfKnown rows now given d before after h result old new
HearsLater rows now given d before after None result old new = OfUnknown rows now d before after result old new

-- what becomes of a connection when a SYN with ACK passes
pub data Fixing : Type 0 where
  Fixed : Fixing
  TooMany : Fixing
  Fixes : (flows : Flows) → Fixing

-- both ways have these initial sequence numbers
abbrev pub has_isns : Bool → Flows → ℕ → ℕ → Bool
has_isns low h isn other = ((way low h).isn == isn) && ((way (not low) h).isn == other)

-- the numbers of both ways, seen from the lower socket, or from the higher one
abbrev pub numbers_in : Bool → Flows → KnownConnection
numbers_in low h = record { source_isn = (way low h).isn; destination_isn = (way (not low) h).isn; expected = number (way low h).expected }

-- both ways as they begin with given initial sequence numbers
abbrev pub given_flows : List Table → GivenIsns → Flows
given_flows tables g = new_flows tables g.one g.other g.one_isn g.other_isn

-- the initial sequence numbers are fixed already, or too many connections are held, or they are fixed now
abbrev pub fixing_given : List Table → GivenIsns → Option Flows → ℕ → Fixing
fixing_given tables g (Some h) count =
    if has_isns (is_low g.one g.other) h g.one_isn g.other_isn then Fixed else Fixes (given_flows tables g)
fixing_given tables g None count =
    if nat_le most_connections count then TooMany else Fixes (given_flows tables g)

-- the same of those that a SYN with ACK tells
abbrev pub fixing : List Table → Segment → Option Flows → ℕ → Fixing
fixing tables d known count = fixing_given tables (told_by d) known count

-- what was to be done was done; the answer says whether there was room
abbrev pub DoesFix : Fixing → List (Pair × Flows) → List (Pair × Flows) → Pair → Bool → Type 0
DoesFix Fixed before after k result = (after ≡ before) × (result ≡ true)
DoesFix TooMany before after k result = (after ≡ before) × (result ≡ false)
DoesFix (Fixes h) before after k result = Puts before after k h × (result ≡ true)
