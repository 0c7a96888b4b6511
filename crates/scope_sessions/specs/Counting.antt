-- What a packet counts (own).
use Rattle.std.specs.Prelude.{◌≡◌, ℕ, List, ◌++◌, Option, Result, Ok}
use Rattle.toml.specs.Data.{Members}
use Rattle.book_segments.specs.Segments.{Segment, Reading, Read}
use Rattle.book_cmd_check.specs.Captures.{Stored}
use Rattle.book_captures.specs.Captures.{CapturePacket}
use Rattle.book_sessions.specs.declared.outcome.PassedOver.{PassedOver}
use Rattle.book_sessions.specs.Laps.{Judging}
use Rattle.book_sessions.specs.declared.uses.SeenSegment.{SeenSegment}
use Rattle.book_sessions.specs.Listening.{Listening, Listened, listening_behind}
use Rattle.book_sessions.specs.Sessions.{SessionTable, and_unset, captured_of_packet, counted_by}
use Rattle.book_sessions.specs.Sessions.{judged_of, no_sessions, seen_by, sessions_from}
use Rattle.book_sessions.specs.Sessions.{stored_of_packet}
use Rattle.page_sessions_json.specs.declared.form.TableRequest.{TableRequest}
use Rattle.page_sessions_json.specs.TableSeries.{Series, due_texts, early_text}
use Rattle.capture_listener.specs.Listeners.{Hearing, Knows}

-- what was stored of this packet at this time
abbrev pub stored_at : (packet time : ℕ) → List ℕ → Stored
stored_at packet time bytes = record { number = packet; time = time; bytes = bytes }

-- a segment was seen so, of which this comes
abbrev pub IsSeen : Stored → Segment → SeenSegment → Listened → Type 0
IsSeen s d seen l = seen_by s (Read d) l ≡ Ok seen

-- what was read was seen so, of which this comes, and the listener knows what is known then
pub record IsHeard (s : Stored) (bytes : Reading) (said : Result SeenSegment PassedOver)
    (after : Hearing) (l : Listened) : Type 0 where
  pub seen : said ≡ seen_by s bytes l
  pub knows : Knows after l.listening

-- a packet of which this is judged was counted: whatever is counted behind it
pub record CountsJudged (j : Judging) (k : Listening) (after : Hearing)
    (before now : SessionTable) (stored : Result Stored PassedOver) : Type 0 where
  pub known : Listening
  pub knows : Knows after known
  pub counts : (others : Listening → SessionTable → SessionTable) →
      counted_by j k before stored others ≡ others known now

-- a packet that has this was counted: whatever is counted behind it
abbrev pub CountsStored : Judging → Listening → Hearing → (before now : SessionTable) →
    Result Stored PassedOver → Type 0
CountsStored j k after before now captured =
    CountsJudged j k after (and_unset captured before) now (judged_of captured)

-- a packet was counted: whatever packets follow
pub record CountsPacket (j : Judging) (k : Listening) (after : Hearing)
    (before now : SessionTable) (p : CapturePacket) : Type 0 where
  pub known : Listening
  pub knows : Knows after known
  pub counts : (others : Listening → SessionTable → SessionTable) →
      counted_by j k (and_unset (captured_of_packet p) before) (stored_of_packet p) others
      ≡ others known now

-- these packets were counted as a series asks, whose document and request are these, by a listener
-- and into a table, and behind them the seconds are counted since then: whatever packets follow
pub record StandsAfter (s : Series) (document : Members) (request : TableRequest)
    (listener : Hearing) (table : SessionTable) (since : Option ℕ)
    (packets : List CapturePacket) : Type 0 where
  pub document_is : document ≡ s.document
  pub request_is : request ≡ s.request
  pub judging_is : listener.judging ≡ s.judging
  pub known : Listening
  pub knows : Knows listener known
  pub counts : (others : List CapturePacket) →
      sessions_from s.judging (listening_behind s.given) no_sessions (packets ++ others)
      ≡ sessions_from s.judging known table others
  pub tells : (others : List CapturePacket) →
      early_text s (packets ++ others) ≡ early_text s packets ++ due_texts s packets since others
