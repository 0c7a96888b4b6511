-- The numbers in a table of sessions, and how often something is said (own).
use Rattle.std.specs.Prelude.{◌≡◌, ℕ, ◌+◌, Bool, false, List, [], ◌∷◌, Result, Ok, Err, is_some}
use Rattle.std.specs.Prelude.{if◌then◌else◌}
use Rattle.book_segments.specs.declared.fault.DatagramFault.{DatagramFault}
use Rattle.book_segments.specs.Segments.{Reading, Read, Bad, reading}
use Rattle.book_keys.specs.Rows.{Table}
use Rattle.book_cmd_check.specs.Captures.{Heard, Saying, Stored, Connection, hear_read}
use Rattle.book_sessions.specs.declared.outcome.PassedOver.{PassedOver}
use Rattle.book_endpoint.specs.declared.refusal.Refusal.TheVariants.{NoContext}
use Rattle.book_sessions.specs.declared.outcome.SegmentOutcome.{SegmentOutcome}
use Rattle.book_sessions.specs.declared.outcome.SegmentOutcome.TheVariants as outcome
use Rattle.book_sessions.specs.declared.uses.KeyUse.{KeyUse}
use Rattle.book_sessions.specs.declared.uses.PassedCount.{PassedCount}
use Rattle.book_sessions.specs.declared.uses.SeenSegment.{SeenSegment}
use Rattle.book_sessions.specs.declared.uses.Signs.{Signs}
use Rattle.book_sessions.specs.CutOff.{cut_segment}
use Rattle.book_sessions.specs.Glimpses.{Opening, is_opened_anew, openings_after, told_anew}
use Rattle.book_sessions.specs.Laps.{Judging}
use Rattle.book_sessions.specs.Listening.{Listened, Listening, heard_once, listen, outcome_of}
use Rattle.book_sessions.specs.Sessions.{same_outcome, seen_by, is_use_of, first_use}

-- so many, if it is the outcome that is asked for (own)
abbrev pub if_outcome : SegmentOutcome → SegmentOutcome → ℕ → ℕ
if_outcome asked said n = if same_outcome asked said then n else 0

-- how many segments have this outcome (own)
abbrev pub counted : SegmentOutcome → List KeyUse → ℕ
counted o [] = 0
counted o (u ∷ us) = if_outcome o u.outcome u.segments + counted o us

-- one, if this is said (own)
abbrev pub said_once : SegmentOutcome → Result SegmentOutcome DatagramFault → ℕ
said_once o (Ok said) = if_outcome o said 1
said_once o (Err fault) = 0

-- how often it is said (own)
abbrev pub said_times : SegmentOutcome → List Saying → ℕ
said_times o [] = 0
said_times o (w ∷ ws) = said_once o (outcome_of w) + said_times o ws

-- how many segments there are (own)
abbrev pub all_counted : List KeyUse → ℕ
all_counted [] = 0
all_counted (u ∷ us) = u.segments + all_counted us

-- how many packets are passed over (own)
abbrev pub all_passed : List PassedCount → ℕ
all_passed [] = 0
all_passed (c ∷ cs) = c.packets + all_passed cs

-- a segment that was seen, in front of others (own)
abbrev pub seen_before : Result SeenSegment PassedOver → List SeenSegment → List SeenSegment
seen_before (Ok s) others = s ∷ others
seen_before (Err why) others = others

-- what is heard of a segment, where a refusal by a connection that was opened anew counts as no
-- context (own)
abbrev pub heard_anew : (anew : Bool) → Heard → Heard
heard_anew anew h = record h { saying = told_anew anew h.saying }

-- what `check` says of what is read by the connections that it holds, and by these openings (own)
abbrev pub checked_by : List Table → List Connection → List Opening → (now : ℕ) → Reading →
    Listened
checked_by tables held openings now (Bad fault) =
    heard_once (hear_read tables held now (Bad fault)) [] openings
checked_by tables held openings now (Read d) = let h = hear_read tables held now (Read d) in
    heard_once (heard_anew (is_opened_anew d held openings) h) []
    (openings_after d h.saying openings)

-- the segments of stored datagrams, each with what `check` says of it (own)
abbrev pub segments_seen : List Table → List Connection → List Opening → List Stored →
    List SeenSegment
segments_seen tables held openings [] = []
segments_seen tables held openings (s ∷ rest) =
    let h = checked_by tables held openings s.time (reading s.bytes) in
    seen_before (seen_by s (reading s.bytes) h)
    (segments_seen tables h.listening.held h.listening.openings rest)

-- how often an outcome is that of what `check` says of stored datagrams, where a refusal by a
-- connection that was opened anew counts as no context (own)
abbrev pub told_times : SegmentOutcome → List Table → List Connection → List Opening →
    List Stored → ℕ
told_times o tables held openings [] = 0
told_times o tables held openings (s ∷ rest) =
    let h = checked_by tables held openings s.time (reading s.bytes) in
    said_once o h.outcome
    + told_times o tables h.listening.held h.listening.openings rest

-- one, if bytes are a segment that was cut off (own)
abbrev pub cut_once : List ℕ → ℕ
cut_once b = if is_some (cut_segment b) then 1 else 0

-- how many of these were cut off, so that their headers are there (own)
abbrev pub cut_times : List Stored → ℕ
cut_times [] = 0
cut_times (s ∷ rest) = cut_once s.bytes + cut_times rest

-- the segments of stored datagrams, each with what comes of it (own)
abbrev pub segments_heard : Judging → Listening → List Stored → List SeenSegment
segments_heard j l [] = []
segments_heard j l (s ∷ rest) = let h = listen j l s.time (reading s.bytes) in
    seen_before (seen_by s (reading s.bytes) h) (segments_heard j h.listening rest)

-- what `check` says of a segment of which this comes: of one whose handshake isn't verified it
-- knows no context, but perhaps that of an older connection (own)
abbrev pub as_checked : SegmentOutcome → SegmentOutcome
as_checked outcome.Unconfirmed = outcome.Refused NoContext
as_checked (outcome.UnconfirmedRefused why) = outcome.Refused NoContext
as_checked o = o

-- the same, of segments of one kind (own)
abbrev pub use_as_checked : KeyUse → KeyUse
use_as_checked u = record u { outcome = as_checked u.outcome }

-- how many of these segments have this outcome (own)
abbrev pub outcome_times : SegmentOutcome → List SeenSegment → ℕ
outcome_times o [] = 0
outcome_times o (s ∷ ss) = if_outcome o s.outcome 1 + outcome_times o ss

-- nothing is shown (own)
abbrev pub no_signs : Signs
no_signs = record { moves = false; resets = false; finishes = false }

-- two segments go the same way with the same ids, the same is said of them, and they passed under
-- the same row in the same connection, or both didn't (own)
abbrev pub is_like : SeenSegment → SeenSegment → Bool
is_like s other = is_use_of s (first_use 0 no_signs other)

-- how many of these are like a segment (own)
abbrev pub like_times : SeenSegment → List SeenSegment → ℕ
like_times s [] = 0
like_times s (other ∷ others) = (if is_like s other then 1 else 0) + like_times s others

-- how many segments like this one are counted (own)
abbrev pub like_counted : SeenSegment → List KeyUse → ℕ
like_counted s [] = 0
like_counted s (u ∷ us) = (if is_use_of s u then u.segments else 0) + like_counted s us

-- the outcome is no refusal: verified, of no node, or of a connection too many (own)
pub data IsNoRefusal (o : SegmentOutcome) : Type 0 where
  IsVerified : o ≡ outcome.Verified → IsNoRefusal o
  IsOfNoNode : o ≡ outcome.NoNode → IsNoRefusal o
  IsTooMany : o ≡ outcome.TooMany → IsNoRefusal o
