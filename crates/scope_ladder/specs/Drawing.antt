-- What is drawn of a packet (own).
use Rattle.std.specs.Prelude.{◌≡◌, ℕ, ◌/◌, List, ◌++◌, Option, Some, None, Result}
use Rattle.book_captures.specs.Captures.{CapturePacket}
use Rattle.book_cmd_check.specs.Captures.{Stored}
use Rattle.book_cmd_check.specs.declared.given.GivenIsns.{GivenIsns}
use Rattle.book_keys.specs.Rows.{Table}
use Rattle.book_segments.specs.declared.fault.DatagramFault.{DatagramFault}
use Rattle.book_segments.specs.Segments.{Bad, Read, Segment, reading}
use Rattle.book_sessions.specs.declared.outcome.PassedOver.{PassedOver}
use Rattle.book_sessions.specs.CutOff.{cut_segment}
use Rattle.book_sessions.specs.Laps.{Judging}
use Rattle.book_sessions.specs.Listening.{Listening, listen}
use Rattle.book_sessions.specs.Sessions.{stored_of_packet}
use Rattle.book_draw.specs.declared.session_rung.SessionEnds.{SessionEnds}
use Rattle.book_draw.specs.declared.session_rung.SessionRung.{SessionRung}
use Rattle.book_draw.specs.declared.span.DrawnTime.{DrawnTime}
use Rattle.book_draw.specs.SessionRungs.{drawn_by, rung_before, rungs_in, rungs_of_session, seen_at, session_at, session_rungs_from, sessions_drawn}
use Rattle.book_draw.specs.Times.{left_out}
use Rattle.page_draw_svg.specs.declared.form.LadderForm.{LadderForm}
use Rattle.page_draw_svg.specs.SessionPictures.{session_as}
use Rattle.capture_listener.specs.Listeners.{Knows}
use Rattle.scope_ladder.specs.declared.draw.LadderRequest.{LadderRequest}
use Rattle.scope_ladder.specs.declared.drawer.Drawer.{Drawer}
use Rattle.scope_ladder.specs.Searches.{Seeks, flow_as, kept_in, last_as}

-- what is asked for: in which form, how the capture is judged, behind which handshakes, the session of which
-- number, and within which time
pub record Request : Type 0 where
  pub form : LadderForm
  pub judging : Judging
  pub given : List GivenIsns
  pub number : ℕ
  pub within : DrawnTime

-- what is asked for so, over these tables, behind handshakes with these numbers
abbrev pub request_of : LadderRequest → List Table → List GivenIsns → Request
request_of a tables given = record {
  form = a.form;
  judging = record { tables = tables; laps = a.laps };
  given = given;
  number = a.number;
  within = a.within;
}

-- the rungs of packets
abbrev pub rungs_for : Request → List CapturePacket → List SessionRung
rungs_for q packets = rungs_in q.judging q.given packets

-- the session that is asked for, drawn in its form
abbrev pub drawn_text : Request → List CapturePacket → List ℕ
drawn_text q packets = session_as q.form q.within q.number (rungs_for q packets)

-- what is drawn of it before all is read
abbrev pub flow_text : Request → List CapturePacket → List ℕ
flow_text q packets = flow_as q.form q.within q.number (rungs_for q packets)

-- what is drawn when all is read
abbrev pub last_text : Drawer → List ℕ
last_text d = last_as d.form d.within d.left d.search.found d.kept.items

-- the sockets of the session that is asked for, if there is one
abbrev pub session_in : Request → List CapturePacket → Option SessionEnds
session_in q packets = session_at q.number (sessions_drawn (rungs_for q packets))

-- what draws stands behind these segments, where this is known
pub record Follows (q : Request) (d : Drawer) (rungs : List SessionRung) (k : Listening) : Type 0 where
  pub form : d.form ≡ q.form
  pub judging : d.listener.judging ≡ q.judging
  pub knows : Knows d.listener k
  pub number : d.search.number ≡ q.number
  pub seeks : Seeks d.search rungs
  pub within : d.within ≡ q.within
  pub left : d.left ≡ left_out q.within (rungs_of_session q.number rungs)
  pub kept : d.kept.items ≡ kept_in q.form q.within q.number rungs

-- these packets were drawn, whatever packets follow
pub record StandsAfter (q : Request) (d : Drawer) (packets : List CapturePacket) : Type 0 where
  pub known : Listening
  pub follows : Follows q d (rungs_for q packets) known
  pub comes : (more : List CapturePacket) →
      rungs_for q (packets ++ more) ≡ rungs_for q packets ++ session_rungs_from q.judging known more

-- a segment that was read, and seen at this time, was drawn: it added these segments to the rungs, and the text to
-- what is drawn of them before all is read
pub record AddsRead (q : Request) (drawer : Drawer) (rungs : List SessionRung) (k : Listening) (packet time : ℕ) (d : Segment) : Type 0 where
  pub more : List SessionRung
  pub after : Listening
  pub follows : Follows q drawer (rungs ++ more) after
  pub comes : (others : Listening → List SessionRung) →
      (let h = listen q.judging k (time / 1000000000) (Read d) in rung_before (seen_at packet time) None h (Read d) (others h.listening)) ≡ more ++ others after
  pub text : flow_as q.form q.within q.number (rungs ++ more) ≡ flow_as q.form q.within q.number rungs ++ drawer.text.items

-- what is stored of this packet has this fault, and is of this segment, which was cut off
pub record IsCutAs (s : Stored) (packet : ℕ) (fault : DatagramFault) (d : Segment) : Type 0 where
  pub number : s.number ≡ packet
  pub bad : reading s.bytes ≡ Bad fault
  pub cut : cut_segment s.bytes ≡ Some d

-- the same of a packet seen at this time of which this is judged
pub record Adds (q : Request) (d : Drawer) (rungs : List SessionRung) (k : Listening) (time : Option ℕ) (stored : Result Stored PassedOver) : Type 0 where
  pub more : List SessionRung
  pub after : Listening
  pub follows : Follows q d (rungs ++ more) after
  pub comes : (others : Listening → List SessionRung) → drawn_by q.judging k time stored others ≡ more ++ others after
  pub text : flow_as q.form q.within q.number (rungs ++ more) ≡ flow_as q.form q.within q.number rungs ++ d.text.items

-- the same of this packet
abbrev pub AddsPacket : Request → Drawer → List SessionRung → Listening → CapturePacket → Type 0
AddsPacket q d rungs k p = Adds q d rungs k p.frame.time (stored_of_packet p)
