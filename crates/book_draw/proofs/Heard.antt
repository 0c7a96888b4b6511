-- That the rungs of a capture are its segments.
use Rattle.std.proofs.Common.{◌≡◌, ℕ, ◌/◌, List, [], ◌∷◌, map, Option, Some, None, Result, Ok, Err, refl, sym, ap, ◌∙◌}
use Rattle.book_segments.specs.declared.fault.DatagramFault.{DatagramFault}
use Rattle.book_segments.specs.Segments.{Segment, Reading, Read, Bad, reading}
use Rattle.book_captures.specs.declared.reasons.Skipped.{Skipped}
use Rattle.book_captures.specs.Frames.{Datagram}
use Rattle.book_captures.specs.Captures.{CapturePacket, frame_datagram}
use Rattle.book_cmd_check.specs.Captures.{Stored}
use Rattle.book_cmd_check.specs.declared.given.GivenIsns.{GivenIsns}
use Rattle.book_captures.specs.PacketLines.{judged_bytes}
use Rattle.book_sessions.specs.declared.outcome.SegmentOutcome.{SegmentOutcome}
use Rattle.book_sessions.specs.declared.uses.SeenSegment.{SeenSegment}
use Rattle.book_sessions.specs.AsSent.{mended}
use Rattle.book_sessions.specs.CutOff.{cut_segment}
use Rattle.book_sessions.specs.Counts.{seen_before, segments_heard}
use Rattle.book_sessions.specs.Laps.{Judging}
use Rattle.book_sessions.specs.Listening.{Listened, Listening, listen, listen_to, listening_behind}
use Rattle.book_sessions.specs.Sessions.{all_stored, seen_as, seen_by, seen_cut, stored_before, stored_by}
use Rattle.book_draw.specs.declared.session_rung.SessionRung.{SessionRung}
use Rattle.book_draw.specs.SessionRungs.{drawn_by, rung_before, rung_cut, rung_heard, rung_said, rungs_in, seen_at, seen_of, session_rungs_from}

-- a segment that is read wasn't cut off
pub read_uncut : (b : List ℕ) (d : Segment) → reading b ≡ Read d → cut_segment b ≡ None
unfolding cut_segment
read_uncut b d e = rw e refl

-- bytes that are no segment, but perhaps one that was cut off
cut_drawn : (s : Stored) (time : ℕ) (cut : Option Segment) (fault : DatagramFault) (others : List SessionRung) (seen : List SeenSegment) → s.time ≡ time / 1000000000 → map seen_of others ≡ seen
    → map seen_of (rung_cut s.number time cut others) ≡ seen_before (seen_cut s cut fault) seen
cut_drawn s time None fault others seen at is = is
cut_drawn s time (Some d) fault others seen at is = rw (at, is) refl

said_drawn : (s : Stored) (time : ℕ) (d : Segment) (l : Listened) (said : Result SegmentOutcome DatagramFault) (others : List SessionRung) (seen : List SeenSegment) → reading s.bytes ≡ Read d → s.time ≡ time / 1000000000 → map seen_of others ≡ seen
    → map seen_of (rung_said (rung_heard s.number time d l) said others) ≡ seen_before (seen_as s l (Read d) said) seen
said_drawn s time d l (Err why) others seen read at is = is ∙ ap (λ (cut : Option Segment). seen_before (seen_cut s cut why) seen) (sym (read_uncut s.bytes d read))
said_drawn s time d l (Ok said) others seen read at is = rw (at, is) refl

read_drawn : (j : Judging) (k : Listening) (s : Stored) (time : ℕ) (r : Reading) (others : List SessionRung) (seen : List SeenSegment) → reading s.bytes ≡ r → s.time ≡ time / 1000000000 → map seen_of others ≡ seen
    → map seen_of (rung_before (seen_at s.number time) (cut_segment s.bytes) (listen j k s.time r) r others) ≡ seen_before (seen_by s r (listen j k s.time r)) seen
unfolding listen
read_drawn j k s time (Bad fault) others seen read at is = cut_drawn s time (cut_segment s.bytes) fault others seen at is
read_drawn j k s time (Read d) others seen read at is = said_drawn s time d (listen_to j k s.time d) (listen_to j k s.time d).outcome others seen read at is

stored_drawn : (j : Judging) (time : Option ℕ) (number : ℕ) (found : Result Datagram Skipped) (l : Listening) (others : Listening → List SessionRung) (rest : List Stored)
    → ((k : Listening) → map seen_of (others k) ≡ segments_heard j k rest)
    → map seen_of (drawn_by j l time (stored_by number time found) others) ≡ segments_heard j l (stored_before (stored_by number time found) rest)
stored_drawn j time number (Err why) l others rest is = is l
stored_drawn j None number (Ok d) l others rest is = is l
stored_drawn j (Some t) number (Ok d) l others rest is =
    let s : Stored = record { number = number; time = t / 1000000000; bytes = mended (judged_bytes d) } in
    let h = listen j l (t / 1000000000) (reading (mended (judged_bytes d))) in
    read_drawn j l s t (reading (mended (judged_bytes d))) (others h.listening) (segments_heard j h.listening rest) refl refl (is h.listening)

from_heard : (j : Judging) (ps : List CapturePacket) (l : Listening) → map seen_of (session_rungs_from j l ps) ≡ segments_heard j l (all_stored ps)
from_heard j [] l = refl
from_heard j (p ∷ ps) l = stored_drawn j p.frame.time p.number (frame_datagram p.frame) l (λ known. session_rungs_from j known ps) (all_stored ps) (λ known. from_heard j ps known)

pub all_heard : (j : Judging) (given : List GivenIsns) (packets : List CapturePacket) → map seen_of (rungs_in j given packets) ≡ segments_heard j (listening_behind given) (all_stored packets)
unfolding rungs_in
all_heard j given packets = from_heard j packets (listening_behind given)
