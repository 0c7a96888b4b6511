-- What counting a packet does.
use Rattle.std.proofs.Common.{◌≡◌, ℕ, ◌+◌, ◌/◌, ◌≤◌, ◌<◌, Bool, true, false, List, [], ◌∷◌, length, take, drop, get_or, Option, Some, None, Result, Ok, Err, IfSome, IfOk, OnOk, IsSome, refl, sym, ap, subst, ◌∙◌, arith, if◌then◌else◌, add-one, suc}
use Rattle.std.proofs.Math.Seq.{drop-cons}
use Rattle.std.proofs.lemmas.List.Folds.{drop_split}
use Rattle.book_captures.specs.declared.reasons.Skipped.{Skipped}
use Rattle.book_captures.specs.Frames.{Datagram}
use Rattle.book_captures.specs.Captures.{CapturePacket, frame_datagram}
use Rattle.book_cmd_check.specs.Captures.{Stored}
use Rattle.book_segments.specs.Segments.{Bad, Read, Reading, Segment, reading}
use Rattle.book_sessions.specs.declared.outcome.PassedOver.{PassedOver}
use Rattle.book_sessions.specs.declared.outcome.PassedOver.TheVariants as passed
use Rattle.book_sessions.specs.declared.outcome.SegmentOutcome.TheVariants.{CutOff}
use Rattle.book_sessions.specs.declared.uses.KeyUse.{KeyUse}
use Rattle.book_sessions.specs.declared.uses.SeenSegment.{SeenSegment}
use Rattle.book_sessions.specs.AsSent.{is_segment, is_unset_segment, lacks_checksum, mended, told_fault}
use Rattle.book_sessions.specs.CutOff.{cut_segment}
use Rattle.book_sessions.specs.Laps.{Judging}
use Rattle.capture_listener.specs.declared.outcomes.HeardSegment.{HeardSegment}
use Rattle.book_sessions.specs.Listening.{Listened, Listening, listen}
use Rattle.book_sessions.specs.Sessions.{SessionTable, and_counted, seen_by, seen_cut, seen_segment, captured_by, captured_of_packet, with_unset}
use Rattle.book_sessions.specs.KeyLines.{last_of, later_of}
use Rattle.capture_listener.specs.Listeners.{Hearing, Knows, Listens}
use Rattle.capture_reader.specs.declared.frames.FoundDatagram.{FoundDatagram}
use Rattle.capture_reader.specs.Found.{Gives, seen}
use Rattle.scope_lines.specs.Writes.{found_in}
use Rattle.book_segments.specs.declared.fault.DatagramFault.{DatagramFault}
use Rattle.scope_sessions.specs.Counting.{CountsJudged, CountsPacket, CountsStored, IsHeard, IsSeen, stored_at}

-- a packet that is passed over
pub counts_passed : (j : Judging) (k : Listening) (after : Hearing) (before now : SessionTable) (why : PassedOver) → Knows after k → now ≡ and_counted (Err why) before →
    CountsStored j k after before now (Err why)
counts_passed j k after before now why stands is = record { known = k; knows = stands; counts = λ others. ap (others k) (sym is) }

-- bytes that were stored
pub counts_heard : (j : Judging) (k : Listening) (after : Hearing) (before now : SessionTable) (s : Stored) (seen : Result SeenSegment PassedOver) → Knows after (listen j k s.time (reading s.bytes)).listening →
    seen ≡ seen_by s (reading s.bytes) (listen j k s.time (reading s.bytes)) → now ≡ and_counted seen before → CountsJudged j k after before now (Ok s)
counts_heard j k after before now s seen stands is counted = record {
  known = (listen j k s.time (reading s.bytes)).listening;
  knows = stands;
  counts = λ others. ap (others (listen j k s.time (reading s.bytes)).listening) (sym (counted ∙ ap (λ r. and_counted r before) is));
}

given_found : (frame : List ℕ) (found : Result FoundDatagram Skipped) (r : Result Datagram Skipped) → Gives (seen frame) found r → r ≡ found_in frame found
given_found frame (Ok d) r gives = gives
given_found frame (Err why) r gives = gives

stored_is : (p : CapturePacket) (time : Option ℕ) (frame : List ℕ) (found : Result FoundDatagram Skipped) → time ≡ p.frame.time → frame ≡ p.frame.bytes → Gives (seen p.frame.bytes) found (frame_datagram p.frame) →
    captured_by p.number time (found_in frame found) ≡ captured_of_packet p
stored_is p time frame found time_is frame_is gives = rw (time_is, frame_is, given_found p.frame.bytes found (frame_datagram p.frame) gives) refl

-- the packet that is shown
counts_shown : (j : Judging) (k : Listening) (after : Hearing) (before now : SessionTable) (packet : Option CapturePacket) (p : CapturePacket) (number : ℕ) (time : Option ℕ) (frame : List ℕ) (found : Result FoundDatagram Skipped) →
    packet ≡ Some p → IfSome packet (λ p. number ≡ p.number) → IfSome packet (λ p. time ≡ p.frame.time) → IfSome packet (λ p. frame ≡ p.frame.bytes) → IfSome packet (λ p. Gives (seen p.frame.bytes) found (frame_datagram p.frame)) →
    CountsStored j k after before now (captured_by number time (found_in frame found)) → CountsPacket j k after before now p
counts_shown j k after before now packet p number time frame found is number_is time_is frame_is gives counts =
    let c = rw (rw is at number_is, stored_is p time frame found (rw is at time_is) (rw is at frame_is) (rw is at gives)) at counts in
    record { known = c.known; knows = c.knows; counts = c.counts }

-- the same, unless memory ran out
pub counts_on : {E : Type 0} (result : Result (Unit {0}) E) (j : Judging) (k : Listening) (after : Hearing) (before now : SessionTable) (packet : Option CapturePacket) (p : CapturePacket) (number : ℕ) (time : Option ℕ) (frame : List ℕ) (found : Result FoundDatagram Skipped) →
    packet ≡ Some p → IfSome packet (λ p. number ≡ p.number) → IfSome packet (λ p. time ≡ p.frame.time) → IfSome packet (λ p. frame ≡ p.frame.bytes) → IfSome packet (λ p. Gives (seen p.frame.bytes) found (frame_datagram p.frame)) →
    OnOk result (CountsStored j k after before now (captured_by number time (found_in frame found))) → OnOk result (CountsPacket j k after before now p)
counts_on (Ok done) j k after before now packet p number time frame found is number_is time_is frame_is gives counts =
    counts_shown j k after before now packet p number time frame found is number_is time_is frame_is gives counts
counts_on (Err e) j k after before now packet p number time frame found is number_is time_is frame_is gives counts = tt

-- where its datagram lies in its frame
pub found_within : (packet : Option CapturePacket) (frame : List ℕ) (found : Result FoundDatagram Skipped) → IsSome packet → IfSome packet (λ p. frame ≡ p.frame.bytes) → IfOk found (λ d. d.first ≤ d.after)
    → IfSome packet (λ p. IfOk found (λ d. d.after ≤ length p.frame.bytes)) → IfOk found (λ d. (d.first ≤ d.after) × (d.after ≤ length frame))
found_within None frame found some frame_is ordered within = let bad : false ≡ true = some in absurd (cc)
found_within (Some p) frame (Err why) some frame_is ordered within = tt
found_within (Some p) frame (Ok d) some frame_is ordered within = (ordered, rw frame_is within)

abbrev ok_stored : Stored → Result Stored PassedOver
ok_stored s = Ok s

-- what is judged of a datagram that was found, with those bytes behind it
pub stored_found : (number t : ℕ) (time : Option ℕ) (frame : List ℕ) (d : FoundDatagram) (found : Result FoundDatagram Skipped) (bytes : List ℕ) → time ≡ Some t → found ≡ Ok d → d.first ≤ d.after → bytes ≡ take 65575 (drop d.first frame)
    → ◌≡◌ {A = Result Stored PassedOver} (Ok (record { number = number; time = t / 1000000000; bytes = bytes })) (captured_by number time (found_in frame found))
stored_found number t time frame d found bytes time_is found_is ordered bytes_are =
    rw (time_is, found_is, bytes_are)
    (ap (λ (xs : List ℕ). ok_stored (record { number = number; time = t / 1000000000; bytes = take 65575 xs })) (drop_split frame d.first d.after ordered))

-- the last of these, found from the back
pub last_more : (chosen : KeyUse → Bool) (uses : List KeyUse) (left : ℕ) (u : KeyUse) (last : Option KeyUse) → left < length uses → u ≡ get_or uses left u → last ≡ last_of chosen (drop (left + 1) uses) →
    (if chosen u then Some (later_of u last) else last) ≡ last_of chosen (drop left uses)
last_more chosen uses left u last low here is =
    let cut : drop left uses ≡ u ∷ drop (left + 1) uses = rw (add-one left) (drop-cons uses left u low ∙ ap (λ x. x ∷ drop (suc left) uses) (sym here)) in
    rw (cut, is) refl

-- what is heard of bytes that are no datagram, unless memory ran out
pub heard_bad : {E : Type 0} (result : Result (Result SeenSegment PassedOver) E) (j : Judging) (k : Listening) (after : Hearing) (s : Stored) (bytes : Reading) (fault : DatagramFault) → bytes ≡ Bad fault → IfOk result (λ seen. seen ≡ seen_cut s (cut_segment s.bytes) fault) → Knows after k
    → IfOk result (λ seen. IsHeard s bytes seen after (listen j k s.time bytes))
unfolding listen
heard_bad (Ok seen) j k after s bytes fault is found knows = rw is (record { seen = found; knows = knows })
heard_bad (Err e) j k after s bytes fault is found knows = tt

-- ---- a segment that was cut off

pub one_read : (one other : Segment) → ◌≡◌ {A = Reading} (Read one) (Read other) → one ≡ other
one_read one other e = cc

abbrev ok_seen : SeenSegment → Result SeenSegment DatagramFault
ok_seen s = Ok s

pub seen_off : (s : Stored) (one other : Segment) (seen : SeenSegment) → one ≡ other → seen ≡ seen_segment s one CutOff None → ok_seen seen ≡ ok_seen (seen_segment s other CutOff None)
seen_off s one other seen same is = rw (is, same) refl

abbrev said : SeenSegment → Result SeenSegment PassedOver
said s = Ok s

pub off_seen : (s : Stored) (d : Segment) (bytes : List ℕ) (fault : DatagramFault) (seen : SeenSegment) → cut_segment bytes ≡ Some d → ok_seen seen ≡ ok_seen (seen_segment s d CutOff None) → said seen ≡ seen_cut s (cut_segment bytes) fault
off_seen s d bytes fault seen cut is = let same : seen ≡ seen_segment s d CutOff None = cc in rw (cut, same) refl

abbrev faulty : DatagramFault → Result SeenSegment PassedOver
faulty fault = Err (passed.Faulty fault)

pub none_cut : (s : Stored) (bytes : List ℕ) (fault told : DatagramFault) → s.bytes ≡ bytes → cut_segment bytes ≡ None → told ≡ told_fault bytes fault → faulty told ≡ seen_cut s (cut_segment bytes) fault
none_cut s bytes fault told same none is = rw (none, is, same) refl

-- bytes that were stored, unless memory ran out
pub stored_on : {E : Type 0} (result : Result (Unit {0}) E) (j : Judging) (k : Listening) (after : Hearing) (before now : SessionTable) (s : Stored) (seen : Result SeenSegment PassedOver)
    → IsHeard s (reading s.bytes) seen after (listen j k s.time (reading s.bytes)) → OnOk result (now ≡ and_counted seen before) → OnOk result (CountsJudged j k after before now (Ok s))
stored_on (Ok done) j k after before now s seen heard counted = counts_heard j k after before now s seen heard.knows heard.seen counted
stored_on (Err e) j k after before now s seen heard counted = tt

-- a segment is seen so, of which this is told
pub seen_told : (after : Hearing) (stored : Stored) (d : Segment) (l : Listened) (told : HeardSegment) (s : SeenSegment) → Listens after told d l → s ≡ seen_segment stored d told.outcome told.pass → IsSeen stored d s l
seen_told after stored d l told s h is = rw (h.outcome, is, h.pass) refl

same_table : (t : SessionTable) → with_unset false t ≡ t
same_table t = refl

unset_free : (bytes : List ℕ) → lacks_checksum bytes ≡ false → is_unset_segment bytes ≡ false
unfolding is_unset_segment
unset_free bytes free = rw free refl

-- bytes whose header checksum is set
whole_is : (bytes : List ℕ) → lacks_checksum bytes ≡ false → mended bytes ≡ bytes
unfolding mended
whole_is bytes free = rw free refl

whole_counts : (j : Judging) (k : Listening) (after : Hearing) (before now : SessionTable) (number time : ℕ) (bytes : List ℕ) → lacks_checksum bytes ≡ false
    → CountsJudged j k after before now (Ok (stored_at number time bytes)) → CountsStored j k after before now (Ok (stored_at number time bytes))
whole_counts j k after before now number time bytes free counts =
    rw (whole_is bytes free, unset_free bytes free) (subst (λ (t : SessionTable). CountsJudged j k after t now (Ok (stored_at number time bytes))) (sym (same_table before)) counts)

-- the same, unless memory ran out
pub whole_on : {E : Type 0} (result : Result (Unit {0}) E) (j : Judging) (k : Listening) (after : Hearing) (before now : SessionTable) (number time : ℕ) (bytes : List ℕ) → lacks_checksum bytes ≡ false
    → OnOk result (CountsJudged j k after before now (Ok (stored_at number time bytes))) → OnOk result (CountsStored j k after before now (Ok (stored_at number time bytes)))
whole_on (Ok done) j k after before now number time bytes free counts = whole_counts j k after before now number time bytes free counts
whole_on (Err e) j k after before now number time bytes free counts = tt

unset_is : (bytes : List ℕ) → lacks_checksum bytes ≡ true → is_unset_segment bytes ≡ is_segment (reading (mended bytes))
unfolding is_unset_segment
unset_is bytes lacks = rw lacks refl

mended_counts : (j : Judging) (k : Listening) (after : Hearing) (before now : SessionTable) (number time : ℕ) (bytes whole : List ℕ) → lacks_checksum bytes ≡ true → whole ≡ mended bytes
    → CountsJudged j k after (with_unset (is_segment (reading whole)) before) now (Ok (stored_at number time whole)) → CountsStored j k after before now (Ok (stored_at number time bytes))
mended_counts j k after before now number time bytes whole lacks is counts = rw (unset_is bytes lacks) (rw is at counts)

-- bytes whose header checksum was set, unless memory ran out
pub mended_on : {E : Type 0} (result : Result (Unit {0}) E) (j : Judging) (k : Listening) (after : Hearing) (before now : SessionTable) (number time : ℕ) (bytes whole : List ℕ) → lacks_checksum bytes ≡ true → whole ≡ mended bytes
    → OnOk result (CountsJudged j k after (with_unset (is_segment (reading whole)) before) now (Ok (stored_at number time whole))) → OnOk result (CountsStored j k after before now (Ok (stored_at number time bytes)))
mended_on (Ok done) j k after before now number time bytes whole lacks is counts = mended_counts j k after before now number time bytes whole lacks is counts
mended_on (Err e) j k after before now number time bytes whole lacks is counts = tt

-- the same of what is as much
pub found_on : {E : Type 0} (result : Result (Unit {0}) E) (j : Judging) (k : Listening) (after : Hearing) (before now : SessionTable) (one two : Result Stored PassedOver) → one ≡ two
    → OnOk result (CountsStored j k after before now one) → OnOk result (CountsStored j k after before now two)
found_on result j k after before now one two is counts = subst (λ (r : Result Stored PassedOver). OnOk result (CountsStored j k after before now r)) is counts
