-- A table of sessions counts each outcome, each direction and each packet once.
use Rattle.std.proofs.Common.{◌≡◌, ℕ, ◌+◌, Bool, true, false, List, [], ◌∷◌, length, map, Option, Some, None, Result, Ok, Err, IfOk, if◌then◌else◌, refl, sym, ap, ◌∙◌, is_some, arith}
use Rattle.book_segments.specs.declared.fault.DatagramFault.{DatagramFault}
use Rattle.book_segments.specs.Segments.{Segment, Reading, Read, Bad, reading}
use Rattle.book_keys.specs.Rows.{Table}
use Rattle.book_cmd_check.specs.Captures.{Stored, Connection, Heard, Saying, Unreadable, UnknownNode, Judged, TooManyConnections, hear, hear_read, sayings_from}
use Rattle.book_endpoint.specs.declared.refusal.Refusal.{Refusal}
use Rattle.book_endpoint.specs.declared.refusal.Refusal.TheVariants.{NoAo, TwoAo, WithMd5, NoTuple, Expired, MacLength, NoContext, Range, BadMac}
use Rattle.book_cmd_check.specs.declared.given.GivenIsns.{GivenIsns}
use Rattle.book_cmd_check.specs.Handshakes.{given_after}
use Rattle.book_captures.specs.Captures.{CapturePacket}
use Rattle.book_sessions.specs.declared.outcome.SegmentOutcome.{SegmentOutcome}
use Rattle.book_sessions.specs.declared.outcome.SegmentOutcome.TheVariants as outcome
use Rattle.book_sessions.specs.declared.outcome.PassedOver.{PassedOver}
use Rattle.book_sessions.specs.declared.uses.SeenSegment.{SeenSegment}
use Rattle.book_sessions.specs.declared.uses.Signs.{Signs}
use Rattle.book_sessions.specs.declared.uses.KeyUse.{KeyUse}
use Rattle.book_sessions.specs.declared.uses.PassedCount.{PassedCount}
use Rattle.book_sessions.specs.CutOff.{cut_segment}
use Rattle.book_sessions.specs.Glimpses.{Opening, glimpsed, is_opened_anew, is_unknown, openings_after, told_anew}
use Rattle.book_sessions.specs.Laps.{Judging, hear_over}
use Rattle.book_sessions.specs.Listening.{Listened, Listening, outcome_of, unconfirmed_of, listen, listening_behind, said_of}
use Rattle.book_sessions.specs.Sessions.{SessionTable, same_reason, seen_as, seen_by, seen_cut, same_outcome, is_use_of, session_of, used_again, with_use, signs_of, and_segment, with_passed, and_counted, and_unset, captured_of_packet, stored_of_packet, all_stored, counted_by, sessions_from, no_sessions, sessions_of}
use Rattle.book_sessions.specs.Counts.{IsNoRefusal, IsVerified, IsOfNoNode, IsTooMany, as_checked, checked_by, cut_once, cut_times, told_times, if_outcome, counted, said_once, said_times, outcome_times, like_times, like_counted, is_like, use_as_checked, all_counted, all_passed, seen_before, segments_seen, segments_heard}
use Rattle.book_sessions.proofs.Sums.{sum_of_uses, sum_of_segments, kinds_counted}
use Rattle.book_sessions.proofs.Hearing.{without_laps, seen_as_checked, heard_as_checked, listened}
use Rattle.book_sessions.proofs.Directions.{outcome_kind, checked_kind, way_kind, checked_way_kind}

zero_first : (n : ℕ) → 0 + n ≡ n
zero_first n = omega arith

-- ---- the counts as sums over kinds

counted_sum : (o : SegmentOutcome) (us : List KeyUse) → counted o us ≡ sum_of_uses (λ u. same_outcome o u.outcome) us
counted_sum o [] = refl
counted_sum o (u ∷ us) = ap (λ (n : ℕ). if_outcome o u.outcome u.segments + n) (counted_sum o us)

times_sum : (o : SegmentOutcome) (ss : List SeenSegment) → outcome_times o ss ≡ sum_of_segments (λ s. same_outcome o s.outcome) ss
times_sum o [] = refl
times_sum o (s ∷ ss) = ap (λ (n : ℕ). if_outcome o s.outcome 1 + n) (times_sum o ss)

like_sum : (k : SeenSegment) (us : List KeyUse) → like_counted k us ≡ sum_of_uses (λ u. is_use_of k u) us
like_sum k [] = refl
like_sum k (u ∷ us) = ap (λ (n : ℕ). (if is_use_of k u then u.segments else 0) + n) (like_sum k us)

like_times_sum : (k : SeenSegment) (ss : List SeenSegment) → like_times k ss ≡ sum_of_segments (λ s. is_like k s) ss
like_times_sum k [] = refl
like_times_sum k (s ∷ ss) = ap (λ (n : ℕ). (if is_like k s then 1 else 0) + n) (like_times_sum k ss)

uses_checked : (is_kind : KeyUse → Bool) (us : List KeyUse) → sum_of_uses is_kind (map use_as_checked us) ≡ sum_of_uses (λ u. is_kind (use_as_checked u)) us
uses_checked is_kind [] = refl
uses_checked is_kind (u ∷ us) = ap (λ (n : ℕ). (if is_kind (use_as_checked u) then u.segments else 0) + n) (uses_checked is_kind us)

segments_checked : (is_one : SeenSegment → Bool) (ss : List SeenSegment) → sum_of_segments is_one (map seen_as_checked ss) ≡ sum_of_segments (λ s. is_one (seen_as_checked s)) ss
segments_checked is_one [] = refl
segments_checked is_one (s ∷ ss) = ap (λ (n : ℕ). (if is_one (seen_as_checked s) then 1 else 0) + n) (segments_checked is_one ss)

pub outcomes_counted : (j : Judging) (given : List GivenIsns) (packets : List CapturePacket) (o : SegmentOutcome) →
    counted o (sessions_of j given packets).uses ≡ outcome_times o (segments_heard j (listening_behind given) (all_stored packets))
outcomes_counted j given packets o =
    counted_sum o (sessions_of j given packets).uses
    ∙ (kinds_counted (λ u. same_outcome o u.outcome) (λ s. same_outcome o s.outcome) (outcome_kind o) j given packets
    ∙ sym (times_sum o (segments_heard j (listening_behind given) (all_stored packets))))

pub ways_counted : (j : Judging) (given : List GivenIsns) (packets : List CapturePacket) (k : SeenSegment) →
    like_counted k (sessions_of j given packets).uses ≡ like_times k (segments_heard j (listening_behind given) (all_stored packets))
ways_counted j given packets k =
    like_sum k (sessions_of j given packets).uses
    ∙ (kinds_counted (λ u. is_use_of k u) (λ s. is_like k s) (way_kind k) j given packets
    ∙ sym (like_times_sum k (segments_heard j (listening_behind given) (all_stored packets))))

-- ---- what `check` says, where no laps are searched

pub directions_counted : (tables : List Table) (given : List GivenIsns) (packets : List CapturePacket) (k : SeenSegment) →
    like_counted k (map use_as_checked (sessions_of (without_laps tables) given packets).uses) ≡ like_times k (segments_seen tables (given_after [] given) [] (all_stored packets))
directions_counted tables given packets k =
    let us = (sessions_of (without_laps tables) given packets).uses in
    let ss = segments_heard (without_laps tables) (listening_behind given) (all_stored packets) in
    like_sum k (map use_as_checked us)
    ∙ (uses_checked (λ u. is_use_of k u) us
    ∙ (kinds_counted (λ u. is_use_of k (use_as_checked u)) (λ s. is_like k (seen_as_checked s)) (checked_way_kind k) (without_laps tables) given packets
    ∙ (sym (segments_checked (λ s. is_like k s) ss)
    ∙ (sym (like_times_sum k (map seen_as_checked ss))
    ∙ ap (like_times k) (heard_as_checked tables (listening_behind given) (all_stored packets))))))

outcomes_checked : (tables : List Table) (given : List GivenIsns) (packets : List CapturePacket) (o : SegmentOutcome) →
    counted o (map use_as_checked (sessions_of (without_laps tables) given packets).uses) ≡ outcome_times o (segments_seen tables (given_after [] given) [] (all_stored packets))
outcomes_checked tables given packets o =
    let us = (sessions_of (without_laps tables) given packets).uses in
    let ss = segments_heard (without_laps tables) (listening_behind given) (all_stored packets) in
    counted_sum o (map use_as_checked us)
    ∙ (uses_checked (λ u. same_outcome o u.outcome) us
    ∙ (kinds_counted (λ u. same_outcome o (use_as_checked u).outcome) (λ s. same_outcome o (seen_as_checked s).outcome) (checked_kind o) (without_laps tables) given packets
    ∙ (sym (segments_checked (λ s. same_outcome o s.outcome) ss)
    ∙ (sym (times_sum o (map seen_as_checked ss))
    ∙ ap (outcome_times o) (heard_as_checked tables (listening_behind given) (all_stored packets))))))

said_by : (o : SegmentOutcome) (s : Stored) (l : Listened) (d : Segment) (said : SegmentOutcome) (ss : List SeenSegment) →
    outcome_times o (seen_before (seen_as s l (Read d) (Ok said)) ss) ≡ said_once o (Ok said) + outcome_times o ss
said_by o s l d said ss = refl

-- a segment that was cut off has another outcome
cut_unsaid : (o : SegmentOutcome) (s : Stored) (cut : Option Segment) (fault : DatagramFault) (ss : List SeenSegment) → same_outcome o outcome.CutOff ≡ false → outcome_times o (seen_before (seen_cut s cut fault) ss) ≡ outcome_times o ss
cut_unsaid o s None fault ss e = refl
cut_unsaid o s (Some d) fault ss e = ap (λ (b : Bool). (if b then 1 else 0) + outcome_times o ss) e ∙ zero_first (outcome_times o ss)

-- what is said of bytes that are no segment is no outcome
said_at : (o : SegmentOutcome) (s : Stored) (l : Listened) (r : Reading) (said : Result SegmentOutcome DatagramFault) (ss : List SeenSegment) → same_outcome o outcome.CutOff ≡ false →
    ((fault : DatagramFault) → r ≡ Bad fault → (p : SegmentOutcome) → said ≡ Ok p → true ≡ false) → outcome_times o (seen_before (seen_as s l r said) ss) ≡ said_once o said + outcome_times o ss
said_at o s l r (Err fault) ss e never = cut_unsaid o s (cut_segment s.bytes) fault ss e ∙ sym (zero_first (outcome_times o ss))
said_at o s l (Read d) (Ok said) ss e never = said_by o s l d said ss
said_at o s l (Bad fault) (Ok said) ss e never = let impossible = never fault refl said refl in absurd (cc)

-- bytes that are no segment have no outcome
bad_unsaid : (tables : List Table) (held : List Connection) (openings : List Opening) (now : ℕ) (r : Reading) (fault : DatagramFault) → r ≡ Bad fault → (p : SegmentOutcome) → (checked_by tables held openings now r).outcome ≡ Ok p → true ≡ false
bad_unsaid tables held openings now (Bad other) fault e p f = absurd (cc)
bad_unsaid tables held openings now (Read d) fault e p f = absurd (cc)

sayings_counted : (o : SegmentOutcome) (tables : List Table) (held : List Connection) (openings : List Opening) (stored : List Stored) → same_outcome o outcome.CutOff ≡ false →
    outcome_times o (segments_seen tables held openings stored) ≡ told_times o tables held openings stored
sayings_counted o tables held openings [] e = refl
sayings_counted o tables held openings (s ∷ rest) e =
    let r = reading s.bytes in
    let h = checked_by tables held openings s.time r in
    said_at o s h r h.outcome (segments_seen tables h.listening.held h.listening.openings rest) e (λ fault is p told. bad_unsaid tables held openings s.time r fault is p told)
    ∙ ap (λ (n : ℕ). said_once o h.outcome + n) (sayings_counted o tables h.listening.held h.listening.openings rest e)

pub verdicts_counted : (tables : List Table) (given : List GivenIsns) (packets : List CapturePacket) (o : SegmentOutcome) → same_outcome o outcome.CutOff ≡ false →
    counted o (map use_as_checked (sessions_of (without_laps tables) given packets).uses) ≡ told_times o tables (given_after [] given) [] (all_stored packets)
verdicts_counted tables given packets o e = outcomes_checked tables given packets o ∙ sayings_counted o tables (given_after [] given) [] (all_stored packets) e

-- ---- what isn't refused

-- what is told of a refusal is a refusal
verified_kept : (x : SegmentOutcome) → same_outcome outcome.Verified (as_checked x) ≡ same_outcome outcome.Verified x
verified_kept outcome.Verified = refl
verified_kept (outcome.Refused why) = refl
verified_kept outcome.NoNode = refl
verified_kept outcome.TooMany = refl
verified_kept outcome.Unconfirmed = refl
verified_kept (outcome.UnconfirmedRefused why) = refl
verified_kept outcome.CutOff = refl

no_node_kept : (x : SegmentOutcome) → same_outcome outcome.NoNode (as_checked x) ≡ same_outcome outcome.NoNode x
no_node_kept outcome.Verified = refl
no_node_kept (outcome.Refused why) = refl
no_node_kept outcome.NoNode = refl
no_node_kept outcome.TooMany = refl
no_node_kept outcome.Unconfirmed = refl
no_node_kept (outcome.UnconfirmedRefused why) = refl
no_node_kept outcome.CutOff = refl

too_many_kept : (x : SegmentOutcome) → same_outcome outcome.TooMany (as_checked x) ≡ same_outcome outcome.TooMany x
too_many_kept outcome.Verified = refl
too_many_kept (outcome.Refused why) = refl
too_many_kept outcome.NoNode = refl
too_many_kept outcome.TooMany = refl
too_many_kept outcome.Unconfirmed = refl
too_many_kept (outcome.UnconfirmedRefused why) = refl
too_many_kept outcome.CutOff = refl

kept : (o : SegmentOutcome) → IsNoRefusal o → (x : SegmentOutcome) → same_outcome o (as_checked x) ≡ same_outcome o x
kept o (IsVerified e) x = rw e (verified_kept x)
kept o (IsOfNoNode e) x = rw e (no_node_kept x)
kept o (IsTooMany e) x = rw e (too_many_kept x)

counted_kept : (o : SegmentOutcome) → IsNoRefusal o → (us : List KeyUse) → counted o (map use_as_checked us) ≡ counted o us
counted_kept o e [] = refl
counted_kept o e (u ∷ us) =
    ap (λ (b : Bool). (if b then u.segments else 0) + counted o (map use_as_checked us)) (kept o e u.outcome)
    ∙ ap (λ (n : ℕ). if_outcome o u.outcome u.segments + n) (counted_kept o e us)

-- none of these is a refusal
no_context_is_other : (o : SegmentOutcome) → IsNoRefusal o → same_outcome o (outcome.Refused NoContext) ≡ false
no_context_is_other o (IsVerified e) = rw e refl
no_context_is_other o (IsOfNoNode e) = rw e refl
no_context_is_other o (IsTooMany e) = rw e refl

range_is_other : (o : SegmentOutcome) → IsNoRefusal o → same_outcome o (outcome.Refused Range) ≡ false
range_is_other o (IsVerified e) = rw e refl
range_is_other o (IsOfNoNode e) = rw e refl
range_is_other o (IsTooMany e) = rw e refl

bad_mac_is_other : (o : SegmentOutcome) → IsNoRefusal o → same_outcome o (outcome.Refused BadMac) ≡ false
bad_mac_is_other o (IsVerified e) = rw e refl
bad_mac_is_other o (IsOfNoNode e) = rw e refl
bad_mac_is_other o (IsTooMany e) = rw e refl

abbrev one_if : Bool → ℕ
one_if b = if b then 1 else 0

told_kept : (o : SegmentOutcome) → IsNoRefusal o → (anew : Bool) (w : Saying) → said_once o (outcome_of (told_anew anew w)) ≡ said_once o (outcome_of w)
told_kept o e false w = refl
told_kept o e true (Unreadable fault) = refl
told_kept o e true UnknownNode = refl
told_kept o e true (TooManyConnections checksum) = refl
told_kept o e true (Judged (Ok p) checksum) = refl
told_kept o e true (Judged (Err NoAo) checksum) = refl
told_kept o e true (Judged (Err TwoAo) checksum) = refl
told_kept o e true (Judged (Err WithMd5) checksum) = refl
told_kept o e true (Judged (Err NoTuple) checksum) = refl
told_kept o e true (Judged (Err Expired) checksum) = refl
told_kept o e true (Judged (Err MacLength) checksum) = refl
told_kept o e true (Judged (Err NoContext) checksum) = refl
told_kept o e true (Judged (Err Range) checksum) = ap one_if (no_context_is_other o e ∙ sym (range_is_other o e))
told_kept o e true (Judged (Err BadMac) checksum) = ap one_if (no_context_is_other o e ∙ sym (bad_mac_is_other o e))

once_kept : (o : SegmentOutcome) → IsNoRefusal o → (tables : List Table) (held : List Connection) (openings : List Opening) (now : ℕ) (r : Reading) →
    said_once o (checked_by tables held openings now r).outcome ≡ said_once o (outcome_of (hear_read tables held now r).saying)
once_kept o e tables held openings now (Bad fault) = refl
once_kept o e tables held openings now (Read d) = told_kept o e (is_opened_anew d held openings) (hear_read tables held now (Read d)).saying

checked_held : (tables : List Table) (held : List Connection) (openings : List Opening) (now : ℕ) (r : Reading) → (checked_by tables held openings now r).listening.held ≡ (hear_read tables held now r).connections
checked_held tables held openings now (Bad fault) = refl
checked_held tables held openings now (Read d) = refl

told_as_said : (o : SegmentOutcome) → IsNoRefusal o → (tables : List Table) (held : List Connection) (openings : List Opening) (stored : List Stored) → told_times o tables held openings stored ≡ said_times o (sayings_from tables held stored)
unfolding hear
told_as_said o e tables held openings [] = refl
told_as_said o e tables held openings (s ∷ rest) =
    let r = reading s.bytes in
    let h = checked_by tables held openings s.time r in
    let others = told_as_said o e tables h.listening.held h.listening.openings rest ∙ ap (λ (cs : List Connection). said_times o (sayings_from tables cs rest)) (checked_held tables held openings s.time r) in
    ap (λ (n : ℕ). n + told_times o tables h.listening.held h.listening.openings rest) (once_kept o e tables held openings s.time r)
    ∙ ap (λ (n : ℕ). said_once o (outcome_of (hear_read tables held s.time r).saying) + n) others

not_cut : (o : SegmentOutcome) → IsNoRefusal o → same_outcome o outcome.CutOff ≡ false
not_cut o (IsVerified e) = rw e refl
not_cut o (IsOfNoNode e) = rw e refl
not_cut o (IsTooMany e) = rw e refl

pub unrefused_counted : (tables : List Table) (given : List GivenIsns) (packets : List CapturePacket) (o : SegmentOutcome) → IsNoRefusal o →
    counted o (sessions_of (without_laps tables) given packets).uses ≡ said_times o (sayings_from tables (given_after [] given) (all_stored packets))
unrefused_counted tables given packets o e =
    sym (counted_kept o e (sessions_of (without_laps tables) given packets).uses)
    ∙ (verdicts_counted tables given packets o (not_cut o e)
    ∙ told_as_said o e tables (given_after [] given) [] (all_stored packets))

-- ---- what was cut off

-- what is heard of a segment is another outcome
refused_whole : (why : Refusal) → same_outcome outcome.CutOff (outcome.Refused why) ≡ false
refused_whole NoAo = refl
refused_whole TwoAo = refl
refused_whole WithMd5 = refl
refused_whole NoTuple = refl
refused_whole Expired = refl
refused_whole MacLength = refl
refused_whole NoContext = refl
refused_whole Range = refl
refused_whole BadMac = refl

abbrev IsWhole : Result SegmentOutcome DatagramFault → Type 0
IsWhole said = IfOk said (λ o. same_outcome outcome.CutOff o ≡ false)

once_whole : (w : Saying) → IsWhole (outcome_of w)
once_whole (Unreadable fault) = tt
once_whole UnknownNode = refl
once_whole (TooManyConnections checksum) = refl
once_whole (Judged (Ok p) checksum) = refl
once_whole (Judged (Err why) checksum) = refused_whole why

twice_whole : (w : Saying) → IsWhole (unconfirmed_of w)
twice_whole (Unreadable fault) = tt
twice_whole UnknownNode = refl
twice_whole (TooManyConnections checksum) = refl
twice_whole (Judged (Ok p) checksum) = refl
twice_whole (Judged (Err NoAo) checksum) = refl
twice_whole (Judged (Err TwoAo) checksum) = refl
twice_whole (Judged (Err WithMd5) checksum) = refl
twice_whole (Judged (Err NoTuple) checksum) = refl
twice_whole (Judged (Err Expired) checksum) = refl
twice_whole (Judged (Err MacLength) checksum) = refl
twice_whole (Judged (Err NoContext) checksum) = refl
twice_whole (Judged (Err Range) checksum) = refl
twice_whole (Judged (Err BadMac) checksum) = refl

whole_if : (b : Bool) (h k : Heard) (guessed : List Connection) (openings : List Opening) → IsWhole (listened b h k guessed openings).outcome
whole_if true h k guessed openings = twice_whole k.saying
whole_if false h k guessed openings = once_whole h.saying

-- a segment that is read wasn't cut off
read_whole : (b : List ℕ) (d : Segment) → reading b ≡ Read d → cut_once b ≡ 0
unfolding cut_segment
read_whole b d e = rw e refl

cut_said : (s : Stored) (cut : Option Segment) (fault : DatagramFault) (ss : List SeenSegment) → outcome_times outcome.CutOff (seen_before (seen_cut s cut fault) ss) ≡ (if is_some cut then 1 else 0) + outcome_times outcome.CutOff ss
cut_said s None fault ss = sym (zero_first (outcome_times outcome.CutOff ss))
cut_said s (Some d) fault ss = refl

whole_said : (s : Stored) (l : Listened) (d : Segment) (said : Result SegmentOutcome DatagramFault) (ss : List SeenSegment) → IsWhole said → reading s.bytes ≡ Read d →
    outcome_times outcome.CutOff (seen_before (seen_as s l (Read d) said) ss) ≡ cut_once s.bytes + outcome_times outcome.CutOff ss
whole_said s l d (Err fault) ss whole e = cut_said s (cut_segment s.bytes) fault ss
whole_said s l d (Ok said) ss whole e = ap (λ (b : Bool). one_if b + outcome_times outcome.CutOff ss) whole ∙ ap (λ (n : ℕ). n + outcome_times outcome.CutOff ss) (sym (read_whole s.bytes d e))

cut_once_said : (j : Judging) (l : Listening) (s : Stored) (r : Reading) (ss : List SeenSegment) → reading s.bytes ≡ r →
    outcome_times outcome.CutOff (seen_before (seen_by s r (listen j l s.time r)) ss) ≡ cut_once s.bytes + outcome_times outcome.CutOff ss
unfolding listen
cut_once_said j l s (Bad fault) ss e = cut_said s (cut_segment s.bytes) fault ss
cut_once_said j l s (Read d) ss e =
    let h = hear_over j l.held s.time d in
    let told = said_of j l s.time d in
    let guessed = glimpsed d told l.openings l.guessed in
    let k = hear_over j guessed s.time d in
    let openings = openings_after d h.saying l.openings in
    let m = listened (is_unknown told) h k guessed openings in
    whole_said s m d m.outcome ss (whole_if (is_unknown told) h k guessed openings) e

cut_heard : (j : Judging) (l : Listening) (stored : List Stored) → outcome_times outcome.CutOff (segments_heard j l stored) ≡ cut_times stored
cut_heard j l [] = refl
cut_heard j l (s ∷ rest) =
    let r = reading s.bytes in
    let h = listen j l s.time r in
    cut_once_said j l s r (segments_heard j h.listening rest) refl ∙ ap (λ (n : ℕ). cut_once s.bytes + n) (cut_heard j h.listening rest)

pub cut_counted : (j : Judging) (given : List GivenIsns) (packets : List CapturePacket) → counted outcome.CutOff (sessions_of j given packets).uses ≡ cut_times (all_stored packets)
cut_counted j given packets = outcomes_counted j given packets outcome.CutOff ∙ cut_heard j (listening_behind given) (all_stored packets)

-- ---- each packet

all_step : (b : Bool) (session : ℕ) (g : Signs) (s : SeenSegment) (u : KeyUse) (us : List KeyUse) → all_counted (with_use session g s us) ≡ 1 + all_counted us →
    all_counted (if b then used_again g s u ∷ us else u ∷ with_use session g s us) ≡ 1 + (u.segments + all_counted us)
all_step true session g s u us others = omega arith
all_step false session g s u us others = omega arith

use_all : (session : ℕ) (g : Signs) (s : SeenSegment) (us : List KeyUse) → all_counted (with_use session g s us) ≡ 1 + all_counted us
use_all session g s [] = refl
use_all session g s (u ∷ us) = all_step (is_use_of s u) session g s u us (use_all session g s us)

passed_step : (b : Bool) (why : PassedOver) (c : PassedCount) (cs : List PassedCount) → all_passed (with_passed why cs) ≡ 1 + all_passed cs →
    all_passed (if b then record { why = c.why; packets = c.packets + 1 } ∷ cs else c ∷ with_passed why cs) ≡ 1 + (c.packets + all_passed cs)
passed_step true why c cs others = omega arith
passed_step false why c cs others = omega arith

passed_all : (why : PassedOver) (cs : List PassedCount) → all_passed (with_passed why cs) ≡ 1 + all_passed cs
passed_all why [] = refl
passed_all why (c ∷ cs) = passed_step (same_reason why c.why) why c cs (passed_all why cs)

abbrev all_of : SessionTable → ℕ
all_of t = all_counted t.uses + all_passed t.passed

segment_all : (found : Option ℕ) (s : SeenSegment) (t : SessionTable) → all_of (and_segment found s t) ≡ 1 + all_of t
segment_all None s t = let more = use_all (t.sessions + 1) (signs_of s t.uses) s t.uses in omega arith
segment_all (Some session) s t = let more = use_all session (signs_of s t.uses) s t.uses in omega arith

packet_all : (r : Result SeenSegment PassedOver) (t : SessionTable) → all_of (and_counted r t) ≡ 1 + all_of t
packet_all (Ok s) t = segment_all (session_of s t.uses) s t
packet_all (Err why) t = let more = passed_all why t.passed in omega arith

one_later : (a b n : ℕ) → a ≡ 1 + b → a + n ≡ b + (1 + n)
one_later a b n e = omega arith

module _ (j : Judging) where
  step_all : (stored : Result Stored PassedOver) (ps : List CapturePacket) → ((l : Listening) (t : SessionTable) → all_of (sessions_from j l t ps) ≡ all_of t + length ps) →
      (l : Listening) (t : SessionTable) → all_of (counted_by j l t stored (λ known now. sessions_from j known now ps)) ≡ all_of t + (1 + length ps)
  step_all (Err why) ps others l t = others l (and_counted (Err why) t) ∙ one_later _ _ (length ps) (packet_all (Err why) t)
  step_all (Ok s) ps others l t =
      let h = listen j l s.time (reading s.bytes) in
      let r = seen_by s (reading s.bytes) h in
      others h.listening (and_counted r t) ∙ one_later _ _ (length ps) (packet_all r t)

  from_all : (ps : List CapturePacket) (l : Listening) (t : SessionTable) → all_of (sessions_from j l t ps) ≡ all_of t + length ps
  from_all [] l t = omega arith
  from_all (p ∷ ps) l t =
      let size : 1 + length ps ≡ length (p ∷ ps) = omega arith in
      step_all (stored_of_packet p) ps (λ known now. from_all ps known now) l (and_unset (captured_of_packet p) t) ∙ ap (λ n. all_of t + n) size

pub packets_counted : (j : Judging) (given : List GivenIsns) (packets : List CapturePacket) → all_counted (sessions_of j given packets).uses + all_passed (sessions_of j given packets).passed ≡ length packets
unfolding sessions_of
packets_counted j given packets = from_all j packets (listening_behind given) no_sessions ∙ zero_first (length packets)
