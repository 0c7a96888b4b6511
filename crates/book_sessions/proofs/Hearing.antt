-- Where no laps are searched, what is heard is what `check` says: of what is unconfirmed, that it has no context.
use Rattle.std.proofs.Common.{◌≡◌, ℕ, Bool, true, false, not, nat_le, List, [], ◌∷◌, length, map, Option, Some, None, Result, Ok, Err, if◌then◌else◌, refl, sym, ap, ◌∙◌}
use Rattle.std.specs.List.{find}
use Rattle.std.specs.Option.{unwrap_or}
use Rattle.book_segments.specs.declared.fault.DatagramFault.{DatagramFault}
use Rattle.book_segments.specs.Segments.{Segment, Reading, Read, Bad, reading, has, SYN, ACK, pair_reached}
use Rattle.book_segments.specs.Sockets.{same_socket}
use Rattle.book_keys.specs.Rows.{Table, has_address}
use Rattle.book_endpoint.specs.Verdicts.{Finding, Judgement}
use Rattle.book_endpoint.specs.declared.refusal.Refusal.TheVariants.{NoAo, TwoAo, WithMd5, NoTuple, Expired, MacLength, NoContext, Range, BadMac}
use Rattle.book_cmd_check.specs.DatagramTexts.{checksum_in}
use Rattle.book_cmd_check.specs.Captures.{Stored, Connection, Heard, Saying, Unreadable, UnknownNode, Judged, TooManyConnections, connection_between, with_connection, fixed, most_connections, judge_stored, hear_later, hear_syn_ack, hear_judged, hear_at, hear_read}
use Rattle.book_sessions.specs.declared.outcome.SegmentOutcome.{SegmentOutcome}
use Rattle.book_sessions.specs.declared.outcome.SegmentOutcome.TheVariants as outcome
use Rattle.book_sessions.specs.declared.uses.SeenSegment.{SeenSegment}
use Rattle.book_sessions.specs.Glimpses.{Opening, openings_after, glimpsed, is_judged, is_opened_anew, is_refused, is_unknown, told_anew}
use Rattle.book_sessions.specs.CutOff.{cut_segment}
use Rattle.book_sessions.specs.Laps.{Judging, is_searched, heard_further, heard_by, hear_over}
use Rattle.book_sessions.specs.Listening.{Listening, Listened, outcome_of, pass_of, unconfirmed_of, heard_once, heard_twice, listen, said_of}
use Rattle.book_sessions.specs.Sessions.{seen_as, seen_by, seen_cut}
use Rattle.book_sessions.specs.Counts.{as_checked, checked_by, seen_before, segments_heard, segments_seen}

-- by these tables, without a search
abbrev pub without_laps : List Table → Judging
without_laps tables = record { tables = tables; laps = 0 }

-- a segment with what `check` says of it
abbrev pub seen_as_checked : SeenSegment → SeenSegment
seen_as_checked s = record s { outcome = as_checked s.outcome }

-- what `check` says where this comes of bytes
abbrev checked : Result SegmentOutcome DatagramFault → Result SegmentOutcome DatagramFault
checked (Ok o) = Ok (as_checked o)
checked (Err fault) = Err fault

-- ---- without laps the segment is heard once

choose : (b : Bool) (found : Option Heard) (h : Heard) → found ≡ None → (if b then unwrap_or found h else h) ≡ h
choose true None h e = refl
choose true (Some k) h e = absurd (cc)
choose false found h e = refl

none_further : (heard : List Connection → Heard) (held : List Connection) (c : Option Connection) → heard_further heard 0 held c ≡ None
none_further heard held None = refl
none_further heard held (Some c) = refl

heard_at_once : (tables : List Table) (held : List Connection) (now : ℕ) (d : Segment) → hear_over (without_laps tables) held now d ≡ hear_read tables held now (Read d)
unfolding hear_over
heard_at_once tables held now d =
    let h = hear_read tables held now (Read d) in
    let found = heard_further (heard_by (without_laps tables) now d) 0 held (connection_between d held) in
    choose (is_searched d h.saying) found h (none_further (heard_by (without_laps tables) now d) held (connection_between d held))

-- ---- what is refused by the connections held is judged by other connections

-- what is heard of a SYN with ACK that passes, of no connection that is held
abbrev heard_new : (full : Bool) → List Connection → Segment → Finding → Heard
heard_new full held d p =
    if full
    then record { connections = held; saying = TooManyConnections (checksum_in d) }
    else record { connections = with_connection (fixed d) held; saying = Judged (Ok p) (checksum_in d) }

full_known : (full : Bool) (held : List Connection) (d : Segment) (p : Finding) → is_refused (heard_new full held d p).saying ≡ false
full_known true held d p = refl
full_known false held d p = refl

syn_ack_known : (held : List Connection) (d : Segment) (p : Finding) (c : Option Connection) → is_refused (hear_syn_ack held d (Ok p) c).saying ≡ false
syn_ack_known held d p (Some c) = refl
syn_ack_known held d p None = full_known (nat_le most_connections (length held)) held d p

later_known : (held : List Connection) (d : Segment) (p : Finding) (c : Option Connection) → is_refused (hear_later held d p.number (Ok p) c).saying ≡ false
later_known held d p (Some c) = refl
later_known held d p None = refl

later_judged : (held : List Connection) (d : Segment) (p : Finding) (c : Option Connection) → is_judged (hear_later held d p.number (Ok p) c).saying ≡ true
later_judged held d p (Some c) = refl
later_judged held d p None = refl

-- what is heard of a segment that passes, by its two flags
abbrev heard_pass : (syn ack : Bool) → List Connection → Segment → Finding → Option Connection → Heard
heard_pass syn ack held d p c =
    if not syn then hear_later held d p.number (Ok p) c
    else if ack then hear_syn_ack held d (Ok p) c
    else record { connections = held; saying = Judged (Ok p) (checksum_in d) }

pass_known : (syn ack : Bool) (held : List Connection) (d : Segment) (p : Finding) (c : Option Connection) → is_refused (heard_pass syn ack held d p c).saying ≡ false
pass_known true true held d p c = syn_ack_known held d p c
pass_known true false held d p c = refl
pass_known false ack held d p c = later_known held d p c

pass_judged : (syn ack : Bool) (held : List Connection) (d : Segment) (p : Finding) (c : Option Connection) → syn ≡ false → is_judged (heard_pass syn ack held d p c).saying ≡ true
pass_judged true ack held d p c e = absurd (cc)
pass_judged false ack held d p c e = later_judged held d p c

no_pass : (b : Bool) → b ≡ false → b ≡ true → true ≡ false
no_pass b e f = sym f ∙ e

-- a SYN is judged alike by any connections, and another segment is judged by any
judged_again : (syn : Bool) (held guessed : List Connection) (d : Segment) (c k : Option Connection) (one other : Judgement) → has SYN d ≡ syn → (syn ≡ true → one ≡ other) →
    is_refused (hear_judged held d c one).saying ≡ true → is_judged (hear_judged guessed d k other).saying ≡ true
judged_again syn held guessed d c k one (Err why) e alike refused = refl
judged_again syn held guessed d c k (Ok p) (Ok q) e alike refused =
    let impossible = no_pass _ (pass_known (has SYN d) (has ACK d) held d p c) refused in absurd (cc)
judged_again true held guessed d c k (Err why) (Ok q) e alike refused = let same = alike refl in absurd (cc)
judged_again false held guessed d c k (Err why) (Ok q) e alike refused = pass_judged (has SYN d) (has ACK d) guessed d q k e

alike_if : {A : Type 0} (b : Bool) (x y z : A) → b ≡ true → (if b then x else y) ≡ (if b then x else z)
alike_if true x y z e = refl
alike_if false x y z e = absurd (cc)

-- what is heard of a segment with this verdict, by whether its sockets are one
abbrev heard_at : Bool → List Connection → Segment → Option Connection → Judgement → Heard
heard_at same held d c one = if same then record { connections = held; saying = UnknownNode } else hear_judged held d c one

judged_at : (same : Bool) (held guessed : List Connection) (d : Segment) (c k : Option Connection) (one other : Judgement) → (has SYN d ≡ true → one ≡ other) →
    is_refused (heard_at same held d c one).saying ≡ true → is_judged (heard_at same guessed d k other).saying ≡ true
judged_at true held guessed d c k one other alike refused = absurd (cc)
judged_at false held guessed d c k one other alike refused = judged_again (has SYN d) held guessed d c k one other refl alike refused

judged_by : (t : Option Table) (held guessed : List Connection) (now : ℕ) (d : Segment) → is_refused (hear_at t held now d).saying ≡ true → is_judged (hear_at t guessed now d).saying ≡ true
judged_by None held guessed now d refused = absurd (cc)
judged_by (Some t) held guessed now d refused =
    let c = connection_between d held in
    let k = connection_between d guessed in
    judged_at (same_socket d.source d.destination) held guessed d c k (judge_stored t.rows (pair_reached d) now d c) (judge_stored t.rows (pair_reached d) now d k)
    (alike_if (has SYN d) _ _ _) refused

guess_checked : (w : Saying) → is_judged w ≡ true → checked (unconfirmed_of w) ≡ Ok (outcome.Refused NoContext)
guess_checked (Unreadable fault) e = absurd (cc)
guess_checked UnknownNode e = absurd (cc)
guess_checked (TooManyConnections checksum) e = absurd (cc)
guess_checked (Judged (Ok p) checksum) e = refl
guess_checked (Judged (Err NoAo) checksum) e = refl
guess_checked (Judged (Err TwoAo) checksum) e = refl
guess_checked (Judged (Err WithMd5) checksum) e = refl
guess_checked (Judged (Err NoTuple) checksum) e = refl
guess_checked (Judged (Err Expired) checksum) e = refl
guess_checked (Judged (Err MacLength) checksum) e = refl
guess_checked (Judged (Err NoContext) checksum) e = refl
guess_checked (Judged (Err Range) checksum) e = refl
guess_checked (Judged (Err BadMac) checksum) e = refl

unknown_outcome : (w : Saying) → is_unknown w ≡ true → outcome_of w ≡ Ok (outcome.Refused NoContext)
unknown_outcome (Unreadable fault) e = absurd (cc)
unknown_outcome UnknownNode e = absurd (cc)
unknown_outcome (TooManyConnections checksum) e = absurd (cc)
unknown_outcome (Judged (Ok p) checksum) e = absurd (cc)
unknown_outcome (Judged (Err NoAo) checksum) e = absurd (cc)
unknown_outcome (Judged (Err TwoAo) checksum) e = absurd (cc)
unknown_outcome (Judged (Err WithMd5) checksum) e = absurd (cc)
unknown_outcome (Judged (Err NoTuple) checksum) e = absurd (cc)
unknown_outcome (Judged (Err Expired) checksum) e = absurd (cc)
unknown_outcome (Judged (Err MacLength) checksum) e = absurd (cc)
unknown_outcome (Judged (Err NoContext) checksum) e = refl
unknown_outcome (Judged (Err Range) checksum) e = absurd (cc)
unknown_outcome (Judged (Err BadMac) checksum) e = absurd (cc)

-- what has no context, as it is told, is refused
pub told_refused : (anew : Bool) (w : Saying) → is_unknown (told_anew anew w) ≡ true → is_refused w ≡ true
told_refused true (Unreadable fault) e = absurd (cc)
told_refused true UnknownNode e = absurd (cc)
told_refused true (TooManyConnections checksum) e = absurd (cc)
told_refused true (Judged (Ok p) checksum) e = absurd (cc)
told_refused false (Unreadable fault) e = absurd (cc)
told_refused false UnknownNode e = absurd (cc)
told_refused false (TooManyConnections checksum) e = absurd (cc)
told_refused false (Judged (Ok p) checksum) e = absurd (cc)
told_refused anew (Judged (Err why) checksum) e = refl

-- what isn't told as one without context is told as it is
pub told_as_is : (anew : Bool) (w : Saying) → is_unknown (told_anew anew w) ≡ false → told_anew anew w ≡ w
told_as_is false w e = refl
told_as_is true (Unreadable fault) e = refl
told_as_is true UnknownNode e = refl
told_as_is true (TooManyConnections checksum) e = refl
told_as_is true (Judged (Ok p) checksum) e = refl
told_as_is true (Judged (Err NoAo) checksum) e = refl
told_as_is true (Judged (Err TwoAo) checksum) e = refl
told_as_is true (Judged (Err WithMd5) checksum) e = refl
told_as_is true (Judged (Err NoTuple) checksum) e = refl
told_as_is true (Judged (Err Expired) checksum) e = refl
told_as_is true (Judged (Err MacLength) checksum) e = refl
told_as_is true (Judged (Err NoContext) checksum) e = refl
told_as_is true (Judged (Err Range) checksum) e = absurd (cc)
told_as_is true (Judged (Err BadMac) checksum) e = absurd (cc)

second_hearing : (tables : List Table) (held guessed : List Connection) (now : ℕ) (d : Segment) (anew : Bool) → is_unknown (told_anew anew (hear_read tables held now (Read d)).saying) ≡ true →
    checked (unconfirmed_of (hear_read tables guessed now (Read d)).saying) ≡ outcome_of (told_anew anew (hear_read tables held now (Read d)).saying)
second_hearing tables held guessed now d anew unknown =
    let t = find (has_address d.destination.address) tables in
    let w = (hear_at t held now d).saying in
    guess_checked (hear_at t guessed now d).saying (judged_by t held guessed now d (told_refused anew w unknown))
    ∙ sym (unknown_outcome (told_anew anew w) unknown)

-- ---- one segment

outcome_checked : (w : Saying) → checked (outcome_of w) ≡ outcome_of w
outcome_checked (Unreadable fault) = refl
outcome_checked UnknownNode = refl
outcome_checked (Judged (Ok p) checksum) = refl
outcome_checked (Judged (Err why) checksum) = refl
outcome_checked (TooManyConnections checksum) = refl

-- what is known after one hearing or two, and what comes of the segment
abbrev pub listened : Bool → (h k : Heard) → List Connection → List Opening → Listened
listened b h k guessed openings = if b then heard_twice h k openings else heard_once h guessed openings

listened_held : (b : Bool) (h k : Heard) (guessed : List Connection) (openings : List Opening) → (listened b h k guessed openings).listening.held ≡ h.connections
listened_held true h k guessed openings = refl
listened_held false h k guessed openings = refl

listened_openings : (b : Bool) (h k : Heard) (guessed : List Connection) (openings : List Opening) → (listened b h k guessed openings).listening.openings ≡ openings
listened_openings true h k guessed openings = refl
listened_openings false h k guessed openings = refl

listened_outcome : (b : Bool) (h k : Heard) (guessed : List Connection) (openings : List Opening) (told : Saying) → (b ≡ true → checked (unconfirmed_of k.saying) ≡ outcome_of told) → (b ≡ false → told ≡ h.saying) →
    checked (listened b h k guessed openings).outcome ≡ outcome_of told
listened_outcome true h k guessed openings told twice once = twice refl
listened_outcome false h k guessed openings told twice once = outcome_checked h.saying ∙ ap outcome_of (sym (once refl))

held_alike : (tables : List Table) (l : Listening) (now : ℕ) (r : Reading) → (listen (without_laps tables) l now r).listening.held ≡ (checked_by tables l.held l.openings now r).listening.held
unfolding listen
held_alike tables l now (Bad fault) = refl
held_alike tables l now (Read d) =
    let j = without_laps tables in
    let h = hear_over j l.held now d in
    let guessed = glimpsed d (said_of j l now d) l.openings l.guessed in
    listened_held (is_unknown (said_of j l now d)) h (hear_over j guessed now d) guessed (openings_after d h.saying l.openings)
    ∙ ap (λ (x : Heard). x.connections) (heard_at_once tables l.held now d)

openings_alike : (tables : List Table) (l : Listening) (now : ℕ) (r : Reading) → (listen (without_laps tables) l now r).listening.openings ≡ (checked_by tables l.held l.openings now r).listening.openings
unfolding listen
openings_alike tables l now (Bad fault) = refl
openings_alike tables l now (Read d) =
    let j = without_laps tables in
    let h = hear_over j l.held now d in
    let guessed = glimpsed d (said_of j l now d) l.openings l.guessed in
    listened_openings (is_unknown (said_of j l now d)) h (hear_over j guessed now d) guessed (openings_after d h.saying l.openings)
    ∙ ap (λ (x : Heard). openings_after d x.saying l.openings) (heard_at_once tables l.held now d)

told_twice : (tables : List Table) (held guessed : List Connection) (now : ℕ) (d : Segment) (anew : Bool) (h k : Heard) → h ≡ hear_read tables held now (Read d) → k ≡ hear_read tables guessed now (Read d) →
    is_unknown (told_anew anew h.saying) ≡ true → checked (unconfirmed_of k.saying) ≡ outcome_of (told_anew anew h.saying)
told_twice tables held guessed now d anew h k first second unknown =
    ap (λ (x : Heard). checked (unconfirmed_of x.saying)) second
    ∙ (second_hearing tables held guessed now d anew (sym (ap (λ (x : Heard). is_unknown (told_anew anew x.saying)) first) ∙ unknown)
    ∙ sym (ap (λ (x : Heard). outcome_of (told_anew anew x.saying)) first))

outcome_alike : (tables : List Table) (l : Listening) (now : ℕ) (r : Reading) → checked (listen (without_laps tables) l now r).outcome ≡ (checked_by tables l.held l.openings now r).outcome
unfolding listen
outcome_alike tables l now (Bad fault) = refl
outcome_alike tables l now (Read d) =
    let j = without_laps tables in
    let h = hear_over j l.held now d in
    let anew = is_opened_anew d l.held l.openings in
    let told = told_anew anew h.saying in
    let guessed = glimpsed d told l.openings l.guessed in
    let k = hear_over j guessed now d in
    listened_outcome (is_unknown told) h k guessed (openings_after d h.saying l.openings) told
    (told_twice tables l.held guessed now d anew h k (heard_at_once tables l.held now d) (heard_at_once tables guessed now d))
    (told_as_is anew h.saying)
    ∙ ap (λ (x : Heard). outcome_of (told_anew anew x.saying)) (heard_at_once tables l.held now d)

-- ---- all segments

cut_alike : (s : Stored) (cut : Option Segment) (fault : DatagramFault) (ss : List SeenSegment) → map seen_as_checked (seen_before (seen_cut s cut fault) ss) ≡ seen_before (seen_cut s cut fault) (map seen_as_checked ss)
cut_alike s None fault ss = refl
cut_alike s (Some d) fault ss = refl

seen_alike : (s : Stored) (l m : Listened) (r : Reading) (o : Result SegmentOutcome DatagramFault) (ss : List SeenSegment) → l.listening.held ≡ m.listening.held → l.pass ≡ m.pass →
    map seen_as_checked (seen_before (seen_as s l r o) ss) ≡ seen_before (seen_as s m r (checked o)) (map seen_as_checked ss)
seen_alike s l m r (Err fault) ss e f = cut_alike s (cut_segment s.bytes) fault ss
seen_alike s l m (Bad fault) (Ok o) ss e f = refl
seen_alike s l m (Read d) (Ok o) ss e f = rw (e, f) refl

unknown_passes_not : (w : Saying) → is_unknown w ≡ true → None ≡ pass_of w
unknown_passes_not (Unreadable fault) e = refl
unknown_passes_not UnknownNode e = refl
unknown_passes_not (TooManyConnections checksum) e = refl
unknown_passes_not (Judged (Ok p) checksum) e = absurd (cc)
unknown_passes_not (Judged (Err why) checksum) e = refl

listened_pass : (b : Bool) (h k : Heard) (guessed : List Connection) (openings : List Opening) (told : Saying) → (b ≡ true → None ≡ pass_of told) → (b ≡ false → told ≡ h.saying) → (listened b h k guessed openings).pass ≡ pass_of told
listened_pass true h k guessed openings told none once = none refl
listened_pass false h k guessed openings told none once = ap pass_of (sym (once refl))

pass_alike : (tables : List Table) (l : Listening) (now : ℕ) (r : Reading) → (listen (without_laps tables) l now r).pass ≡ (checked_by tables l.held l.openings now r).pass
unfolding listen
pass_alike tables l now (Bad fault) = refl
pass_alike tables l now (Read d) =
    let j = without_laps tables in
    let h = hear_over j l.held now d in
    let anew = is_opened_anew d l.held l.openings in
    let told = told_anew anew h.saying in
    let guessed = glimpsed d told l.openings l.guessed in
    listened_pass (is_unknown told) h (hear_over j guessed now d) guessed (openings_after d h.saying l.openings) told (unknown_passes_not told) (told_as_is anew h.saying)
    ∙ ap (λ (x : Heard). pass_of (told_anew anew x.saying)) (heard_at_once tables l.held now d)

-- the segments that are heard, as `check` says it of them
pub heard_as_checked : (tables : List Table) (l : Listening) (stored : List Stored) → map seen_as_checked (segments_heard (without_laps tables) l stored) ≡ segments_seen tables l.held l.openings stored
heard_as_checked tables l [] = refl
heard_as_checked tables l (s ∷ rest) =
    let r = reading s.bytes in
    let h = listen (without_laps tables) l s.time r in
    let m = checked_by tables l.held l.openings s.time r in
    let others = heard_as_checked tables h.listening rest ∙ (ap (λ (held : List Connection). segments_seen tables held h.listening.openings rest) (held_alike tables l s.time r)
    ∙ ap (λ (openings : List Opening). segments_seen tables m.listening.held openings rest) (openings_alike tables l s.time r)) in
    seen_alike s h m r h.outcome (segments_heard (without_laps tables) h.listening rest) (held_alike tables l s.time r) (pass_alike tables l s.time r)
    ∙ (ap (λ o. seen_before (seen_as s m r o) (map seen_as_checked (segments_heard (without_laps tables) h.listening rest))) (outcome_alike tables l s.time r)
    ∙ ap (λ (ss : List SeenSegment). seen_before (seen_by s r m) ss) others)
