-- What drawing a packet adds.
use Rattle.std.proofs.Common.{◌≡◌, ℕ, ◌/◌, ◌≤◌, false, List, [], ◌∷◌, ◌++◌, take, drop, Option, Some, None, Result, Ok, Err, IfSome, OnOk, refl, sym, ap, subst, ◌∙◌}
use Rattle.std.proofs.lemmas.List.{append-nil}
use Rattle.std.proofs.lemmas.List.Folds.{drop_split}
use Rattle.book_captures.specs.declared.reasons.Skipped.{Skipped}
use Rattle.book_captures.specs.Frames.{Datagram}
use Rattle.book_captures.specs.Captures.{CapturePacket, frame_datagram}
use Rattle.book_cmd_check.specs.Captures.{Stored}
use Rattle.book_segments.specs.declared.fault.DatagramFault.{DatagramFault}
use Rattle.book_segments.specs.Segments.{Segment, Reading, Read, Bad, reading}
use Rattle.book_sessions.specs.declared.outcome.PassedOver.{PassedOver}
use Rattle.book_sessions.specs.declared.outcome.SegmentOutcome.TheVariants.{CutOff}
use Rattle.book_sessions.specs.CutOff.{cut_segment}
use Rattle.book_sessions.specs.AsSent.{is_segment, lacks_checksum, mended}
use Rattle.book_sessions.specs.Laps.{Judging}
use Rattle.book_sessions.specs.Listening.{Listening, listen}
use Rattle.book_sessions.specs.Sessions.{stored_by, stored_of_packet}
use Rattle.book_draw.specs.declared.session_rung.SessionRung.{SessionRung}
use Rattle.book_draw.specs.SessionLadders.{session_ladder}
use Rattle.book_draw.specs.SessionRungs.{rung_before, rung_heard, rung_said, rungs_of_session, seen_at, session_rung}
use Rattle.book_draw.specs.Times.{left_out}
use Rattle.capture_listener.specs.Listeners.{Knows, Listens}
use Rattle.capture_reader.specs.declared.frames.FoundDatagram.{FoundDatagram}
use Rattle.capture_reader.specs.Found.{Gives, seen}
use Rattle.scope_lines.specs.Writes.{found_in}
use Rattle.capture_listener.specs.declared.outcomes.HeardSegment.{HeardSegment}
use Rattle.scope_ladder.specs.declared.drawer.Drawer.{Drawer}
use Rattle.scope_ladder.specs.declared.search.Shown.{Shown}
use Rattle.scope_ladder.specs.Drawing.{Adds, AddsPacket, AddsRead, Follows, Request}
use Rattle.scope_ladder.specs.Searches.{flow_as, kept_as, kept_in, left_with, shown_as, shown_rungs, shown_text}
use Rattle.scope_ladder.proofs.Within.{Places, flow_more, kept_more, left_shown}

module _ (q : Request) (before now : Drawer) (rungs : List SessionRung) (k : Listening) (follows : Follows q before rungs k) where
  -- what draws, behind a segment that was placed
  module _ (r : SessionRung) (shown : Shown) (places : Places before now r shown) where
    drawn : now.text.items ≡ shown_as q.form q.within shown r
    drawn = places.pushed ∙ (ap (λ (xs : List ℕ). xs ++ shown_as before.form before.within shown r) places.empty
        ∙ (ap (λ f. shown_as f before.within shown r) follows.form ∙ ap (λ t. shown_as q.form t shown r) follows.within))

    one : rungs_of_session q.number (rungs ++ r ∷ []) ≡ rungs_of_session q.number rungs ++ shown_rungs shown r
    one = subst (λ (n : ℕ). rungs_of_session n (rungs ++ r ∷ []) ≡ rungs_of_session n rungs ++ shown_rungs shown r) follows.number (places.rungs rungs follows.seeks)

    all_kept : now.kept.items ≡ before.kept.items ++ kept_as before.form before.within shown r → now.kept.items ≡ kept_in q.form q.within q.number (rungs ++ r ∷ [])
    all_kept keeps = keeps ∙ (ap (λ (xs : List SessionRung). xs ++ kept_as before.form before.within shown r) follows.kept
        ∙ (ap (λ f. kept_in q.form q.within q.number rungs ++ kept_as f before.within shown r) follows.form
        ∙ (ap (λ t. kept_in q.form q.within q.number rungs ++ kept_as q.form t shown r) follows.within ∙ sym (kept_more q.form q.within q.number rungs r shown one))))

    all_left : now.left ≡ left_out q.within (rungs_of_session q.number (rungs ++ r ∷ []))
    all_left = places.left ∙ (ap (λ t. left_with t shown before.left r) follows.within
        ∙ (ap (λ n. left_with q.within shown n r) follows.left
        ∙ (sym (left_shown q.within shown (rungs_of_session q.number rungs) r) ∙ ap (left_out q.within) (sym one))))

    one_follows : (after : Listening) → now.listener.judging ≡ before.listener.judging → Knows now.listener after → now.kept.items ≡ before.kept.items ++ kept_as before.form before.within shown r → Follows q now (rungs ++ r ∷ []) after
    one_follows after same knows keeps = record {
      form = places.form ∙ follows.form;
      judging = same ∙ follows.judging;
      knows = knows;
      number = places.number ∙ follows.number;
      seeks = places.seeks rungs follows.seeks;
      within = places.within ∙ follows.within;
      left = all_left;
      kept = all_kept keeps;
    }

    one_text : flow_as q.form q.within q.number (rungs ++ r ∷ []) ≡ flow_as q.form q.within q.number rungs ++ now.text.items
    one_text = flow_more q.form q.within q.number rungs r shown
        (subst (λ (n : ℕ). session_ladder q.within n (rungs ++ r ∷ []) ≡ session_ladder q.within n rungs ++ shown_text q.within shown r) follows.number (places.text q.within rungs follows.seeks))
        ∙ ap (λ (xs : List ℕ). flow_as q.form q.within q.number rungs ++ xs) (sym drawn)

  -- a segment that was heard
  pub adds_heard : (packet time : ℕ) (d : Segment) (told : HeardSegment) (r : SessionRung) (shown : Shown) → Places before now r shown
      → ((k : Listening) → Knows before.listener k → Listens now.listener told d (listen before.listener.judging k (time / 1000000000) (Read d)))
      → now.listener.judging ≡ before.listener.judging → r ≡ session_rung packet time d told.outcome told.pass → now.kept.items ≡ before.kept.items ++ kept_as before.form before.within shown r → AddsRead q now rungs k packet time d
  adds_heard packet time d told r shown places heard same is keeps =
      let h : Listens now.listener told d (listen q.judging k (time / 1000000000) (Read d)) =
      subst (λ (j : Judging). Listens now.listener told d (listen j k (time / 1000000000) (Read d))) follows.judging (heard k follows.knows) in
      let all = listen q.judging k (time / 1000000000) (Read d) in
      record {
        more = r ∷ [];
        after = all.listening;
        follows = one_follows r shown places all.listening same h.knows keeps;
        comes = λ others. ap (λ o. rung_said (rung_heard packet time d all) o (others all.listening)) h.outcome
            ∙ ap (λ x. x ∷ others all.listening) (ap (λ x. session_rung packet time d told.outcome x) (sym h.pass) ∙ sym is);
        text = one_text r shown places;
      }

  -- bytes that are a segment that was cut off
  cut_comes : (s : Stored) (time : ℕ) (fault : DatagramFault) (read : Reading) (cut : Option Segment) (d : Segment) (r : SessionRung) → read ≡ Bad fault → cut ≡ Some d → r ≡ session_rung s.number time d CutOff None → (others : Listening → List SessionRung)
      → (let h = listen q.judging k s.time read in rung_before (seen_at s.number time) cut h read (others h.listening)) ≡ r ∷ others k
  unfolding listen
  cut_comes s time fault read cut d r bad is same others = rw (bad, is, same) refl

  pub adds_cut : (s : Stored) (time : ℕ) (fault : DatagramFault) (d : Segment) (r : SessionRung) (shown : Shown) → reading s.bytes ≡ Bad fault → cut_segment s.bytes ≡ Some d → Places before now r shown
      → now.listener ≡ before.listener → r ≡ session_rung s.number time d CutOff None → now.kept.items ≡ before.kept.items ++ kept_as before.form before.within shown r → Adds q now rungs k (Some time) (Ok s)
  adds_cut s time fault d r shown bad cut places still is keeps = record {
    more = r ∷ [];
    after = k;
    follows = one_follows r shown places k (ap (λ x. x.judging) still) (rw still follows.knows) keeps;
    comes = cut_comes s time fault (reading s.bytes) (cut_segment s.bytes) d r bad cut is;
    text = one_text r shown places;
  }

module _ (q : Request) (d : Drawer) (rungs : List SessionRung) (k : Listening) (follows : Follows q d rungs k) (empty : d.text.items ≡ []) where
  follows_still : Follows q d (rungs ++ []) k
  follows_still = rw (append-nil rungs) follows

  text_still : flow_as q.form q.within q.number (rungs ++ []) ≡ flow_as q.form q.within q.number rungs ++ d.text.items
  text_still = ap (flow_as q.form q.within q.number) (append-nil rungs)
      ∙ (sym (append-nil (flow_as q.form q.within q.number rungs)) ∙ ap (λ (xs : List ℕ). flow_as q.form q.within q.number rungs ++ xs) (sym empty))

  -- bytes that are no segment, and none that was cut off
  bad_comes : (s : Stored) (time : ℕ) (fault : DatagramFault) (r : Reading) (cut : Option Segment) → r ≡ Bad fault → cut ≡ None → (others : Listening → List SessionRung)
      → (let h = listen q.judging k s.time r in rung_before (seen_at s.number time) cut h r (others h.listening)) ≡ others k
  unfolding listen
  bad_comes s time fault r cut is none others = rw (is, none) refl

  pub adds_bad : (s : Stored) (time : ℕ) (fault : DatagramFault) → reading s.bytes ≡ Bad fault → cut_segment s.bytes ≡ None → Adds q d rungs k (Some time) (Ok s)
  adds_bad s time fault is none = record {
    more = [];
    after = k;
    follows = follows_still;
    comes = bad_comes s time fault (reading s.bytes) (cut_segment s.bytes) is none;
    text = text_still;
  }

  adds_none : (time : Option ℕ) (why : PassedOver) → Adds q d rungs k time (Err why)
  adds_none time why = record { more = []; after = k; follows = follows_still; comes = λ others. refl; text = text_still }

  -- a packet without a datagram, and one without a time
  pub adds_skipped : (number : ℕ) (time : Option ℕ) (frame : List ℕ) (found : Result FoundDatagram Skipped) (why : Skipped) → found ≡ Err why → Adds q d rungs k time (stored_by number time (found_in frame found))
  adds_skipped number time frame found why is = rw is (adds_none time _)

  pub adds_timeless : (number : ℕ) (time : Option ℕ) (frame : List ℕ) (found : Result FoundDatagram Skipped) (datagram : FoundDatagram) → found ≡ Ok datagram → time ≡ None → Adds q d rungs k time (stored_by number time (found_in frame found))
  adds_timeless number time frame found datagram is none = rw (is, none) (adds_none None _)

-- what was read of the bytes
read_comes : (q : Request) (k : Listening) (time number : ℕ) (cut : Option Segment) (r : Reading) (d : Segment) → r ≡ Read d → (others : Listening → List SessionRung)
    → (let h = listen q.judging k (time / 1000000000) r in rung_before (seen_at number time) cut h r (others h.listening)) ≡ (let h = listen q.judging k (time / 1000000000) (Read d) in rung_before (seen_at number time) None h (Read d) (others h.listening))
read_comes q k time number cut r d is others = rw is refl

adds_read : (q : Request) (drawer : Drawer) (rungs : List SessionRung) (k : Listening) (time number : ℕ) (bytes : List ℕ) (d : Segment) → reading bytes ≡ Read d → AddsRead q drawer rungs k number time d
    → Adds q drawer rungs k (Some time) (Ok (record { number = number; time = time / 1000000000; bytes = bytes }))
adds_read q drawer rungs k time number bytes d is adds = record {
  more = adds.more;
  after = adds.after;
  follows = adds.follows;
  comes = λ others. read_comes q k time number (cut_segment bytes) (reading bytes) d is others ∙ adds.comes others;
  text = adds.text;
}

pub adds_stored : {E : Type 0} (result : Result (Unit {0}) E) (q : Request) (drawer : Drawer) (rungs : List SessionRung) (k : Listening) (time number : ℕ) (bytes : List ℕ) (d : Segment) → reading bytes ≡ Read d
    → OnOk result (AddsRead q drawer rungs k number time d) → OnOk result (Adds q drawer rungs k (Some time) (Ok (record { number = number; time = time / 1000000000; bytes = bytes })))
adds_stored (Ok done) q drawer rungs k time number bytes d is adds = adds_read q drawer rungs k time number bytes d is adds
adds_stored (Err e) q drawer rungs k time number bytes d is adds = tt

given_found : (frame : List ℕ) (found : Result FoundDatagram Skipped) (r : Result Datagram Skipped) → Gives (seen frame) found r → r ≡ found_in frame found
given_found frame (Ok d) r gives = gives
given_found frame (Err why) r gives = gives

stored_is : (p : CapturePacket) (time : Option ℕ) (frame : List ℕ) (found : Result FoundDatagram Skipped) → time ≡ p.frame.time → frame ≡ p.frame.bytes → Gives (seen p.frame.bytes) found (frame_datagram p.frame) →
    stored_by p.number time (found_in frame found) ≡ stored_of_packet p
stored_is p time frame found time_is frame_is gives = rw (time_is, frame_is, given_found p.frame.bytes found (frame_datagram p.frame) gives) refl

adds_shown : (q : Request) (d : Drawer) (rungs : List SessionRung) (k : Listening) (packet : Option CapturePacket) (p : CapturePacket) (number : ℕ) (time : Option ℕ) (frame : List ℕ) (found : Result FoundDatagram Skipped) →
    packet ≡ Some p → IfSome packet (λ p. number ≡ p.number) → IfSome packet (λ p. time ≡ p.frame.time) → IfSome packet (λ p. frame ≡ p.frame.bytes) → IfSome packet (λ p. Gives (seen p.frame.bytes) found (frame_datagram p.frame)) →
    Adds q d rungs k time (stored_by number time (found_in frame found)) → AddsPacket q d rungs k p
adds_shown q d rungs k packet p number time frame found is number_is time_is frame_is gives adds0 =
    let adds = rw (rw is at number_is) at adds0 in
    let time_now : time ≡ p.frame.time = rw is at time_is in
    let a = subst (λ (s : Result Stored PassedOver). Adds q d rungs k time s) (stored_is p time frame found time_now (rw is at frame_is) (rw is at gives)) adds in
    subst (λ (t : Option ℕ). Adds q d rungs k t (stored_of_packet p)) time_now a

-- the packet that is shown, unless memory ran out
pub adds_on : {E : Type 0} (result : Result (Unit {0}) E) (q : Request) (d : Drawer) (rungs : List SessionRung) (k : Listening) (packet : Option CapturePacket) (p : CapturePacket) (number : ℕ) (time : Option ℕ) (frame : List ℕ) (found : Result FoundDatagram Skipped) →
    packet ≡ Some p → IfSome packet (λ p. number ≡ p.number) → IfSome packet (λ p. time ≡ p.frame.time) → IfSome packet (λ p. frame ≡ p.frame.bytes) → IfSome packet (λ p. Gives (seen p.frame.bytes) found (frame_datagram p.frame)) →
    OnOk result (Adds q d rungs k time (stored_by number time (found_in frame found))) → OnOk result (AddsPacket q d rungs k p)
adds_on (Ok done) q d rungs k packet p number time frame found is number_is time_is frame_is gives adds =
    adds_shown q d rungs k packet p number time frame found is number_is time_is frame_is gives adds
adds_on (Err e) q d rungs k packet p number time frame found is number_is time_is frame_is gives adds = tt

abbrev ok_stored : Stored → Result Stored PassedOver
ok_stored s = Ok s

-- what is judged of a datagram that was found, with those bytes behind it
pub stored_found : (number t : ℕ) (time : Option ℕ) (frame : List ℕ) (d : FoundDatagram) (found : Result FoundDatagram Skipped) (bytes : List ℕ) → time ≡ Some t → found ≡ Ok d → d.first ≤ d.after → bytes ≡ take 65575 (drop d.first frame)
    → ◌≡◌ {A = Result Stored PassedOver} (Ok (record { number = number; time = t / 1000000000; bytes = mended bytes })) (stored_by number time (found_in frame found))
stored_found number t time frame d found bytes time_is found_is ordered bytes_are =
    rw (time_is, found_is, bytes_are)
    (ap (λ (xs : List ℕ). ok_stored (record { number = number; time = t / 1000000000; bytes = mended (take 65575 xs) })) (drop_split frame d.first d.after ordered))

pub adds_found : {E : Type 0} (result : Result (Unit {0}) E) (q : Request) (now : Drawer) (rungs : List SessionRung) (k : Listening) (number t : ℕ) (time : Option ℕ) (frame : List ℕ) (d : FoundDatagram) (found : Result FoundDatagram Skipped) (bytes : List ℕ)
    → time ≡ Some t → found ≡ Ok d → d.first ≤ d.after → bytes ≡ take 65575 (drop d.first frame)
    → OnOk result (Adds q now rungs k (Some t) (Ok (record { number = number; time = t / 1000000000; bytes = mended bytes }))) → OnOk result (Adds q now rungs k time (stored_by number time (found_in frame found)))
adds_found result q now rungs k number t time frame d found bytes time_is found_is ordered bytes_are adds =
    let same : ◌≡◌ {A = Option ℕ} (Some t) time = sym time_is in
    let a = subst (λ (s : Result Stored PassedOver). OnOk result (Adds q now rungs k (Some t) s)) (stored_found number t time frame d found bytes time_is found_is ordered bytes_are) adds in
    subst (λ (o : Option ℕ). OnOk result (Adds q now rungs k o (stored_by number time (found_in frame found)))) same a

-- a segment that was heard, unless memory ran out for what is drawn of it
pub adds_told : {E : Type 0} (result : Result (Unit {0}) E) (q : Request) (before now : Drawer) (rungs : List SessionRung) (k : Listening) → Follows q before rungs k
    → (packet time : ℕ) (d : Segment) (told : HeardSegment) (r : SessionRung) (shown : Shown) → Places before now r shown
    → ((k : Listening) → Knows before.listener k → Listens now.listener told d (listen before.listener.judging k (time / 1000000000) (Read d)))
    → now.listener.judging ≡ before.listener.judging → r ≡ session_rung packet time d told.outcome told.pass
    → OnOk result (now.kept.items ≡ before.kept.items ++ kept_as before.form before.within shown r) → OnOk result (AddsRead q now rungs k packet time d)
adds_told (Ok done) q before now rungs k follows packet time d told r shown places heard same is keeps =
    adds_heard q before now rungs k follows packet time d told r shown places heard same is keeps
adds_told (Err e) q before now rungs k follows packet time d told r shown places heard same is keeps = tt

-- bytes that are no segment have a fault
pub fault_of : (r : Reading) → is_segment r ≡ false → (fault : DatagramFault) × (r ≡ Bad fault)
fault_of (Bad fault) e = (fault, refl)
fault_of (Read d) e = absurd (cc)

pub one_read : (one other : Segment) → ◌≡◌ {A = Reading} (Read one) (Read other) → one ≡ other
one_read one other e = cc

pub rung_is : (s : Stored) (packet time : ℕ) (one other : Segment) (r : SessionRung) → s.number ≡ packet → one ≡ other → r ≡ session_rung packet time one CutOff None → r ≡ session_rung s.number time other CutOff None
rung_is s packet time one other r number same is = rw (number, ← same) is

-- a segment that was cut off, unless memory ran out for what is drawn of it
pub cut_told : {E : Type 0} (result : Result (Unit {0}) E) (q : Request) (before now : Drawer) (rungs : List SessionRung) (k : Listening) → Follows q before rungs k
    → (s : Stored) (time : ℕ) (fault : DatagramFault) (d : Segment) (r : SessionRung) (shown : Shown) → reading s.bytes ≡ Bad fault → cut_segment s.bytes ≡ Some d → Places before now r shown
    → now.listener ≡ before.listener → r ≡ session_rung s.number time d CutOff None
    → OnOk result (now.kept.items ≡ before.kept.items ++ kept_as before.form before.within shown r) → OnOk result (Adds q now rungs k (Some time) (Ok s))
cut_told (Ok done) q before now rungs k follows s time fault d r shown bad cut places still is keeps =
    adds_cut q before now rungs k follows s time fault d r shown bad cut places still is keeps
cut_told (Err e) q before now rungs k follows s time fault d r shown bad cut places still is keeps = tt

-- bytes whose header checksum is set
pub whole_is : (bytes : List ℕ) → lacks_checksum bytes ≡ false → mended bytes ≡ bytes
unfolding mended
whole_is bytes free = rw free refl

-- what is drawn of bytes is drawn of them as they are judged
pub adds_mended : {E : Type 0} (result : Result (Unit {0}) E) (q : Request) (d : Drawer) (rungs : List SessionRung) (k : Listening) (time number : ℕ) (bytes whole : List ℕ) → whole ≡ mended bytes
    → OnOk result (Adds q d rungs k (Some time) (Ok (record { number = number; time = time / 1000000000; bytes = whole }))) → OnOk result (Adds q d rungs k (Some time) (Ok (record { number = number; time = time / 1000000000; bytes = mended bytes })))
adds_mended result q d rungs k time number bytes whole is adds = rw is at adds
