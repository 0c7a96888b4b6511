-- One turn: the other end takes all, this end makes a segment, and that comes to the other end.
use Rattle.std.proofs.Common.{◌≡◌, ℕ, zero, suc, ◌+◌, ◌%◌, ◌<◌, ◌≤◌, Bool, true, false, not, ◌&&◌, ◌||◌, List, [], ◌∷◌, length, Option, Some, ◌⊎◌, inl, inr, ⊎_elim, if◌then◌else◌, refl, sym, ap, ◌∙◌, subst, arith, length-append, length-take, Ok}
use Rattle.std.proofs.lemmas.Bool.Decides.{nat_tests}
use Rattle.book_base.specs.declared.address.Pair.{Pair}
use Rattle.book_base.specs.declared.end.End.{End}
use Rattle.book_base.specs.declared.end.End.TheVariants.{A, B}
use Rattle.book_segments.specs.Bytes.{ring, same_bytes}
use Rattle.book_segments.specs.Meant.{meant}
use Rattle.book_segments.specs.Received.{bytes_from}
use Rattle.book_segments.specs.Segments.{Segment, Reading, Read, reading, good, has, bit_of, segment_length, SYN, FIN, RST, ACK}
use Rattle.book_base.specs.declared.algorithm.Algorithm.{Algorithm}
use Rattle.book_base.specs.declared.algorithm.Algorithm.TheVariants.{HmacSha1, AesCmac, HmacSha256}
use Rattle.book_base.specs.Algorithms.{same_algorithm}
use Rattle.book_keys.specs.Rows.{Row}
use Rattle.book_keys.specs.Coordination.{Sending, follow}
use Rattle.book_keys.specs.Plans.{AlignedFrom}
use Rattle.book_endpoint.specs.declared.phase.Phase.TheVariants.{LastAck, Closed}
use Rattle.book_endpoint.specs.declared.arrival.Arrival.TheVariants.{Foreign, Checksum, Closed as AtClosed}
use Rattle.book_endpoint.specs.States.{EndState, window, ready, ready_at, ready_count, taking, take_out, given_end, is_closed, hears}
use Rattle.book_endpoint.specs.Verdicts.{Finding, Key, key_of, same_master_key}
use Rattle.book_endpoint.specs.Arrivals.{Arrived, unmoved, heard, passes, judged_by, from_peer, arrive}
use Rattle.book_endpoint.specs.Hearing.{fits_window}
use Rattle.endpoint_steps.specs.Arriving.{after_check, arrive_judged, arrive_read}
use Rattle.book_endpoint.specs.Emissions.{Draft, Emission, Emitted, Quiet, Emits, sets, sealed}
use Rattle.endpoint_steps.proofs.Arriving.{read_by_cases}
use Rattle.book_link.specs.declared.event.Event.{Event}
use Rattle.book_link.specs.declared.event.Event.TheVariants.{At}
use Rattle.book_link.specs.declared.event.Action.TheVariants.{Deliver, Take}
use Rattle.book_link.specs.Outcomes.{Outcome, Sent}
use Rattle.book_link.specs.Worlds.{other, same_end, Setup, pair_of, Session, Made, Happening, Making, World, side, find, live, is_known, accounts_for, was_made, forged, forgeries, segment_named}
use Rattle.book_link.specs.Steps.{Stepped, Act, add, acted, on_live, quietly, made_of, sent, came, come, took, deliver, step, view_of}
use Rattle.book_link.specs.Runs.{run_from}
use Rattle.law_link.specs.Headline.{GivesFew}
use Rattle.law_link.specs.Laws.{SetupFits, EventFits, IsNear, RollsOver}
use Rattle.law_link.proofs.Tests.{choose}
use Rattle.law_link.proofs.Whole.{Whole}
use Rattle.law_link.proofs.Lists.{length-bytes_from}
use Rattle.law_link.proofs.Accepted.{meant_near}
use Rattle.book_segments.proofs.SocketLaws.{same_bytes-refl}
use Rattle.law_link.proofs.Sessions.{known_so}
use Rattle.law_link.proofs.Rollover.{finds_made}
use Rattle.law_progress.proofs.Opened.{BothOpen}
use Rattle.law_progress.specs.Progress.{delivering, IsSame, all_end, is_open}
use Rattle.law_progress.proofs.Finishing.{Finished, by_end, named_last}
use Rattle.law_progress.proofs.Hearing.{Frame, frame, IsPlain, reach, Due, Effect, after_check_effect}
use Rattle.law_progress.proofs.Making.{PlainFlags, Rest, rest, takes, Makes}
use Rattle.law_progress.proofs.Facts.{Facts, Ends, ends_of, live_found, forth_again, bit_low, open_speaks}
use Rattle.law_progress.proofs.Kept.{facts_step}
use Rattle.law_progress.proofs.Acting.{instead, instead_here, instead_other, instead_there, instead_far, Acted, act_live, StaysUp, up_by}

-- ---- two ends that are up: the far one makes, the near one takes and hears

pub record Two (setup : Setup) (w : World) (lead lag : ℕ) (y : End) (a b : Session) : Type 0 where
  pub facts : Facts setup w
  pub few : GivesFew w
  pub up : BothOpen setup w lead lag
  pub far : up.session (other y) ≡ a
  pub near : up.session y ≡ b

module _ (setup : Setup) (w : World) (lead lag : ℕ) (y : End) (a b : Session) (two : Two setup w lead lag y a b) where
  pub near_ends : Ends b.state a.state
  near_ends = subst (λ (s : Session). Ends s.state a.state) two.near (subst (λ (s : Session). Ends (two.up.session y).state s.state) two.far (ends_of setup w lead lag two.facts two.few two.up y))

  pub far_ends : Ends a.state b.state
  far_ends =
      let h = ends_of setup w lead lag two.facts two.few two.up (other y) in
      let turned : Ends (two.up.session (other y)).state (two.up.session y).state =
      forth_again (λ (f : End). Ends (two.up.session (other y)).state (two.up.session f).state) y h in
      subst (λ (s : Session). Ends s.state b.state) two.far (subst (λ (s : Session). Ends (two.up.session (other y)).state s.state) two.near turned)

  pub near_lives : live (side w y).sessions ≡ Some b
  near_lives = two.up.lives y ∙ ap (λ (s : Session). Some s) two.near

  pub far_lives : live (side w (other y)).sessions ≡ Some a
  far_lives = two.up.lives (other y) ∙ ap (λ (s : Session). Some s) two.far

  -- a call on the near end
  pub two_near : (call : EndState → Act) (act : Act) → call b.state ≡ act → StaysUp b.state act.state → forgeries (add act.happened w.history) ≡ 0 → Facts setup (on_live w y call).world
      → Two setup (on_live w y call).world lead lag y a (acted b act)
  two_near call act is stays none facts =
      let acts = subst (λ (k : Act). Acted w y (acted b k) k.happened (on_live w y call).world) is (act_live w y call b near_lives).0 in
      let r = up_by setup w lead lag two.up two.few y (acted b act) act.happened (on_live w y call).world acts (subst (λ (s : Session). StaysUp s.state act.state) (sym two.near) stays) none in
      record { facts = facts; few = r.few; up = r.up; far = r.is (other y) ∙ instead_there y (acted b act) two.up.session ∙ two.far; near = r.is y ∙ instead_here y (acted b act) two.up.session }

  -- a call on the far end
  pub two_far : (call : EndState → Act) (act : Act) → call a.state ≡ act → StaysUp a.state act.state → forgeries (add act.happened w.history) ≡ 0 → Facts setup (on_live w (other y) call).world
      → Two setup (on_live w (other y) call).world lead lag y (acted a act) b
  two_far call act is stays none facts =
      let acts = subst (λ (k : Act). Acted w (other y) (acted a k) k.happened (on_live w (other y) call).world) is (act_live w (other y) call a far_lives).0 in
      let r = up_by setup w lead lag two.up two.few (other y) (acted a act) act.happened (on_live w (other y) call).world acts (subst (λ (s : Session). StaysUp s.state act.state) (sym two.far) stays) none in
      record { facts = facts; few = r.few; up = r.up; far = r.is (other y) ∙ instead_far y (acted a act) two.up.session; near = r.is y ∙ instead_other y (acted a act) two.up.session ∙ two.near }

-- ---- the near end takes all

pub took_window : (s : EndState) → Whole s → window (take_out 65535 s) ≡ 65535
unfolding ready
took_window s h =
    let v = h.stream in
    let begun = v.begun in
    let room = v.room in
    let longer = length-append s.taken (taking 65535 s) in
    let cut = length-take 65535 (bytes_from s.received (ready_at s) (ready_count s)) in
    let all = length-bytes_from s.received (ready_at s) (ready_count s) in
    omega arith

-- ---- the segment comes to the near end

-- a segment that the far end made last
pub record JustMade (w : World) (y : End) (a : Session) (m : Made) : Type 0 where
  pub past : List Happening
  pub history : w.history ≡ Making m ∷ past
  pub unforged : forgeries past ≡ 0
  pub maker : m.maker ≡ other y
  pub isn : m.isn ≡ a.state.isn
  pub clock : m.clock ≡ (side w (other y)).clock
  pub rows : m.rows ≡ (side w (other y)).rows

same_end-refl : (e : End) → same_end e e ≡ true
same_end-refl A = refl
same_end-refl B = refl

same_algorithm-refl : (x : Algorithm) → same_algorithm x x ≡ true
same_algorithm-refl HmacSha1 = refl
same_algorithm-refl AesCmac = refl
same_algorithm-refl HmacSha256 = refl

two_true : (a b : Bool) → a ≡ true → b ≡ true → (a && b) ≡ true
two_true true true e f = refl
two_true true false e f = f
two_true false b e f = absurd (cc)

same_key-refl : (k : Key) → same_master_key k k ≡ true
same_key-refl k = two_true (same_algorithm k.algorithm k.algorithm) (same_bytes k.master k.master) (same_algorithm-refl k.algorithm) (same_bytes-refl k.master)

pub in_window : (n l x w : ℕ) → 0 < w → x ≤ n → n < x + w → fits_window n l x w ≡ true
in_window n zero x w wide low high = grind (arith, nat_tests)
in_window n (suc l) x w wide low high = grind (arith, nat_tests)

pub arrives_so : (rows : List Row) (pair : Pair) (now : ℕ) (s : EndState) (bytes : List ℕ) (d : Segment) (p : Finding) → reading bytes ≡ Read d → from_peer pair d ≡ true → good d ≡ true → is_closed s.phase ≡ false → judged_by rows pair now s d ≡ Ok p
    → arrive rows pair now s (reading bytes) ≡ arrive_judged rows pair now s d (Ok p)
arrives_so rows pair now s bytes d p reads ours right awake verdict =
    let goal = arrive_judged rows pair now s d (Ok p) in
    let P : Arrived → Type 0 = λ r. r ≡ goal in
    subst P (read_by_cases rows pair now s (reading bytes))
    (subst (λ (k : Reading). P (arrive_read rows pair now s k)) (sym reads)
    (choose P (not (from_peer pair d)) (unmoved s Foreign) _ (λ e. absurd (not_so (from_peer pair d) ours e)) (λ e1.
    choose P (not (good d)) (unmoved s Checksum) _ (λ e. absurd (not_so (good d) right e)) (λ e2.
    choose P (is_closed s.phase) (unmoved s AtClosed) _ (λ e. absurd (cc)) (λ e3. ap (arrive_judged rows pair now s d) verdict)))))
  where
    not_so : (b : Bool) → b ≡ true → not b ≡ true → ⊥
    not_so true e g = absurd (cc)
    not_so false e g = absurd (cc)

and_all : (a b c d : Bool) → a ≡ true → b ≡ true → c ≡ true → d ≡ true → (a && b && c && d) ≡ true
and_all a b c d e f g h = grind arith

pub unforged_now : (y : End) (p : Finding) (m : Made) (past : List Happening) → m.maker ≡ other y → p.key ≡ key_of m.emission.sending.row → p.context ≡ m.emission.context → p.input ≡ m.emission.input → forged y (Some p) (Making m ∷ past) ≡ 0
unforged_now y p m past maker key context input =
    let e = m.emission in
    let one : same_end m.maker (other y) ≡ true = ap (λ (f : End). same_end f (other y)) maker ∙ same_end-refl (other y) in
    let two : same_master_key (key_of e.sending.row) p.key ≡ true = ap (same_master_key (key_of e.sending.row)) key ∙ same_key-refl (key_of e.sending.row) in
    let three : same_bytes e.context p.context ≡ true = ap (same_bytes e.context) context ∙ same_bytes-refl e.context in
    let four : same_bytes e.input p.input ≡ true = ap (same_bytes e.input) input ∙ same_bytes-refl e.input in
    let all = and_all (same_end m.maker (other y)) (same_master_key (key_of e.sending.row) p.key) (same_bytes e.context p.context) (same_bytes e.input p.input) one two three four in
    made_so (accounts_for y p m) (was_made y p past) all
  where
    made_so : (a b : Bool) → a ≡ true → ◌≡◌ {A = ℕ} (if a || b then 0 else 1) 0
    made_so true b e = refl
    made_so false b e = absurd (cc)

-- what a delivery does to the near end
pub record Heard (a b b2 : EndState) (out : Draft) : Type 0 where
  pub stays : StaysUp b b2
  pub next : b2.next ≡ b.next
  pub una : b.una ≤ b2.una
  pub up : b.expected ≤ b2.expected
  pub owed : b.ack_owed ≡ true → b2.ack_owed ≡ true
  pub moved : 0 < takes out → out.number ≤ b.expected → (b2.ack_owed ≡ true) × (out.number + takes out ≤ b2.expected)
  pub heard : b.expected ≤ out.number → out.number < b.expected + 65535 → b2.una ≡ a.expected

-- one end has come to CLOSED, and all is acknowledged
pub record Gone (setup : Setup) (v : World) (y : End) (a b : EndState) : Type 0 where
  pub over : Finished setup v
  pub far : IsSame a (over.session (other y)).state
  pub near : IsSame b (over.session y).state

-- the segment that the far end made last comes to the near end, where all was taken
pub record CameTo (setup : Setup) (w : World) (lead lag : ℕ) (y : End) (a b : Session) (m : Made) (out : Draft) (before : EndState) : Type 0 where
  pub after : Session
  pub two : Two setup (step setup w (At y (Deliver m.name))).world lead lag y a after
  pub heard : Heard before b.state after.state out

pub stays_by : (s t : EndState) → is_open t.phase ≡ true → frame t ≡ frame s → StaysUp s t
stays_by s t o e = record {
  opened = o;
  isn = ap (λ (f : Frame). f.isn) e;
  peer = ap (λ (f : Frame). f.peer_isn) e;
  closing = ap (λ (f : Frame). f.closing) e;
  given = ap (λ (f : Frame). f.given) e;
}

-- the far end made this draft of the state before, and its number is near
pub record OfDraft (setup : Setup) (y : End) (before : EndState) (m : Made) (out : Draft) : Type 0 where
  pub sending : Sending
  pub context : List ℕ
  pub is : m.emission ≡ sealed (pair_of setup (other y)) before out sending context
  pub flags : PlainFlags out.flags
  pub small : takes out ≤ 65535
  pub bytes : 0 < length out.payload → out.number + length out.payload ≤ given_end before
  pub fin : sets out.flags FIN ≡ true → out.number + length out.payload ≡ given_end before

come_two : (setup : Setup) (fits : SetupFits setup) (w : World) (lead lag : ℕ) (y : End) (a b : Session) (m : Made) (before : EndState) (out : Draft) → Two setup w lead lag y a b → JustMade w y a m → OfDraft setup y before m out
    → IsNear out.number b.state.expected → before.expected ≡ a.state.expected → given_end before ≡ given_end a.state → window b.state ≡ 65535
    → CameTo setup w lead lag y a b m out before ⊎ Gone setup (step setup w (At y (Deliver m.name))).world y a.state b.state
come_two setup fits w lead lag y a b m before out two just of near_number x end_is wide =
    let near = near_ends setup w lead lag y a b two in
    let far = far_ends setup w lead lag y a b two in
    let mac = m.emission.segment in
    let d = m.emission.segment in
    let segment : d ≡ (sealed (pair_of setup (other y)) before out of.sending of.context).segment = ap (λ (e : Emission). e.segment) of.is in
    let number : m.emission.number ≡ out.number = ap (λ (e : Emission). e.number) of.is in
    let flags : d.flags ≡ out.flags = ap (λ (e : Segment). e.flags) segment in
    let payload : d.payload ≡ out.payload = ap (λ (e : Segment). e.payload) segment in
    let plain : IsPlain d = record {
      syn = ap (λ (k : ℕ). sets k SYN) flags ∙ of.flags.syn;
      rst = ap (λ (k : ℕ). sets k RST) flags ∙ of.flags.rst;
      ack = ap (λ (k : ℕ). sets k ACK) flags ∙ of.flags.ack;
    } in
    let named : segment_named m.name w.history ≡ Some m = ap (segment_named m.name) just.history ∙ named_last m just.past in
    let awake = (open_speaks b.state.phase near.up.phase).1 in
    let rolls : RollsOver setup w y m.name m = record {
      made = named;
      maker = just.maker;
      lead = lead;
      lag = lag;
      early = (let h = two.up.early y in let k = just.clock in omega arith);
      late = (let h = two.up.late y in let k = just.clock in omega arith);
      aligned = subst (λ (r : List Row). AlignedFrom r (side w y).rows (pair_of setup (other y)) lead lag) (sym just.rows) (two.up.aligned y);
      sender = a;
      sent = ap (find (side w (other y)).sessions) just.isn ∙ live_found (side w (other y)).sessions a (far_lives setup w lead lag y a b two);
      receiver = b;
      lives = near_lives setup w lead lag y a b two;
      awake = awake;
      addressed = addressed_so (has SYN d) (if has ACK d then is_known a.state.peer_isn b.state.isn else true) (is_known a.state.peer_isn b.state.isn) (is_known b.state.peer_isn a.state.isn) plain.syn (known_so a.state.peer_isn b.state.isn far.peer) (known_so b.state.peer_isn a.state.isn near.peer);
      near = λ e. subst (λ (k : ℕ). IsNear k b.state.expected) (sym number) near_number;
    } in
    let found = finds_made setup fits two.facts.tables w y m.name m two.facts.inv rolls in
    let j = found.judges in
    let p = j.found in
    let rows = (side w y).rows in
    let pair = pair_of setup y in
    let now = (side w y).clock in
    let s = b.state in
    let moved = after_check pair s (heard rows pair now s p.rnext_key_id) d p.number now s.phase in
    let arrived : arrive rows pair now s (reading m.bytes) ≡ passes s p moved = arrives_so rows pair now s m.bytes d p found.reads j.ours found.right awake j.verdict in
    let act = came m.bytes (view_of setup w y) s (passes s p moved) in
    let acknowledged : d.acknowledgement ≡ a.state.expected % ring =
    ap (λ (e : Segment). e.acknowledgement) segment ∙ ack_on (sets out.flags ACK) (before.expected % ring) of.flags.ack ∙ ap (λ (k : ℕ). k % ring) x in
    let low = near.sent in
    let una = near.acked in
    let next = near.numbers.next in
    let room = near.room in
    let sent_low = far.sent in
    let back_sent = near.sent in
    let ahead = far.acked in
    let means : meant d.acknowledgement s.una ≡ Some a.state.expected = ap (λ (k : ℕ). meant k s.una) acknowledged ∙ meant_near a.state.expected s.una (omega arith) (omega arith) in
    let effect : Effect s moved.state d p.number a.state.expected =
    after_check_effect pair s (follow s.current rows pair p.rnext_key_id now) d p.number now a.state.expected plain near.up.phase una back_sent means in
    let here : p.number ≡ out.number = j.number ∙ number in
    let long : length d.payload ≡ length out.payload = ap length payload in
    let fin_is : has FIN d ≡ sets out.flags FIN = ap (λ (k : ℕ). sets k FIN) flags in
    let size : reach d ≡ takes out = (let bit : bit_of (has FIN d) ≡ bit_of (sets out.flags FIN) = ap bit_of fin_is in omega arith) in
    let due : 0 < takes out → out.number ≤ s.expected → Due s d p.number (given_end a.state) = λ some at.
    let small = of.small in
    let under : p.number + length d.payload ≤ given_end a.state =
    under_end (p.number + length d.payload ≤ given_end a.state) (length out.payload) (sets out.flags FIN) some (λ more. let low = of.bytes more in omega arith) (λ on. let is = of.fin on in omega arith) in
    record {
      few = near.few;
      at = omega arith;
      some = omega arith;
      under = under;
      fin_at = λ on. let is = of.fin (sym fin_is ∙ on) in omega arith;
      ends = λ f is. (near.fin_at f is).1;
      below = near.below;
      fits = omega arith;
      hearing = near.hearing;
      past = λ off. (near.past off).1;
    } in
    let none : forgeries (add act.happened w.history) ≡ 0 =
    (let z = unforged_now y p m just.past just.maker j.key j.context j.message in
    let all : forged y (Some p) w.history ≡ 0 = ap (forged y (Some p)) just.history ∙ z in
    let before_none = two.up.unforged in omega arith) in
    let v = (step setup w (At y (Deliver m.name))).world in
    let v_is : (on_live w y (come m.bytes (view_of setup w y))).world ≡ v = ap (λ (o : Option Made). (deliver setup w y o).world) (sym named) in
    let facts = facts_step setup fits w (At y (Deliver m.name)) tt two.facts in
    let facts_now = subst (Facts setup) (sym v_is) facts in
    let acts = subst (λ (k : Act). Acted w y (acted b k) k.happened (on_live w y (come m.bytes (view_of setup w y))).world) (ap (came m.bytes (view_of setup w y) s) arrived) (act_live w y (come m.bytes (view_of setup w y)) b (near_lives setup w lead lag y a b two)).0 in
    let expected_up = effect.up in
    let same_end : given_end moved.state ≡ given_end s = ap (λ (f : Frame). f.isn + 1 + length f.given) effect.frame_is in
    let same_all : all_end moved.state ≡ all_end s = ap (λ (f : Frame). f.isn + 1 + length f.given + bit_of f.closing) effect.frame_is in
    ⊎_elim
    (λ (opened_now : is_open moved.state.phase ≡ true).
    let done = two_near setup w lead lag y a b two (come m.bytes (view_of setup w y)) act (ap (came m.bytes (view_of setup w y) s) arrived) (stays_by s moved.state opened_now effect.frame_is) none facts_now in
    let all : CameTo setup w lead lag y a b m out before = record {
      after = acted b act;
      two = subst (λ (k : World). Two setup k lead lag y a (acted b act)) v_is done;
      heard = record {
        stays = stays_by s moved.state opened_now effect.frame_is;
        next = ap (λ (f : Frame). f.next) effect.frame_is;
        una = effect.una;
        up = effect.up;
        owed = effect.owed;
        moved = λ some at. (let r = effect.moved (given_end a.state) (due some at) (omega arith) in (r.0, (let low = r.1 in omega arith)));
        heard = λ at below. effect.heard (in_window p.number (segment_length d) s.expected (window s) (omega arith) (omega arith) (omega arith)) ∙ sym x;
      };
    } in inl all)
    (λ (o : (s.phase ≡ LastAck) × (s.isn + 1 + length s.given < moved.state.una) × (moved.state.phase ≡ Closed) × (moved.state.una ≡ a.state.expected)).
    let more = o.1 in
    let is_ack = o.3 in
    let top = near.numbers.next in
    let bit = bit_low s.closing in
    let bit_far = bit_low a.state.closing in
    let past = near.past (ap hears o.0) in
    let passed = past.1 in
    let far_all = far.told o.0 (omega arith) in
    let u = acted b act in
    let old = two.up.session in
    let isn_same : moved.state.isn ≡ s.isn = ap (λ (f : Frame). f.isn) effect.frame_is in
    let over : Finished setup (on_live w y (come m.bytes (view_of setup w y))).world = record {
      facts = facts_now;
      unforged = ap forgeries acts.history ∙ none;
      session = instead y u old;
      lives = acts.lives old two.up.lives;
      peer = by_end (λ e f g. f.state.peer_isn ≡ Some g.state.isn) y u old
          (subst (λ (k : Session). u.state.peer_isn ≡ Some k.state.isn) (sym two.far) (ap (λ (f : Frame). f.peer_isn) effect.frame_is ∙ near.peer))
          (subst (λ (k : Session). k.state.peer_isn ≡ Some u.state.isn) (sym two.far) (far.peer ∙ ap (λ n. Some n) (sym isn_same)));
      all = by_end (λ e f g. f.state.una ≡ all_end f.state) y u old (omega arith) (subst (λ (k : Session). k.state.una ≡ all_end k.state) (sym two.far) far_all);
      got = by_end (λ e f g. all_end g.state ≤ f.state.expected) y u old
          (subst (λ (k : Session). all_end k.state ≤ u.state.expected) (sym two.far) (omega arith))
          (subst (λ (k : Session). all_end u.state ≤ k.state.expected) (sym two.far) (omega arith));
      shut = y;
      closed = ap (λ (k : Session). k.state.phase) (instead_here y u old) ∙ o.2;
      unowed = ap (λ (k : Session). k.state.rst_owed) (instead_here y u old) ∙ ap (λ (f : Frame). f.rst_owed) effect.frame_is ∙ near.up.rst;
    } in
    let gone : Gone setup (on_live w y (come m.bytes (view_of setup w y))).world y a.state b.state = record {
      over = over;
      far = subst (λ (k : Session). IsSame a.state k.state) (sym (instead_there y u old ∙ two.far)) (record { isn = refl; given = refl; closing = refl });
      near = subst (λ (k : Session). IsSame b.state k.state) (sym (instead_here y u old)) (record { isn = isn_same; given = ap (λ (f : Frame). f.given) effect.frame_is; closing = ap (λ (f : Frame). f.closing) effect.frame_is });
    } in
    inr (subst (λ (k : World). Gone setup k y a.state b.state) v_is gone))
    effect.opened
  where
    addressed_so : (syn x y z : Bool) → syn ≡ false → y ≡ true → z ≡ true → (if syn then x else y && z) ≡ true
    addressed_so true x y z e f g = absurd (cc)
    addressed_so false x true true e f g = refl
    addressed_so false x true false e f g = g
    addressed_so false x false z e f g = absurd (cc)

    under_end : (P : Type 0) (l : ℕ) (b : Bool) → 0 < l + bit_of b → (0 < l → P) → (b ≡ true → P) → P
    under_end P l true some one two = two refl
    under_end P l false some one two = one (omega arith)

    ack_on : (b : Bool) (k : ℕ) → b ≡ true → (if b then k else 0) ≡ k
    ack_on true k e = refl
    ack_on false k e = absurd (cc)

-- ---- the turn

-- both ends after a turn
pub record After (setup : Setup) (v : World) (lead lag : ℕ) (y : End) (a b : EndState) : Type 0 where
  pub far : Session
  pub near : Session
  pub two : Two setup v lead lag y far near
  pub rest_is : rest far.state ≡ rest a
  pub next : a.next ≤ far.state.next
  pub stays : StaysUp b near.state
  pub same_next : near.state.next ≡ b.next
  pub una : b.una ≤ near.state.una
  pub up : b.expected ≤ near.state.expected
  pub owed : b.ack_owed ≡ true → near.state.ack_owed ≡ true

-- a segment was made at number n, with l numbers, and came; the next number is k then
pub record AfterMade (setup : Setup) (v : World) (lead lag : ℕ) (y : End) (a b : EndState) (n l k : ℕ) : Type 0 where
  pub after : After setup v lead lag y a b
  pub next : after.far.state.next ≡ k
  pub moved : 0 < l → n ≤ b.expected → (after.near.state.ack_owed ≡ true) × (n + l ≤ after.near.state.expected)
  pub heard : b.expected ≤ n → n < b.expected + 65535 → after.near.state.una ≡ a.expected

-- nothing was made
pub record AfterQuiet (setup : Setup) (v : World) (lead lag : ℕ) (y : End) (a b : EndState) : Type 0 where
  pub after : After setup v lead lag y a b
  pub still : after.far.state ≡ a

pub stays_rest : (s t : EndState) → is_open t.phase ≡ true → rest t ≡ rest s → StaysUp s t
stays_rest s t o e = record {
  opened = o;
  isn = ap (λ (x : Rest). x.isn) e;
  peer = ap (λ (x : Rest). x.peer_isn) e;
  closing = ap (λ (x : Rest). x.closing) e;
  given = ap (λ (x : Rest). x.given) e;
}

pub or_owed : (a b : Bool) → a ≡ true → (a || b) ≡ true
or_owed true b e = refl
or_owed false b e = absurd (cc)

-- the near end took all
abbrev pub all_taken : Session → Session
all_taken b = acted b (took 65535 b.state)

module _ (setup : Setup) (fits : SetupFits setup) (w : World) (lead lag : ℕ) (y : End) (a b : Session) (two : Two setup w lead lag y a b) where
  -- the world once the near end took all
  pub two_taken : Two setup (step setup w (At y (Take 65535))).world lead lag y a (all_taken b)
  two_taken =
      let stays : StaysUp b.state (take_out 65535 b.state) = record { opened = (near_ends setup w lead lag y a b two).up.phase; isn = refl; peer = refl; closing = refl; given = refl } in
      two_near setup w lead lag y a b two (took 65535) (took 65535 b.state) refl stays two.up.unforged (facts_step setup fits w (At y (Take 65535)) tt two.facts)

  pub turn_made : (ev : Event) (without : Outcome) (f : EndState → Emitted) → EventFits ev
      → let w1 = (step setup w (At y (Take 65535))).world in
      step setup w1 ev ≡ on_live w1 (other y) (λ (s : EndState). sent (view_of setup w1 (other y)) s without (f s)) → (m : Makes (pair_of setup (other y)) a.state (f a.state))
      → AfterMade setup (run_from setup w (At y (Take 65535) ∷ ev ∷ delivering y (step setup w1 ev).outcome)) lead lag y a.state b.state m.out.number (takes m.out) m.out.state.next ⊎ Gone setup (run_from setup w (At y (Take 65535) ∷ ev ∷ delivering y (step setup w1 ev).outcome)) y a.state b.state
  turn_made ev without f ev_fits is m =
      let w1 = (step setup w (At y (Take 65535))).world in
      let x = other y in
      let one = two_taken in
      let b1 = all_taken b in
      let near1 = near_ends setup w1 lead lag y a b1 one in
      let far1 = far_ends setup w1 lead lag y a b1 one in
      let em = sealed (pair_of setup x) a.state m.out m.sending m.context in
      let act = sent (view_of setup w1 x) a.state without (Emits em) in
      let made = made_of (view_of setup w1 x) a.state em in
      let call = λ (s : EndState). sent (view_of setup w1 x) s without (f s) in
      let act_is : call a.state ≡ act = ap (sent (view_of setup w1 x) a.state without) m.is in
      let w2 = (on_live w1 x call).world in
      let same : rest act.state ≡ rest a.state = m.same in
      let facts2 : Facts setup w2 = subst (λ (k : Stepped). Facts setup k.world) is (facts_step setup fits w1 ev ev_fits one.facts) in
      let two2 = two_far setup w1 lead lag y a b1 one call act act_is (stays_rest a.state act.state m.opened same) one.up.unforged facts2 in
      let a2 = acted a act in
      let acts = subst (λ (k : Act). Acted w1 x (acted a k) k.happened w2) act_is (act_live w1 x call a (far_lives setup w1 lead lag y a b1 one)).0 in
      let outcome : (on_live w1 x call).outcome ≡ Sent made = (act_live w1 x call a (far_lives setup w1 lead lag y a b1 one)).1 ∙ ap (λ (k : Act). k.outcome) act_is in
      let just : JustMade w2 y a2 made = record {
        past = w1.history;
        history = acts.history;
        unforged = one.up.unforged;
        maker = refl;
        isn = sym (ap (λ (k : Rest). k.isn) same);
        clock = sym (acts.clock x);
        rows = sym (acts.rows x);
      } in
      let of : OfDraft setup y a.state made m.out = record { sending = m.sending; context = m.context; is = refl; flags = m.flags; small = m.small; bytes = m.bytes; fin = λ on. (m.fin on).0 } in
      let low = m.low in
      let high = m.high in
      let bit = bit_low a.state.closing in
      let room = far1.room in
      let acked = far1.acked in
      let sent_low = far1.sent in
      let next = far1.numbers.next in
      let came_so = come_two setup fits w2 lead lag y a2 b1 made a.state m.out two2 just of (record { ahead = omega arith; behind = omega arith }) (sym (ap (λ (k : Rest). k.expected) same)) (sym (ap (λ (k : Rest). k.isn + 1 + length k.given) same))
      (took_window b.state (near_ends setup w lead lag y a b two).whole) in
      let v = (step setup w2 (At y (Deliver made.name))).world in
      let v_is : v ≡ run_from setup w (At y (Take 65535) ∷ ev ∷ delivering y (step setup w1 ev).outcome) =
      ap (λ (o : Outcome). run_from setup w2 (delivering y o)) (sym outcome) ∙ ap (λ (k : Stepped). run_from setup k.world (delivering y k.outcome)) (sym is) in
      ⊎_elim
      (λ (r : CameTo setup w2 lead lag y a2 b1 made m.out a.state).
      let h = r.heard in
      let all : AfterMade setup v lead lag y a.state b.state m.out.number (takes m.out) m.out.state.next = record {
        after = record {
          far = a2;
          near = r.after;
          two = r.two;
          rest_is = same;
          next = m.next;
          stays = record { opened = h.stays.opened; isn = h.stays.isn; peer = h.stays.peer; closing = h.stays.closing; given = h.stays.given };
          same_next = h.next;
          una = h.una;
          up = h.up;
          owed = λ e. h.owed (or_owed b.state.ack_owed _ e);
        };
        next = refl;
        moved = h.moved;
        heard = h.heard;
      } in
      inl (subst (λ (k : World). AfterMade setup k lead lag y a.state b.state m.out.number (takes m.out) m.out.state.next) v_is all))
      (λ (g : Gone setup v y a2.state b1.state).
      let all : Gone setup v y a.state b.state = record {
        over = g.over;
        far = record { isn = g.far.isn ∙ ap (λ (k : Rest). k.isn) same; given = g.far.given ∙ ap (λ (k : Rest). k.given) same; closing = g.far.closing ∙ ap (λ (k : Rest). k.closing) same };
        near = record { isn = g.near.isn; given = g.near.given; closing = g.near.closing };
      } in
      inr (subst (λ (k : World). Gone setup k y a.state b.state) v_is all))
      came_so

  pub turn_quiet : (ev : Event) (without : Outcome) (f : EndState → Emitted) → EventFits ev → delivering y without ≡ []
      → let w1 = (step setup w (At y (Take 65535))).world in
      step setup w1 ev ≡ on_live w1 (other y) (λ (s : EndState). sent (view_of setup w1 (other y)) s without (f s)) → f a.state ≡ Quiet
      → AfterQuiet setup (run_from setup w (At y (Take 65535) ∷ ev ∷ delivering y (step setup w1 ev).outcome)) lead lag y a.state b.state
  turn_quiet ev without f ev_fits nothing is quiet =
      let w1 = (step setup w (At y (Take 65535))).world in
      let x = other y in
      let one = two_taken in
      let b1 = all_taken b in
      let act = quietly a.state without in
      let far1 = far_ends setup w1 lead lag y a b1 one in
      let call = λ (s : EndState). sent (view_of setup w1 x) s without (f s) in
      let act_is : call a.state ≡ act = ap (sent (view_of setup w1 x) a.state without) quiet in
      let w2 = (on_live w1 x call).world in
      let facts2 : Facts setup w2 = subst (λ (k : Stepped). Facts setup k.world) is (facts_step setup fits w1 ev ev_fits one.facts) in
      let two2 = two_far setup w1 lead lag y a b1 one call act act_is (stays_rest a.state a.state far1.up.phase refl) one.up.unforged facts2 in
      let outcome : (on_live w1 x call).outcome ≡ without = (act_live w1 x call a (far_lives setup w1 lead lag y a b1 one)).1 ∙ ap (λ (k : Act). k.outcome) act_is in
      let v_is : w2 ≡ run_from setup w (At y (Take 65535) ∷ ev ∷ delivering y (step setup w1 ev).outcome) =
      ap (run_from setup w2) (sym (ap (delivering y) outcome ∙ nothing)) ∙ ap (λ (k : Stepped). run_from setup k.world (delivering y k.outcome)) (sym is) in
      let all : AfterQuiet setup w2 lead lag y a.state b.state = record {
        after = record {
          far = acted a act;
          near = b1;
          two = two2;
          rest_is = refl;
          next = omega arith;
          stays = record { opened = (near_ends setup w lead lag y a b two).up.phase; isn = refl; peer = refl; closing = refl; given = refl };
          same_next = refl;
          una = omega arith;
          up = omega arith;
          owed = λ e. or_owed b.state.ack_owed _ e;
        };
        still = refl;
      } in
      subst (λ (k : World). AfterQuiet setup k lead lag y a.state b.state) v_is all
