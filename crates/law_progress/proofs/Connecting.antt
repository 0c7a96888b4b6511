-- A handshake over a way that loses nothing brings a connection up, whatever was lost of it before.
use Rattle.std.proofs.Common.{◌≡◌, ℕ, ◌+◌, ◌%◌, ◌<◌, ◌==◌, Bool, true, false, not, ◌&&◌, ◌||◌, nat_lt, List, [], ◌∷◌, Option, Some, None, if◌then◌else◌, refl, sym, ap, ◌∙◌, subst, arith}
use Rattle.std.specs.List.{AllByRecursion}
use Rattle.book_base.specs.declared.address.Pair.{Pair}
use Rattle.book_base.specs.declared.end.End.{End}
use Rattle.book_base.specs.declared.end.End.TheVariants.{A, B}
use Rattle.book_segments.specs.Bytes.{ring}
use Rattle.book_segments.specs.Meant.{meant}
use Rattle.book_segments.specs.Segments.{has, segment_length, SYN, FIN, RST, ACK}
use Rattle.book_segments.proofs.Fields.{lt_is, lt_not}
use Rattle.book_keys.specs.Rows.{Row}
use Rattle.book_keys.specs.Coordination.{choose as choose_row}
use Rattle.book_keys.specs.Plans.{has_sendable}
use Rattle.book_endpoint.specs.declared.phase.Phase.{Phase}
use Rattle.book_endpoint.specs.declared.phase.Phase.TheVariants.{Listen, SynSent, SynReceived, Established}
use Rattle.book_endpoint.specs.States.{EndState, first, window, take_out, is_closed}
use Rattle.book_endpoint.specs.Hearing.{fits_window}
use Rattle.book_endpoint.specs.Emissions.{Draft, is_silent, is_sending, is_syn_sent, is_syn_received, sets, unsent, window_end, syn_draft, syn_ack_draft, data_draft, ack_draft, sends_data, fitting, most_bytes, emit}
use Rattle.endpoint_steps.specs.Drafting.{to_emit, emitted}
use Rattle.endpoint_steps.proofs.Drafting.{emit_by_drafts}
use Rattle.book_link.specs.declared.event.Event.{Event}
use Rattle.book_link.specs.Worlds.{other, Setup, pair_of, Session, World, side, live}
use Rattle.book_link.specs.Runs.{run_from, run}
use Rattle.law_link.specs.Headline.{ArePartners}
use Rattle.law_link.specs.Laws.{SetupFits, TablesFit, EventFits}
use Rattle.law_link.proofs.Accepted.{meant_near}
use Rattle.law_link.proofs.Invariant.{live_whole}
use Rattle.law_link.proofs.Moves.{following}
use Rattle.law_link.proofs.Sessions.{known_so}
use Rattle.book_base.proofs.TestLaws.{by_bool}
use Rattle.law_link.proofs.Whole.{Whole}
use Rattle.law_progress.specs.Progress.{Sends, Resends, turn_events, is_open, is_up, IsSame, awaits, IsOpening, handshake, Connected, Connects}
use Rattle.law_progress.proofs.Calm.{Calm, is_before}
use Rattle.law_progress.proofs.Facts.{Fit, live_all, unowed, back_again}
use Rattle.law_progress.proofs.Greeting.{is_asking, sends_nothing, resends_nothing, sends_syn, resends_syn, sends_syn_ack, resends_syn_ack, Greeted, greeted, Met, met, joins, as_established, joins_effect, joins_steady}
use Rattle.law_progress.proofs.Halving.{fits_known, ack_on}
use Rattle.law_progress.proofs.Hearing.{Frame, IsPlain, Effect}
use Rattle.law_progress.proofs.Joining.{Ready, sides, sides_live, ready_flip, ready_back, SealsAs, Fits, Turned, turned, turned_quiet}
use Rattle.law_progress.proofs.Kept.{run_facts}
use Rattle.law_progress.proofs.Making.{IsOpen, PlainFlags, plain_data, plain_ack, emitted_seals, has_row, emit_data, emit_ack}
use Rattle.law_progress.proofs.Progressing.{after, after_turn, after_none}
use Rattle.law_progress.proofs.Trips.{same_then}
use Rattle.law_progress.proofs.Turning.{in_window, or_owed, took_window}

-- ---- what is known of two live sessions

module _ (setup : Setup) (w : World) (lead lag : ℕ) (y : End) (a b : Session) (r : Ready setup w lead lag y a b) where
  far_calm : Calm a.state
  far_calm = live_all (λ (x : Session). Calm x.state) (side w (other y)).sessions a r.far_lives (r.facts.calm (other y))

  near_calm : Calm b.state
  near_calm = live_all (λ (x : Session). Calm x.state) (side w y).sessions b r.near_lives (r.facts.calm y)

  far_fit : Fit a.state
  far_fit = live_all (λ (x : Session). Fit x.state) (side w (other y)).sessions a r.far_lives (r.facts.fit (other y))

  near_fit : Fit b.state
  near_fit = live_all (λ (x : Session). Fit x.state) (side w y).sessions b r.near_lives (r.facts.fit y)

  far_whole : Whole a.state
  far_whole = live_whole (side w (other y)).sessions a r.far_lives (r.facts.inv.whole (other y))

  near_whole : Whole b.state
  near_whole = live_whole (side w y).sessions b r.near_lives (r.facts.inv.whole y)

  far_unowed : is_closed a.state.phase ≡ false → a.state.rst_owed ≡ false
  far_unowed awake = unowed a.state.rst_owed (is_closed a.state.phase) far_fit.rst awake

  near_unowed : is_closed b.state.phase ≡ false → b.state.rst_owed ≡ false
  near_unowed awake = unowed b.state.rst_owed (is_closed b.state.phase) near_fit.rst awake

  -- the SYN wasn't sent, or nothing but the SYN was
  far_fresh : nat_lt a.state.isn a.state.next ≡ false → a.state.next ≡ a.state.isn
  far_fresh e = let low = far_whole.ends.una_low in let high = far_whole.ends.una_high in let top = lt_not a.state.isn a.state.next e in omega arith

  near_fresh : nat_lt b.state.isn b.state.next ≡ false → b.state.next ≡ b.state.isn
  near_fresh e = let low = near_whole.ends.una_low in let high = near_whole.ends.una_high in let top = lt_not b.state.isn b.state.next e in omega arith

-- ---- the client asks

fits_syn : (a b t : EndState) → t.isn ≡ a.isn → Fits a b (syn_draft a t)
fits_syn a b t isn = record { to = refl; near = λ e. absurd (cc); isn = isn }

fits_answer : (a b t : EndState) → a.peer_isn ≡ Some b.isn → t.isn ≡ a.isn → t.peer_isn ≡ a.peer_isn → Fits a b (syn_ack_draft a t)
fits_answer a b t knows isn peer = record { to = known_so t.peer_isn b.isn (peer ∙ knows); near = λ e. absurd (cc); isn = isn }

awake_waits : (phase : Phase) (peer : Option ℕ) (q : ℕ) → awaits phase peer q ≡ true → is_closed phase ≡ false
awake_waits Listen peer q e = refl
awake_waits SynReceived peer q e = refl
awake_waits _ peer q e = absurd (cc)

-- the client's SYN was sent, and the other end has it
record Asked (setup : Setup) (v : World) (lead lag : ℕ) (y : End) (a b : EndState) : Type 0 where
  far : Session
  near : Session
  ready : Ready setup v lead lag y far near
  asks : far.state.phase ≡ SynSent
  sent : far.state.isn < far.state.next
  same_far : IsSame a far.state
  waits : near.state.phase ≡ SynReceived
  peer : near.state.peer_isn ≡ Some far.state.isn
  same_near : IsSame b near.state

-- the client is established, and the other end waits for the ACK of its SYN, which was sent
record Answered (setup : Setup) (v : World) (lead lag : ℕ) (y : End) (a b : EndState) : Type 0 where
  far : Session
  near : Session
  ready : Ready setup v lead lag y far near
  established : far.state.phase ≡ Established
  here : far.state.peer_isn ≡ Some near.state.isn
  next : far.state.next ≡ far.state.isn + 1
  expected : far.state.expected ≡ near.state.isn + 1
  owed : far.state.ack_owed ≡ true
  unclosed : far.state.closing ≡ false
  same_far : IsSame a far.state
  waits : near.state.phase ≡ SynReceived
  there : near.state.peer_isn ≡ Some far.state.isn
  sent : near.state.isn < near.state.next
  same_near : IsSame b near.state

silent_off : (b : Bool) (phase : Phase) → phase ≡ SynSent → (b && not (is_silent phase)) ≡ false
silent_off true SynSent e = refl
silent_off false SynSent e = refl
silent_off b _ e = absurd (cc)

module _ (setup : Setup) (fits : SetupFits setup) (lead lag : ℕ) (c : End) where
  asked : (w : World) (a b : Session) → Ready setup w lead lag (other c) a b → a.state.phase ≡ SynSent → awaits b.state.phase b.state.peer_isn a.state.isn ≡ true
      → let v = run_from setup w (turn_events setup w (Resends c)) in
      Asked setup (run_from setup v (turn_events setup v (Sends c))) lead lag (other c) a.state b.state
  asked w a b r asks waits =
      let v = run_from setup w (turn_events setup w (Resends c)) in
      let u = run_from setup v (turn_events setup v (Sends c)) in
      let pair = pair_of setup c in
      let s = a.state in
      let s2 = take_out 65535 b.state in
      let awake = awake_waits b.state.phase b.state.peer_isn s.isn waits in
      by_bool (Asked setup u lead lag (other c) a.state b.state) (nat_lt s.isn s.next)
      (λ more.
      let sent = lt_is s.isn s.next more in
      let P : Draft → Type 0 = λ k. k ≡ syn_draft s s in
      let t = turned setup fits w lead lag a b (Resends c) P r (λ rows now has. resends_syn pair s rows now has asks sent) awake
      (λ out e. subst (λ (o : Draft). Fits s b.state o) (sym e) (fits_syn s b.state s refl)) in
      let g : Greeted s2 t.near.state s.isn = subst (λ (k : EndState). Greeted s2 k s.isn) (sym t.near_is)
      (greeted (pair_of setup (other c)) s2 t.current t.segment t.number t.now s.isn (t.flags ∙ ap (λ (o : Draft). o.flags) t.holds) (t.number_is ∙ ap (λ (o : Draft). o.number) t.holds) waits) in
      let a_is : t.far.state ≡ following t.row s = t.far_is ∙ ap (λ (o : Draft). following t.row o.state) t.holds in
      let asks1 : t.far.state.phase ≡ SynSent = ap (λ (k : EndState). k.phase) a_is ∙ asks in
      let isn1 : t.far.state.isn ≡ s.isn = ap (λ (k : EndState). k.isn) a_is in
      let next1 : t.far.state.next ≡ s.next = ap (λ (k : EndState). k.next) a_is in
      let unowed1 = far_unowed setup v lead lag (other c) t.far t.near t.ready (ap is_closed asks1) in
      let q = turned_quiet setup fits v lead lag t.far t.near (Sends c) t.ready
      (λ rows now. sends_nothing pair t.far.state rows now (ap is_asking asks1) unowed1 (omega arith) (silent_off t.far.state.ack_owed t.far.state.phase asks1)) in
      let isn2 : q.far.state.isn ≡ t.far.state.isn = ap (λ (k : EndState). k.isn) q.far_is in
      let next2 : q.far.state.next ≡ t.far.state.next = ap (λ (k : EndState). k.next) q.far_is in
      let goal : Asked setup u lead lag (other c) a.state b.state = record {
        far = q.far;
        near = q.near;
        ready = q.ready;
        asks = ap (λ (k : EndState). k.phase) q.far_is ∙ asks1;
        sent = omega arith;
        same_far = record { isn = isn2 ∙ isn1; given = ap (λ (k : EndState). k.given) (q.far_is ∙ a_is); closing = ap (λ (k : EndState). k.closing) (q.far_is ∙ a_is) };
        waits = ap (λ (k : EndState). k.phase) q.near_is ∙ g.phase;
        peer = ap (λ (k : EndState). k.peer_isn) q.near_is ∙ g.peer ∙ ap (λ (k : ℕ). Some k) (sym (isn2 ∙ isn1));
        same_near = record { isn = ap (λ (k : EndState). k.isn) q.near_is ∙ g.same.isn; given = ap (λ (k : EndState). k.given) q.near_is ∙ g.same.given; closing = ap (λ (k : EndState). k.closing) q.near_is ∙ g.same.closing };
      } in goal)
      (λ none.
      let at = far_fresh setup w lead lag (other c) a b r none in
      let q = turned_quiet setup fits w lead lag a b (Resends c) r (λ rows now. resends_nothing pair s rows now (ap is_asking asks) (omega arith)) in
      let s1 = q.far.state in
      let b1 = q.near in
      let asks1 : s1.phase ≡ SynSent = ap (λ (k : EndState). k.phase) q.far_is ∙ asks in
      let isn1 : s1.isn ≡ s.isn = ap (λ (k : EndState). k.isn) q.far_is in
      let next1 : s1.next ≡ s.next = ap (λ (k : EndState). k.next) q.far_is in
      let waits1 : awaits b1.state.phase b1.state.peer_isn s1.isn ≡ true =
      subst (λ (k : ℕ). awaits b1.state.phase b1.state.peer_isn k ≡ true) (sym isn1) (ap (λ (k : EndState). awaits k.phase k.peer_isn s.isn) q.near_is ∙ waits) in
      let later : EndState = record s1 { next = s1.isn + 1 } in
      let P : Draft → Type 0 = λ k. k ≡ syn_draft s1 later in
      let unowed1 = far_unowed setup v lead lag (other c) q.far q.near q.ready (ap is_closed asks1) in
      let t = turned setup fits v lead lag q.far q.near (Sends c) P q.ready (λ rows now has. sends_syn pair s1 rows now has asks1 unowed1 (omega arith)) (awake_waits b1.state.phase b1.state.peer_isn s1.isn waits1)
      (λ out e. subst (λ (o : Draft). Fits s1 b1.state o) (sym e) (fits_syn s1 b1.state later refl)) in
      let s3 = take_out 65535 b1.state in
      let g : Greeted s3 t.near.state s1.isn = subst (λ (k : EndState). Greeted s3 k s1.isn) (sym t.near_is)
      (greeted (pair_of setup (other c)) s3 t.current t.segment t.number t.now s1.isn (t.flags ∙ ap (λ (o : Draft). o.flags) t.holds) (t.number_is ∙ ap (λ (o : Draft). o.number) t.holds) waits1) in
      let a_is : t.far.state ≡ following t.row later = t.far_is ∙ ap (λ (o : Draft). following t.row o.state) t.holds in
      let isn2 : t.far.state.isn ≡ s1.isn = ap (λ (k : EndState). k.isn) a_is in
      let next2 : t.far.state.next ≡ s1.isn + 1 = ap (λ (k : EndState). k.next) a_is in
      let goal : Asked setup u lead lag (other c) a.state b.state = record {
        far = t.far;
        near = t.near;
        ready = t.ready;
        asks = ap (λ (k : EndState). k.phase) a_is ∙ asks1;
        sent = omega arith;
        same_far = record { isn = isn2 ∙ isn1; given = ap (λ (k : EndState). k.given) a_is ∙ ap (λ (k : EndState). k.given) q.far_is; closing = ap (λ (k : EndState). k.closing) a_is ∙ ap (λ (k : EndState). k.closing) q.far_is };
        waits = g.phase;
        peer = g.peer ∙ ap (λ (k : ℕ). Some k) (sym isn2);
        same_near = record { isn = g.same.isn ∙ ap (λ (k : EndState). k.isn) q.near_is; given = g.same.given ∙ ap (λ (k : EndState). k.given) q.near_is; closing = g.same.closing ∙ ap (λ (k : EndState). k.closing) q.near_is };
      } in goal)

  -- ---- the other end answers

  -- the SYN with ACK came to the client
  came_back : (v : World) (y : End) (s b : EndState) (t : EndState) (far near : Session) (row : Option ℕ) → Ready setup v lead lag y near far → far.state ≡ following row t → t.phase ≡ SynReceived → t.isn < t.next → t.isn ≡ b.isn → t.peer_isn ≡ Some s.isn → IsSame b t
      → s.next ≡ s.isn + 1 → s.closing ≡ false → Met s near.state b.isn → Answered setup v lead lag y s b
  came_back v y s b t far near row r is waits sent isn peer same next unclosed m =
      let b_isn : far.state.isn ≡ b.isn = ap (λ (k : EndState). k.isn) is ∙ isn in
      let far_next : far.state.next ≡ t.next = ap (λ (k : EndState). k.next) is in
      let expected = m.expected in
      let s_next = m.next in
      let s_isn = m.same.isn in
      record {
        far = near;
        near = far;
        ready = r;
        established = m.phase;
        here = m.peer ∙ ap (λ (k : ℕ). Some k) (sym b_isn);
        next = omega arith;
        expected = omega arith;
        owed = m.owed;
        unclosed = m.same.closing ∙ unclosed;
        same_far = m.same;
        waits = ap (λ (k : EndState). k.phase) is ∙ waits;
        there = ap (λ (k : EndState). k.peer_isn) is ∙ peer ∙ ap (λ (k : ℕ). Some k) (sym s_isn);
        sent = omega arith;
        same_near = record { isn = b_isn; given = ap (λ (k : EndState). k.given) is ∙ same.given; closing = ap (λ (k : EndState). k.closing) is ∙ same.closing };
      }

  -- what an answer says, where the client hears it
  meets : (w v : World) (y : End) (s b later : EndState) (P : Draft → Type 0) → ((k : Draft) → P k → k ≡ syn_ack_draft b later) → s.phase ≡ SynSent → s.isn < s.next → b.expected ≡ s.isn + 1 → (t : Turned setup w v lead lag y b (take_out 65535 s) P) → Met s t.near.state b.isn
  meets w v y s b later P holds asks sent expected t =
      let s2 = take_out 65535 s in
      let out_is = holds t.out t.holds in
      let acks : t.segment.acknowledgement ≡ (s.isn + 1) % ring = t.acknowledgement ∙ ap (λ (o : Draft). if sets o.flags ACK then b.expected % ring else 0) out_is ∙ ap (λ (k : ℕ). k % ring) expected in
      let m = met (pair_of setup y) s2 t.current t.segment t.number t.now asks (t.flags ∙ ap (λ (o : Draft). o.flags) out_is) sent acks in
      let number : t.number ≡ b.isn = t.number_is ∙ ap (λ (o : Draft). o.number) out_is in
      let done : Met s2 t.near.state b.isn = subst (λ (n : ℕ). Met s2 t.near.state n) number (subst (λ (k : EndState). Met s2 k t.number) (sym t.near_is) m) in
      record { phase = done.phase; peer = done.peer; una = done.una; expected = done.expected; owed = done.owed; next = done.next; same = record { isn = done.same.isn; given = done.same.given; closing = done.same.closing } }

  answered : (w : World) (a b : Session) → Ready setup w lead lag (other c) a b → a.state.phase ≡ SynSent → a.state.isn < a.state.next → b.state.phase ≡ SynReceived → b.state.peer_isn ≡ Some a.state.isn
      → let v = run_from setup w (turn_events setup w (Resends (other c))) in
      Answered setup (run_from setup v (turn_events setup v (Sends (other c)))) lead lag (other c) a.state b.state
  answered w a b r asks sent waits peer =
      let v = run_from setup w (turn_events setup w (Resends (other c))) in
      let u = run_from setup v (turn_events setup v (Sends (other c))) in
      let pair = pair_of setup (other c) in
      let s = a.state in
      let z = b.state in
      let calm_a = far_calm setup w lead lag (other c) a b r in
      let calm_b = near_calm setup w lead lag (other c) a b r in
      let soon = calm_a.soon (ap is_before asks) in
      let next : s.next ≡ s.isn + 1 = omega arith in
      let unclosed = calm_a.unclosed (ap is_syn_sent asks) in
      let expected : z.expected ≡ s.isn + 1 = calm_b.at (ap is_syn_received waits) ∙ ap first peer in
      let turned_r = ready_flip setup w lead lag c a b r in
      by_bool (Answered setup u lead lag (other c) s z) (nat_lt z.isn z.next)
      (λ more.
      let was = lt_is z.isn z.next more in
      let P : Draft → Type 0 = λ k. k ≡ syn_ack_draft z z in
      let t = turned setup fits w lead lag b a (Resends (other c)) P turned_r (λ rows now has. resends_syn_ack pair z rows now has s.isn peer waits was) (ap is_closed asks)
      (λ out e. subst (λ (o : Draft). Fits z s o) (sym e) (fits_answer z s z peer refl refl)) in
      let m = meets w v (other (other c)) s z z P (λ k e. e) asks sent expected t in
      let quiet_b : EndState = (syn_ack_draft z z).state in
      let b_is : t.far.state ≡ following t.row quiet_b = t.far_is ∙ ap (λ (o : Draft). following t.row o.state) t.holds in
      let same : IsSame z quiet_b = record { isn = refl; given = refl; closing = refl } in
      let waits1 : t.far.state.phase ≡ SynReceived = ap (λ (k : EndState). k.phase) b_is ∙ waits in
      let owed1 : t.far.state.ack_owed ≡ false = ap (λ (k : EndState). k.ack_owed) b_is in
      let isn1 : t.far.state.isn ≡ z.isn = ap (λ (k : EndState). k.isn) b_is in
      let next1 : t.far.state.next ≡ z.next = ap (λ (k : EndState). k.next) b_is in
      let unowed1 = far_unowed setup v lead lag (other (other c)) t.far t.near t.ready (ap is_closed waits1) in
      let q = turned_quiet setup fits v lead lag t.far t.near (Sends (other c)) t.ready
      (λ rows now. sends_nothing pair t.far.state rows now (ap is_asking waits1) unowed1 (omega arith) (ap (λ (k : Bool). k && not (is_silent t.far.state.phase)) owed1)) in
      let m2 : Met s q.near.state z.isn = record {
        phase = ap (λ (k : EndState). k.phase) q.near_is ∙ m.phase;
        peer = ap (λ (k : EndState). k.peer_isn) q.near_is ∙ m.peer;
        una = ap (λ (k : EndState). k.una) q.near_is ∙ m.una;
        expected = ap (λ (k : EndState). k.expected) q.near_is ∙ m.expected;
        owed = ap (λ (k : EndState). k.ack_owed) q.near_is ∙ or_owed t.near.state.ack_owed _ m.owed;
        next = ap (λ (k : EndState). k.next) q.near_is ∙ m.next;
        same = record { isn = ap (λ (k : EndState). k.isn) q.near_is ∙ m.same.isn; given = ap (λ (k : EndState). k.given) q.near_is ∙ m.same.given; closing = ap (λ (k : EndState). k.closing) q.near_is ∙ m.same.closing };
      } in
      came_back u (other c) s z quiet_b q.far q.near t.row (ready_back setup u lead lag c q.far q.near q.ready) (q.far_is ∙ b_is) waits was refl peer same next unclosed m2)
      (λ none.
      let at = near_fresh setup w lead lag (other c) a b r none in
      let q = turned_quiet setup fits w lead lag b a (Resends (other c)) turned_r (λ rows now. resends_nothing pair z rows now (ap is_asking waits) (omega arith)) in
      let b1 = q.far.state in
      let a1 = q.near.state in
      let waits1 : b1.phase ≡ SynReceived = ap (λ (k : EndState). k.phase) q.far_is ∙ waits in
      let isn1 : b1.isn ≡ z.isn = ap (λ (k : EndState). k.isn) q.far_is in
      let next1 : b1.next ≡ z.next = ap (λ (k : EndState). k.next) q.far_is in
      let expected1 : b1.expected ≡ z.expected = ap (λ (k : EndState). k.expected) q.far_is in
      let a_isn1 : a1.isn ≡ s.isn = ap (λ (k : EndState). k.isn) q.near_is in
      let a_next1 : a1.next ≡ s.next = ap (λ (k : EndState). k.next) q.near_is in
      let asks1 : a1.phase ≡ SynSent = ap (λ (k : EndState). k.phase) q.near_is ∙ asks in
      let peer1 : b1.peer_isn ≡ Some a1.isn = ap (λ (k : EndState). k.peer_isn) q.far_is ∙ peer ∙ ap (λ (k : ℕ). Some k) (sym a_isn1) in
      let later : EndState = record b1 { next = b1.isn + 1 } in
      let P : Draft → Type 0 = λ k. k ≡ syn_ack_draft b1 later in
      let unowed1 = far_unowed setup v lead lag (other (other c)) q.far q.near q.ready (ap is_closed waits1) in
      let t = turned setup fits v lead lag q.far q.near (Sends (other c)) P q.ready (λ rows now has. sends_syn_ack pair b1 rows now has a1.isn peer1 waits1 unowed1 (omega arith)) (ap is_closed asks1)
      (λ out e. subst (λ (o : Draft). Fits b1 a1 o) (sym e) (fits_answer b1 a1 later peer1 refl refl)) in
      let m = meets v u (other (other c)) a1 b1 later P (λ k e. e) asks1 (omega arith) (omega arith) t in
      let sent_b : EndState = (syn_ack_draft b1 later).state in
      let b_is : t.far.state ≡ following t.row sent_b = t.far_is ∙ ap (λ (o : Draft). following t.row o.state) t.holds in
      let una = m.una in
      let x = m.expected in
      let m_next = m.next in
      let m2 : Met s t.near.state z.isn = record {
        phase = m.phase;
        peer = m.peer ∙ ap (λ (k : ℕ). Some k) isn1;
        una = omega arith;
        expected = omega arith;
        owed = m.owed;
        next = omega arith;
        same = record { isn = m.same.isn ∙ a_isn1; given = m.same.given ∙ ap (λ (k : EndState). k.given) q.near_is; closing = m.same.closing ∙ ap (λ (k : EndState). k.closing) q.near_is };
      } in
      let same : IsSame z sent_b = record { isn = isn1; given = ap (λ (k : EndState). k.given) q.far_is; closing = ap (λ (k : EndState). k.closing) q.far_is } in
      came_back u (other c) s z sent_b t.far t.near t.row (ready_back setup u lead lag c t.far t.near t.ready) b_is waits1 (omega arith) isn1 (ap (λ (k : EndState). k.peer_isn) q.far_is ∙ peer) same next unclosed m2)

-- ---- the client acknowledges

-- data or an ACK at the next number
record Plainly (s : EndState) (out : Draft) : Type 0 where
  flags : PlainFlags out.flags
  unfinished : sets out.flags FIN ≡ false
  number : out.number ≡ s.next
  next : ℕ
  state : out.state ≡ record s { next = next; ack_owed = false }

fin_off : (a b c d : Bool) → b ≡ false → (a && b && c && d) ≡ false
fin_off true true c d e = absurd (cc)
fin_off false true c d e = absurd (cc)
fin_off true false c d e = refl
fin_off false false c d e = refl

drafts_plain : (rows : List Row) (pair : Pair) (now : ℕ) (s : EndState) (q : ℕ) → has_sendable rows pair now ≡ true → IsOpen s → s.peer_isn ≡ Some q → s.closing ≡ false → s.ack_owed ≡ true → SealsAs pair s (Plainly s) (emitted pair s (to_emit s) (choose_row s.current rows pair now))
drafts_plain rows pair now s q has up knows unclosed owed =
    let o = choose_row s.current rows pair now in
    let some = has_row s.current rows pair now has in
    by_bool (SealsAs pair s (Plainly s) (emitted pair s (to_emit s) o)) (sends_data s)
    (λ t.
    let out = λ (m : ℕ). data_draft s (fitting s m) in
    let r = emitted_seals pair s (to_emit s) out q o (λ m. emit_data s up m t) (λ m. refl) knows some in
    let k = fitting s (most_bytes pair s r.sending) in
    record { out = data_draft s k; sending = r.sending; context = r.context; is = r.is; holds = record { flags = plain_data; unfinished = refl; number = refl; next = s.next + k; state = refl } })
    (λ t.
    let out = λ (m : ℕ). ack_draft s in
    let r = emitted_seals pair s (to_emit s) out q o (λ m. emit_ack s up m t (fin_off (is_sending s.phase) s.closing (unsent s == 0) (nat_lt s.next (window_end s)) unclosed) owed) (λ m. refl) knows some in
    record { out = ack_draft s; sending = r.sending; context = r.context; is = r.is; holds = record { flags = plain_ack; unfinished = refl; number = refl; next = s.next; state = refl } })

sends_plain : (rows : List Row) (pair : Pair) (now : ℕ) (s : EndState) (q : ℕ) → has_sendable rows pair now ≡ true → IsOpen s → s.peer_isn ≡ Some q → s.closing ≡ false → s.ack_owed ≡ true → SealsAs pair s (Plainly s) (emit rows pair now s)
sends_plain rows pair now s q has up knows unclosed owed = subst (SealsAs pair s (Plainly s)) (sym (emit_by_drafts rows pair now s)) (drafts_plain rows pair now s q has up knows unclosed owed)

-- both ends are established
record Final (setup : Setup) (v : World) (lead lag : ℕ) (y : End) (a b : EndState) : Type 0 where
  far : Session
  near : Session
  ready : Ready setup v lead lag y far near
  far_open : far.state.phase ≡ Established
  near_open : near.state.phase ≡ Established
  here : far.state.peer_isn ≡ Some near.state.isn
  there : near.state.peer_isn ≡ Some far.state.isn
  same_far : IsSame a far.state
  same_near : IsSame b near.state

module _ (setup : Setup) (fits : SetupFits setup) (lead lag : ℕ) (c : End) where
  acknowledged : (w : World) (a b : EndState) → Answered setup w lead lag (other c) a b → Final setup (run_from setup w (turn_events setup w (Sends c))) lead lag (other c) a b
  acknowledged w a b k =
      let v = run_from setup w (turn_events setup w (Sends c)) in
      let s = k.far.state in
      let z = k.near.state in
      let r = k.ready in
      let calm = near_calm setup w lead lag (other c) k.far k.near r in
      let fit = near_fit setup w lead lag (other c) k.far k.near r in
      let whole = near_whole setup w lead lag (other c) k.far k.near r in
      let unowed_s = far_unowed setup w lead lag (other c) k.far k.near r (ap is_closed k.established) in
      let up : IsOpen s = record { phase = ap is_open k.established; rst = unowed_s } in
      let una = calm.oldest (ap is_before k.waits) in
      let soon = calm.soon (ap is_before k.waits) in
      let sent = k.sent in
      let at : z.expected ≡ s.isn + 1 = calm.at (ap is_syn_received k.waits) ∙ ap first k.there in
      let next = k.next in
      let expected = k.expected in
      let t = turned setup fits w lead lag k.far k.near (Sends c) (Plainly s) r (λ rows now has. sends_plain rows (pair_of setup c) now s z.isn has up k.here k.unclosed k.owed) (ap is_closed k.waits)
      (λ out p.
      let isn : out.state.isn ≡ s.isn = ap (λ (e : EndState). e.isn) p.state in
      let number = p.number in
      fits_known s z out p.flags isn (ap (λ (e : EndState). e.peer_isn) p.state ∙ k.here) (k.there ∙ ap (λ (n : ℕ). Some n) (sym isn)) (omega arith)) in
      let p = t.holds in
      let d = t.segment in
      let b1 = take_out 65535 z in
      let wide : window b1 ≡ 65535 = took_window z whole in
      let plain : IsPlain d = record {
        syn = ap (λ (n : ℕ). sets n SYN) t.flags ∙ p.flags.syn;
        rst = ap (λ (n : ℕ). sets n RST) t.flags ∙ p.flags.rst;
        ack = ap (λ (n : ℕ). sets n ACK) t.flags ∙ p.flags.ack;
      } in
      let no_fin : has FIN d ≡ false = ap (λ (n : ℕ). sets n FIN) t.flags ∙ p.unfinished in
      let number : t.number ≡ s.next = t.number_is ∙ p.number in
      let acks : d.acknowledgement ≡ s.expected % ring = t.acknowledgement ∙ ack_on (sets t.out.flags ACK) (s.expected % ring) p.flags.ack in
      let means : meant d.acknowledgement b1.una ≡ Some s.expected = ap (λ (n : ℕ). meant n b1.una) acks ∙ meant_near s.expected b1.una (omega arith) (omega arith) in
      let inside : fits_window t.number (segment_length d) b1.expected (window b1) ≡ true = in_window t.number (segment_length d) b1.expected (window b1) (omega arith) (omega arith) (omega arith) in
      let is = t.near_is ∙ joins (pair_of setup (other c)) b1 t.current d t.number t.now s.expected k.waits plain (omega arith) (omega arith) means inside in
      let e : Effect (as_established b1) t.near.state d t.number s.expected = subst (λ (x : EndState). Effect (as_established b1) x d t.number s.expected) (sym is) (joins_effect b1 t.current d t.number t.now s.expected plain (omega arith) inside) in
      let none : b1.fin ≡ None = fit.mute (ap is_syn_received k.waits) in
      let steady = ap (λ (x : EndState). x.phase) is ∙ joins_steady b1 t.current d t.number t.now s.expected none no_fin (omega arith) in
      let a_is : t.far.state ≡ following t.row (record s { next = p.next; ack_owed = false }) = t.far_is ∙ ap (following t.row) p.state in
      let isn_a : t.far.state.isn ≡ s.isn = ap (λ (x : EndState). x.isn) a_is in
      let isn_b : t.near.state.isn ≡ z.isn = ap (λ (f : Frame). f.isn) e.frame_is in
      let same_a : IsSame s t.far.state = record { isn = isn_a; given = ap (λ (x : EndState). x.given) a_is; closing = ap (λ (x : EndState). x.closing) a_is } in
      let same_b : IsSame z t.near.state = record { isn = isn_b; given = ap (λ (f : Frame). f.given) e.frame_is; closing = ap (λ (f : Frame). f.closing) e.frame_is } in
      record {
        far = t.far;
        near = t.near;
        ready = t.ready;
        far_open = ap (λ (x : EndState). x.phase) a_is ∙ k.established;
        near_open = steady;
        here = ap (λ (x : EndState). x.peer_isn) a_is ∙ k.here ∙ ap (λ (n : ℕ). Some n) (sym isn_b);
        there = ap (λ (f : Frame). f.peer_isn) e.frame_is ∙ k.there ∙ ap (λ (n : ℕ). Some n) (sym isn_a);
        same_far = same_then a s t.far.state k.same_far same_a;
        same_near = same_then b z t.near.state k.same_near same_b;
      }

-- ---- the handshake

handshake_is : (setup : Setup) (w : World) (c : End) → let v1 = run_from setup w (turn_events setup w (Resends c)) in
    let v2 = run_from setup v1 (turn_events setup v1 (Sends c)) in
    let v3 = run_from setup v2 (turn_events setup v2 (Resends (other c))) in
    let v4 = run_from setup v3 (turn_events setup v3 (Sends (other c))) in
    after setup w (handshake c) ≡ run_from setup v4 (turn_events setup v4 (Sends c))
handshake_is setup w c =
    let v1 = run_from setup w (turn_events setup w (Resends c)) in
    let v2 = run_from setup v1 (turn_events setup v1 (Sends c)) in
    let v3 = run_from setup v2 (turn_events setup v2 (Resends (other c))) in
    let v4 = run_from setup v3 (turn_events setup v3 (Sends (other c))) in
    let v5 = run_from setup v4 (turn_events setup v4 (Sends c)) in
    after_turn setup w (Resends c) (Sends c ∷ Resends (other c) ∷ Sends (other c) ∷ Sends c ∷ []) ∙ after_turn setup v1 (Sends c) (Resends (other c) ∷ Sends (other c) ∷ Sends c ∷ [])
    ∙ after_turn setup v2 (Resends (other c)) (Sends (other c) ∷ Sends c ∷ []) ∙ after_turn setup v3 (Sends (other c)) (Sends c ∷ []) ∙ after_turn setup v4 (Sends c) [] ∙ after_none setup v5

up_now : (setup : Setup) (w v : World) (lead lag : ℕ) (c : End) (before : IsOpening setup w lead lag c) → Final setup v lead lag (other c) (before.session c).state (before.session (other c)).state → Connected setup w v lead lag c before
up_now setup w v lead lag c before f = record {
  up = record {
    session = sides (other c) f.far f.near;
    lives = sides_live v (other c) f.far f.near f.ready.far_lives f.ready.near_lives;
    partners = partners_of (other c);
    opened = opened_of (other c);
    keyed = f.ready.keyed;
  };
  established = established_of (other c);
  same = same_of c before f.far f.near f.same_far f.same_near;
}
  where
    a : Session
    a = f.far

    b : Session
    b = f.near

    partners_of : (y : End) → ArePartners (sides y a b A).state (sides y a b B).state
    partners_of A = record { here = f.there; there = f.here }
    partners_of B = record { here = f.here; there = f.there }

    established_of : (y e : End) → (sides y a b e).state.phase ≡ Established
    established_of A A = f.near_open
    established_of A B = f.far_open
    established_of B A = f.far_open
    established_of B B = f.near_open

    opened_by : (s t : EndState) → s.phase ≡ Established → is_up s t ≡ true
    opened_by s t e = ap (λ (p : Phase). is_open p || (is_syn_received p && nat_lt s.isn s.next && is_open t.phase)) e

    opened_of : (y e : End) → is_up (sides y a b e).state (sides y a b (other e)).state ≡ true
    opened_of y e = opened_by (sides y a b e).state (sides y a b (other e)).state (established_of y e)

    same_of : (c : End) (before : IsOpening setup w lead lag c) (a b : Session) → IsSame (before.session c).state a.state → IsSame (before.session (other c)).state b.state → (e : End) → IsSame (before.session e).state (sides (other c) a b e).state
    same_of A before a b far near A = far
    same_of A before a b far near B = near
    same_of B before a b far near A = near
    same_of B before a b far near B = far

syn_sent_is : (phase : Phase) → is_syn_sent phase ≡ true → phase ≡ SynSent
syn_sent_is SynSent e = refl
syn_sent_is _ e = absurd (cc)

pub connects : (setup : Setup) (fits : SetupFits setup) (tables : TablesFit setup) (events : List Event) → AllByRecursion EventFits events → Connects setup (run setup events)
connects setup fits tables events all lead lag c opening =
    let w = run setup events in
    let v1 = run_from setup w (turn_events setup w (Resends c)) in
    let v2 = run_from setup v1 (turn_events setup v1 (Sends c)) in
    let v3 = run_from setup v2 (turn_events setup v2 (Resends (other c))) in
    let v4 = run_from setup v3 (turn_events setup v3 (Sends (other c))) in
    let v5 = run_from setup v4 (turn_events setup v4 (Sends c)) in
    let a = opening.session c in
    let b = opening.session (other c) in
    let r : Ready setup w lead lag (other c) a b = record {
      facts = run_facts setup fits tables events all;
      far_lives = back_again (λ (f : End). live (side w f).sessions ≡ Some a) c (opening.lives c);
      near_lives = opening.lives (other c);
      keyed = opening.keyed;
    } in
    let one = asked setup fits lead lag c w a b r (syn_sent_is a.state.phase opening.asks) opening.answers in
    let two = answered setup fits lead lag c v2 one.far one.near one.ready one.asks one.sent one.waits one.peer in
    let three = acknowledged setup fits lead lag c v4 one.far.state one.near.state two in
    let goal : Final setup v5 lead lag (other c) a.state b.state = record {
      far = three.far;
      near = three.near;
      ready = three.ready;
      far_open = three.far_open;
      near_open = three.near_open;
      here = three.here;
      there = three.there;
      same_far = same_then a.state one.far.state three.far.state one.same_far three.same_far;
      same_near = same_then b.state one.near.state three.near.state one.same_near three.same_near;
    } in
    up_now setup w (after setup w (handshake c)) lead lag c opening (subst (λ (v : World). Final setup v lead lag (other c) a.state b.state) (sym (handshake_is setup w c)) goal)
