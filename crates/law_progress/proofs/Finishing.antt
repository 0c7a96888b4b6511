-- A link of which one end has come to CLOSED, all that was to be sent being acknowledged: each turn leaves it so.
use Rattle.std.proofs.Common.{◌≡◌, ℕ, ◌+◌, ◌-◌, ◌≤◌, ◌==◌, min, Bool, true, false, not, ◌&&◌, nat_lt, List, [], ◌∷◌, length, Option, Some, None, ◌⊎◌, inl, inr, ⊎_elim, refl, sym, ap, ◌∙◌, subst, arith}
use Rattle.std.specs.Prelude.{⊤, is_some}
use Rattle.book_base.specs.declared.address.Pair.{Pair}
use Rattle.book_base.specs.declared.end.End.{End}
use Rattle.book_base.specs.declared.end.End.TheVariants.{A, B}
use Rattle.book_segments.specs.Segments.{Reading, Read, Bad as Unread, reading, good, bit_of}
use Rattle.book_macs.specs.Contexts.{context_of}
use Rattle.book_keys.specs.Rows.{Row}
use Rattle.book_keys.specs.Coordination.{Sending, choose as choose_row}
use Rattle.book_endpoint.specs.declared.phase.Phase.TheVariants.{Closed}
use Rattle.book_endpoint.specs.declared.arrival.Arrival.{Arrival}
use Rattle.book_endpoint.specs.declared.arrival.Arrival.TheVariants.{Bad, Foreign, Checksum, Closed as AtClosed}
use Rattle.book_endpoint.specs.States.{EndState, given_end, is_closed}
use Rattle.book_endpoint.specs.Arrivals.{Arrived, unmoved, from_peer, arrive}
use Rattle.book_endpoint.specs.Emissions.{Draft, Emitted, Quiet, NoKey, Emits, is_sending, is_silent, is_syn_sent, is_syn_received, unsent, rst_draft, syn_draft, syn_ack_draft, data_draft, again_draft, fin_draft, fin_again_draft, ack_draft, window_end, sends_data, sends_fin, fitting, resends, is_blocked, most_bytes, blank, seal_known, emit, resend}
use Rattle.endpoint_steps.specs.Drafting.{to_emit, unacknowledged, probe, to_resend, keyed, emitted}
use Rattle.endpoint_steps.proofs.Drafting.{emit_by_drafts, resend_by_drafts}
use Rattle.book_link.specs.declared.event.Event.{Event}
use Rattle.book_link.specs.declared.event.Event.TheVariants.{At}
use Rattle.book_link.specs.declared.event.Action.TheVariants.{Send, Resend, Deliver, Take}
use Rattle.book_link.specs.Outcomes.{Outcome, Sent, Idle, Nothing, WithoutKey}
use Rattle.book_link.specs.Worlds.{other, Setup, pair_of, Session, Made, Happening, Making, World, side, live, forgeries, segment_named}
use Rattle.book_link.specs.Steps.{Stepped, Act, add, acted, on_live, quietly, made_of, sent, came, come, took, deliver, step, view_of}
use Rattle.book_link.specs.Runs.{run_from}
use Rattle.law_link.specs.Laws.{SetupFits, EventFits}
use Rattle.law_link.proofs.Tests.{choose, eqb_refl}
use Rattle.law_progress.specs.Progress.{Turn, Sends, Resends, delivering, turn_events, all_end, IsSame}
use Rattle.law_progress.proofs.Making.{emitted_quiet}
use Rattle.law_progress.proofs.Facts.{Facts, forth_again}
use Rattle.law_progress.proofs.Kept.{facts_step}
use Rattle.law_progress.proofs.Acting.{instead, instead_there, Acted, act_live}

-- all that is to be sent at both ends is acknowledged, and one end is closed
pub record Finished (setup : Setup) (v : World) : Type 0 where
  pub facts : Facts setup v
  pub unforged : forgeries v.history ≡ 0
  pub session : End → Session
  pub lives : (e : End) → live (side v e).sessions ≡ Some (session e)
  pub peer : (e : End) → (session e).state.peer_isn ≡ Some (session (other e)).state.isn
  pub all : (e : End) → (session e).state.una ≡ all_end (session e).state
  pub got : (e : End) → all_end (session (other e)).state ≤ (session e).state.expected
  pub shut : End
  pub closed : (session shut).state.phase ≡ Closed
  pub unowed : (session shut).state.rst_owed ≡ false

-- the same sessions, still finished
pub record StillOver (setup : Setup) (w v : World) (old : Finished setup w) : Type 0 where
  pub now : Finished setup v
  pub same : (e : End) → IsSame (old.session e).state (now.session e).state
  pub shut : now.shut ≡ old.shut

-- what a call leaves of a session
pub record Leaves (s t : EndState) : Type 0 where
  pub isn : t.isn ≡ s.isn
  pub peer : t.peer_isn ≡ s.peer_isn
  pub given : t.given ≡ s.given
  pub closing : t.closing ≡ s.closing
  pub una : t.una ≡ s.una
  pub expected : t.expected ≡ s.expected

abbrev pub leaves_refl : (s : EndState) → Leaves s s
leaves_refl s = record { isn = refl; peer = refl; given = refl; closing = refl; una = refl; expected = refl }

all_same : (s t : EndState) → Leaves s t → all_end t ≡ all_end s
all_same s t h = let isn = h.isn in let long : length t.given ≡ length s.given = ap length h.given in let bit : bit_of t.closing ≡ bit_of s.closing = ap bit_of h.closing in omega arith

pub by_end : (P : End → Session → Session → Type 0) (x : End) (u : Session) (old : End → Session) → P x u (old (other x)) → P (other x) (old (other x)) u → (e : End) → P e (instead x u old e) (instead x u old (other e))
by_end P A u old a b A = a
by_end P A u old a b B = b
by_end P B u old a b A = b
by_end P B u old a b B = a

each_end : (P : End → Session → Session → Type 0) (x : End) (u : Session) (old : End → Session) → P x (old x) u → ((e : End) → P e (old e) (old e)) → (e : End) → P e (old e) (instead x u old e)
each_end P A u old a h A = a
each_end P A u old a h B = h B
each_end P B u old a h A = h A
each_end P B u old a h B = a

-- a call on one end, which leaves its session
pub over_act : (setup : Setup) (w : World) (old : Finished setup w) (x : End) (call : EndState → Act) (act : Act) → call (old.session x).state ≡ act → Leaves (old.session x).state act.state
    → forgeries (add act.happened w.history) ≡ 0 → Facts setup (on_live w x call).world
    → (instead x (acted (old.session x) act) old.session old.shut).state.phase ≡ Closed → (instead x (acted (old.session x) act) old.session old.shut).state.rst_owed ≡ false
    → (r : StillOver setup w (on_live w x call).world old) × ((e : End) → r.now.session e ≡ instead x (acted (old.session x) act) old.session e)
over_act setup w old x call act is leaves none facts closed unowed =
    let v = (on_live w x call).world in
    let s = old.session x in
    let u = acted s act in
    let acts = subst (λ (k : Act). Acted w x (acted s k) k.happened v) is (act_live w x call s (old.lives x)).0 in
    let end_is = all_same s.state act.state leaves in
    let isn = leaves.isn in
    let there = old.got (other x) in
    let far_got : all_end s.state ≤ (old.session (other x)).state.expected = forth_again (λ (f : End). all_end (old.session f).state ≤ (old.session (other x)).state.expected) x there in
    let far_peer : (old.session (other x)).state.peer_isn ≡ Some s.state.isn = forth_again (λ (f : End). (old.session (other x)).state.peer_isn ≡ Some (old.session f).state.isn) x (old.peer (other x)) in
    let una = leaves.una in
    let expected = leaves.expected in
    let here_all = old.all x in
    let here_got = old.got x in (
      record {
        now = record {
          facts = facts;
          unforged = ap forgeries acts.history ∙ none;
          session = instead x u old.session;
          lives = acts.lives old.session old.lives;
          peer = by_end (λ e a b. a.state.peer_isn ≡ Some b.state.isn) x u old.session (leaves.peer ∙ old.peer x) (far_peer ∙ ap (λ n. Some n) (sym isn));
          all = by_end (λ e a b. a.state.una ≡ all_end a.state) x u old.session (omega arith) (old.all (other x));
          got = by_end (λ e a b. all_end b.state ≤ a.state.expected) x u old.session (omega arith) (omega arith);
          shut = old.shut;
          closed = closed;
          unowed = unowed;
        };
        same = each_end (λ e a b. IsSame a.state b.state) x u old.session (record { isn = leaves.isn; given = leaves.given; closing = leaves.closing }) (λ e. record { isn = refl; given = refl; closing = refl });
        shut = refl;
      },
      λ e. refl,
    )

-- ---- what a closed end does

pub not_on : (a b : Bool) → a ≡ false → (a && b) ≡ true → ⊥
not_on true b e f = absurd (cc)
not_on false b e f = absurd (cc)

pub not_on3 : (a b c : Bool) → a ≡ false → (a && b && c) ≡ true → ⊥
not_on3 true b c e f = absurd (cc)
not_on3 false b c e f = absurd (cc)

pub not_on4 : (a b c d : Bool) → a ≡ false → (a && b && c && d) ≡ true → ⊥
not_on4 true b c d e f = absurd (cc)
not_on4 false b c d e f = absurd (cc)

module _ (s : EndState) (phase : s.phase ≡ Closed) (unowed : s.rst_owed ≡ false) (most : ℕ) where
  closed_emit : to_emit s most ≡ None
  unfolding to_emit
  closed_emit =
      let P : Option Draft → Type 0 = λ o. o ≡ None in
      choose P s.rst_owed (Some (rst_draft s)) _ (λ e. absurd (cc)) (λ e1.
      choose P (is_syn_sent s.phase && (s.next == s.isn)) (Some (syn_draft s (record s { next = s.isn + 1 }))) _ (λ e. absurd (not_on (is_syn_sent s.phase) (s.next == s.isn) (ap is_syn_sent phase) e)) (λ e2.
      choose P (is_syn_received s.phase && (s.next == s.isn)) (Some (syn_ack_draft s (record s { next = s.isn + 1 }))) _ (λ e. absurd (not_on (is_syn_received s.phase) (s.next == s.isn) (ap is_syn_received phase) e)) (λ e3.
      choose P (sends_data s) (Some (data_draft s (fitting s most))) _ (λ e. absurd (not_on3 (is_sending s.phase) (nat_lt 0 (unsent s)) (nat_lt s.next (window_end s)) (ap is_sending phase) e)) (λ e4.
      choose P (sends_fin s) (Some (fin_draft s)) _ (λ e. absurd (not_on4 (is_sending s.phase) s.closing (unsent s == 0) (nat_lt s.next (window_end s)) (ap is_sending phase) e)) (λ e5.
      choose P (s.ack_owed && not (is_silent s.phase)) (Some (ack_draft s)) None (λ e. absurd (silent s.ack_owed (is_silent s.phase) (ap is_silent phase) e)) (λ e. refl))))))
    where
      silent : (a b : Bool) → b ≡ true → (a && not b) ≡ true → ⊥
      silent true true e f = absurd (cc)
      silent false true e f = absurd (cc)
      silent a false e f = absurd (cc)

  closed_resend : to_resend s most ≡ None
  unfolding to_resend
  closed_resend =
      let P : Option Draft → Type 0 = λ o. o ≡ None in
      choose P (is_syn_sent s.phase && nat_lt s.isn s.next) (Some (syn_draft s s)) _ (λ e. absurd (not_on (is_syn_sent s.phase) (nat_lt s.isn s.next) (ap is_syn_sent phase) e)) (λ e1.
      choose P (is_syn_received s.phase && nat_lt s.isn s.next) (Some (syn_ack_draft s s)) _ (λ e. absurd (not_on (is_syn_received s.phase) (nat_lt s.isn s.next) (ap is_syn_received phase) e)) (λ e2.
      choose P (resends s.phase && nat_lt s.una s.next) (Some (unacknowledged s most)) _ (λ e. absurd (not_on (resends s.phase) (nat_lt s.una s.next) (ap resends phase) e)) (λ e3.
      choose P (is_blocked s) (probe s) None (λ e. absurd (not_on3 (is_sending s.phase) (s.una == s.next) (s.send_window == 0) (ap is_sending phase) e)) (λ e. refl))))

closed_emits : (rows : List Row) (pair : Pair) (now : ℕ) (s : EndState) → s.phase ≡ Closed → s.rst_owed ≡ false → emit rows pair now s ≡ Quiet
closed_emits rows pair now s phase unowed = emit_by_drafts rows pair now s ∙ emitted_quiet pair s (to_emit s) (choose_row s.current rows pair now) (λ m. closed_emit s phase unowed m)

closed_resends : (rows : List Row) (pair : Pair) (now : ℕ) (s : EndState) → s.phase ≡ Closed → s.rst_owed ≡ false → resend rows pair now s ≡ Quiet
closed_resends rows pair now s phase unowed = resend_by_drafts rows pair now s ∙ emitted_quiet pair s (to_resend s) (choose_row s.current rows pair now) (λ m. closed_resend s phase unowed m)

-- nothing moves a closed end
pub closed_arrives : (rows : List Row) (pair : Pair) (now : ℕ) (s : EndState) (r : Reading) → is_closed s.phase ≡ true → (answer : Arrival) × (arrive rows pair now s r ≡ unmoved s answer)
unfolding arrive
closed_arrives rows pair now s (Unread fault) shut = (Bad fault, refl)
closed_arrives rows pair now s (Read d) shut =
    let P : Arrived → Type 0 = λ a. (answer : Arrival) × (a ≡ unmoved s answer) in
    choose P (not (from_peer pair d)) (unmoved s Foreign) _ (λ e. (Foreign, refl)) (λ e1.
    choose P (not (good d)) (unmoved s Checksum) _ (λ e. (Checksum, refl)) (λ e2.
    choose P (is_closed s.phase) (unmoved s AtClosed) _ (λ e. (AtClosed, refl)) (λ e. absurd (cc))))

-- ---- what an open end makes leaves its session

abbrev MayLeave : EndState → Option Draft → Type 0
MayLeave s None = ⊤
MayLeave s (Some out) = Leaves s out.state

emit_leaves : (s : EndState) (most : ℕ) → MayLeave s (to_emit s most)
unfolding to_emit
emit_leaves s most =
    let P = MayLeave s in
    let same = leaves_refl s in
    let still : (t : EndState) → t.isn ≡ s.isn → t.peer_isn ≡ s.peer_isn → t.given ≡ s.given → t.closing ≡ s.closing → t.una ≡ s.una → t.expected ≡ s.expected → Leaves s t =
    λ t a b c d e f. record { isn = a; peer = b; given = c; closing = d; una = e; expected = f } in
    choose P s.rst_owed (Some (rst_draft s)) _ (λ t. still (rst_draft s).state refl refl refl refl refl refl) (λ e1.
    choose P (is_syn_sent s.phase && (s.next == s.isn)) (Some (syn_draft s (record s { next = s.isn + 1 }))) _ (λ t. still (record s { next = s.isn + 1 }) refl refl refl refl refl refl) (λ e2.
    choose P (is_syn_received s.phase && (s.next == s.isn)) (Some (syn_ack_draft s (record s { next = s.isn + 1 }))) _ (λ t. still (syn_ack_draft s (record s { next = s.isn + 1 })).state refl refl refl refl refl refl) (λ e3.
    choose P (sends_data s) (Some (data_draft s (fitting s most))) _ (λ t. still (data_draft s (fitting s most)).state refl refl refl refl refl refl) (λ e4.
    choose P (sends_fin s) (Some (fin_draft s)) _ (λ t. still (fin_draft s).state refl refl refl refl refl refl) (λ e5.
    choose P (s.ack_owed && not (is_silent s.phase)) (Some (ack_draft s)) None (λ t. still (ack_draft s).state refl refl refl refl refl refl) (λ t. tt))))))

resend_leaves : (s : EndState) (most : ℕ) → MayLeave s (to_resend s most)
unfolding to_resend
resend_leaves s most =
    let P = MayLeave s in
    let still : (t : EndState) → t.isn ≡ s.isn → t.peer_isn ≡ s.peer_isn → t.given ≡ s.given → t.closing ≡ s.closing → t.una ≡ s.una → t.expected ≡ s.expected → Leaves s t =
    λ t a b c d e f. record { isn = a; peer = b; given = c; closing = d; una = e; expected = f } in
    choose P (is_syn_sent s.phase && nat_lt s.isn s.next) (Some (syn_draft s s)) _ (λ t. still s refl refl refl refl refl refl) (λ e1.
    choose P (is_syn_received s.phase && nat_lt s.isn s.next) (Some (syn_ack_draft s s)) _ (λ t. still (syn_ack_draft s s).state refl refl refl refl refl refl) (λ e2.
    choose P (resends s.phase && nat_lt s.una s.next) (Some (unacknowledged s most)) _
    (λ t. choose (λ (d : Draft). Leaves s d.state) (nat_lt s.una (given_end s)) (again_draft s (min (s.next - s.una) most)) (fin_again_draft s)
    (λ g. still (again_draft s (min (s.next - s.una) most)).state refl refl refl refl refl refl) (λ g. still (fin_again_draft s).state refl refl refl refl refl refl)) (λ e3.
    choose P (is_blocked s) (probe s) None
    (λ t. choose P (nat_lt 0 (unsent s)) (Some (data_draft s 1)) _ (λ g. still (data_draft s 1).state refl refl refl refl refl refl)
    (λ g. choose P s.closing (Some (fin_draft s)) None (λ c. still (fin_draft s).state refl refl refl refl refl refl) (λ c. tt)))
    (λ t. tt))))

abbrev pub LeavesIf : EndState → Emitted → Type 0
LeavesIf s Quiet = ⊤
LeavesIf s NoKey = ⊤
LeavesIf s (Emits em) = Leaves s em.state

module _ (pair : Pair) (s : EndState) where
  sealed_leaves : (out : Draft) (sending : Sending) (o : Option (List ℕ)) → Leaves s out.state → LeavesIf s (seal_known pair s out sending o)
  sealed_leaves out sending None h = tt
  sealed_leaves out sending (Some c) h = record { isn = h.isn; peer = h.peer; given = h.given; closing = h.closing; una = h.una; expected = h.expected }

  keyed_leaves : (sending : Sending) (o : Option Draft) → MayLeave s o → LeavesIf s (keyed pair s sending o)
  keyed_leaves sending None h = tt
  keyed_leaves sending (Some out) h = sealed_leaves out sending (context_of (blank pair s out sending) (Some s.isn) s.peer_isn) h

  emitted_leaves : (draft : ℕ → Option Draft) (o : Option Sending) → ((m : ℕ) → MayLeave s (draft m)) → LeavesIf s (emitted pair s draft o)
  emitted_leaves draft None h = choose (LeavesIf s) (is_some (draft 0)) NoKey Quiet (λ e. tt) (λ e. tt)
  emitted_leaves draft (Some sending) h = keyed_leaves sending (draft (most_bytes pair s sending)) (h (most_bytes pair s sending))

pub emits_leave : (rows : List Row) (pair : Pair) (now : ℕ) (s : EndState) → LeavesIf s (emit rows pair now s)
emits_leave rows pair now s = subst (LeavesIf s) (sym (emit_by_drafts rows pair now s)) (emitted_leaves pair s (to_emit s) (choose_row s.current rows pair now) (emit_leaves s))

pub resends_leave : (rows : List Row) (pair : Pair) (now : ℕ) (s : EndState) → LeavesIf s (resend rows pair now s)
resends_leave rows pair now s = subst (LeavesIf s) (sym (resend_by_drafts rows pair now s)) (emitted_leaves pair s (to_resend s) (choose_row s.current rows pair now) (resend_leaves s))

-- ---- a turn

pub named_last : (m : Made) (past : List Happening) → segment_named m.name (Making m ∷ past) ≡ Some m
named_last m past = choose (λ o. o ≡ Some m) (m.name == m.name) (Some m) (segment_named m.name past) (λ e. refl) (λ e. let same = eqb_refl m.name in absurd (cc))

keep_at : (P : Session → Type 0) (x : End) (u : Session) (old : End → Session) (c : End) → (P (old x) → P u) → P (old c) → P (instead x u old c)
keep_at P A u old A f h = f h
keep_at P A u old B f h = h
keep_at P B u old A f h = h
keep_at P B u old B f h = f h

still_then : (setup : Setup) (w v u : World) (old : Finished setup w) (one : StillOver setup w v old) → StillOver setup v u one.now → StillOver setup w u old
still_then setup w v u old one two = record {
  now = two.now;
  same = λ e. let a = one.same e in let b = two.same e in record { isn = b.isn ∙ a.isn; given = b.given ∙ a.given; closing = b.closing ∙ a.closing };
  shut = two.shut ∙ one.shut;
}

still_refl : (setup : Setup) (w : World) (old : Finished setup w) → StillOver setup w w old
still_refl setup w old = record { now = old; same = λ e. record { isn = refl; given = refl; closing = refl }; shut = refl }

module _ (setup : Setup) (fits : SetupFits setup) where
  pub over_taken : (w : World) (old : Finished setup w) (y : End) → (r : StillOver setup w (step setup w (At y (Take 65535))).world old) × ((e : End) → r.now.session e ≡ instead y (acted (old.session y) (took 65535 (old.session y).state)) old.session e)
  over_taken w old y =
      let s = old.session y in
      let act = took 65535 s.state in
      let leaves : Leaves s.state act.state = record { isn = refl; peer = refl; given = refl; closing = refl; una = refl; expected = refl } in
      over_act setup w old y (took 65535) act refl leaves old.unforged (facts_step setup fits w (At y (Take 65535)) tt old.facts)
      (keep_at (λ k. k.state.phase ≡ Closed) y (acted s act) old.session old.shut (λ h. h) old.closed)
      (keep_at (λ k. k.state.rst_owed ≡ false) y (acted s act) old.session old.shut (λ h. h) old.unowed)

  pub over_take : (w : World) (old : Finished setup w) (y : End) → StillOver setup w (step setup w (At y (Take 65535))).world old
  over_take w old y = (over_taken w old y).0

  -- nothing is made
  over_quiet : (w : World) (old : Finished setup w) (x : End) (ev : Event) (without o : Outcome) (f : EndState → Emitted) → EventFits ev → step setup w ev ≡ on_live w x (λ (s : EndState). sent (view_of setup w x) s without (f s))
      → sent (view_of setup w x) (old.session x).state without (f (old.session x).state) ≡ quietly (old.session x).state o → StillOver setup w (step setup w ev).world old × ((step setup w ev).outcome ≡ o)
  over_quiet w old x ev without o f ev_fits is quiet =
      let s = old.session x in
      let act = quietly s.state o in
      let call = λ (k : EndState). sent (view_of setup w x) k without (f k) in
      let facts : Facts setup (on_live w x call).world = subst (λ (k : Stepped). Facts setup k.world) is (facts_step setup fits w ev ev_fits old.facts) in
      let r = (over_act setup w old x call act quiet (leaves_refl s.state) old.unforged facts
      (keep_at (λ k. k.state.phase ≡ Closed) x (acted s act) old.session old.shut (λ h. h) old.closed)
      (keep_at (λ k. k.state.rst_owed ≡ false) x (acted s act) old.session old.shut (λ h. h) old.unowed)).0 in
      let outcome : (on_live w x call).outcome ≡ o = (act_live w x call s (old.lives x)).1 ∙ ap (λ (k : Act). k.outcome) quiet in
      (subst (λ (k : Stepped). StillOver setup w k.world old) (sym is) r, ap (λ (k : Stepped). k.outcome) is ∙ outcome)

  -- the open end makes something, or nothing, and the closed one doesn't hear it
  over_open : (w : World) (old : Finished setup w) (x : End) → other x ≡ old.shut → (ev : Event) (without : Outcome) (f : EndState → Emitted) → EventFits ev → ((y : End) → delivering y without ≡ [])
      → step setup w ev ≡ on_live w x (λ (s : EndState). sent (view_of setup w x) s without (f s)) → LeavesIf (old.session x).state (f (old.session x).state)
      → StillOver setup w (run_from setup w (ev ∷ delivering (other x) (step setup w ev).outcome)) old
  over_open w old x far ev without f ev_fits nothing is leaves = by_case (f (old.session x).state) refl leaves
    where
      none_of : (o : Outcome) → StillOver setup w (step setup w ev).world old × ((step setup w ev).outcome ≡ o) → delivering (other x) o ≡ [] → StillOver setup w (run_from setup w (ev ∷ delivering (other x) (step setup w ev).outcome)) old
      none_of o r empty = subst (λ (l : List Event). StillOver setup w (run_from setup (step setup w ev).world l) old) (sym (ap (delivering (other x)) r.1 ∙ empty)) r.0

      by_case : (r : Emitted) → f (old.session x).state ≡ r → LeavesIf (old.session x).state r → StillOver setup w (run_from setup w (ev ∷ delivering (other x) (step setup w ev).outcome)) old
      by_case Quiet e h = none_of without (over_quiet w old x ev without without f ev_fits is (ap (sent (view_of setup w x) (old.session x).state without) e)) (nothing (other x))
      by_case NoKey e h = none_of WithoutKey (over_quiet w old x ev without WithoutKey f ev_fits is (ap (sent (view_of setup w x) (old.session x).state without) e)) refl
      by_case (Emits em) e h =
          let s = old.session x in
          let act = sent (view_of setup w x) s.state without (Emits em) in
          let made = made_of (view_of setup w x) s.state em in
          let call = λ (k : EndState). sent (view_of setup w x) k without (f k) in
          let act_is : call s.state ≡ act = ap (sent (view_of setup w x) s.state without) e in
          let facts : Facts setup (on_live w x call).world = subst (λ (k : Stepped). Facts setup k.world) is (facts_step setup fits w ev ev_fits old.facts) in
          let at : instead x (acted s act) old.session old.shut ≡ old.session old.shut = subst (λ (c : End). instead x (acted s act) old.session c ≡ old.session c) far (instead_there x (acted s act) old.session) in
          let one = (over_act setup w old x call act act_is h old.unforged facts (ap (λ (k : Session). k.state.phase) at ∙ old.closed) (ap (λ (k : Session). k.state.rst_owed) at ∙ old.unowed)).0 in
          let w2 = (on_live w x call).world in
          let acts = act_live w x call s (old.lives x) in
          let outcome : (on_live w x call).outcome ≡ Sent made = acts.1 ∙ ap (λ (k : Act). k.outcome) act_is in
          let history : w2.history ≡ Making made ∷ w.history = acts.0.history ∙ ap (λ (k : Act). add k.happened w.history) act_is in
          let named : segment_named made.name w2.history ≡ Some made = ap (segment_named made.name) history ∙ named_last made w.history in
          let now = one.now in
          let c = old.shut in
          let closed : (now.session c).state.phase ≡ Closed = subst (λ (k : End). (now.session k).state.phase ≡ Closed) one.shut now.closed in
          let unowed : (now.session c).state.rst_owed ≡ false = subst (λ (k : End). (now.session k).state.rst_owed ≡ false) one.shut now.unowed in
          let t = now.session c in
          let answer = closed_arrives (side w2 c).rows (pair_of setup c) (side w2 c).clock t.state (reading made.bytes) (ap is_closed closed) in
          let act2 = came made.bytes (view_of setup w2 c) t.state (unmoved t.state answer.0) in
          let v = (step setup w2 (At c (Deliver made.name))).world in
          let v_is : (on_live w2 c (come made.bytes (view_of setup w2 c))).world ≡ v = ap (λ (o : Option Made). (deliver setup w2 c o).world) (sym named) in
          let facts2 = facts_step setup fits w2 (At c (Deliver made.name)) tt now.facts in
          let clean = now.unforged in
          let none2 : forgeries (add act2.happened w2.history) ≡ 0 = omega arith in
          let two = (over_act setup w2 now c (come made.bytes (view_of setup w2 c)) act2 (ap (came made.bytes (view_of setup w2 c) t.state) answer.1) (leaves_refl t.state) none2 (subst (Facts setup) (sym v_is) facts2)
          (keep_at (λ k. k.state.phase ≡ Closed) c (acted t act2) now.session now.shut (λ h. h) now.closed)
          (keep_at (λ k. k.state.rst_owed ≡ false) c (acted t act2) now.session now.shut (λ h. h) now.unowed)).0 in
          let both = still_then setup w w2 v old one (subst (λ (k : World). StillOver setup w2 k now) v_is two) in
          let world_is : v ≡ run_from setup w (ev ∷ delivering (other x) (step setup w ev).outcome) =
          ap (λ (k : End). (step setup w2 (At k (Deliver made.name))).world) (sym far) ∙ ap (λ (o : Outcome). run_from setup w2 (delivering (other x) o)) (sym outcome) ∙ ap (λ (k : Stepped). run_from setup k.world (delivering (other x) k.outcome)) (sym is) in
          subst (λ (k : World). StillOver setup w k old) world_is both

  -- a turn leaves it so
  over_by : (w : World) (old : Finished setup w) (x : End) (ev : Event) (without : Outcome) (f : EndState → Emitted) → EventFits ev → ((y : End) → delivering y without ≡ [])
      → step setup w ev ≡ on_live w x (λ (s : EndState). sent (view_of setup w x) s without (f s)) → LeavesIf (old.session x).state (f (old.session x).state)
      → ((old.session x).state.phase ≡ Closed → (old.session x).state.rst_owed ≡ false → f (old.session x).state ≡ Quiet)
      → StillOver setup w (run_from setup w (ev ∷ delivering (other x) (step setup w ev).outcome)) old
  over_by w old x ev without f ev_fits nothing is leaves quiet =
      ⊎_elim
      (λ (same : x ≡ old.shut).
      let r = over_quiet w old x ev without without f ev_fits is (ap (sent (view_of setup w x) (old.session x).state without) (quiet (subst (λ (c : End). (old.session c).state.phase ≡ Closed) (sym same) old.closed) (subst (λ (c : End). (old.session c).state.rst_owed ≡ false) (sym same) old.unowed))) in
      subst (λ (l : List Event). StillOver setup w (run_from setup (step setup w ev).world l) old) (sym (ap (delivering (other x)) r.1 ∙ nothing (other x))) r.0)
      (λ (far : other x ≡ old.shut). over_open w old x far ev without f ev_fits nothing is leaves)
      (which_end x old.shut)
    where
      which_end : (x c : End) → (x ≡ c) ⊎ (other x ≡ c)
      which_end A A = inl refl
      which_end A B = inr refl
      which_end B A = inr refl
      which_end B B = inl refl

  pub over_turn : (w : World) (old : Finished setup w) (t : Turn) → StillOver setup w (run_from setup w (turn_events setup w t)) old
  unfolding turn_events
  over_turn w old (Sends x) =
      let one = over_take w old (other x) in
      let w1 = (step setup w (At (other x) (Take 65535))).world in
      let s = (one.now.session x).state in
      let f = emit (side w1 x).rows (pair_of setup x) (side w1 x).clock in
      still_then setup w w1 _ old one (over_by w1 one.now x (At x Send) Idle f tt (λ y. refl) refl (emits_leave (side w1 x).rows (pair_of setup x) (side w1 x).clock s) (closed_emits (side w1 x).rows (pair_of setup x) (side w1 x).clock s))
  over_turn w old (Resends x) =
      let one = over_take w old (other x) in
      let w1 = (step setup w (At (other x) (Take 65535))).world in
      let s = (one.now.session x).state in
      let f = resend (side w1 x).rows (pair_of setup x) (side w1 x).clock in
      still_then setup w w1 _ old one (over_by w1 one.now x (At x Resend) Nothing f tt (λ y. refl) refl (resends_leave (side w1 x).rows (pair_of setup x) (side w1 x).clock s) (closed_resends (side w1 x).rows (pair_of setup x) (side w1 x).clock s))
