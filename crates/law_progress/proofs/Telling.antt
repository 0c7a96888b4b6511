-- What a FIN tells: an end in LAST-ACK acknowledged, with each FIN that it made, all that it expects; so where its FIN is recorded, that is acknowledged.
use Rattle.std.proofs.Common.{◌≡◌, ℕ, ◌+◌, ◌-◌, ◌/◌, ◌%◌, ◌^◌, ◌<◌, ◌≤◌, ◌==◌, min, Bool, true, false, not, ◌&&◌, nat_lt, List, [], ◌∷◌, ◌++◌, length, Option, Some, None, ◌⊎◌, inl, inr, ⊎_elim, if◌then◌else◌, refl, sym, ap, ◌∙◌, subst, arith, length-append, Ok, Err}
use Rattle.std.specs.Prelude.{⊤, is_some}
use Rattle.std.specs.List.{AllByRecursion}
use Rattle.std.proofs.lemmas.Option.{slice_get_within}
use Rattle.book_base.specs.declared.address.Pair.{Pair}
use Rattle.book_base.specs.declared.end.End.{End}
use Rattle.book_base.specs.declared.end.End.TheVariants.{A, B}
use Rattle.book_segments.specs.Bytes.{ring}
use Rattle.book_segments.specs.Meant.{meant}
use Rattle.book_segments.specs.Segments.{Segment, Reading, Read, Bad as Unread, reading, good, has, FIN, SYN, ACK}
use Rattle.book_segments.specs.Spelling.{AreBytes}
use Rattle.book_segments.proofs.Fields.{and_tells, eqb_is, lt_is, lt_not, some_is}
use Rattle.book_macs.specs.Contexts.{context_of}
use Rattle.book_keys.specs.Coordination.{Sending, follow, choose as choose_row}
use Rattle.book_endpoint.specs.declared.phase.Phase.{Phase}
use Rattle.book_endpoint.specs.declared.phase.Phase.TheVariants.{Listen, SynSent, SynReceived, Established, FinWait1, FinWait2, CloseWait, Closing, LastAck, TimeWait, Closed}
use Rattle.book_endpoint.specs.declared.arrival.Arrival.TheVariants.{Foreign, Checksum, Closed as AtClosed}
use Rattle.book_endpoint.specs.States.{EndState, first, given_end, is_closed, close_in, abort, give, gives, room, is_due, tick_in, tick}
use Rattle.book_endpoint.specs.Verdicts.{Finding, Judgement}
use Rattle.book_endpoint.specs.Arrivals.{Arrived, unmoved, judged_by, from_peer, arrive}
use Rattle.endpoint_steps.specs.Arriving.{after_check, arrive_judged, arrive_read}
use Rattle.book_endpoint.specs.Emissions.{Draft, Emitted, Quiet, NoKey, is_sending, is_silent, is_syn_sent, is_syn_received, unsent, fin_sent, rst_draft, syn_draft, syn_ack_draft, data_draft, again_draft, fin_draft, fin_again_draft, ack_draft, sends_data, sends_fin, fitting, resends, is_blocked, sets, most_bytes, blank, sealed, seal_known}
use Rattle.endpoint_steps.specs.Drafting.{to_emit, unacknowledged, probe, to_resend, keyed, emitted}
use Rattle.endpoint_steps.proofs.Drafting.{emit_by_drafts, resend_by_drafts}
use Rattle.endpoint_steps.proofs.Arriving.{read_by_cases}
use Rattle.book_link.specs.Outcomes.{Outcome, Idle, Nothing, Done, Full, HasClosed}
use Rattle.book_link.specs.Worlds.{other, Setup, pair_of, Session, LinkSide, Made, Came, Happening, Making, Coming, World, side, find, forgeries}
use Rattle.book_link.specs.Steps.{Act, add, put, quietly, made_of, sent, send, send_again, came, come, took, given, acted, act_on, begin, ticked, with_clock, with_sessions, view_of}
use Rattle.law_link.specs.Headline.{GivesFew}
use Rattle.law_link.specs.Laws.{SetupFits, IsAmong}
use Rattle.law_link.proofs.Tests.{choose}
use Rattle.book_base.proofs.TestLaws.{by_bool}
use Rattle.law_link.proofs.Phases.{fin_gone}
use Rattle.law_link.proofs.Sound.{Sound, Later, later_refl}
use Rattle.law_link.proofs.Stream.{or_lt}
use Rattle.law_link.proofs.Whole.{Whole}
use Rattle.law_link.proofs.Moves.{following}
use Rattle.law_link.proofs.Drafts.{sends_fin_says}
use Rattle.law_link.proofs.Carrying.{GivenAt}
use Rattle.law_link.proofs.Invariant.{AllSound, AllWhole, Inv}
use Rattle.law_link.proofs.Sessions.{both, find_own, find_isn, new_if}
use Rattle.law_link.proofs.Keeping.{HasPassed, NewBy, ActOk}
use Rattle.law_link.proofs.Running.{ticks, tick_later}
use Rattle.law_link.proofs.Arriving.{Passing, arrive_ok, segment_is}
use Rattle.law_link.proofs.Origin.{plain_context}
use Rattle.law_link.proofs.Received.{FinMade, OfPartner, Received, Heard, of-later, of-map, fewer_forgeries, stream_low, passed_origin}
use Rattle.law_link.proofs.Accepted.{meant_near}
use Rattle.law_progress.proofs.Making.{is_past}
use Rattle.law_progress.proofs.Facts.{Fit, AllFit, AllFits, IsSettledBy, TellsOf, AllTells, FinTold, AllFinTold, Telling, limit_none, passed_is, forth_again}
use Rattle.law_progress.proofs.Onward.{Reaches, Onward, check_on}

-- ---- how sessions go on

pub record Onto (s u : EndState) : Type 0 where
  pub gone : fin_gone s.phase ≡ true → fin_gone u.phase ≡ true
  pub last : u.phase ≡ LastAck → ((s.phase ≡ LastAck) × (u.expected ≤ s.expected)) ⊎ (fin_gone s.phase ≡ false)

onto_refl : (s : EndState) → Onto s s
onto_refl s = record { gone = λ e. e; last = λ e. inl (e, omega arith) }

abbrev OntoGrows : List Session → List Session → Type 0
OntoGrows old new = (isn : ℕ) (t : Session) → find old isn ≡ Some t → (u : Session) × (find new isn ≡ Some u) × Later t.state u.state × Onto t.state u.state

onto_grows_refl : (sessions : List Session) → OntoGrows sessions sessions
onto_grows_refl sessions isn t e = (t, e, later_refl t.state, onto_refl t.state)

head_if : (s u : Session) (rest : List Session) (isn : ℕ) (t : Session) (b : Bool) → Later s.state u.state → Onto s.state u.state → (if b then Some s else find rest isn) ≡ Some t
    → (v : Session) × ((if b then Some u else find rest isn) ≡ Some v) × Later t.state v.state × Onto t.state v.state
head_if s u rest isn t true l o e = let same = some_is s t e in (u, refl, subst (λ (x : Session). Later x.state u.state) same l, subst (λ (x : Session). Onto x.state u.state) same o)
head_if s u rest isn t false l o e = (t, e, later_refl t.state, onto_refl t.state)

onto_head : (s u : Session) (rest : List Session) → Later s.state u.state → Onto s.state u.state → OntoGrows (s ∷ rest) (u ∷ rest)
onto_head s u rest l o isn t e =
    let r = head_if s u rest isn t (s.state.isn == isn) l o e in
    (r.0, subst (λ (n : ℕ). (if n == isn then Some u else find rest isn) ≡ Some r.0) (sym l.same_isn) r.1, r.2, r.3)

onto_new : (u : Session) (rest : List Session) → find rest u.state.isn ≡ None → OntoGrows rest (u ∷ rest)
onto_new u rest none isn t e = (t, new_if u rest isn t (u.state.isn == isn) refl none e, later_refl t.state, onto_refl t.state)

settled_onto : (t u : EndState) (a : ℕ) → Onto t u → IsSettledBy t a → IsSettledBy u a
settled_onto t u a o h = (
  o.gone h.0,
  λ last.
      ⊎_elim (λ (x : (t.phase ≡ LastAck) × (u.expected ≤ t.expected)). let low = h.1 x.0 in let le = x.1 in omega arith)
      (λ (x : fin_gone t.phase ≡ false). let on = h.0 in absurd (cc)) (o.last last),
)

tells_grows : (old new : List Session) (m : Made) → OntoGrows old new → TellsOf old m → TellsOf new m
tells_grows old new m g h =
    let r = g m.isn h.session h.found in
    record {
      session = r.0;
      found = r.1;
      gone = r.3.gone h.gone;
      told = λ last a e. (settled_onto h.session.state r.0.state a r.3 (h.gone, λ l. h.told l a e)).1 last;
    }

all_tells_grows : (w v : World) (history : List Happening) → ((e : End) → OntoGrows (side w e).sessions (side v e).sessions) → AllTells w history → AllTells v history
all_tells_grows w v [] g h = h
all_tells_grows w v (Making m ∷ past) g h = (λ fin. tells_grows (side w m.maker).sessions (side v m.maker).sessions m (g m.maker) (h.0 fin), all_tells_grows w v past g h.1)
all_tells_grows w v (Coming r ∷ past) g h = all_tells_grows w v past g h

told_grows : (others now : List Session) (s : EndState) → OntoGrows others now → FinTold others s → FinTold now s
told_grows others now s g h f e =
    let o = h f e in
    let r = g o.peer o.session o.found in
    record { peer = o.peer; knows = o.knows; session = r.0; found = r.1; back = r.2.peer s.isn o.back; what = settled_onto o.session.state r.0.state s.una r.3 o.what }

all_told_grows : (others now sessions : List Session) → OntoGrows others now → AllFinTold others sessions → AllFinTold now sessions
all_told_grows others now [] g h = h
all_told_grows others now (s ∷ rest) g h = (told_grows others now s.state g h.0, all_told_grows others now rest g h.1)

-- ---- an end changes so

abbrev NewTells : End → List Session → Option Happening → Type 0
NewTells e sessions None = ⊤
NewTells e sessions (Some (Making m)) = (m.maker ≡ e) × (has FIN m.emission.segment ≡ true → TellsOf sessions m)
NewTells e sessions (Some (Coming r)) = ⊤

tells_add : (v : World) (e : End) (happened : Option Happening) (history : List Happening) → NewTells e (side v e).sessions happened → AllTells v history → AllTells v (add happened history)
tells_add v e None history new h = h
tells_add v e (Some (Making m)) history new h = (λ fin. subst (λ (f : End). TellsOf (side v f).sessions m) (sym new.0) (new.1 fin), h)
tells_add v e (Some (Coming r)) history new h = h

abbrev Few : List Session → Type 0
Few sessions = AllByRecursion (λ (s : Session). length s.state.given < 2 ^ 31) sessions

put_telling : (w : World) (e : End) (now : LinkSide) (happened : Option Happening) → Telling w → OntoGrows (side w e).sessions now.sessions → (Few now.sessions → Few (side w e).sessions) → NewTells e now.sessions happened
    → (forgeries (add happened w.history) ≡ 0 → Few now.sessions → AllFinTold (side w (other e)).sessions (side w e).sessions → AllFinTold (side w (other e)).sessions now.sessions)
    → Telling (put w e now happened)
put_telling w A now happened h g few new head =
    let v = put w A now happened in
    let grows : (f : End) → OntoGrows (side w f).sessions (side v f).sessions = both (λ f. OntoGrows (side w f).sessions (side v f).sessions) g (onto_grows_refl w.b.sessions) in
    record {
      tells = tells_add v A happened w.history new (all_tells_grows w v w.history grows h.tells);
      told = λ none all.
          let z = fewer_forgeries happened w.history none in
          let before : GivesFew w = both (λ f. Few (side w f).sessions) (few (all A)) (all B) in
          both (λ f. AllFinTold (side v (other f)).sessions (side v f).sessions) (head none (all A) (h.told z before A)) (all_told_grows w.a.sessions now.sessions w.b.sessions g (h.told z before B));
    }
put_telling w B now happened h g few new head =
    let v = put w B now happened in
    let grows : (f : End) → OntoGrows (side w f).sessions (side v f).sessions = both (λ f. OntoGrows (side w f).sessions (side v f).sessions) (onto_grows_refl w.a.sessions) g in
    record {
      tells = tells_add v B happened w.history new (all_tells_grows w v w.history grows h.tells);
      told = λ none all.
          let z = fewer_forgeries happened w.history none in
          let before : GivesFew w = both (λ f. Few (side w f).sessions) (all A) (few (all B)) in
          both (λ f. AllFinTold (side v (other f)).sessions (side v f).sessions) (all_told_grows w.b.sessions now.sessions w.a.sessions g (h.told z before A)) (head none (all B) (h.told z before B));
    }

-- ---- what a call does

pub record ActTold (setup : Setup) (e : End) (s : EndState) (act : Act) : Type 0 where
  pub gone : fin_gone s.phase ≡ true → fin_gone act.state.phase ≡ true
  pub last : act.state.phase ≡ LastAck → (s.phase ≡ LastAck) ⊎ (fin_gone s.phase ≡ false)
  pub una : s.una ≤ act.state.una
  pub fins : (f : ℕ) → act.state.fin ≡ Some f
      → (s.fin ≡ Some f) ⊎ ((d : Segment) × (n : ℕ) × HasPassed setup e s act.happened d n × (has SYN d ≡ false) × (has FIN d ≡ true) × (has ACK d ≡ true) × Reaches act.state (meant d.acknowledgement s.una))
  pub made : (m : Made) → act.happened ≡ Some (Making m) → has FIN m.emission.segment ≡ true → (fin_gone act.state.phase ≡ true) × ((a : ℕ) → m.emission.acknowledged ≡ Some a → act.state.expected ≤ a)

-- a call that makes nothing, at which nothing comes, and that leaves what is said of
still_told : (setup : Setup) (e : End) (s t : EndState) (shown : Bool) (outcome : Outcome) → (fin_gone s.phase ≡ true → fin_gone t.phase ≡ true) → (t.phase ≡ LastAck → s.phase ≡ LastAck) → t.una ≡ s.una → t.fin ≡ s.fin
    → ActTold setup e s (record { state = t; shown = shown; happened = None; outcome = outcome })
still_told setup e s t shown outcome gone last una fin = record { gone = gone; last = λ l. inl (last l); una = omega arith; fins = λ f is. inl (sym fin ∙ is); made = λ m is. absurd (cc) }

pub given_told : (setup : Setup) (e : End) (piece : List ℕ) (s : EndState) → ActTold setup e s (given piece s)
given_told setup e piece s =
    choose (ActTold setup e s) (not (gives s)) _ _ (λ t. still_told setup e s s false HasClosed (λ g. g) (λ g. g) refl refl) (λ t.
    choose (ActTold setup e s) (nat_lt (room s) (length piece)) _ _ (λ t. still_told setup e s s false Full (λ g. g) (λ g. g) refl refl) (λ t. still_told setup e s (give piece s) false Done (λ g. g) (λ g. g) refl refl))

pub took_told : (setup : Setup) (e : End) (count : ℕ) (s : EndState) → ActTold setup e s (took count s)
took_told setup e count s = record { gone = λ g. g; last = λ g. inl g; una = omega arith; fins = λ f is. inl is; made = λ m is. absurd (cc) }

pub close_told : (setup : Setup) (e : End) (s : EndState) (phase : Phase) → ActTold setup e s (quietly (close_in phase s) Done)
close_told setup e s Listen = still_told setup e s (record s { phase = Closed }) false Done (λ g. refl) (λ g. absurd (cc)) refl refl
close_told setup e s SynSent = still_told setup e s (record s { phase = Closed }) false Done (λ g. refl) (λ g. absurd (cc)) refl refl
close_told setup e s Closed = still_told setup e s s false Done (λ g. g) (λ g. g) refl refl
close_told setup e s _ = still_told setup e s (record s { closing = true }) false Done (λ g. g) (λ g. g) refl refl

pub abort_told : (setup : Setup) (e : End) (s : EndState) → ActTold setup e s (quietly (abort s) Done)
abort_told setup e s = still_told setup e s (abort s) false Done (λ g. refl) (λ g. absurd (cc)) refl refl

-- ---- a segment that is made

record DraftTold (s : EndState) (out : Draft) : Type 0 where
  gone : fin_gone s.phase ≡ true → fin_gone out.state.phase ≡ true
  last : out.state.phase ≡ LastAck → (s.phase ≡ LastAck) ⊎ (fin_gone s.phase ≡ false)
  una : out.state.una ≡ s.una
  fin : out.state.fin ≡ s.fin
  expected : out.state.expected ≡ s.expected
  made : sets out.flags FIN ≡ true → fin_gone out.state.phase ≡ true

abbrev MayTell : EndState → Option Draft → Type 0
MayTell s None = ⊤
MayTell s (Some out) = DraftTold s out

sent_gone : (phase : Phase) → is_sending phase ≡ true → (fin_gone (fin_sent phase) ≡ true) × (fin_gone phase ≡ false)
sent_gone Listen o = absurd (cc)
sent_gone SynSent o = absurd (cc)
sent_gone SynReceived o = absurd (cc)
sent_gone Closed o = absurd (cc)
sent_gone FinWait1 o = absurd (cc)
sent_gone Closing o = absurd (cc)
sent_gone LastAck o = absurd (cc)
sent_gone FinWait2 o = absurd (cc)
sent_gone TimeWait o = absurd (cc)
sent_gone Established o = (refl, refl)
sent_gone CloseWait o = (refl, refl)

fin_told : (s : EndState) → is_sending s.phase ≡ true → DraftTold s (fin_draft s)
fin_told s on = let g = sent_gone s.phase on in record { gone = λ e. g.0; last = λ e. inr g.1; una = refl; fin = refl; expected = refl; made = λ e. g.0 }

emit_told : (s : EndState) (most : ℕ) → MayTell s (to_emit s most)
unfolding to_emit
emit_told s most =
    let P = MayTell s in
    choose P s.rst_owed (Some (rst_draft s)) _ (λ t. record { gone = λ e. e; last = λ e. inl e; una = refl; fin = refl; expected = refl; made = λ e. absurd (cc) }) (λ e1.
    choose P (is_syn_sent s.phase && (s.next == s.isn)) (Some (syn_draft s (record s { next = s.isn + 1 }))) _ (λ t. record { gone = λ e. e; last = λ e. inl e; una = refl; fin = refl; expected = refl; made = λ e. absurd (cc) }) (λ e2.
    choose P (is_syn_received s.phase && (s.next == s.isn)) (Some (syn_ack_draft s (record s { next = s.isn + 1 }))) _ (λ t. record { gone = λ e. e; last = λ e. inl e; una = refl; fin = refl; expected = refl; made = λ e. absurd (cc) }) (λ e3.
    choose P (sends_data s) (Some (data_draft s (fitting s most))) _ (λ t. record { gone = λ e. e; last = λ e. inl e; una = refl; fin = refl; expected = refl; made = λ e. absurd (cc) }) (λ e4.
    choose P (sends_fin s) (Some (fin_draft s)) _ (λ t. fin_told s (sends_fin_says s t).0) (λ e5.
    choose P (s.ack_owed && not (is_silent s.phase)) (Some (ack_draft s)) None (λ t. record { gone = λ e. e; last = λ e. inl e; una = refl; fin = refl; expected = refl; made = λ e. absurd (cc) }) (λ t. tt))))))

again_gone : (s : EndState) → Sound s → s.una < s.next → given_end s ≤ s.una → fin_gone s.phase ≡ true
again_gone s sound sent past = by_bool (fin_gone s.phase ≡ true) (fin_gone s.phase) (λ e. e) (λ e. let low = sound.unfinished e in absurd (omega arith))

resend_told : (s : EndState) (most : ℕ) → Sound s → MayTell s (to_resend s most)
unfolding to_resend
resend_told s most sound =
    let P = MayTell s in
    choose P (is_syn_sent s.phase && nat_lt s.isn s.next) (Some (syn_draft s s)) _ (λ t. record { gone = λ e. e; last = λ e. inl e; una = refl; fin = refl; expected = refl; made = λ e. absurd (cc) }) (λ e1.
    choose P (is_syn_received s.phase && nat_lt s.isn s.next) (Some (syn_ack_draft s s)) _ (λ t. record { gone = λ e. e; last = λ e. inl e; una = refl; fin = refl; expected = refl; made = λ e. absurd (cc) }) (λ e2.
    choose P (resends s.phase && nat_lt s.una s.next) (Some (unacknowledged s most)) _
    (λ t. let sent = lt_is s.una s.next (and_tells (resends s.phase) (nat_lt s.una s.next) t).1 in
    choose (DraftTold s) (nat_lt s.una (given_end s)) (again_draft s (min (s.next - s.una) most)) (fin_again_draft s)
    (λ g. record { gone = λ e. e; last = λ e. inl e; una = refl; fin = refl; expected = refl; made = λ e. absurd (cc) })
    (λ g. let gone = again_gone s sound sent (lt_not s.una (given_end s) g) in record { gone = λ e. e; last = λ e. inl e; una = refl; fin = refl; expected = refl; made = λ e. gone })) (λ e3.
    choose P (is_blocked s) (probe s) None
    (λ t. let on = (and_tells (is_sending s.phase) (s.una == s.next) (and_tells (is_sending s.phase && (s.una == s.next)) (s.send_window == 0) t).0).0 in
    choose P (nat_lt 0 (unsent s)) (Some (data_draft s 1)) _ (λ g. record { gone = λ e. e; last = λ e. inl e; una = refl; fin = refl; expected = refl; made = λ e. absurd (cc) })
    (λ g. choose P s.closing (Some (fin_draft s)) None (λ c. fin_told s on) (λ c. tt)))
    (λ t. tt))))

ack_low : (b : Bool) (x a : ℕ) → (if b then Some x else None) ≡ Some a → x ≤ a
ack_low true x a e = let same = some_is x a e in omega arith
ack_low false x a e = absurd (cc)

made_same : (m n : Made) → Some (Making m) ≡ Some (Making n) → m ≡ n
made_same m n e = cc

module _ (setup : Setup) (e : End) (w : World) (s : EndState) (without : Outcome) where
  sealed_told : (pair : Pair) (out : Draft) (sending : Sending) (o : Option (List ℕ)) → DraftTold s out → ActTold setup e s (sent (view_of setup w e) s without (seal_known pair s out sending o))
  sealed_told pair out sending None h = still_told setup e s s false without (λ g. g) (λ g. g) refl refl
  sealed_told pair out sending (Some c) h =
      let em = sealed pair s out sending c in
      let made = made_of (view_of setup w e) s em in
      let una = h.una in
      let expected = h.expected in
      record {
        gone = h.gone;
        last = h.last;
        una = omega arith;
        fins = λ f is. inl (sym h.fin ∙ is);
        made = λ m is.
            subst (λ (x : Made). has FIN x.emission.segment ≡ true → (fin_gone out.state.phase ≡ true) × ((a : ℕ) → x.emission.acknowledged ≡ Some a → out.state.expected ≤ a)) (made_same made m is)
            (λ fin. (h.made fin, λ a told. let low = ack_low (sets out.flags ACK) s.expected a told in omega arith));
      }

  keyed_told : (pair : Pair) (sending : Sending) (o : Option Draft) → MayTell s o → ActTold setup e s (sent (view_of setup w e) s without (keyed pair s sending o))
  keyed_told pair sending None h = still_told setup e s s false without (λ g. g) (λ g. g) refl refl
  keyed_told pair sending (Some out) h = sealed_told pair out sending (context_of (blank pair s out sending) (Some s.isn) s.peer_isn) h

  emitted_told : (pair : Pair) (draft : ℕ → Option Draft) (o : Option Sending) → ((m : ℕ) → MayTell s (draft m)) → ActTold setup e s (sent (view_of setup w e) s without (emitted pair s draft o))
  emitted_told pair draft None h =
      choose (λ (x : Emitted). ActTold setup e s (sent (view_of setup w e) s without x)) (is_some (draft 0)) NoKey Quiet (λ t. still_told setup e s s false _ (λ g. g) (λ g. g) refl refl) (λ t. still_told setup e s s false without (λ g. g) (λ g. g) refl refl)
  emitted_told pair draft (Some sending) h = keyed_told pair sending (draft (most_bytes pair s sending)) (h (most_bytes pair s sending))

pub send_told : (setup : Setup) (e : End) (w : World) (s : EndState) → ActTold setup e s (send (view_of setup w e) s)
send_told setup e w s =
    subst (λ (x : Emitted). ActTold setup e s (sent (view_of setup w e) s Idle x)) (sym (emit_by_drafts (side w e).rows (pair_of setup e) (side w e).clock s))
    (emitted_told setup e w s Idle (pair_of setup e) (to_emit s) (choose_row s.current (side w e).rows (pair_of setup e) (side w e).clock) (λ m. emit_told s m))

pub again_told : (setup : Setup) (e : End) (w : World) (s : EndState) → Sound s → ActTold setup e s (send_again (view_of setup w e) s)
again_told setup e w s sound =
    subst (λ (x : Emitted). ActTold setup e s (sent (view_of setup w e) s Nothing x)) (sym (resend_by_drafts (side w e).rows (pair_of setup e) (side w e).clock s))
    (emitted_told setup e w s Nothing (pair_of setup e) (to_resend s) (choose_row s.current (side w e).rows (pair_of setup e) (side w e).clock) (λ m. resend_told s m sound))

-- ---- an arrival

unmoved_told : (setup : Setup) (e : End) (w : World) (bytes : List ℕ) (s : EndState) (r : Arrived) → r.state ≡ s → ActTold setup e s (came bytes (view_of setup w e) s r)
unmoved_told setup e w bytes s r same =
    record {
      gone = λ g. ap (λ (t : EndState). fin_gone t.phase) same ∙ g;
      last = λ l. inl (sym (ap (λ (t : EndState). t.phase) same) ∙ l);
      una = (let una : r.state.una ≡ s.una = ap (λ (t : EndState). t.una) same in omega arith);
      fins = λ f is. inl (sym (ap (λ (t : EndState). t.fin) same) ∙ is);
      made = λ m is. absurd (cc);
    }

-- what is known of each pass of these bytes
abbrev Passes : Pair → EndState → List ℕ → Arrived → Type 0
Passes pair s bytes r = (p : Finding) → r.passed ≡ Some p → Passing pair s bytes p

judged_told : (setup : Setup) (e : End) (w : World) (bytes : List ℕ) (s : EndState) (d : Segment) (j : Judgement) → reading bytes ≡ Read d → Fit s
    → Passes (pair_of setup e) s bytes (arrive_judged (side w e).rows (pair_of setup e) (side w e).clock s d j) → ActTold setup e s (came bytes (view_of setup w e) s (arrive_judged (side w e).rows (pair_of setup e) (side w e).clock s d j))
judged_told setup e w bytes s d (Err why) reads fit passes = unmoved_told setup e w bytes s (arrive_judged (side w e).rows (pair_of setup e) (side w e).clock s d (Err why)) refl
judged_told setup e w bytes s d (Ok p) reads fit passes =
    let rows = (side w e).rows in
    let pair = pair_of setup e in
    let now = (side w e).clock in
    let c = follow s.current rows pair p.rnext_key_id now in
    let on : Onward s (after_check pair s (following c s) d p.number now s.phase).state d = check_on pair s c d p.number now s.phase refl fit.start in
    let g = passes p refl in
    let same : g.segment ≡ d = segment_is g.segment d (sym g.reads ∙ reads) in
    record {
      gone = on.gone;
      last = λ l. inl (on.last l);
      una = on.una;
      fins = λ f is.
          ⊎_elim (λ (x : s.fin ≡ Some f). inl x)
          (λ (x : (has SYN d ≡ false) × (has FIN d ≡ true) × (has ACK d ≡ true) × Reaches (after_check pair s (following c s) d p.number now s.phase).state (meant d.acknowledgement s.una)).
          inr (d, p.number, (refl, p, refl, g, same, refl), x.0, x.1, x.2, x.3))
          (on.fins f is);
      made = λ m is. absurd (cc);
    }

read_told : (setup : Setup) (e : End) (w : World) (bytes : List ℕ) (s : EndState) (r : Reading) → reading bytes ≡ r → Fit s → Passes (pair_of setup e) s bytes (arrive_read (side w e).rows (pair_of setup e) (side w e).clock s r)
    → ActTold setup e s (came bytes (view_of setup w e) s (arrive_read (side w e).rows (pair_of setup e) (side w e).clock s r))
read_told setup e w bytes s (Unread fault) reads fit passes = unmoved_told setup e w bytes s (arrive_read (side w e).rows (pair_of setup e) (side w e).clock s (Unread fault)) refl
read_told setup e w bytes s (Read d) reads fit passes =
    let rows = (side w e).rows in
    let pair = pair_of setup e in
    let now = (side w e).clock in
    let j = judged_by rows pair now s d in
    by_tests (from_peer pair d) (good d) (is_closed s.phase) passes
  where
    by_tests : (a b c : Bool) → Passes (pair_of setup e) s bytes (if not a then unmoved s Foreign else (if not b then unmoved s Checksum else (if c then unmoved s AtClosed else arrive_judged (side w e).rows (pair_of setup e) (side w e).clock s d (judged_by (side w e).rows (pair_of setup e) (side w e).clock s d))))
        → ActTold setup e s (came bytes (view_of setup w e) s (if not a then unmoved s Foreign else (if not b then unmoved s Checksum else (if c then unmoved s AtClosed else arrive_judged (side w e).rows (pair_of setup e) (side w e).clock s d (judged_by (side w e).rows (pair_of setup e) (side w e).clock s d)))))
    by_tests false b c passes = unmoved_told setup e w bytes s (unmoved s Foreign) refl
    by_tests true false c passes = unmoved_told setup e w bytes s (unmoved s Checksum) refl
    by_tests true true true passes = unmoved_told setup e w bytes s (unmoved s AtClosed) refl
    by_tests true true false passes = judged_told setup e w bytes s d (judged_by (side w e).rows (pair_of setup e) (side w e).clock s d) reads fit passes

arrive_told : (setup : Setup) (e : End) (w : World) (bytes : List ℕ) (s : EndState) → Fit s → Passes (pair_of setup e) s bytes (arrive (side w e).rows (pair_of setup e) (side w e).clock s (reading bytes))
    → ActTold setup e s (came bytes (view_of setup w e) s (arrive (side w e).rows (pair_of setup e) (side w e).clock s (reading bytes)))
arrive_told setup e w bytes s fit passes =
    let same = read_by_cases (side w e).rows (pair_of setup e) (side w e).clock s (reading bytes) in
    subst (λ (a : Arrived). ActTold setup e s (came bytes (view_of setup w e) s a)) same (read_told setup e w bytes s (reading bytes) refl fit (subst (λ (a : Arrived). Passes (pair_of setup e) s bytes a) (sym same) passes))

pub come_told : (setup : Setup) (e : End) (w : World) (bytes : List ℕ) (s : EndState) → AreBytes bytes → Sound s → Whole s → Fit s → ActTold setup e s (come bytes (view_of setup w e) s)
come_told setup e w bytes s all sound whole fit =
    arrive_told setup e w bytes s fit (arrive_ok (side w e).rows (pair_of setup e) (side w e).clock s bytes all sound whole).passing

-- ---- a FIN that comes was told

find_if : (P : Session → Type 0) (s t : Session) (o : Option Session) (b : Bool) → P s → (o ≡ Some t → P t) → (if b then Some s else o) ≡ Some t → P t
find_if P s t o true h more e = subst P (some_is s t e) h
find_if P s t o false h more e = more e

find_all : (P : Session → Type 0) (sessions : List Session) (isn : ℕ) (t : Session) → AllByRecursion P sessions → find sessions isn ≡ Some t → P t
find_all P [] isn t h e = absurd (cc)
find_all P (s ∷ rest) isn t h e = find_if P s t (find rest isn) (s.state.isn == isn) h.0 (λ f. find_all P rest isn t h.1 f) e

told_among : (w : World) (m : Made) (history : List Happening) → AllTells w history → IsAmong m history → has FIN m.emission.segment ≡ true → TellsOf (side w m.maker).sessions m
told_among w m [] h among fin = absurd among
told_among w m (Making k ∷ past) h (inl same) fin = subst (λ (x : Made). has FIN x.emission.segment ≡ true → TellsOf (side w x.maker).sessions x) same h.0 fin
told_among w m (Making k ∷ past) h (inr among) fin = told_among w m past h.1 among fin
told_among w m (Coming r ∷ past) h among fin = told_among w m past h among fin

-- the partner expects at most the number after all bytes and the FIN
expects_low : (sessions : List Session) (s : Session) (rest : List Session) (t : EndState) → sessions ≡ s ∷ rest → t.peer_isn ≡ Some s.state.isn → Whole t → Received sessions t → t.expected ≤ given_end s.state + 1
expects_low sessions s rest t is knows whole from =
    by_fin t.fin refl
  where
    own : find (s ∷ rest) s.state.isn ≡ Some s
    own = find_own s rest (s.state.isn == s.state.isn) refl

    of : (P : EndState → Type 0) → OfPartner sessions t P → P s.state
    of P o =
        let same : o.peer ≡ s.state.isn = some_is o.peer s.state.isn (sym o.knows ∙ knows) in
        let found : find (s ∷ rest) s.state.isn ≡ Some o.session = subst (λ (k : ℕ). find (s ∷ rest) k ≡ Some o.session) same (subst (λ (l : List Session). find l o.peer ≡ Some o.session) is o.found) in
        subst (λ (x : Session). P x.state) (some_is o.session s (sym found ∙ own)) o.what

    start : first t.peer_isn ≡ s.state.isn + 1
    start = ap first knows

    by_fin : (o : Option ℕ) → t.fin ≡ o → t.expected ≤ given_end s.state + 1
    by_fin (Some f) e = let at = (of (λ u. FinMade u f) (from.fins f e)).1 in let high = whole.stream.fin_high f e in omega arith
    by_fin None e =
        let limit = limit_none t.fin t.expected e in
        let begin = start in
        ⊎_elim (λ (x : t.expected < s.state.isn + 2). omega arith)
        (λ (x : s.state.isn + 2 ≤ t.expected).
        let byte = whole.stream.filled (t.expected - 1) (omega arith) (omega arith) in
        let h = of (λ u. GivenAt u (t.expected - 1) byte.0) (from.bytes (t.expected - 1) byte.0 byte.1) in
        let inside = slice_get_within s.state.given h.0 byte.0 h.2 in
        let at = h.1 in
        omega arith)
        (or_lt t.expected (s.state.isn + 2))

ack_is : (b : Bool) (x : ℕ) → b ≡ true → (if b then Some x else None) ≡ Some x
ack_is true x e = refl
ack_is false x e = absurd (cc)

field_is : (b : Bool) (x : ℕ) → b ≡ true → (if b then x else 0) ≡ x
field_is true x e = refl
field_is false x e = absurd (cc)

reached : (u : EndState) (o : Option ℕ) (a : ℕ) → o ≡ Some a → Reaches u o → a ≤ u.una
reached u None a e h = absurd (cc)
reached u (Some k) a e h = let same = some_is k a e in omega arith

module _ (setup : Setup) (fits : SetupFits setup) (w : World) (e : End) (inv : Inv setup w) (h : Heard w) (telling : Telling w) (s : Session) (rest : List Session) (is : (side w e).sessions ≡ s ∷ rest) (fit : Fit s.state) (sound : Sound s.state) (whole : Whole s.state) where
  -- the partner is settled by what is acknowledged now
  came_settled : (u : EndState) (r : Came) (d : Segment) (n : ℕ) (p : Finding) → forgeries (Coming r ∷ w.history) ≡ 0 → length s.state.given < 2 ^ 31 → r.at ≡ e → r.passed ≡ Some p → (g : Passing (pair_of setup e) s.state r.bytes p) → g.segment ≡ d
      → has SYN d ≡ false → has FIN d ≡ true → has ACK d ≡ true → Reaches u (meant d.acknowledgement s.state.una) → OfPartner (side w (other e)).sessions s.state (λ t. IsSettledBy t u.una)
  came_settled u r d n p none few at passed g segment plain fin ack reaches =
      let o = passed_origin setup w e s.state r p fits inv sound none at passed g in
      let m = o.made in
      let by = o.by in
      let flags : by.draft.flags ≡ d.flags = o.flags ∙ ap (λ (x : Segment). x.flags) segment in
      let l = o.linked (ap (λ (x : Segment). has SYN x) segment ∙ plain) in
      let q = l.0 in
      let found = l.2 in
      let back = l.3 in
      let made_fin : has FIN m.emission.segment ≡ true = ap (λ (k : ℕ). (k / 1) % 2 == 1) (o.repeats.flags ∙ ap (λ (x : Segment). x.flags) segment) ∙ fin in
      let tell = told_among w m w.history telling.tells o.among made_fin in
      let isn : m.isn ≡ q = sym by.isn ∙ sym by.later.same_isn ∙ find_isn (side w (other e)).sessions q o.session found in
      let tell_found : find (side w (other e)).sessions q ≡ Some tell.session =
      subst (λ (k : ℕ). find (side w (other e)).sessions k ≡ Some tell.session) isn (subst (λ (f : End). find (side w f).sessions m.isn ≡ Some tell.session) o.maker tell.found) in
      let same : tell.session ≡ o.session = some_is tell.session o.session (sym tell_found ∙ found) in
      let t = o.session.state in
      let a = by.state.expected in
      let made_ack : sets by.draft.flags ACK ≡ true = ap (λ (k : ℕ). (k / 16) % 2 == 1) flags ∙ ack in
      let acknowledged : m.emission.acknowledged ≡ Some a = ap (λ x. x.acknowledged) by.emission ∙ ack_is (sets by.draft.flags ACK) a made_ack in
      let field : d.acknowledgement ≡ a % ring =
      sym (ap (λ (x : Segment). x.acknowledgement) segment) ∙ sym o.repeats.acknowledgement ∙ ap (λ x. x.segment.acknowledgement) by.emission ∙ field_is (sets by.draft.flags ACK) (a % ring) made_ack in
      let up = by.later.up in
      let made_plain : sets by.draft.flags SYN ≡ false = ap (λ (k : ℕ). (k / 2) % 2 == 1) flags ∙ plain in
      let told = plain_context _ (Some by.state.isn) by.state.peer_isn by.context made_plain by.known in
      let knows : by.state.peer_isn ≡ Some told.1 = told.3 in
      let low = stream_low by.state.peer_isn by.state.taken by.state.received by.state.fin by.state.expected by.whole.stream in
      let start : first by.state.peer_isn ≡ told.1 + 1 = ap first knows in
      let own : told.1 ≡ s.state.isn = some_is told.1 s.state.isn (sym (by.later.peer told.1 knows) ∙ back) in
      let clean = fewer_forgeries (Some (Coming r)) w.history none in
      let t_whole = find_all (λ (x : Session). Whole x.state) (side w (other e)).sessions q o.session (inv.whole (other e)) found in
      let t_from = find_all (λ (x : Session). Received (side w (other (other e))).sessions x.state) (side w (other e)).sessions q o.session (h.origin clean (other e)) found in
      let t_here : Received (side w e).sessions t = forth_again (λ (f : End). Received (side w f).sessions t) e t_from in
      let high = expects_low (side w e).sessions s rest t is back t_whole t_here in
      let room = fit.room in
      let una_low = whole.ends.una_low in
      let una_high = whole.ends.una_high in
      let next_high = sound.next_high in
      let means : meant d.acknowledgement s.state.una ≡ Some a = ap (λ (k : ℕ). meant k s.state.una) field ∙ meant_near a s.state.una (omega arith) (omega arith) in
      let reach = reached u (meant d.acknowledgement s.state.una) a means reaches in
      let what : IsSettledBy t u.una = (
        ap (λ (x : Session). fin_gone x.state.phase) (sym same) ∙ tell.gone,
        λ last. let le = tell.told (ap (λ (x : Session). x.state.phase) same ∙ last) a acknowledged in
            let x : tell.session.state.expected ≡ t.expected = ap (λ (x : Session). x.state.expected) same in omega arith,
      ) in
      record { peer = q; knows = l.1; session = o.session; found = found; back = back; what = what }

  passed_settled : (u : EndState) (happened : Option Happening) (d : Segment) (n : ℕ) → forgeries (add happened w.history) ≡ 0 → length s.state.given < 2 ^ 31 → HasPassed setup e s.state happened d n
      → has SYN d ≡ false → has FIN d ≡ true → has ACK d ≡ true → Reaches u (meant d.acknowledgement s.state.una) → OfPartner (side w (other e)).sessions s.state (λ t. IsSettledBy t u.una)
  passed_settled u None d n none few passed plain fin ack reaches = absurd passed
  passed_settled u (Some (Making m)) d n none few passed plain fin ack reaches = absurd passed
  passed_settled u (Some (Coming r)) d n none few (at, p, passed, g, segment, number) plain fin ack reaches = came_settled u r d n p none few at passed g segment plain fin ack reaches

  head_told : (act : Act) → ActTold setup e s.state act → Later s.state act.state → forgeries (add act.happened w.history) ≡ 0 → length act.state.given < 2 ^ 31 → FinTold (side w (other e)).sessions s.state
      → FinTold (side w (other e)).sessions act.state
  head_told act told later none few old f is_fin =
      let others = (side w (other e)).sessions in
      let longer = length-append s.state.given later.grown.0 in
      let same : length act.state.given ≡ length (s.state.given ++ later.grown.0) = ap length later.grown.1 in
      let up = told.una in
      of-later others s.state act.state (λ t. IsSettledBy t act.state.una) later
      (⊎_elim
      (λ (x : s.state.fin ≡ Some f).
      of-map others s.state (λ t. IsSettledBy t s.state.una) (λ t. IsSettledBy t act.state.una) (λ t back k. (k.0, λ last. let low = k.1 last in omega arith)) (old f x))
      (λ (x : (d : Segment) × (n : ℕ) × HasPassed setup e s.state act.happened d n × (has SYN d ≡ false) × (has FIN d ≡ true) × (has ACK d ≡ true) × Reaches act.state (meant d.acknowledgement s.state.una)).
      passed_settled act.state act.happened x.0 x.1 none (omega arith) x.2 x.3 x.4 x.5 x.6)
      (told.fins f is_fin))

-- ---- the steps

-- how the session goes on at a call
onto_act : (setup : Setup) (e : End) (s : EndState) (act : Act) → ActTold setup e s act → ActOk setup e s act → Fit s → Onto s act.state
onto_act setup e s act told ok fit =
    record {
      gone = told.gone;
      last = λ l.
          ⊎_elim
          (λ (x : s.phase ≡ LastAck).
          let f = passed_is s.fin s.expected (fit.past (ap is_past x)) in
          let kept = ok.later.ended f.0 f.1 in
          let high = ok.whole.stream.fin_high f.0 kept in
          let low = f.2 in
          let le : act.state.expected ≤ s.expected = omega arith in inl (x, le))
          (λ (x : fin_gone s.phase ≡ false). inr x) (told.last l);
    }

new_tells : (setup : Setup) (e : End) (s : Session) (rest : List Session) (act : Act) → ActTold setup e s.state act → ActOk setup e s.state act → NewTells e (acted s act ∷ rest) act.happened
new_tells setup e s rest act told ok = by_happened act.happened refl
  where
    u : Session
    u = acted s act

    by_happened : (o : Option Happening) → act.happened ≡ o → NewTells e (acted s act ∷ rest) o
    by_happened None is = tt
    by_happened (Some (Coming r)) is = tt
    by_happened (Some (Making m)) is =
        let new : NewBy setup e act.state (Some (Making m)) = subst (λ (o : Option Happening). NewBy setup e act.state o) is ok.made in
        let by = new.1 in
        let isn : act.state.isn ≡ m.isn = by.later.same_isn ∙ by.isn in (
          new.0,
          λ fin.
              let r = told.made m is fin in
              record {
                session = u;
                found = subst (λ (n : ℕ). find (u ∷ rest) n ≡ Some u) isn (find_own u rest (u.state.isn == u.state.isn) refl);
                gone = r.0;
                told = λ last a e2. r.1 a e2;
              },
        )

pub act_telling : (setup : Setup) (fits : SetupFits setup) (w : World) (e : End) (sessions : List Session) (call : EndState → Act) → (side w e).sessions ≡ sessions → Inv setup w → Heard w → AllFits w
    → ((s : EndState) → Sound s → Whole s → Fit s → ActOk setup e s (call s)) → ((s : EndState) → Sound s → Whole s → Fit s → ActTold setup e s (call s)) → Telling w → Telling (act_on w e sessions call).world
act_telling setup fits w e [] call is inv h fit ok told telling = telling
act_telling setup fits w e (s ∷ rest) call is inv h fit ok told telling =
    let sound : AllSound (s ∷ rest) = subst AllSound is (inv.sound e) in
    let whole : AllWhole (s ∷ rest) = subst AllWhole is (inv.whole e) in
    let fits_all : AllFit (s ∷ rest) = subst AllFit is (fit e) in
    let act = call s.state in
    let done = ok s.state sound.0 whole.0 fits_all.0 in
    let tells = told s.state sound.0 whole.0 fits_all.0 in
    let u = acted s act in
    let onto = onto_act setup e s.state act tells done fits_all.0 in
    let grows : OntoGrows (side w e).sessions (u ∷ rest) = subst (λ (l : List Session). OntoGrows l (u ∷ rest)) (sym is) (onto_head s u rest done.later onto) in
    put_telling w e (with_sessions (side w e) (u ∷ rest)) act.happened telling grows
    (λ all. subst Few (sym is) (few_back s.state act.state done.later all.0, all.1))
    (new_tells setup e s rest act tells done)
    (λ none all old.
    let before : AllFinTold (side w (other e)).sessions (s ∷ rest) = subst (AllFinTold (side w (other e)).sessions) is old in
    (head_told setup fits w e inv h telling s rest is fits_all.0 sound.0 whole.0 act tells done.later none all.0 before.0, before.1))
  where
    few_back : (s u : EndState) → Later s u → length u.given < 2 ^ 31 → length s.given < 2 ^ 31
    few_back s u l few =
        let longer = length-append s.given l.grown.0 in
        let same : length u.given ≡ length (s.given ++ l.grown.0) = ap length l.grown.1 in
        omega arith

pub quiet_telling : (w : World) (e : End) (now : LinkSide) → now.sessions ≡ (side w e).sessions → Telling w → Telling (put w e now None)
quiet_telling w e now same telling =
    put_telling w e now None telling
    (λ isn t f. onto_grows_refl now.sessions isn t (ap (λ (l : List Session). find l isn) same ∙ f))
    (λ all. subst Few same all) tt (λ none all old. subst (AllFinTold (side w (other e)).sessions) (sym same) old)

pub new_telling : (w : World) (e : End) (s : EndState) (o : Option Session) → find (side w e).sessions s.isn ≡ o → s.fin ≡ None → Telling w → Telling (begin w e s o).world
new_telling w e s (Some used) is no_fin telling = telling
new_telling w e s None is no_fin telling =
    let u : Session = record { state = s; end_shown = false } in
    put_telling w e (with_sessions (side w e) (u ∷ (side w e).sessions)) None telling (onto_new u (side w e).sessions is) (λ all. all.1) tt (λ none all old. (λ f e2. absurd (cc), old))

-- the clock
tick_gone : (s : EndState) (now : ℕ) (phase : Phase) → (fin_gone s.phase ≡ true → fin_gone (tick_in phase now s).phase ≡ true) × ((tick_in phase now s).phase ≡ LastAck → s.phase ≡ LastAck)
tick_gone s now TimeWait = choose (λ (t : EndState). (fin_gone s.phase ≡ true → fin_gone t.phase ≡ true) × (t.phase ≡ LastAck → s.phase ≡ LastAck)) (is_due s.deadline now) (record s { phase = Closed }) s (λ e. (λ g. refl, λ l. absurd (cc))) (λ e. (λ g. g, λ l. l))
tick_gone s now _ = (λ g. g, λ l. l)

clock_if : (w : World) (e : End) (seconds : ℕ) (sessions : List Session) → (side w e).sessions ≡ sessions → Telling w → Telling (put w e (record { clock = seconds; rows = (side w e).rows; sessions = ticked seconds sessions }) None)
clock_if w e seconds [] is telling = quiet_telling w e (record { clock = seconds; rows = (side w e).rows; sessions = [] }) (sym is) telling
clock_if w e seconds (s ∷ rest) is telling =
    let u : Session = record { state = tick seconds s.state; end_shown = s.end_shown } in
    let half = ticks s.state seconds in
    let l = tick_later s.state seconds in
    let g = tick_gone s.state seconds s.state.phase in
    let x = half.same_expected in
    let onto : Onto s.state u.state = record { gone = g.0; last = λ last. let le : u.state.expected ≤ s.state.expected = omega arith in inl (g.1 last, le) } in
    let longer = length-append s.state.given l.grown.0 in
    let same : length u.state.given ≡ length (s.state.given ++ l.grown.0) = ap length l.grown.1 in
    let una : u.state.una ≡ s.state.una = half.same_una in
    put_telling w e (record { clock = seconds; rows = (side w e).rows; sessions = u ∷ rest }) None telling
    (subst (λ (k : List Session). OntoGrows k (u ∷ rest)) (sym is) (onto_head s u rest l onto))
    (λ all. let low = all.0 in let back : length s.state.given < 2 ^ 31 = omega arith in subst Few (sym is) (back, all.1)) tt
    (λ none all old.
    let before : AllFinTold (side w (other e)).sessions (s ∷ rest) = subst (AllFinTold (side w (other e)).sessions) is old in (
      λ f e2.
          of-later (side w (other e)).sessions s.state u.state (λ t. IsSettledBy t u.state.una) l
          (of-map (side w (other e)).sessions s.state (λ t. IsSettledBy t s.state.una) (λ t. IsSettledBy t u.state.una) (λ t back k. (k.0, λ last. let low = k.1 last in omega arith)) (before.0 f (sym half.same_fin ∙ e2))),
      before.1,
    ))

pub clock_telling : (w : World) (e : End) (seconds : ℕ) → Telling w → Telling (put w e (with_clock (side w e) seconds) None)
clock_telling w e seconds telling = clock_if w e seconds (side w e).sessions refl telling
