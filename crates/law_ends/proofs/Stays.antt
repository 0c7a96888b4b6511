-- What a session's user knows of it stays as it is, whatever comes and whatever is made.
use Rattle.std.proofs.Common.{◌≡◌, ℕ, ◌+◌, ◌-◌, ◌%◌, ◌==◌, min, nat_lt, nat_le, Bool, true, false, not, ◌&&◌, ◌||◌, List, length, Option, Some, None, refl, Ok, Err, subst, sym}
use Rattle.std.specs.Prelude.{⊤, is_some}
use Rattle.book_base.specs.declared.address.Pair.{Pair}
use Rattle.book_segments.specs.Bytes.{ring}
use Rattle.book_segments.specs.Meant.{meant}
use Rattle.book_segments.specs.Received.{keep, first_missing, runs, below_limit}
use Rattle.book_segments.specs.Segments.{Segment, Reading, Read, Bad as Unread, good, has, segment_length, ACK, FIN, RST, SYN}
use Rattle.book_macs.specs.Contexts.{context_of}
use Rattle.book_keys.specs.Rows.{Row}
use Rattle.book_keys.specs.Coordination.{Sending, choose as choose_row}
use Rattle.book_endpoint.specs.declared.arrival.Arrival.TheVariants.{Foreign, Checksum, Closed as AtClosed, Unexpected, Challenge, NoAck, BadAck}
use Rattle.book_endpoint.specs.declared.phase.Phase.{Phase}
use Rattle.book_endpoint.specs.declared.phase.Phase.TheVariants.{Listen, SynSent, SynReceived, Established, TimeWait}
use Rattle.book_endpoint.specs.States.{EndState, window, hears, is_closed, given_end}
use Rattle.book_endpoint.specs.Verdicts.{Judgement}
use Rattle.book_endpoint.specs.Arrivals.{Arrived, syn_alone, syn_ack_alone, unmoved, heard, judged_by, from_peer, arrive}
use Rattle.book_endpoint.specs.Hearing.{Moved, answered, owing, above, fits_window, rested, finish, past_fin, pass_fin, fin_of, records_fin, after_own_fin, acked_fin, windowed, acked}
use Rattle.endpoint_steps.specs.Arriving.{heard_runs, hear_data, go_on, acknowledged, reset, ordinary, after_check, arrive_judged, arrive_read}
use Rattle.book_endpoint.specs.Emissions.{Draft, Emitted, Quiet, NoKey, Emits, is_silent, is_syn_sent, is_syn_received, unsent, rst_draft, syn_draft, syn_ack_draft, data_draft, again_draft, fin_draft, fin_again_draft, ack_draft, sends_data, sends_fin, fitting, resends, is_blocked, most_bytes, blank, seal_known, emit, resend}
use Rattle.endpoint_steps.specs.Drafting.{to_emit, unacknowledged, probe, to_resend, keyed, emitted}
use Rattle.endpoint_steps.proofs.Drafting.{emit_by_drafts, resend_by_drafts}
use Rattle.endpoint_steps.proofs.Arriving.{read_by_cases}
use Rattle.law_link.proofs.Tests.{choose}

-- what the calls of a user alone change
pub record UserPart : Type 0 where
  pub isn : ℕ
  pub given : List ℕ
  pub taken : List ℕ
  pub closing : Bool
  pub aborted : Bool

abbrev pub part_of : EndState → UserPart
part_of s = record { isn = s.isn; given = s.given; taken = s.taken; closing = s.closing; aborted = s.aborted }

-- this is the user's part
abbrev Has : UserPart → EndState → Type 0
Has g s = part_of s ≡ g

abbrev Leaves : UserPart → Moved → Type 0
Leaves g m = part_of m.state ≡ g

-- ---- an arrival

module _ (g : UserPart) where
  rested_has : (s : EndState) (now : ℕ) (phase : Phase) (o : Option ℕ) → Has g s → Has g (rested s now phase o)
  rested_has s now TimeWait None h = h
  rested_has s now _ _ h = h

  finish_leaves : (s : EndState) (now : ℕ) → Has g s → Leaves g (finish s now)
  finish_leaves s now h = rested_has s now s.phase s.deadline h

  pass_fin_has : (s : EndState) (o : Option ℕ) → Has g s → Has g (pass_fin s o)
  pass_fin_has s None h = h
  pass_fin_has s (Some f) h = choose (Has g) (f == s.expected) (record s { expected = f + 1; phase = past_fin s.phase }) s (λ t. h) (λ t. h)

  heard_runs_leaves : (s : EndState) (m : ℕ → Option ℕ) (d : Segment) (n now : ℕ) (b : Bool) → Has g s → Leaves g (heard_runs s m d n now b)
  heard_runs_leaves s m d n now true h = h
  heard_runs_leaves s m d n now false h =
      let f = n + length d.payload in
      let t : EndState = record s { received = m; fin = fin_of s.fin (records_fin s m d f) f; ack_owed = true; expected = first_missing m s.expected (window s) } in
      finish_leaves (pass_fin t t.fin) now (pass_fin_has t t.fin h)

  hear_data_leaves : (s : EndState) (d : Segment) (n now : ℕ) (b : Bool) → Has g s → Leaves g (hear_data s d n now b)
  hear_data_leaves s d n now false h = finish_leaves s now h
  hear_data_leaves s d n now true h =
      let high = s.expected + window s in
      let m = keep s.received (record { number = n; bytes = d.payload }) (record { low = s.expected; high = below_limit s.fin high }) in
      let at = first_missing m s.expected (window s) in
      heard_runs_leaves s m d n now (nat_lt 64 (runs m false at (high - at))) h

  acked_fin_has : (s : EndState) (a : Option ℕ) → Has g s → Has g (acked_fin s a)
  acked_fin_has s a h = choose (Has g) (above a (s.isn + 1 + length s.given)) (record s { phase = after_own_fin s.phase }) s (λ t. h) (λ t. h)

  windowed_has : (s : EndState) (old : ℕ) (d : Segment) (n : ℕ) (a : Option ℕ) → Has g s → Has g (windowed s old d n a)
  windowed_has s old d n None h = h
  windowed_has s old d n (Some a) h =
      choose (Has g) (nat_le old a && (nat_lt s.wl1 n || ((s.wl1 == n) && nat_le s.wl2 a))) (record s { send_window = d.window; wl1 = n; wl2 = a }) s (λ t. h) (λ t. h)

  acked_has : (s : EndState) (a : Option ℕ) → Has g s → Has g (acked s a)
  acked_has s None h = h
  acked_has s (Some a) h = choose (Has g) (nat_lt s.una a) (record s { una = a }) s (λ t. h) (λ t. h)

  go_on_leaves : (s : EndState) (old : ℕ) (d : Segment) (n now : ℕ) (a : Option ℕ) → Has g s → Leaves g (go_on s old d n now a)
  go_on_leaves s old d n now a h =
      let t = acked_fin (windowed s old d n a) a in
      hear_data_leaves t d n now (hears t.phase && (nat_lt 0 (length d.payload) || has FIN d)) (acked_fin_has (windowed s old d n a) a (windowed_has s old d n a h))

  acknowledged_leaves : (s : EndState) (d : Segment) (n now : ℕ) (a : Option ℕ) (phase : Phase) → Has g s → Leaves g (acknowledged s d n now a phase)
  acknowledged_leaves s d n now a SynReceived h =
      choose (Leaves g) (above a s.una && not (above a s.next)) (go_on (record (acked s a) { phase = Established }) s.una d n now a) (answered s BadAck)
      (λ t. go_on_leaves (record (acked s a) { phase = Established }) s.una d n now a (acked_has s a h)) (λ t. h)
  acknowledged_leaves s d n now a _ h =
      choose (Leaves g) (above a s.next) (answered (owing s) BadAck) (go_on (acked s a) s.una d n now a) (λ t. h) (λ t. go_on_leaves (acked s a) s.una d n now a (acked_has s a h))

  ordinary_leaves : (s f : EndState) (d : Segment) (n now : ℕ) → Has g s → Has g f → Leaves g (ordinary s f d n now)
  ordinary_leaves s f d n now h k =
      choose (Leaves g) (has RST d) (reset s n) _ (λ t. choose (Leaves g) (n == s.expected) _ _ (λ u. h) (λ u. h)) (λ t.
      choose (Leaves g) (has SYN d) (answered (owing f) Challenge) _ (λ u. k) (λ u.
      choose (Leaves g) (not (has ACK d)) (answered f NoAck) _ (λ v. k) (λ v. acknowledged_leaves f d n now (meant d.acknowledgement f.una) f.phase k)))

  after_check_leaves : (pair : Pair) (s f : EndState) (d : Segment) (n now : ℕ) (phase : Phase) → Has g s → Has g f → Leaves g (after_check pair s f d n now phase)
  after_check_leaves pair s f d n now Listen h k = choose (Leaves g) (syn_alone d) _ (answered s Unexpected) (λ t. k) (λ t. h)
  after_check_leaves pair s f d n now SynSent h k =
      choose (Leaves g) (not (syn_ack_alone d)) (answered s Unexpected) _ (λ t. h) (λ t.
      choose (Leaves g) (nat_lt s.isn s.next && (d.acknowledgement == (s.isn + 1) % ring)) _ (answered s BadAck) (λ u. k) (λ u. h))
  after_check_leaves pair s f d n now _ h k =
      choose (Leaves g) (fits_window n (segment_length d) s.expected (window s)) (ordinary s f d n now) _ (λ t. ordinary_leaves s f d n now h k)
      (λ t. choose (Has g) (has RST d) s (owing s) (λ u. h) (λ u. h))

-- an arrival leaves the user's part
judged_part : (rows : List Row) (pair : Pair) (now : ℕ) (s : EndState) (d : Segment) (v : Judgement) → part_of (arrive_judged rows pair now s d v).state ≡ part_of s
judged_part rows pair now s d (Err why) = refl
judged_part rows pair now s d (Ok p) = after_check_leaves (part_of s) pair s (heard rows pair now s p.rnext_key_id) d p.number now s.phase refl refl

read_part : (rows : List Row) (pair : Pair) (now : ℕ) (s : EndState) (r : Reading) → part_of (arrive_read rows pair now s r).state ≡ part_of s
read_part rows pair now s (Unread fault) = refl
read_part rows pair now s (Read d) =
    let P = λ (x : Arrived). part_of x.state ≡ part_of s in
    choose P (not (from_peer pair d)) (unmoved s Foreign) _ (λ t. refl) (λ t.
    choose P (not (good d)) (unmoved s Checksum) _ (λ u. refl) (λ u.
    choose P (is_closed s.phase) (unmoved s AtClosed) _ (λ v. refl) (λ v. judged_part rows pair now s d (judged_by rows pair now s d))))

pub arrive_part : (rows : List Row) (pair : Pair) (now : ℕ) (s : EndState) (r : Reading) → part_of (arrive rows pair now s r).state ≡ part_of s
arrive_part rows pair now s r = subst (λ (a : Arrived). part_of a.state ≡ part_of s) (read_by_cases rows pair now s r) (read_part rows pair now s r)

-- ---- a segment that is made

abbrev Drafts : EndState → Option Draft → Type 0
Drafts s None = ⊤
Drafts s (Some out) = part_of out.state ≡ part_of s

-- after a segment, or none, the user's part is as it was
abbrev pub Emitting : EndState → Emitted → Type 0
Emitting s Quiet = ⊤
Emitting s NoKey = ⊤
Emitting s (Emits out) = part_of out.state ≡ part_of s

emit_drafts : (s : EndState) (most : ℕ) → Drafts s (to_emit s most)
unfolding to_emit
emit_drafts s most =
    let P = Drafts s in
    choose P s.rst_owed (Some (rst_draft s)) _ (λ t. refl) (λ e1.
    choose P (is_syn_sent s.phase && (s.next == s.isn)) (Some (syn_draft s (record s { next = s.isn + 1 }))) _ (λ t. refl) (λ e2.
    choose P (is_syn_received s.phase && (s.next == s.isn)) (Some (syn_ack_draft s (record s { next = s.isn + 1 }))) _ (λ t. refl) (λ e3.
    choose P (sends_data s) (Some (data_draft s (fitting s most))) _ (λ t. refl) (λ e4.
    choose P (sends_fin s) (Some (fin_draft s)) _ (λ t. refl) (λ e5.
    choose P (s.ack_owed && not (is_silent s.phase)) (Some (ack_draft s)) None (λ t. refl) (λ t. tt))))))

resend_drafts : (s : EndState) (most : ℕ) → Drafts s (to_resend s most)
unfolding to_resend
resend_drafts s most =
    let P = Drafts s in
    choose P (is_syn_sent s.phase && nat_lt s.isn s.next) (Some (syn_draft s s)) _ (λ t. refl) (λ e1.
    choose P (is_syn_received s.phase && nat_lt s.isn s.next) (Some (syn_ack_draft s s)) _ (λ t. refl) (λ e2.
    choose P (resends s.phase && nat_lt s.una s.next) (Some (unacknowledged s most)) _
    (λ t. choose (λ (x : Draft). part_of x.state ≡ part_of s) (nat_lt s.una (given_end s)) (again_draft s (min (s.next - s.una) most)) (fin_again_draft s) (λ u. refl) (λ u. refl)) (λ e3.
    choose P (is_blocked s) (probe s) None
    (λ t. choose P (nat_lt 0 (unsent s)) (Some (data_draft s 1)) _ (λ u. refl) (λ u. choose P s.closing (Some (fin_draft s)) None (λ v. refl) (λ v. tt))) (λ t. tt))))

sealed_emitting : (pair : Pair) (s : EndState) (out : Draft) (sending : Sending) (o : Option (List ℕ)) → part_of out.state ≡ part_of s → Emitting s (seal_known pair s out sending o)
sealed_emitting pair s out sending None same = tt
sealed_emitting pair s out sending (Some c) same = same

keyed_emitting : (pair : Pair) (s : EndState) (sending : Sending) (o : Option Draft) → Drafts s o → Emitting s (keyed pair s sending o)
keyed_emitting pair s sending None all = tt
keyed_emitting pair s sending (Some out) all = sealed_emitting pair s out sending (context_of (blank pair s out sending) (Some s.isn) s.peer_isn) all

emitted_emitting : (pair : Pair) (s : EndState) (draft : ℕ → Option Draft) (o : Option Sending) → ((most : ℕ) → Drafts s (draft most)) → Emitting s (emitted pair s draft o)
emitted_emitting pair s draft None all = choose (Emitting s) (is_some (draft 0)) NoKey Quiet (λ t. tt) (λ t. tt)
emitted_emitting pair s draft (Some sending) all = keyed_emitting pair s sending (draft (most_bytes pair s sending)) (all (most_bytes pair s sending))

pub emit_emitting : (rows : List Row) (pair : Pair) (now : ℕ) (s : EndState) → Emitting s (emit rows pair now s)
emit_emitting rows pair now s =
    subst (Emitting s) (sym (emit_by_drafts rows pair now s)) (emitted_emitting pair s (to_emit s) (choose_row s.current rows pair now) (λ most. emit_drafts s most))

pub resend_emitting : (rows : List Row) (pair : Pair) (now : ℕ) (s : EndState) → Emitting s (resend rows pair now s)
resend_emitting rows pair now s =
    subst (Emitting s) (sym (resend_by_drafts rows pair now s)) (emitted_emitting pair s (to_resend s) (choose_row s.current rows pair now) (λ most. resend_drafts s most))
