-- A session in a phase past the peer's FIN has recorded that FIN; and what an end makes closes no end.
use Rattle.std.proofs.Common.{◌≡◌, ℕ, ◌+◌, ◌-◌, ◌%◌, ◌==◌, nat_lt, nat_le, min, Bool, true, false, not, ◌&&◌, ◌||◌, List, length, Option, Some, None, refl, sym, Ok, Err, subst}
use Rattle.book_base.specs.declared.address.Pair.{Pair}
use Rattle.book_segments.specs.Bytes.{ring}
use Rattle.book_segments.specs.Meant.{meant}
use Rattle.book_segments.specs.Received.{keep, first_missing, runs, below_limit}
use Rattle.book_segments.specs.Segments.{Segment, Reading, Read, Bad as Unread, good, has, segment_length, ACK, FIN, RST, SYN}
use Rattle.book_keys.specs.Rows.{Row}
use Rattle.book_endpoint.specs.declared.arrival.Arrival.TheVariants.{Foreign, Checksum, Closed as AtClosed, Unexpected, Challenge, NoAck, BadAck}
use Rattle.book_endpoint.specs.declared.phase.Phase.{Phase}
use Rattle.book_endpoint.specs.declared.phase.Phase.TheVariants.{Listen, SynSent, SynReceived, Established, FinWait1, CloseWait, Closing, LastAck, TimeWait}
use Rattle.book_endpoint.specs.States.{EndState, window, hears, is_closed}
use Rattle.book_endpoint.specs.Verdicts.{Judgement}
use Rattle.book_endpoint.specs.Arrivals.{Arrived, syn_alone, syn_ack_alone, unmoved, heard, judged_by, from_peer, arrive}
use Rattle.book_endpoint.specs.Hearing.{Moved, answered, owing, above, fits_window, rested, finish, past_fin, pass_fin, fin_of, records_fin, after_own_fin, acked_fin, windowed, acked}
use Rattle.endpoint_steps.specs.Arriving.{heard_runs, hear_data, go_on, acknowledged, reset, ordinary, after_check, arrive_judged, arrive_read}
use Rattle.endpoint_steps.proofs.Arriving.{read_by_cases}
use Rattle.law_link.proofs.Tests.{choose}
use Rattle.std.specs.Prelude.{⊤, is_some}
use Rattle.book_macs.specs.Contexts.{context_of}
use Rattle.book_keys.specs.Coordination.{Sending, choose as choose_row}
use Rattle.book_endpoint.specs.States.{given_end}
use Rattle.book_endpoint.specs.Emissions.{Draft, Emitted, Quiet, NoKey, Emits, is_silent, is_syn_sent, is_syn_received, unsent, rst_draft, syn_draft, syn_ack_draft, data_draft, again_draft, fin_draft, fin_again_draft, ack_draft, sends_data, sends_fin, fin_sent, fitting, resends, is_blocked, most_bytes, blank, seal_known, emit, resend}
use Rattle.endpoint_steps.specs.Drafting.{to_emit, unacknowledged, probe, to_resend, keyed, emitted}
use Rattle.endpoint_steps.proofs.Drafting.{emit_by_drafts, resend_by_drafts}

-- the phases past the peer's FIN
abbrev pub is_past : Phase → Bool
is_past CloseWait = true
is_past Closing = true
is_past LastAck = true
is_past TimeWait = true
is_past _ = false

-- there the FIN is recorded
abbrev pub Past : EndState → Type 0
Past s = is_past s.phase ≡ true → (f : ℕ) × (s.fin ≡ Some f)

own_past : (phase : Phase) → is_past (after_own_fin phase) ≡ true → is_past phase ≡ true
own_past FinWait1 e = absurd (cc)
own_past Closing e = refl
own_past LastAck e = absurd (cc)
own_past phase e = e

fin_kept : (o : Option ℕ) (b : Bool) (new : ℕ) → (g : ℕ) × (o ≡ Some g) → (g : ℕ) × (fin_of o b new ≡ Some g)
fin_kept None b new h = let is = h.1 in absurd (cc)
fin_kept (Some g) b new h = (g, refl)

-- ---- an arrival

abbrev Leaves : Moved → Type 0
Leaves m = Past m.state

rested_past : (s : EndState) (now : ℕ) (phase : Phase) (o : Option ℕ) → Past s → Past (rested s now phase o)
rested_past s now TimeWait None h = h
rested_past s now _ _ h = h

finish_leaves : (s : EndState) (now : ℕ) → Past s → Leaves (finish s now)
finish_leaves s now h = rested_past s now s.phase s.deadline h

pass_fin_past : (s : EndState) (o : Option ℕ) → s.fin ≡ o → Past s → Past (pass_fin s o)
pass_fin_past s None is h = h
pass_fin_past s (Some f) is h = choose Past (f == s.expected) (record s { expected = f + 1; phase = past_fin s.phase }) s (λ t e. (f, is)) (λ t. h)

heard_runs_leaves : (s : EndState) (m : ℕ → Option ℕ) (d : Segment) (n now : ℕ) (b : Bool) → Past s → Leaves (heard_runs s m d n now b)
heard_runs_leaves s m d n now true h = h
heard_runs_leaves s m d n now false h =
    let f = n + length d.payload in
    let t : EndState = record s { received = m; fin = fin_of s.fin (records_fin s m d f) f; ack_owed = true; expected = first_missing m s.expected (window s) } in
    finish_leaves (pass_fin t t.fin) now (pass_fin_past t t.fin refl (λ e. fin_kept s.fin (records_fin s m d f) f (h e)))

hear_data_leaves : (s : EndState) (d : Segment) (n now : ℕ) (b : Bool) → Past s → Leaves (hear_data s d n now b)
hear_data_leaves s d n now false h = finish_leaves s now h
hear_data_leaves s d n now true h =
    let high = s.expected + window s in
    let m = keep s.received (record { number = n; bytes = d.payload }) (record { low = s.expected; high = below_limit s.fin high }) in
    let at = first_missing m s.expected (window s) in
    heard_runs_leaves s m d n now (nat_lt 64 (runs m false at (high - at))) h

acked_fin_past : (s : EndState) (a : Option ℕ) → Past s → Past (acked_fin s a)
acked_fin_past s a h =
    choose Past (above a (s.isn + 1 + length s.given)) (record s { phase = after_own_fin s.phase }) s
    (λ t e. h (own_past s.phase e)) (λ t. h)

windowed_past : (s : EndState) (old : ℕ) (d : Segment) (n : ℕ) (a : Option ℕ) → Past s → Past (windowed s old d n a)
windowed_past s old d n None h = h
windowed_past s old d n (Some a) h =
    choose Past (nat_le old a && (nat_lt s.wl1 n || ((s.wl1 == n) && nat_le s.wl2 a))) (record s { send_window = d.window; wl1 = n; wl2 = a }) s (λ t. h) (λ t. h)

acked_past : (s : EndState) (a : Option ℕ) → Past s → Past (acked s a)
acked_past s None h = h
acked_past s (Some a) h = choose Past (nat_lt s.una a) (record s { una = a }) s (λ t. h) (λ t. h)

go_on_leaves : (s : EndState) (old : ℕ) (d : Segment) (n now : ℕ) (a : Option ℕ) → Past s → Leaves (go_on s old d n now a)
go_on_leaves s old d n now a h =
    let t = acked_fin (windowed s old d n a) a in
    hear_data_leaves t d n now (hears t.phase && (nat_lt 0 (length d.payload) || has FIN d)) (acked_fin_past (windowed s old d n a) a (windowed_past s old d n a h))

acknowledged_leaves : (s : EndState) (d : Segment) (n now : ℕ) (a : Option ℕ) (phase : Phase) → Past s → Leaves (acknowledged s d n now a phase)
acknowledged_leaves s d n now a SynReceived h =
    choose Leaves (above a s.una && not (above a s.next)) (go_on (record (acked s a) { phase = Established }) s.una d n now a) (answered s BadAck)
    (λ t. go_on_leaves (record (acked s a) { phase = Established }) s.una d n now a (λ e. absurd (cc))) (λ t. h)
acknowledged_leaves s d n now a _ h =
    choose Leaves (above a s.next) (answered (owing s) BadAck) (go_on (acked s a) s.una d n now a) (λ t. h) (λ t. go_on_leaves (acked s a) s.una d n now a (acked_past s a h))

ordinary_leaves : (s f : EndState) (d : Segment) (n now : ℕ) → Past s → Past f → Leaves (ordinary s f d n now)
ordinary_leaves s f d n now h k =
    choose Leaves (has RST d) (reset s n) _ (λ t. choose Leaves (n == s.expected) _ _ (λ u e. absurd (cc)) (λ u. h)) (λ t.
    choose Leaves (has SYN d) (answered (owing f) Challenge) _ (λ u. k) (λ u.
    choose Leaves (not (has ACK d)) (answered f NoAck) _ (λ v. k) (λ v. acknowledged_leaves f d n now (meant d.acknowledgement f.una) f.phase k)))

after_check_leaves : (pair : Pair) (s f : EndState) (d : Segment) (n now : ℕ) (phase : Phase) → Past s → Past f → Leaves (after_check pair s f d n now phase)
after_check_leaves pair s f d n now Listen h k = choose Leaves (syn_alone d) _ (answered s Unexpected) (λ t e. absurd (cc)) (λ t. h)
after_check_leaves pair s f d n now SynSent h k =
    choose Leaves (not (syn_ack_alone d)) (answered s Unexpected) _ (λ t. h) (λ t.
    choose Leaves (nat_lt s.isn s.next && (d.acknowledgement == (s.isn + 1) % ring)) _ (answered s BadAck) (λ u e. absurd (cc)) (λ u. h))
after_check_leaves pair s f d n now _ h k =
    choose Leaves (fits_window n (segment_length d) s.expected (window s)) (ordinary s f d n now) _ (λ t. ordinary_leaves s f d n now h k)
    (λ t. choose Past (has RST d) s (owing s) (λ u. h) (λ u. h))

judged_past : (rows : List Row) (pair : Pair) (now : ℕ) (s : EndState) (d : Segment) (v : Judgement) → Past s → Past (arrive_judged rows pair now s d v).state
judged_past rows pair now s d (Err why) h = h
judged_past rows pair now s d (Ok p) h = after_check_leaves pair s (heard rows pair now s p.rnext_key_id) d p.number now s.phase h h

read_past : (rows : List Row) (pair : Pair) (now : ℕ) (s : EndState) (r : Reading) → Past s → Past (arrive_read rows pair now s r).state
read_past rows pair now s (Unread fault) h = h
read_past rows pair now s (Read d) h =
    let P = λ (x : Arrived). Past x.state in
    choose P (not (from_peer pair d)) (unmoved s Foreign) _ (λ t. h) (λ t.
    choose P (not (good d)) (unmoved s Checksum) _ (λ u. h) (λ u.
    choose P (is_closed s.phase) (unmoved s AtClosed) _ (λ v. h) (λ v. judged_past rows pair now s d (judged_by rows pair now s d) h)))

pub arrive_past : (rows : List Row) (pair : Pair) (now : ℕ) (s : EndState) (r : Reading) → Past s → Past (arrive rows pair now s r).state
arrive_past rows pair now s r h = subst (λ (a : Arrived). Past a.state) (read_by_cases rows pair now s r) (read_past rows pair now s r h)

-- ---- a segment that is made

past_sent : (phase : Phase) → is_past (fin_sent phase) ≡ true → is_past phase ≡ true
past_sent Established e = absurd (cc)
past_sent CloseWait e = refl
past_sent phase e = e

sent_open : (phase : Phase) → is_closed (fin_sent phase) ≡ true → is_closed phase ≡ true
sent_open Established e = absurd (cc)
sent_open CloseWait e = absurd (cc)
sent_open phase e = e

-- what is made leaves the FIN recorded, and closes no end
abbrev Goes : EndState → EndState → Type 0
Goes s t = (Past s → Past t) × (is_closed t.phase ≡ true → is_closed s.phase ≡ true)

abbrev Drafts : EndState → Option Draft → Type 0
Drafts s None = ⊤
Drafts s (Some out) = Goes s out.state

abbrev pub Emitting : EndState → Emitted → Type 0
Emitting s Quiet = ⊤
Emitting s NoKey = ⊤
Emitting s (Emits out) = (Past s → Past out.state) × (is_closed out.state.phase ≡ true → is_closed s.phase ≡ true)

fin_goes : (s : EndState) → Goes s (fin_draft s).state
fin_goes s = (λ h e. h (past_sent s.phase e), λ e. sent_open s.phase e)

emit_drafts : (s : EndState) (most : ℕ) → Drafts s (to_emit s most)
unfolding to_emit
emit_drafts s most =
    let P = Drafts s in
    choose P s.rst_owed (Some (rst_draft s)) _ (λ t. (λ h. h, λ e. e)) (λ e1.
    choose P (is_syn_sent s.phase && (s.next == s.isn)) (Some (syn_draft s (record s { next = s.isn + 1 }))) _ (λ t. (λ h. h, λ e. e)) (λ e2.
    choose P (is_syn_received s.phase && (s.next == s.isn)) (Some (syn_ack_draft s (record s { next = s.isn + 1 }))) _ (λ t. (λ h. h, λ e. e)) (λ e3.
    choose P (sends_data s) (Some (data_draft s (fitting s most))) _ (λ t. (λ h. h, λ e. e)) (λ e4.
    choose P (sends_fin s) (Some (fin_draft s)) _ (λ t. fin_goes s) (λ e5.
    choose P (s.ack_owed && not (is_silent s.phase)) (Some (ack_draft s)) None (λ t. (λ h. h, λ e. e)) (λ t. tt))))))

resend_drafts : (s : EndState) (most : ℕ) → Drafts s (to_resend s most)
unfolding to_resend
resend_drafts s most =
    let P = Drafts s in
    choose P (is_syn_sent s.phase && nat_lt s.isn s.next) (Some (syn_draft s s)) _ (λ t. (λ h. h, λ e. e)) (λ e1.
    choose P (is_syn_received s.phase && nat_lt s.isn s.next) (Some (syn_ack_draft s s)) _ (λ t. (λ h. h, λ e. e)) (λ e2.
    choose P (resends s.phase && nat_lt s.una s.next) (Some (unacknowledged s most)) _
    (λ t. choose (λ (x : Draft). Goes s x.state) (nat_lt s.una (given_end s)) (again_draft s (min (s.next - s.una) most)) (fin_again_draft s) (λ u. (λ h. h, λ e. e)) (λ u. (λ h. h, λ e. e))) (λ e3.
    choose P (is_blocked s) (probe s) None
    (λ t. choose P (nat_lt 0 (unsent s)) (Some (data_draft s 1)) _ (λ u. (λ h. h, λ e. e)) (λ u. choose P s.closing (Some (fin_draft s)) None (λ v. fin_goes s) (λ v. tt))) (λ t. tt))))

sealed_emitting : (pair : Pair) (s : EndState) (out : Draft) (sending : Sending) (o : Option (List ℕ)) → Goes s out.state → Emitting s (seal_known pair s out sending o)
sealed_emitting pair s out sending None same = tt
sealed_emitting pair s out sending (Some c) same = same

keyed_emitting : (pair : Pair) (s : EndState) (sending : Sending) (o : Option Draft) → Drafts s o → Emitting s (keyed pair s sending o)
keyed_emitting pair s sending None all = tt
keyed_emitting pair s sending (Some out) all = sealed_emitting pair s out sending (context_of (blank pair s out sending) (Some s.isn) s.peer_isn) all

emitted_emitting : (pair : Pair) (s : EndState) (draft : ℕ → Option Draft) (o : Option Sending) → ((most : ℕ) → Drafts s (draft most)) → Emitting s (emitted pair s draft o)
emitted_emitting pair s draft None all = choose (Emitting s) (is_some (draft 0)) NoKey Quiet (λ t. tt) (λ t. tt)
emitted_emitting pair s draft (Some sending) all = keyed_emitting pair s sending (draft (most_bytes pair s sending)) (all (most_bytes pair s sending))

pub emit_goes : (rows : List Row) (pair : Pair) (now : ℕ) (s : EndState) → Emitting s (emit rows pair now s)
emit_goes rows pair now s =
    subst (Emitting s) (sym (emit_by_drafts rows pair now s)) (emitted_emitting pair s (to_emit s) (choose_row s.current rows pair now) (λ most. emit_drafts s most))

pub resend_goes : (rows : List Row) (pair : Pair) (now : ℕ) (s : EndState) → Emitting s (resend rows pair now s)
resend_goes rows pair now s =
    subst (Emitting s) (sym (resend_by_drafts rows pair now s)) (emitted_emitting pair s (to_resend s) (choose_row s.current rows pair now) (λ most. resend_drafts s most))
