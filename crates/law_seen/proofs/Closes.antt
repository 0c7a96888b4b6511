-- Which arrivals close an end: a reset, or the acknowledgement of the own FIN in LAST-ACK.
use Rattle.std.proofs.Common.{◌≡◌, ℕ, ◌+◌, ◌-◌, ◌%◌, ◌==◌, nat_lt, nat_le, Bool, true, false, not, ◌&&◌, ◌||◌, List, length, Option, Some, None, ◌⊎◌, inl, inr, refl, Ok, Err, subst}
use Rattle.book_base.specs.declared.address.Pair.{Pair}
use Rattle.book_segments.specs.Bytes.{ring}
use Rattle.book_segments.specs.Meant.{meant}
use Rattle.book_segments.specs.Received.{keep, first_missing, runs, below_limit}
use Rattle.book_segments.specs.Segments.{Segment, Reading, Read, Bad as Unread, good, has, segment_length, ACK, FIN, RST, SYN}
use Rattle.book_keys.specs.Rows.{Row}
use Rattle.book_endpoint.specs.declared.arrival.Arrival.{Arrival}
use Rattle.book_endpoint.specs.declared.arrival.Arrival.TheVariants.{Bad, Foreign, Checksum, Closed as AtClosed, Refused, Unexpected, Challenge, NoAck, BadAck, Reset}
use Rattle.book_endpoint.specs.declared.phase.Phase.{Phase}
use Rattle.book_endpoint.specs.declared.phase.Phase.TheVariants.{Listen, SynSent, SynReceived, Established, FinWait1, FinWait2, Closing, LastAck, TimeWait}
use Rattle.book_endpoint.specs.States.{EndState, window, hears, is_closed}
use Rattle.book_endpoint.specs.Verdicts.{Judgement}
use Rattle.book_endpoint.specs.Arrivals.{Arrived, syn_alone, syn_ack_alone, unmoved, heard, judged_by, from_peer, arrive}
use Rattle.book_endpoint.specs.Hearing.{Moved, answered, owing, above, fits_window, rested, finish, past_fin, pass_fin, fin_of, records_fin, after_own_fin, acked_fin, windowed, acked}
use Rattle.endpoint_steps.specs.Arriving.{heard_runs, hear_data, go_on, acknowledged, reset, ordinary, after_check, arrive_judged, arrive_read}
use Rattle.endpoint_steps.proofs.Arriving.{read_by_cases}
use Rattle.law_link.proofs.Tests.{choose}

past_open : (phase : Phase) → is_closed (past_fin phase) ≡ true → is_closed phase ≡ true
past_open Established e = absurd (cc)
past_open FinWait1 e = absurd (cc)
past_open FinWait2 e = absurd (cc)
past_open phase e = e

own_open : (phase : Phase) → is_closed (after_own_fin phase) ≡ true → (is_closed phase ≡ true) ⊎ (phase ≡ LastAck)
own_open FinWait1 e = absurd (cc)
own_open Closing e = absurd (cc)
own_open LastAck e = inr refl
own_open phase e = inl e

either : {Q : Type 0} (P R : Type 0) → (P → Q) → (R → Q) → P ⊎ R → Q
either P R one two (inl p) = one p
either P R one two (inr r) = two r

-- ---- an arrival

module _ (Q : Type 0) where
  -- it is closed only so
  abbrev Open : EndState → Type 0
  Open s = is_closed s.phase ≡ true → Q

  -- and so is one whose own FIN is acknowledged
  abbrev Before : EndState → Type 0
  Before s = Open s × (s.phase ≡ LastAck → Q)

  abbrev Leaves : Moved → Type 0
  Leaves m = is_closed m.state.phase ≡ true → (m.answer ≡ Reset) ⊎ Q

  rested_open : (s : EndState) (now : ℕ) (phase : Phase) (o : Option ℕ) → Open s → Open (rested s now phase o)
  rested_open s now TimeWait None h = h
  rested_open s now _ _ h = h

  finish_leaves : (s : EndState) (now : ℕ) → Open s → Leaves (finish s now)
  finish_leaves s now h = λ e. inr (rested_open s now s.phase s.deadline h e)

  pass_fin_open : (s : EndState) (o : Option ℕ) → Open s → Open (pass_fin s o)
  pass_fin_open s None h = h
  pass_fin_open s (Some f) h = choose Open (f == s.expected) (record s { expected = f + 1; phase = past_fin s.phase }) s (λ t e. h (past_open s.phase e)) (λ t. h)

  heard_runs_leaves : (s : EndState) (m : ℕ → Option ℕ) (d : Segment) (n now : ℕ) (b : Bool) → Open s → Leaves (heard_runs s m d n now b)
  heard_runs_leaves s m d n now true h = λ e. inr (h e)
  heard_runs_leaves s m d n now false h =
      let f = n + length d.payload in
      let t : EndState = record s { received = m; fin = fin_of s.fin (records_fin s m d f) f; ack_owed = true; expected = first_missing m s.expected (window s) } in
      finish_leaves (pass_fin t t.fin) now (pass_fin_open t t.fin h)

  hear_data_leaves : (s : EndState) (d : Segment) (n now : ℕ) (b : Bool) → Open s → Leaves (hear_data s d n now b)
  hear_data_leaves s d n now false h = finish_leaves s now h
  hear_data_leaves s d n now true h =
      let high = s.expected + window s in
      let m = keep s.received (record { number = n; bytes = d.payload }) (record { low = s.expected; high = below_limit s.fin high }) in
      let at = first_missing m s.expected (window s) in
      heard_runs_leaves s m d n now (nat_lt 64 (runs m false at (high - at))) h

  acked_fin_open : (s : EndState) (a : Option ℕ) → Before s → Open (acked_fin s a)
  acked_fin_open s a h =
      choose Open (above a (s.isn + 1 + length s.given)) (record s { phase = after_own_fin s.phase }) s
      (λ t e. either (is_closed s.phase ≡ true) (s.phase ≡ LastAck) h.0 h.1 (own_open s.phase e)) (λ t. h.0)

  windowed_before : (s : EndState) (old : ℕ) (d : Segment) (n : ℕ) (a : Option ℕ) → Before s → Before (windowed s old d n a)
  windowed_before s old d n None h = h
  windowed_before s old d n (Some a) h =
      choose Before (nat_le old a && (nat_lt s.wl1 n || ((s.wl1 == n) && nat_le s.wl2 a))) (record s { send_window = d.window; wl1 = n; wl2 = a }) s (λ t. h) (λ t. h)

  acked_before : (s : EndState) (a : Option ℕ) → Before s → Before (acked s a)
  acked_before s None h = h
  acked_before s (Some a) h = choose Before (nat_lt s.una a) (record s { una = a }) s (λ t. h) (λ t. h)

  go_on_leaves : (s : EndState) (old : ℕ) (d : Segment) (n now : ℕ) (a : Option ℕ) → Before s → Leaves (go_on s old d n now a)
  go_on_leaves s old d n now a h =
      let t = acked_fin (windowed s old d n a) a in
      hear_data_leaves t d n now (hears t.phase && (nat_lt 0 (length d.payload) || has FIN d)) (acked_fin_open (windowed s old d n a) a (windowed_before s old d n a h))

  acknowledged_leaves : (s : EndState) (d : Segment) (n now : ℕ) (a : Option ℕ) (phase : Phase) → Before s → Leaves (acknowledged s d n now a phase)
  acknowledged_leaves s d n now a SynReceived h =
      choose Leaves (above a s.una && not (above a s.next)) (go_on (record (acked s a) { phase = Established }) s.una d n now a) (answered s BadAck)
      (λ t. go_on_leaves (record (acked s a) { phase = Established }) s.una d n now a (λ e. absurd (cc), λ e. absurd (cc))) (λ t e. inr (h.0 e))
  acknowledged_leaves s d n now a _ h =
      choose Leaves (above a s.next) (answered (owing s) BadAck) (go_on (acked s a) s.una d n now a) (λ t e. inr (h.0 e)) (λ t. go_on_leaves (acked s a) s.una d n now a (acked_before s a h))

  ordinary_leaves : (s f : EndState) (d : Segment) (n now : ℕ) → Before s → Before f → Leaves (ordinary s f d n now)
  ordinary_leaves s f d n now h k =
      choose Leaves (has RST d) (reset s n) _ (λ t. choose Leaves (n == s.expected) _ _ (λ u e. inl refl) (λ u e. inr (h.0 e))) (λ t.
      choose Leaves (has SYN d) (answered (owing f) Challenge) _ (λ u e. inr (k.0 e)) (λ u.
      choose Leaves (not (has ACK d)) (answered f NoAck) _ (λ v e. inr (k.0 e)) (λ v. acknowledged_leaves f d n now (meant d.acknowledgement f.una) f.phase k)))

  after_check_leaves : (pair : Pair) (s f : EndState) (d : Segment) (n now : ℕ) (phase : Phase) → Before s → Before f → Leaves (after_check pair s f d n now phase)
  after_check_leaves pair s f d n now Listen h k = choose Leaves (syn_alone d) _ (answered s Unexpected) (λ t e. absurd (cc)) (λ t e. inr (h.0 e))
  after_check_leaves pair s f d n now SynSent h k =
      choose Leaves (not (syn_ack_alone d)) (answered s Unexpected) _ (λ t e. inr (h.0 e)) (λ t.
      choose Leaves (nat_lt s.isn s.next && (d.acknowledgement == (s.isn + 1) % ring)) _ (answered s BadAck) (λ u e. absurd (cc)) (λ u e. inr (h.0 e)))
  after_check_leaves pair s f d n now _ h k =
      choose Leaves (fits_window n (segment_length d) s.expected (window s)) (ordinary s f d n now) _ (λ t. ordinary_leaves s f d n now h k)
      (λ t e. inr (choose Open (has RST d) s (owing s) (λ u. h.0) (λ u. h.0) e))

-- an arrival closes an end only by a reset, or in LAST-ACK
abbrev ClosesSo : EndState → Arrived → Type 0
ClosesSo s r = is_closed r.state.phase ≡ true → (r.answer ≡ Reset) ⊎ (s.phase ≡ LastAck)

still_so : (s : EndState) (answer : Arrival) → is_closed s.phase ≡ false → ClosesSo s (unmoved s answer)
still_so s answer awake = λ e. absurd (cc)

judged_so : (rows : List Row) (pair : Pair) (now : ℕ) (s : EndState) (d : Segment) (v : Judgement) → is_closed s.phase ≡ false → ClosesSo s (arrive_judged rows pair now s d v)
judged_so rows pair now s d (Err why) awake = still_so s (Refused why) awake
judged_so rows pair now s d (Ok p) awake =
    let before : Before (s.phase ≡ LastAck) s = (λ e. absurd (cc), λ e. e) in
    after_check_leaves (s.phase ≡ LastAck) pair s (heard rows pair now s p.rnext_key_id) d p.number now s.phase before before

read_so : (rows : List Row) (pair : Pair) (now : ℕ) (s : EndState) (r : Reading) → is_closed s.phase ≡ false → ClosesSo s (arrive_read rows pair now s r)
read_so rows pair now s (Unread fault) awake = still_so s (Bad fault) awake
read_so rows pair now s (Read d) awake =
    let P = ClosesSo s in
    choose P (not (from_peer pair d)) (unmoved s Foreign) _ (λ t. still_so s Foreign awake) (λ t.
    choose P (not (good d)) (unmoved s Checksum) _ (λ u. still_so s Checksum awake) (λ u.
    choose P (is_closed s.phase) (unmoved s AtClosed) _ (λ v. still_so s AtClosed awake) (λ v. judged_so rows pair now s d (judged_by rows pair now s d) awake)))

pub arrive_closes : (rows : List Row) (pair : Pair) (now : ℕ) (s : EndState) (r : Reading) → is_closed s.phase ≡ false → is_closed (arrive rows pair now s r).state.phase ≡ true → ((arrive rows pair now s r).answer ≡ Reset) ⊎ (s.phase ≡ LastAck)
arrive_closes rows pair now s r awake = subst (ClosesSo s) (read_by_cases rows pair now s r) (read_so rows pair now s r awake)
