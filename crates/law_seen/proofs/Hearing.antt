-- The RNextKeyID of a segment that is taken is followed.
use Rattle.std.proofs.Common.{◌≡◌, ℕ, ◌+◌, ◌-◌, ◌%◌, ◌==◌, nat_lt, nat_le, Bool, true, false, not, ◌&&◌, ◌||◌, List, length, Option, Some, None, Ok, Err, refl, subst, sym}
use Rattle.std.specs.Prelude.{⊤, is_some}
use Rattle.book_base.specs.Algorithms.{mac_length_of}
use Rattle.book_base.specs.declared.address.Pair.{Pair}
use Rattle.book_segments.specs.Bytes.{ring, same_bytes}
use Rattle.book_segments.specs.Meant.{meant}
use Rattle.book_segments.specs.Options.{Absent, Ao, AoFound, One, Two, WithMd5 as FoundMd5, find_ao}
use Rattle.book_segments.specs.Received.{keep, first_missing, runs, below_limit}
use Rattle.book_segments.specs.Segments.{Segment, Read, good, has, segment_length, ACK, FIN, RST, SYN}
use Rattle.book_keys.specs.Choices.{Numbered, accept_row, has_id}
use Rattle.book_keys.specs.Coordination.{follow}
use Rattle.book_keys.specs.Rows.{Row}
use Rattle.book_macs.specs.Contexts.{context_of}
use Rattle.book_endpoint.proofs.JudgeSteps.{judge_ao, judge_by_steps, judge_context, judge_number, judge_row}
use Rattle.book_endpoint.specs.declared.arrival.Arrival.TheVariants.{Foreign, Checksum, Closed as AtClosed, Unexpected, Challenge, NoAck, BadAck, Taken}
use Rattle.book_endpoint.specs.declared.phase.Phase.{Phase}
use Rattle.book_endpoint.specs.declared.phase.Phase.TheVariants.{Listen, SynSent, SynReceived, Established, TimeWait}
use Rattle.book_endpoint.specs.declared.refusal.Refusal.TheVariants.{BadMac, Expired, MacLength, NoContext, NoTuple, Range}
use Rattle.book_endpoint.specs.States.{EndState, window, hears, is_closed}
use Rattle.book_endpoint.specs.Verdicts.{Judgement, found_with, mac_of, segment_number}
use Rattle.book_endpoint.specs.Arrivals.{Arrived, arrive, from_peer, heard, judged_by, number_expected, numbers_known, syn_ack_alone, syn_alone, unmoved}
use Rattle.book_endpoint.specs.Hearing.{Moved, above, acked, acked_fin, after_own_fin, answered, fin_of, finish, fits_window, owing, pass_fin, past_fin, records_fin, rested, windowed}
use Rattle.endpoint_steps.proofs.Arriving.{read_by_cases}
use Rattle.endpoint_steps.specs.Arriving.{acknowledged, after_check, arrive_judged, arrive_read, go_on, hear_data, heard_runs, ordinary, reset}
use Rattle.law_link.proofs.Tests.{choose}

-- ---- what the check finds

-- what passes says the RNextKeyID of its option
abbrev AsksIf : Ao → Judgement → Type 0
AsksIf ao (Err why) = ⊤
AsksIf ao (Ok p) = p.rnext_key_id ≡ ao.rnext_key_id

number_asks : (ao : Ao) (d : Segment) (r : Numbered) (c : List ℕ) (n : Option ℕ) → AsksIf ao (judge_number r d ao c n)
number_asks ao d r c None = tt
number_asks ao d r c (Some n) =
    choose (AsksIf ao) (nat_lt 9223372036854775808 (n + segment_length d)) (Err Range) _ (λ t. tt) (λ t.
    choose (AsksIf ao) (same_bytes ao.mac (mac_of (found_with r d ao c n))) (Ok (found_with r d ao c n)) (Err BadMac) (λ u. refl) (λ u. tt))

context_asks : (ao : Ao) (d : Segment) (x : Option ℕ) (r : Numbered) (o : Option (List ℕ)) → AsksIf ao (judge_context r d ao x o)
context_asks ao d x r None = tt
context_asks ao d x r (Some c) = choose (AsksIf ao) (not (has SYN d) && not (is_some x)) (Err NoContext) _ (λ t. tt) (λ t. number_asks ao d r c (segment_number d x))

row_asks : (rows : List Row) (pair : Pair) (ao : Ao) (d : Segment) (x : Option ℕ) (o : Option (List ℕ)) (r : Option Numbered) → AsksIf ao (judge_row rows pair d ao x o r)
row_asks rows pair ao d x o None = choose (AsksIf ao) (has_id rows pair ao.key_id) (Err Expired) (Err NoTuple) (λ t. tt) (λ t. tt)
row_asks rows pair ao d x o (Some r) = choose (AsksIf ao) (not (length ao.mac == mac_length_of r.row.algorithm)) (Err MacLength) _ (λ t. tt) (λ t. context_asks ao d x r o)

one_is : (a b : Ao) → One a ≡ One b → a ≡ b
one_is a b e = cc

ao_asks : (rows : List Row) (pair : Pair) (now : ℕ) (ao : Ao) (d : Segment) (x : Option ℕ) (o : Option (List ℕ)) (f : AoFound) → f ≡ One ao → AsksIf ao (judge_ao rows pair now x d o f)
ao_asks rows pair now ao d x o Absent is = absurd (cc)
ao_asks rows pair now ao d x o Two is = absurd (cc)
ao_asks rows pair now ao d x o FoundMd5 is = absurd (cc)
ao_asks rows pair now ao d x o (One found) is =
    subst (λ (a : Ao). AsksIf a (judge_row rows pair d found x o (accept_row rows pair found.key_id now))) (one_is found ao is) (row_asks rows pair found d x o (accept_row rows pair found.key_id now))

judged_asks : (rows : List Row) (pair : Pair) (now : ℕ) (s : EndState) (d : Segment) (ao : Ao) → find_ao d.area ≡ One ao → AsksIf ao (judged_by rows pair now s d)
judged_asks rows pair now s d ao is =
    subst (AsksIf ao) (sym (judge_by_steps rows pair (numbers_known s) now d)) (ao_asks rows pair now ao d (number_expected s s.peer_isn) (context_of d s.peer_isn (Some s.isn)) (find_ao d.area) is)

-- ---- what is taken

-- this is the current row
abbrev Has : Option ℕ → EndState → Type 0
Has g s = s.current ≡ g

-- so it is once a segment is taken
abbrev Takes : Option ℕ → Moved → Type 0
Takes g m = m.answer ≡ Taken → m.state.current ≡ g

module _ (g : Option ℕ) where
  rested_has : (s : EndState) (now : ℕ) (phase : Phase) (o : Option ℕ) → Has g s → Has g (rested s now phase o)
  rested_has s now TimeWait None h = h
  rested_has s now _ _ h = h

  finish_takes : (s : EndState) (now : ℕ) → Has g s → Takes g (finish s now)
  finish_takes s now h taken = rested_has s now s.phase s.deadline h

  pass_fin_has : (s : EndState) (o : Option ℕ) → Has g s → Has g (pass_fin s o)
  pass_fin_has s None h = h
  pass_fin_has s (Some f) h = choose (Has g) (f == s.expected) (record s { expected = f + 1; phase = past_fin s.phase }) s (λ t. h) (λ t. h)

  heard_runs_takes : (s : EndState) (m : ℕ → Option ℕ) (d : Segment) (n now : ℕ) (b : Bool) → Has g s → Takes g (heard_runs s m d n now b)
  heard_runs_takes s m d n now true h taken = h
  heard_runs_takes s m d n now false h taken =
      let f = n + length d.payload in
      let t : EndState = record s { received = m; fin = fin_of s.fin (records_fin s m d f) f; ack_owed = true; expected = first_missing m s.expected (window s) } in
      finish_takes (pass_fin t t.fin) now (pass_fin_has t t.fin h) taken

  hear_data_takes : (s : EndState) (d : Segment) (n now : ℕ) (b : Bool) → Has g s → Takes g (hear_data s d n now b)
  hear_data_takes s d n now false h = finish_takes s now h
  hear_data_takes s d n now true h =
      let high = s.expected + window s in
      let m = keep s.received (record { number = n; bytes = d.payload }) (record { low = s.expected; high = below_limit s.fin high }) in
      let at = first_missing m s.expected (window s) in
      heard_runs_takes s m d n now (nat_lt 64 (runs m false at (high - at))) h

  acked_fin_has : (s : EndState) (a : Option ℕ) → Has g s → Has g (acked_fin s a)
  acked_fin_has s a h = choose (Has g) (above a (s.isn + 1 + length s.given)) (record s { phase = after_own_fin s.phase }) s (λ t. h) (λ t. h)

  windowed_has : (s : EndState) (old : ℕ) (d : Segment) (n : ℕ) (a : Option ℕ) → Has g s → Has g (windowed s old d n a)
  windowed_has s old d n None h = h
  windowed_has s old d n (Some a) h =
      choose (Has g) (nat_le old a && (nat_lt s.wl1 n || ((s.wl1 == n) && nat_le s.wl2 a))) (record s { send_window = d.window; wl1 = n; wl2 = a }) s (λ t. h) (λ t. h)

  acked_has : (s : EndState) (a : Option ℕ) → Has g s → Has g (acked s a)
  acked_has s None h = h
  acked_has s (Some a) h = choose (Has g) (nat_lt s.una a) (record s { una = a }) s (λ t. h) (λ t. h)

  go_on_takes : (s : EndState) (old : ℕ) (d : Segment) (n now : ℕ) (a : Option ℕ) → Has g s → Takes g (go_on s old d n now a)
  go_on_takes s old d n now a h =
      let t = acked_fin (windowed s old d n a) a in
      hear_data_takes t d n now (hears t.phase && (nat_lt 0 (length d.payload) || has FIN d)) (acked_fin_has (windowed s old d n a) a (windowed_has s old d n a h))

  acknowledged_takes : (s : EndState) (d : Segment) (n now : ℕ) (a : Option ℕ) (phase : Phase) → Has g s → Takes g (acknowledged s d n now a phase)
  acknowledged_takes s d n now a SynReceived h =
      choose (Takes g) (above a s.una && not (above a s.next)) (go_on (record (acked s a) { phase = Established }) s.una d n now a) (answered s BadAck)
      (λ t. go_on_takes (record (acked s a) { phase = Established }) s.una d n now a (acked_has s a h)) (λ t taken. h)
  acknowledged_takes s d n now a _ h =
      choose (Takes g) (above a s.next) (answered (owing s) BadAck) (go_on (acked s a) s.una d n now a) (λ t taken. h) (λ t. go_on_takes (acked s a) s.una d n now a (acked_has s a h))

  ordinary_takes : (s f : EndState) (d : Segment) (n now : ℕ) → Has g f → Takes g (ordinary s f d n now)
  ordinary_takes s f d n now k =
      choose (Takes g) (has RST d) (reset s n) _ (λ t. choose (Takes g) (n == s.expected) _ _ (λ u taken. absurd (cc)) (λ u taken. absurd (cc))) (λ t.
      choose (Takes g) (has SYN d) (answered (owing f) Challenge) _ (λ u taken. k) (λ u.
      choose (Takes g) (not (has ACK d)) (answered f NoAck) _ (λ v taken. k) (λ v. acknowledged_takes f d n now (meant d.acknowledgement f.una) f.phase k)))

  after_check_takes : (pair : Pair) (s f : EndState) (d : Segment) (n now : ℕ) (phase : Phase) → Has g f → Takes g (after_check pair s f d n now phase)
  after_check_takes pair s f d n now Listen k = choose (Takes g) (syn_alone d) _ (answered s Unexpected) (λ t taken. k) (λ t taken. absurd (cc))
  after_check_takes pair s f d n now SynSent k =
      choose (Takes g) (not (syn_ack_alone d)) (answered s Unexpected) _ (λ t taken. absurd (cc)) (λ t.
      choose (Takes g) (nat_lt s.isn s.next && (d.acknowledgement == (s.isn + 1) % ring)) _ (answered s BadAck) (λ u taken. k) (λ u taken. absurd (cc)))
  after_check_takes pair s f d n now _ k =
      choose (Takes g) (fits_window n (segment_length d) s.expected (window s)) (ordinary s f d n now) _ (λ t. ordinary_takes s f d n now k) (λ t taken. absurd (cc))

-- an arrival that is taken follows the RNextKeyID of the segment
abbrev Follows : List Row → Pair → ℕ → EndState → ℕ → Arrived → Type 0
Follows rows pair now s id a = a.answer ≡ Taken → a.state.current ≡ follow s.current rows pair id now

judged_follows : (rows : List Row) (pair : Pair) (now : ℕ) (s : EndState) (d : Segment) (ao : Ao) (v : Judgement) → AsksIf ao v → Follows rows pair now s ao.rnext_key_id (arrive_judged rows pair now s d v)
judged_follows rows pair now s d ao (Err why) asks = λ taken. absurd (cc)
judged_follows rows pair now s d ao (Ok p) asks =
    subst (λ id. Follows rows pair now s id (arrive_judged rows pair now s d (Ok p))) asks
    (after_check_takes (follow s.current rows pair p.rnext_key_id now) pair s (heard rows pair now s p.rnext_key_id) d p.number now s.phase refl)

read_follows : (rows : List Row) (pair : Pair) (now : ℕ) (s : EndState) (d : Segment) (ao : Ao) → find_ao d.area ≡ One ao → Follows rows pair now s ao.rnext_key_id (arrive_read rows pair now s (Read d))
read_follows rows pair now s d ao is =
    let P = Follows rows pair now s ao.rnext_key_id in
    choose P (not (from_peer pair d)) (unmoved s Foreign) _ (λ t taken. absurd (cc)) (λ t.
    choose P (not (good d)) (unmoved s Checksum) _ (λ u taken. absurd (cc)) (λ u.
    choose P (is_closed s.phase) (unmoved s AtClosed) _ (λ v taken. absurd (cc)) (λ v. judged_follows rows pair now s d ao (judged_by rows pair now s d) (judged_asks rows pair now s d ao is))))

pub arrive_follows : (rows : List Row) (pair : Pair) (now : ℕ) (s : EndState) (d : Segment) (ao : Ao) → find_ao d.area ≡ One ao → (arrive rows pair now s (Read d)).answer ≡ Taken
    → (arrive rows pair now s (Read d)).state.current ≡ follow s.current rows pair ao.rnext_key_id now
arrive_follows rows pair now s d ao is = subst (Follows rows pair now s ao.rnext_key_id) (read_by_cases rows pair now s (Read d)) (read_follows rows pair now s d ao is)
