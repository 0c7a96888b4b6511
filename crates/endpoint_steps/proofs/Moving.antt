-- An arrival that isn't taken leaves an end, case by case of the table.
use Rattle.std.proofs.Common.{◌≡◌, ℕ, ◌+◌, ◌-◌, ◌==◌, nat_lt, Bool, true, false, not, ◌&&◌, List, length, Option, Ok, Err, if◌then◌else◌, refl}
use Rattle.book_base.specs.declared.address.Pair.{Pair}
use Rattle.book_segments.specs.Received.{keep, first_missing, runs, most_runs, below_limit}
use Rattle.book_segments.specs.Segments.{Segment, Reading, Read, Bad as Unread, good, has, SYN, RST, ACK}
use Rattle.book_keys.specs.Rows.{Row}
use Rattle.book_endpoint.specs.declared.arrival.Arrival.{Arrival}
use Rattle.book_endpoint.specs.declared.arrival.Arrival.TheVariants.{Bad, Foreign, Checksum, Closed as AtClosed, Unexpected, Window, Challenge, NoAck, BadAck, TooManyRuns, Reset, Taken}
use Rattle.book_endpoint.specs.declared.phase.Phase.{Phase}
use Rattle.book_endpoint.specs.declared.phase.Phase.TheVariants.{Listen, SynSent, SynReceived, Established, FinWait1, FinWait2, CloseWait, Closing, LastAck, TimeWait, Closed}
use Rattle.book_endpoint.specs.Verdicts.{Judgement}
use Rattle.book_endpoint.specs.States.{EndState, window, is_closed}
use Rattle.book_endpoint.specs.Emissions.{is_syn_received}
use Rattle.book_endpoint.specs.Hearing.{Moved, answered, owing, finish, fin_of, pass_fin, records_fin, told_by_syn}
use Rattle.book_endpoint.specs.Arrivals.{Arrived, Admitted, arrive, checked, cases_in, other_cases, is_acceptable, acknowledges_syn, acknowledges_sent, acknowledged_state, has_text, hear_text, heard, judged_by, from_peer, unmoved, syn_alone, syn_ack_alone}
use Rattle.endpoint_steps.specs.Moving.{moves}

-- an answer that moves nothing comes with the state as it was, but for the current key, and an ACK that is owed
record Leaves (s : EndState) (m : Moved) : Type 0 where
  same : moves m.answer ≡ false → m.state ≡ record s { current = m.state.current; ack_owed = m.state.ack_owed }

-- the same of the whole arrival
record LeavesBy (s : EndState) (a : Arrived) : Type 0 where
  same : moves a.answer ≡ false → a.state ≡ record s { current = a.state.current; ack_owed = a.state.ack_owed }

pick : {A : Type 0} (P : A → Type 0) (b : Bool) (x y : A) → P x → P y → P (if b then x else y)
pick P true x y f g = f
pick P false x y f g = g

taken_leaves : (s t : EndState) → Leaves s (answered t Taken)
taken_leaves s t = record { same = λ e. absurd (cc) }

finish_leaves : (s t : EndState) (now : ℕ) → Leaves s (finish t now)
finish_leaves s t now = record { same = λ e. absurd (cc) }

many_leave : (s t : EndState) → Leaves s (answered t TooManyRuns)
many_leave s t = record { same = λ e. absurd (cc) }

reset_leaves : (s t : EndState) → Leaves s (answered t Reset)
reset_leaves s t = record { same = λ e. absurd (cc) }

-- an end that heard this row, or none, and owes an ACK or not
heard_leaves : (s : EndState) (c : Option ℕ) (owed : Bool) (answer : Arrival) → Leaves s (answered (record s { current = c; ack_owed = owed }) answer)
heard_leaves s c owed answer = record { same = λ e. refl }

text_leaves : (s t : EndState) (i : Admitted) → Leaves s (hear_text i t)
text_leaves s t i =
    let end = t.expected + window t in
    let kept = keep t.received (record { number = i.number; bytes = i.segment.payload }) (record { low = t.expected; high = below_limit t.fin end }) in
    let missing = first_missing kept t.expected (window t) in
    let fin_at = i.number + length i.segment.payload in
    let fin = fin_of t.fin (records_fin t kept i.segment fin_at) fin_at in
    let filled = record t { received = kept; fin = fin; ack_owed = true; expected = missing } in
    pick (λ m. Leaves s m) (nat_lt most_runs (runs kept false missing (end - missing))) _ _ (many_leave s (owing t)) (finish_leaves s (pass_fin filled fin) i.now)

window_leaves : (s : EndState) (rst : Bool) → Leaves s (answered (if rst then s else owing s) Window)
window_leaves s true = heard_leaves s s.current s.ack_owed Window
window_leaves s false = heard_leaves s s.current true Window

module _ (s : EndState) (c : Option ℕ) (d : Segment) (n now : ℕ) where
  -- the segment, as it comes to this end, which hears this row
  abbrev coming : Admitted
  coming = record { segment = d; number = n; before = s; after = record s { current = c }; now = now }

  bad_ack_leaves : (early : Bool) → Leaves s (answered (if early then record s { current = c } else owing (record s { current = c })) BadAck)
  bad_ack_leaves true = heard_leaves s c s.ack_owed BadAck
  bad_ack_leaves false = heard_leaves s c true BadAck

  others_leave : Leaves s (other_cases coming)
  others_leave =
      let P : Moved → Type 0 = λ m. Leaves s m in
      let taken = acknowledged_state coming in
      pick P (not (is_acceptable coming)) _ _ (window_leaves s (has RST d)) (
      pick P (has RST d && (n == s.expected)) _ _ (reset_leaves s (record s { phase = Closed })) (
      pick P (has RST d) _ _ (heard_leaves s s.current true Challenge) (
      pick P (has SYN d) _ _ (heard_leaves s c true Challenge) (
      pick P (not (has ACK d)) _ _ (heard_leaves s c s.ack_owed NoAck) (
      pick P (not (acknowledges_sent coming)) _ _ (bad_ack_leaves (is_syn_received s.phase)) (
      pick P (has_text taken d) _ _ (text_leaves s taken coming) (finish_leaves s taken now)))))))

  passed_leaves : (pair : Pair) (phase : Phase) → Leaves s (cases_in pair phase coming)
  passed_leaves pair Listen =
      let told = told_by_syn pair (record s { current = c }) d n in
      pick (λ m. Leaves s m) (not (syn_alone d)) _ _ (heard_leaves s s.current s.ack_owed Unexpected) (taken_leaves s (record told { phase = SynReceived }))
  passed_leaves pair SynSent =
      let P : Moved → Type 0 = λ m. Leaves s m in
      let told = told_by_syn pair (record s { current = c }) d n in
      pick P (not (syn_ack_alone d)) _ _ (heard_leaves s s.current s.ack_owed Unexpected) (
      pick P (not (acknowledges_syn coming)) _ _ (heard_leaves s s.current s.ack_owed BadAck)
      (taken_leaves s (record told { phase = Established; una = s.isn + 1; wl2 = s.isn + 1; ack_owed = true })))
  passed_leaves pair SynReceived = others_leave
  passed_leaves pair Established = others_leave
  passed_leaves pair FinWait1 = others_leave
  passed_leaves pair FinWait2 = others_leave
  passed_leaves pair CloseWait = others_leave
  passed_leaves pair Closing = others_leave
  passed_leaves pair LastAck = others_leave
  passed_leaves pair TimeWait = others_leave
  passed_leaves pair Closed = others_leave

judged_leaves : (rows : List Row) (pair : Pair) (now : ℕ) (s : EndState) (d : Segment) (j : Judgement)
    → LeavesBy s (checked s (λ p. cases_in pair s.phase (record { segment = d; number = p.number; before = s; after = heard rows pair now s p.rnext_key_id; now = now })) j)
judged_leaves rows pair now s d (Err why) = record { same = λ e. refl }
judged_leaves rows pair now s d (Ok p) = record { same = (passed_leaves s (heard rows pair now s p.rnext_key_id).current d p.number now pair s.phase).same }

unmoved_leaves : (s : EndState) (answer : Arrival) → LeavesBy s (unmoved s answer)
unmoved_leaves s answer = record { same = λ e. refl }

arrived_leaves : (rows : List Row) (pair : Pair) (now : ℕ) (s : EndState) (r : Reading) → LeavesBy s (arrive rows pair now s r)
unfolding arrive
arrived_leaves rows pair now s (Unread fault) = unmoved_leaves s (Bad fault)
arrived_leaves rows pair now s (Read d) =
    let P : Arrived → Type 0 = λ a. LeavesBy s a in
    pick P (not (from_peer pair d)) (unmoved s Foreign) _ (unmoved_leaves s Foreign) (
    pick P (not (good d)) (unmoved s Checksum) _ (unmoved_leaves s Checksum) (
    pick P (is_closed s.phase) (unmoved s AtClosed) _ (unmoved_leaves s AtClosed) (judged_leaves rows pair now s d (judged_by rows pair now s d))))

pub only_taken : (rows : List Row) (pair : Pair) (now : ℕ) (s : EndState) (r : Reading) → moves (arrive rows pair now s r).answer ≡ false
    → (arrive rows pair now s r).state ≡ record s { current = (arrive rows pair now s r).state.current; ack_owed = (arrive rows pair now s r).state.ack_owed }
only_taken rows pair now s r = (arrived_leaves rows pair now s r).same
