-- What holds of single steps.
use Rattle.std.proofs.Common.{◌≡◌, ◌⊎◌, inl, inr, ℕ, ◌==◌, Bool, true, false, not, ◌&&◌, List, Option, Some, Ok, Err, refl, if◌then◌else◌, arith}
use Rattle.std.proofs.lemmas.Bool.Decides.{nat_tests}
use Rattle.book_base.specs.declared.address.Pair.{Pair}
use Rattle.book_segments.specs.Segments.{Segment, Read, good, has, FIN, SYN, RST, ACK}
use Rattle.book_keys.specs.Rows.{Row}
use Rattle.book_endpoint.specs.declared.arrival.Arrival.{Arrival}
use Rattle.book_endpoint.specs.declared.arrival.Arrival.TheVariants.{Foreign, Checksum, Closed as AtClosed, Reset, Challenge, Window, Unexpected}
use Rattle.book_endpoint.specs.declared.phase.Phase.{Phase}
use Rattle.book_endpoint.specs.declared.phase.Phase.TheVariants.{Listen, SynSent, SynReceived, Established, FinWait1, FinWait2, CloseWait, Closing, LastAck, TimeWait, Closed}
use Rattle.book_endpoint.specs.declared.refusal.Refusal.{Refusal}
use Rattle.book_endpoint.specs.Verdicts.{Finding, Judgement}
use Rattle.book_endpoint.specs.States.{EndState, is_closed}
use Rattle.book_endpoint.specs.Hearing.{Moved, answered, owing}
use Rattle.book_endpoint.specs.Arrivals.{Arrived, Admitted, arrive, checked, cases_in, other_cases, is_acceptable, heard, judged_by, from_peer, unmoved, syn_alone, syn_ack_alone}

-- a segment is read past three tests of it
past_tests : (P : Arrived → Type 0) (foreign wrong closed : Bool) (s : EndState) (last : Arrived) → ((answer : Arrival) → P (unmoved s answer)) → P last
    → P (if foreign then unmoved s Foreign else if wrong then unmoved s Checksum else if closed then unmoved s AtClosed else last)
past_tests P true wrong closed s last un h = un Foreign
past_tests P false true closed s last un h = un Checksum
past_tests P false false true s last un h = un AtClosed
past_tests P false false false s last un h = h

-- ---- what is refused

judged_stays : (s : EndState) (onward : Finding → Moved) (j : Judgement) (why : Refusal) → j ≡ Err why → (checked s onward j).state ≡ s
judged_stays s onward (Err why) other e = refl
judged_stays s onward _ other e = absurd (cc)

pub refused_stays : (rows : List Row) (pair : Pair) (now : ℕ) (s : EndState) (d : Segment) (why : Refusal) → judged_by rows pair now s d ≡ Err why
    → (arrive rows pair now s (Read d)).state ≡ s
unfolding arrive
refused_stays rows pair now s d why e =
    past_tests (λ a. a.state ≡ s) (not (from_peer pair d)) (not (good d)) (is_closed s.phase) s _ (λ answer. refl) (judged_stays s _ (judged_by rows pair now s d) why e)

-- ---- a RST

-- a RST hears no key, and closes at the number expected alone
record IsReset (i : Admitted) (m : Moved) : Type 0 where
  key : m.state.current ≡ i.before.current
  closes : m.state.phase ≡ Closed → (i.number ≡ i.before.expected) ⊎ (i.before.phase ≡ Closed)

leaves : (i : Admitted) (answer : Arrival) → IsReset i (answered i.before answer)
leaves i answer = record { key = refl; closes = λ h. inr h }

tested : (i : Admitted) (fits level : Bool) → (i.number == i.before.expected) ≡ level
    → IsReset i (if not fits then answered i.before Window else if level then answered (record (i.before) { phase = Closed }) Reset else answered (owing i.before) Challenge)
tested i false level e = leaves i Window
tested i true true e = record { key = refl; closes = λ h. inl (grind (arith, nat_tests)) }
tested i true false e = record { key = refl; closes = λ h. inr h }

others_reset : (i : Admitted) → has RST i.segment ≡ true → IsReset i (other_cases i)
others_reset i e = rw e (tested i (is_acceptable i) (i.number == i.before.expected) refl)

none_alone : (a b c : Bool) → (a && b && false && c) ≡ false
none_alone true true c = refl
none_alone true false c = refl
none_alone false b c = refl

no_syn_alone : (d : Segment) → has RST d ≡ true → syn_alone d ≡ false
no_syn_alone d e = rw e (none_alone (has SYN d) (not (has ACK d)) (not (has FIN d)))

no_syn_ack_alone : (d : Segment) → has RST d ≡ true → syn_ack_alone d ≡ false
no_syn_ack_alone d e = rw e (none_alone (has SYN d) (has ACK d) (not (has FIN d)))

passed_reset : (pair : Pair) (phase : Phase) (i : Admitted) → has RST i.segment ≡ true → IsReset i (cases_in pair phase i)
passed_reset pair Listen i e = rw (no_syn_alone i.segment e) (leaves i Unexpected)
passed_reset pair SynSent i e = rw (no_syn_ack_alone i.segment e) (leaves i Unexpected)
passed_reset pair SynReceived i e = others_reset i e
passed_reset pair Established i e = others_reset i e
passed_reset pair FinWait1 i e = others_reset i e
passed_reset pair FinWait2 i e = others_reset i e
passed_reset pair CloseWait i e = others_reset i e
passed_reset pair Closing i e = others_reset i e
passed_reset pair LastAck i e = others_reset i e
passed_reset pair TimeWait i e = others_reset i e
passed_reset pair Closed i e = others_reset i e

-- where a RST leaves an end closed: it was, or what passed has the number expected
abbrev AtExpected : EndState → Option Finding → Type 0
AtExpected s passed = ((p : Finding) × (passed ≡ Some p) × (p.number ≡ s.expected)) ⊎ (s.phase ≡ Closed)

-- the same of the whole arrival
record IsResetBy (s : EndState) (a : Arrived) : Type 0 where
  key : a.state.current ≡ s.current
  closes : a.state.phase ≡ Closed → AtExpected s a.passed

at_expected : (s : EndState) (p : Finding) → (p.number ≡ s.expected) ⊎ (s.phase ≡ Closed) → AtExpected s (Some p)
at_expected s p (inl e) = inl (p, refl, e)
at_expected s p (inr e) = inr e

judged_reset : (rows : List Row) (pair : Pair) (now : ℕ) (s : EndState) (d : Segment) (j : Judgement) → has RST d ≡ true
    → IsResetBy s (checked s (λ p. cases_in pair s.phase (record { segment = d; number = p.number; before = s; after = heard rows pair now s p.rnext_key_id; now = now })) j)
judged_reset rows pair now s d (Err why) e = record { key = refl; closes = λ h. inr h }
judged_reset rows pair now s d (Ok p) e =
    let m = passed_reset pair s.phase (record { segment = d; number = p.number; before = s; after = heard rows pair now s p.rnext_key_id; now = now }) e in
    record { key = m.key; closes = λ h. at_expected s p (m.closes h) }

arrived_reset : (rows : List Row) (pair : Pair) (now : ℕ) (s : EndState) (d : Segment) → has RST d ≡ true → IsResetBy s (arrive rows pair now s (Read d))
unfolding arrive
arrived_reset rows pair now s d e =
    past_tests (λ a. IsResetBy s a) (not (from_peer pair d)) (not (good d)) (is_closed s.phase) s _ (λ answer. record { key = refl; closes = λ h. inr h }) (judged_reset rows pair now s d (judged_by rows pair now s d) e)

pub reset_key : (rows : List Row) (pair : Pair) (now : ℕ) (s : EndState) (d : Segment) → has RST d ≡ true → (arrive rows pair now s (Read d)).state.current ≡ s.current
reset_key rows pair now s d e = (arrived_reset rows pair now s d e).key

pub reset_closes : (rows : List Row) (pair : Pair) (now : ℕ) (s : EndState) (d : Segment) → has RST d ≡ true → (arrive rows pair now s (Read d)).state.phase ≡ Closed
    → ((p : Finding) × ((arrive rows pair now s (Read d)).passed ≡ Some p) × (p.number ≡ s.expected)) ⊎ (s.phase ≡ Closed)
reset_closes rows pair now s d e = (arrived_reset rows pair now s d e).closes
