-- Who has nothing to send would send something again exactly where something is waited for.
use Rattle.std.proofs.Common.{◌≡◌, ℕ, ◌+◌, ◌≤◌, ◌==◌, Bool, true, false, not, ◌&&◌, ◌||◌, nat_lt, Option, Some, None, refl, ap, if◌then◌else◌, arith}
use Rattle.std.proofs.lemmas.Bool.Decides.{nat_tests}
use Rattle.std.specs.Prelude.{is_some}
use Rattle.book_segments.proofs.Fields.{lt_not}
use Rattle.book_endpoint.specs.declared.phase.Phase.{Phase}
use Rattle.book_endpoint.specs.declared.phase.Phase.TheVariants.{CloseWait, Closed, Closing, Established, FinWait1, FinWait2, LastAck, Listen, SynReceived, SynSent, TimeWait}
use Rattle.book_endpoint.specs.States.{EndState, given_end}
use Rattle.book_endpoint.specs.Emissions.{Due, Rst, Syn, SynAck, Data, Fin, due_again, due_next, due_probe, is_sending, is_syn_received, is_syn_sent, resends, sends_data, sends_fin, unsent, window_end}
use Rattle.book_stack.specs.Watches.{awaits, awaits_in}
use Rattle.law_stack.specs.Resting.{has_nothing}

-- ---- what having nothing to send says

-- neither data nor the FIN is to be sent
record SendsNone (e : EndState) : Type 0 where
  data_none : sends_data e ≡ false
  fin_none : sends_fin e ≡ false

passed : (v : Bool) (x : Due) (rest : Option Due) → not (is_some (if v then Some x else rest)) ≡ true → (v ≡ false) × (not (is_some rest) ≡ true)
passed true x rest h = absurd (cc)
passed false x rest h = (refl, h)

sends_none : (e : EndState) → has_nothing e ≡ true → SendsNone e
unfolding due_next
sends_none e h =
    let one = passed e.rst_owed Rst _ h in
    let two = passed (is_syn_sent e.phase && (e.next == e.isn)) Syn _ one.1 in
    let three = passed (is_syn_received e.phase && (e.next == e.isn)) SynAck _ two.1 in
    let four = passed (sends_data e) Data _ three.1 in
    let five = passed (sends_fin e) Fin _ four.1 in
    record { data_none = four.0; fin_none = five.0 }

three_false : (a b c : Bool) → (a && b && c) ≡ false → a ≡ true → b ≡ true → c ≡ false
three_false true true c h s t = h
three_false false b c h s t = absurd (cc)
three_false true false c h s t = absurd (cc)

four_false : (a b c d : Bool) → (a && b && c && d) ≡ false → a ≡ true → b ≡ true → c ≡ true → d ≡ false
four_false true true true d h s t u = h
four_false false b c d h s t u = absurd (cc)
four_false true false c d h s t u = absurd (cc)
four_false true true false d h s t u = absurd (cc)

-- all that was sent is acknowledged and the window holds nothing more: it is zero
blocked_by : (una next window : ℕ) → una ≤ next → nat_lt una next ≡ false → nat_lt next (una + window) ≡ false → ((una == next) && (window == 0)) ≡ true
blocked_by una next window le same full =
    let high = lt_not una next same in
    let none = lt_not next (una + window) full in
    let one : (una == next) ≡ true = grind (arith, nat_tests, le, high) in
    let two : (window == 0) ≡ true = grind (arith, nat_tests, le, high, none) in rw (one, two) refl

none_unsent : (n : ℕ) → nat_lt 0 n ≡ false → (n == 0) ≡ true
none_unsent n h = grind (arith, nat_tests, h)

-- what is sent again, and what is waited for, by what there is: sent numbers, unsent bytes, the FIN, a window of zero
by_parts : (a u c b : Bool) (x y z : Due) → (a ≡ false → u ≡ true → b ≡ true) → (a ≡ false → u ≡ false → c ≡ true → b ≡ true)
    → is_some (if a then Some x else (if b then (if u then Some y else (if c then Some z else None)) else None)) ≡ (a || u || c)
by_parts true u c b x y z f g = refl
by_parts false true c b x y z f g = rw (f refl refl) refl
by_parts false false true b x y z f g = rw (g refl refl refl) refl
by_parts false false false true x y z f g = refl
by_parts false false false false x y z f g = refl

-- what isn't acknowledged
abbrev unacked : EndState → Due
unacked e = if nat_lt e.una (given_end e) then Data else Fin

-- what is due again in a phase
abbrev again_of : Phase → EndState → Option Due
again_of phase e =
    if is_syn_sent phase && nat_lt e.isn e.next then Some Syn
    else (if is_syn_received phase && nat_lt e.isn e.next then Some SynAck
    else (if resends phase && nat_lt e.una e.next then Some (unacked e)
    else (if is_sending phase && (e.una == e.next) && (e.send_window == 0) then due_probe e
    else None)))

sending_again : (e : EndState) → is_sending e.phase ≡ true → e.una ≤ e.next → SendsNone e
    → is_some (if nat_lt e.una e.next then Some (unacked e) else (if (e.una == e.next) && (e.send_window == 0) then due_probe e else None)) ≡ (nat_lt e.una e.next || nat_lt 0 (unsent e) || e.closing)
sending_again e phase le h =
    by_parts (nat_lt e.una e.next) (nat_lt 0 (unsent e)) e.closing ((e.una == e.next) && (e.send_window == 0)) (unacked e) Data Fin
    (λ same some. blocked_by e.una e.next e.send_window le same (three_false (is_sending e.phase) (nat_lt 0 (unsent e)) (nat_lt e.next (window_end e)) h.data_none phase some))
    (λ same none closing. blocked_by e.una e.next e.send_window le same (four_false (is_sending e.phase) e.closing (unsent e == 0) (nat_lt e.next (window_end e)) h.fin_none phase closing (none_unsent (unsent e) none)))

test_alone : (v : Bool) (x : Due) → is_some (if v then Some x else None) ≡ v
test_alone true x = refl
test_alone false x = refl

again_in : (e : EndState) (phase : Phase) → e.phase ≡ phase → e.una ≤ e.next → SendsNone e → is_some (again_of phase e) ≡ awaits_in phase e
again_in e SynSent is le h = test_alone (nat_lt e.isn e.next) Syn
again_in e SynReceived is le h = test_alone (nat_lt e.isn e.next) SynAck
again_in e Established is le h = sending_again e (ap is_sending is) le h
again_in e CloseWait is le h = sending_again e (ap is_sending is) le h
again_in e FinWait1 is le h = test_alone (nat_lt e.una e.next) (unacked e)
again_in e Closing is le h = test_alone (nat_lt e.una e.next) (unacked e)
again_in e LastAck is le h = test_alone (nat_lt e.una e.next) (unacked e)
again_in e Listen is le h = refl
again_in e FinWait2 is le h = refl
again_in e TimeWait is le h = refl
again_in e Closed is le h = refl

-- an end that has nothing to send would send something again exactly where it waits for something
pub again_awaits : (e : EndState) → has_nothing e ≡ true → e.una ≤ e.next → is_some (due_again e) ≡ awaits e
unfolding due_again
again_awaits e h le = again_in e e.phase refl le (sends_none e h)
