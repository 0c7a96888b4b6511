-- What the segments that an end makes carry, and the receiving half after them.
use Rattle.std.proofs.Common.{◌≡◌, ℕ, ◌+◌, ◌-◌, ◌≤◌, ◌==◌, min, true, false, not, ◌&&◌, nat_lt, drop, slice_get, Option, Some, None, ◌⊎◌, inl, inr, refl, sym, subst, arith, List}
use Rattle.std.specs.Prelude.{⊤}
use Rattle.book_segments.specs.Segments.{SYN, ACK}
use Rattle.book_segments.proofs.Fields.{and_tells, eqb_is}
use Rattle.book_endpoint.specs.States.{EndState, given_end}
use Rattle.book_endpoint.specs.Emissions.{Draft, is_sending, is_silent, is_syn_sent, is_syn_received, unsent, slice_at, rst_draft, syn_draft, syn_ack_draft, data_draft, again_draft, fin_draft, fin_again_draft, ack_draft, sends_data, sends_fin, fitting, resends, is_blocked, sets}
use Rattle.endpoint_steps.specs.Drafting.{to_emit, unacknowledged, probe, to_resend}
use Rattle.law_link.proofs.Tests.{choose}
use Rattle.book_base.proofs.TestLaws.{not_true}
use Rattle.law_link.proofs.Drafts.{sends_data_says, sends_fin_says}
use Rattle.law_link.proofs.Lists.{slice_get-append, slice_get-take, slice_get-drop}
use Rattle.law_link.proofs.Phases.{sending_open, sending_speaks, resends_open, resends_speaks, syn_received_speaks}
use Rattle.law_link.proofs.Sound.{Later}
use Rattle.law_link.proofs.Whole.{Whole}

-- the session was given this byte at this number
abbrev pub GivenAt : EndState → ℕ → ℕ → Type 0
GivenAt s p b = (j : ℕ) × (p ≡ s.isn + 1 + j) × (slice_get s.given j ≡ Some b)

-- what was given stays so
pub given-later : (old new : EndState) (p b : ℕ) → Later old new → GivenAt old p b → GivenAt new p b
given-later old new p b l (j, at, byte) =
    let same = l.same_isn in
    (j, omega arith, subst (λ (g : List ℕ). slice_get g j ≡ Some b) (sym l.grown.1) (slice_get-append old.given l.grown.0 j b byte))

-- the context of a segment with these flags is known: for SYN without ACK always, else with the peer's initial sequence number
abbrev pub TellsContext : ℕ → Option ℕ → Type 0
TellsContext flags peer_isn = ((sets flags SYN ≡ true) × (sets flags ACK ≡ false)) ⊎ ((q : ℕ) × (peer_isn ≡ Some q))

-- what a draft carries, and what it leaves as it was
pub record Carries (s : EndState) (out : Draft) : Type 0 where
  pub whole : Whole out.state
  pub context : TellsContext out.flags s.peer_isn
  pub carried : (i b : ℕ) → slice_get out.payload i ≡ Some b → GivenAt s (out.number + i) b
  pub low : s.isn ≤ out.number
  pub same_received : out.state.received ≡ s.received
  pub same_fin : out.state.fin ≡ s.fin
  pub same_una : out.state.una ≡ s.una
  pub same_expected : out.state.expected ≡ s.expected

abbrev pub MayCarry : EndState → Option Draft → Type 0
MayCarry s None = ⊤
MayCarry s (Some out) = Carries s out

-- without payload, in a state with the same receiving half
module _ (s : EndState) (h : Whole s) where
  next_whole : (next : ℕ) → s.una ≤ next → Whole (record s { next = next })
  next_whole next top =
      record {
        stream = h.stream;
        missing = h.missing;
        moved = h.moved;
        ends = record { una_low = h.ends.una_low; una_high = top; begun = h.ends.begun; known = h.ends.known; resets = h.ends.resets };
      }

  rst_carries : s.rst_owed ≡ true → Carries s (rst_draft s)
  rst_carries owed =
      record {
        whole = record {
          stream = h.stream;
          missing = h.missing;
          moved = h.moved;
          ends = record { una_low = h.ends.una_low; una_high = h.ends.una_high; begun = h.ends.begun; known = h.ends.known; resets = λ e. absurd (cc) };
        };
        context = inr (h.ends.resets owed);
        carried = λ i b e. absurd (cc);
        low = (let a = h.ends.una_low in let b = h.ends.una_high in omega arith);
        same_received = refl;
        same_fin = refl;
        same_una = refl;
        same_expected = refl;
      }

  syn_carries : (next : ℕ) → s.una ≤ next → Carries s (syn_draft s (record s { next = next }))
  syn_carries next top =
      record {
        whole = next_whole next top;
        context = inl (refl, refl);
        carried = λ i b e. absurd (cc);
        low = (let a = h.ends.una_low in let b = h.ends.una_high in omega arith);
        same_received = refl;
        same_fin = refl;
        same_una = refl;
        same_expected = refl;
      }

  syn_ack_carries : (next : ℕ) → s.una ≤ next → is_syn_received s.phase ≡ true → Carries s (syn_ack_draft s (record s { next = next }))
  syn_ack_carries next top phase =
      record {
        whole = next_whole next top;
        context = inr (h.ends.known (syn_received_speaks s.phase phase));
        carried = λ i b e. absurd (cc);
        low = (let a = h.ends.una_low in let b = h.ends.una_high in omega arith);
        same_received = refl;
        same_fin = refl;
        same_una = refl;
        same_expected = refl;
      }

  ack_carries : is_silent s.phase ≡ false → Carries s (ack_draft s)
  ack_carries speaks =
      record { whole = h; context = inr (h.ends.known speaks); carried = λ i b e. absurd (cc); low = (let a = h.ends.una_low in let b = h.ends.una_high in omega arith); same_received = refl; same_fin = refl; same_una = refl; same_expected = refl }

  fin_again_carries : resends s.phase ≡ true → Carries s (fin_again_draft s)
  fin_again_carries phase =
      record {
        whole = h;
        context = inr (h.ends.known (resends_speaks s.phase phase));
        carried = λ i b e. absurd (cc);
        low = (let a = h.ends.una_low in let b = h.ends.una_high in omega arith);
        same_received = refl;
        same_fin = refl;
        same_una = refl;
        same_expected = refl;
      }

slice_carried : (s : EndState) (n count : ℕ) → s.isn + 1 ≤ n → (i b : ℕ) → slice_get (slice_at s n count) i ≡ Some b → GivenAt s (n + i) b
slice_carried s n count low i b e =
    (n - (s.isn + 1) + i, omega arith, slice_get-drop (n - (s.isn + 1)) s.given i b (slice_get-take count (drop (n - (s.isn + 1)) s.given) i b e))

data_carries : (s : EndState) (count : ℕ) → is_sending s.phase ≡ true → Whole s → Carries s (data_draft s count)
data_carries s count phase h =
    let begun = h.ends.begun (sending_open s.phase phase) in
    let una = h.ends.una_high in
    record {
      whole = next_whole s h (s.next + count) (omega arith);
      context = inr (h.ends.known (sending_speaks s.phase phase));
      carried = slice_carried s s.next count (omega arith);
      low = (let a = h.ends.una_low in let b = h.ends.una_high in omega arith);
      same_received = refl;
      same_fin = refl;
      same_una = refl;
      same_expected = refl;
    }

again_carries : (s : EndState) (count : ℕ) → resends s.phase ≡ true → Whole s → Carries s (again_draft s count)
again_carries s count phase h =
    record {
      whole = h;
      context = inr (h.ends.known (resends_speaks s.phase phase));
      carried = slice_carried s s.una count (h.ends.begun (resends_open s.phase phase));
      low = (let a = h.ends.una_low in let b = h.ends.una_high in omega arith);
      same_received = refl;
      same_fin = refl;
      same_una = refl;
      same_expected = refl;
    }

fin_carries : (s : EndState) → is_sending s.phase ≡ true → Whole s → Carries s (fin_draft s)
fin_carries s phase h =
    let speaks = sending_speaks s.phase phase in
    let una = h.ends.una_high in
    record {
      whole = record {
        stream = h.stream;
        missing = h.missing;
        moved = h.moved;
        ends = record { una_low = h.ends.una_low; una_high = omega arith; begun = λ e. h.ends.begun (sending_open s.phase phase); known = λ e. h.ends.known speaks; resets = h.ends.resets };
      };
      context = inr (h.ends.known speaks);
      carried = λ i b e. absurd (cc);
      low = (let a = h.ends.una_low in let b = h.ends.una_high in omega arith);
      same_received = refl;
      same_fin = refl;
      same_una = refl;
      same_expected = refl;
    }

pub emit_carries : (s : EndState) (most : ℕ) → Whole s → MayCarry s (to_emit s most)
unfolding to_emit
emit_carries s most h =
    let una = h.ends.una_high in
    let P = MayCarry s in
    choose P s.rst_owed (Some (rst_draft s)) _ (λ t. rst_carries s h t) (λ e1.
    choose P (is_syn_sent s.phase && (s.next == s.isn)) (Some (syn_draft s (record s { next = s.isn + 1 }))) _
    (λ t. let at = eqb_is s.next s.isn (and_tells (is_syn_sent s.phase) (s.next == s.isn) t).1 in syn_carries s h (s.isn + 1) (omega arith)) (λ e2.
    choose P (is_syn_received s.phase && (s.next == s.isn)) (Some (syn_ack_draft s (record s { next = s.isn + 1 }))) _
    (λ t. let says = and_tells (is_syn_received s.phase) (s.next == s.isn) t in
    let at = eqb_is s.next s.isn says.1 in syn_ack_carries s h (s.isn + 1) (omega arith) says.0) (λ e3.
    choose P (sends_data s) (Some (data_draft s (fitting s most))) _ (λ t. data_carries s (fitting s most) (sends_data_says s t).0 h) (λ e4.
    choose P (sends_fin s) (Some (fin_draft s)) _ (λ t. fin_carries s (sends_fin_says s t).0 h) (λ e5.
    choose P (s.ack_owed && not (is_silent s.phase)) (Some (ack_draft s)) None
    (λ t. ack_carries s h (not_true (is_silent s.phase) (and_tells s.ack_owed (not (is_silent s.phase)) t).1)) (λ t. tt))))))

unacknowledged_carries : (s : EndState) (most : ℕ) → resends s.phase ≡ true → Whole s → Carries s (unacknowledged s most)
unacknowledged_carries s most phase h =
    choose (Carries s) (nat_lt s.una (given_end s)) (again_draft s (min (s.next - s.una) most)) (fin_again_draft s)
    (λ g. again_carries s (min (s.next - s.una) most) phase h) (λ g. fin_again_carries s h phase)

probe_carries : (s : EndState) → is_blocked s ≡ true → Whole s → MayCarry s (probe s)
probe_carries s t h =
    let P = MayCarry s in
    let phase = (and_tells (is_sending s.phase) (s.una == s.next) (and_tells (is_sending s.phase && (s.una == s.next)) (s.send_window == 0) t).0).0 in
    choose P (nat_lt 0 (unsent s)) (Some (data_draft s 1)) _ (λ g. data_carries s 1 phase h) (λ g.
    choose P s.closing (Some (fin_draft s)) None (λ closing. fin_carries s phase h) (λ e. tt))

pub resend_carries : (s : EndState) (most : ℕ) → Whole s → MayCarry s (to_resend s most)
unfolding to_resend
resend_carries s most h =
    let una = h.ends.una_high in
    let P = MayCarry s in
    choose P (is_syn_sent s.phase && nat_lt s.isn s.next) (Some (syn_draft s s)) _ (λ t. syn_carries s h s.next una) (λ e1.
    choose P (is_syn_received s.phase && nat_lt s.isn s.next) (Some (syn_ack_draft s s)) _
    (λ t. syn_ack_carries s h s.next una (and_tells (is_syn_received s.phase) (nat_lt s.isn s.next) t).0) (λ e2.
    choose P (resends s.phase && nat_lt s.una s.next) (Some (unacknowledged s most)) _
    (λ t. unacknowledged_carries s most (and_tells (resends s.phase) (nat_lt s.una s.next) t).0 h) (λ e3.
    choose P (is_blocked s) (probe s) None (λ t. probe_carries s t h) (λ t. tt))))
