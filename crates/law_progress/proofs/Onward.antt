-- How a session goes on in each call: its FIN stays made, LAST-ACK comes of a FIN alone, nothing acknowledged is taken back, and a FIN is recorded with an acknowledgement.
use Rattle.std.proofs.Common.{◌≡◌, ℕ, ◌+◌, ◌-◌, ◌%◌, ◌≤◌, ◌==◌, Bool, true, false, not, ◌&&◌, ◌||◌, nat_lt, length, Option, Some, None, ◌⊎◌, inl, inr, ⊎_elim, if◌then◌else◌, refl, sym, ap, ◌∙◌, subst, arith}
use Rattle.std.specs.Prelude.{⊤}
use Rattle.book_base.specs.declared.address.Pair.{Pair}
use Rattle.book_segments.specs.Bytes.{ring}
use Rattle.book_segments.specs.Meant.{meant}
use Rattle.book_segments.specs.Received.{keep, first_missing, runs, below_limit}
use Rattle.book_segments.specs.Segments.{Segment, has, segment_length, FIN, SYN, RST, ACK}
use Rattle.book_segments.proofs.Fields.{lt_is, lt_not}
use Rattle.book_endpoint.specs.declared.phase.Phase.{Phase}
use Rattle.book_endpoint.specs.declared.phase.Phase.TheVariants.{Listen, SynSent, SynReceived, Established, FinWait1, FinWait2, CloseWait, Closing, LastAck, TimeWait, Closed}
use Rattle.book_endpoint.specs.States.{EndState, window, hears}
use Rattle.book_endpoint.specs.Arrivals.{syn_alone, syn_ack_alone}
use Rattle.book_endpoint.specs.Hearing.{Moved, owing, above, in_range, fits_window, rested, finish, past_fin, pass_fin, fin_of, records_fin, after_own_fin, acked_fin, windowed, acked, told_by_syn}
use Rattle.endpoint_steps.specs.Arriving.{heard_runs, hear_data, go_on, acknowledged, ordinary, after_check}
use Rattle.law_link.proofs.Tests.{choose}
use Rattle.book_base.proofs.TestLaws.{not_false}
use Rattle.law_link.proofs.Phases.{fin_gone, waits}
use Rattle.law_link.proofs.Moves.{following}

-- the acknowledgement was taken
abbrev pub Reaches : EndState → Option ℕ → Type 0
Reaches s None = ⊤
Reaches s (Some a) = a ≤ s.una

-- how a session goes on at an arrival
pub record Onward (s t : EndState) (d : Segment) : Type 0 where
  pub gone : fin_gone s.phase ≡ true → fin_gone t.phase ≡ true
  pub last : t.phase ≡ LastAck → s.phase ≡ LastAck
  pub una : s.una ≤ t.una
  pub fins : (f : ℕ) → t.fin ≡ Some f → (s.fin ≡ Some f) ⊎ ((has SYN d ≡ false) × (has FIN d ≡ true) × (has ACK d ≡ true) × Reaches t (meant d.acknowledgement s.una))

-- a step that records no FIN
record Quietly (s t : EndState) : Type 0 where
  gone : fin_gone s.phase ≡ true → fin_gone t.phase ≡ true
  last : t.phase ≡ LastAck → s.phase ≡ LastAck
  una : s.una ≤ t.una
  fin : t.fin ≡ s.fin

quiet_onward : (s t : EndState) (d : Segment) → Quietly s t → Onward s t d
quiet_onward s t d h = record { gone = h.gone; last = h.last; una = h.una; fins = λ f e. inl (sym h.fin ∙ e) }

quiet_refl : (s : EndState) → Quietly s s
quiet_refl s = record { gone = λ e. e; last = λ e. e; una = omega arith; fin = refl }

quiet_then : (s t u : EndState) → Quietly s t → Quietly t u → Quietly s u
quiet_then s t u a b = record { gone = λ e. b.gone (a.gone e); last = λ e. a.last (b.last e); una = (let one = a.una in let two = b.una in omega arith); fin = b.fin ∙ a.fin }

owing_quiet : (s : EndState) → Quietly s (owing s)
owing_quiet s = record { gone = λ e. e; last = λ e. e; una = omega arith; fin = refl }

-- ---- phases

own_gone : (phase : Phase) → fin_gone phase ≡ true → fin_gone (after_own_fin phase) ≡ true
own_gone Listen e = e
own_gone SynSent e = e
own_gone SynReceived e = e
own_gone Established e = e
own_gone CloseWait e = e
own_gone FinWait1 e = refl
own_gone Closing e = refl
own_gone LastAck e = refl
own_gone FinWait2 e = e
own_gone TimeWait e = e
own_gone Closed e = e

pub own_last : (phase : Phase) → after_own_fin phase ≡ LastAck → phase ≡ LastAck
own_last Listen e = absurd (cc)
own_last SynSent e = absurd (cc)
own_last SynReceived e = absurd (cc)
own_last Closed e = absurd (cc)
own_last Established e = absurd (cc)
own_last CloseWait e = absurd (cc)
own_last FinWait1 e = absurd (cc)
own_last Closing e = absurd (cc)
own_last LastAck e = absurd (cc)
own_last FinWait2 e = absurd (cc)
own_last TimeWait e = absurd (cc)

past_gone : (phase : Phase) → fin_gone phase ≡ true → fin_gone (past_fin phase) ≡ true
past_gone Listen e = e
past_gone SynSent e = e
past_gone SynReceived e = e
past_gone Established e = absurd (cc)
past_gone CloseWait e = e
past_gone FinWait1 e = refl
past_gone Closing e = e
past_gone LastAck e = e
past_gone FinWait2 e = refl
past_gone TimeWait e = e
past_gone Closed e = e

pub past_last : (phase : Phase) → past_fin phase ≡ LastAck → phase ≡ LastAck
past_last Listen e = absurd (cc)
past_last SynSent e = absurd (cc)
past_last SynReceived e = absurd (cc)
past_last Closed e = absurd (cc)
past_last Established e = absurd (cc)
past_last CloseWait e = absurd (cc)
past_last FinWait1 e = absurd (cc)
past_last Closing e = absurd (cc)
past_last LastAck e = e
past_last FinWait2 e = absurd (cc)
past_last TimeWait e = absurd (cc)

closed_quiet : (s : EndState) → Quietly s (record s { phase = Closed })
closed_quiet s = record { gone = λ e. refl; last = λ e. absurd (cc); una = omega arith; fin = refl }

rested_quiet : (s : EndState) (now : ℕ) (phase : Phase) (o : Option ℕ) → Quietly s (rested s now phase o)
rested_quiet s now TimeWait None = record { gone = λ e. e; last = λ e. e; una = omega arith; fin = refl }
rested_quiet s now _ _ = quiet_refl s

pass_quiet_if : (s : EndState) (f : ℕ) (b : Bool) → Quietly s (if b then record s { expected = f + 1; phase = past_fin s.phase } else s)
pass_quiet_if s f true = record { gone = past_gone s.phase; last = past_last s.phase; una = omega arith; fin = refl }
pass_quiet_if s f false = quiet_refl s

pass_quiet : (s : EndState) (o : Option ℕ) → Quietly s (pass_fin s o)
pass_quiet s None = quiet_refl s
pass_quiet s (Some f) = pass_quiet_if s f (f == s.expected)

windowed_quiet : (s : EndState) (old : ℕ) (d : Segment) (k : ℕ) (a : Option ℕ) → Quietly s (windowed s old d k a)
windowed_quiet s old d k None = quiet_refl s
windowed_quiet s old d k (Some a) = choose (Quietly s) _ (record s { send_window = d.window; wl1 = k; wl2 = a }) s (λ e. record { gone = λ g. g; last = λ g. g; una = omega arith; fin = refl }) (λ e. quiet_refl s)

fin_acked_quiet : (s : EndState) (a : Option ℕ) → Quietly s (acked_fin s a)
fin_acked_quiet s a =
    choose (Quietly s) (above a (s.isn + 1 + length s.given)) (record s { phase = after_own_fin s.phase }) s
    (λ e. record { gone = own_gone s.phase; last = own_last s.phase; una = omega arith; fin = refl }) (λ e. quiet_refl s)

acked_quiet : (s : EndState) (a : Option ℕ) → Quietly s (acked s a) × Reaches (acked s a) a
acked_quiet s None = (quiet_refl s, tt)
acked_quiet s (Some a) =
    choose (λ (t : EndState). Quietly s t × (a ≤ t.una)) (nat_lt s.una a) (record s { una = a }) s
    (λ e. let up = lt_is s.una a e in (record { gone = λ g. g; last = λ g. g; una = omega arith; fin = refl }, omega arith)) (λ e. (quiet_refl s, lt_not s.una a e))

reaches_up : (s t : EndState) (o : Option ℕ) → s.una ≤ t.una → Reaches s o → Reaches t o
reaches_up s t None up h = tt
reaches_up s t (Some a) up h = omega arith

-- ---- the data

fin_came : (o : Option ℕ) (b fin : Bool) (f g : ℕ) → (b ≡ true → fin ≡ true) → fin_of o b f ≡ Some g → (o ≡ Some g) ⊎ (fin ≡ true)
fin_came (Some k) b fin f g says e = inl e
fin_came None true fin f g says e = inr (says refl)
fin_came None false fin f g says e = absurd (cc)

first_on : (a b c : Bool) → (a && b && c) ≡ true → a ≡ true
first_on true b c e = refl
first_on false b c e = absurd (cc)

-- what hearing does
record Hearing (s t : EndState) (d : Segment) : Type 0 where
  gone : fin_gone s.phase ≡ true → fin_gone t.phase ≡ true
  last : t.phase ≡ LastAck → s.phase ≡ LastAck
  una : s.una ≤ t.una
  fins : (f : ℕ) → t.fin ≡ Some f → (s.fin ≡ Some f) ⊎ (has FIN d ≡ true)

module _ (s : EndState) (d : Segment) (n now : ℕ) where
  hearing_quiet : (t : EndState) → Quietly s t → Hearing s t d
  hearing_quiet t h = record { gone = h.gone; last = h.last; una = h.una; fins = λ f e. inl (sym h.fin ∙ e) }

  heard_on : (m : ℕ → Option ℕ) (b : Bool) → Hearing s (heard_runs s m d n now b).state d
  heard_on m true = hearing_quiet (owing s) (owing_quiet s)
  heard_on m false =
      let f = n + length d.payload in
      let records = records_fin s m d f in
      let t : EndState = record s { received = m; fin = fin_of s.fin records f; ack_owed = true; expected = first_missing m s.expected (window s) } in
      let u = pass_fin t t.fin in
      let h = quiet_then t u (finish u now).state (pass_quiet t t.fin) (rested_quiet u now u.phase u.deadline) in
      record {
        gone = h.gone;
        last = h.last;
        una = h.una;
        fins = λ g e. fin_came s.fin records (has FIN d) f g (first_on (has FIN d) (in_range f s.expected (s.expected + window s)) (runs m false f (s.expected + window s - f) == 0)) (sym h.fin ∙ e);
      }

  hear_on : (b : Bool) → Hearing s (hear_data s d n now b).state d
  hear_on false = hearing_quiet (finish s now).state (rested_quiet s now s.phase s.deadline)
  hear_on true = heard_on (keep s.received (record { number = n; bytes = d.payload }) (record { low = s.expected; high = below_limit s.fin (s.expected + window s) })) _

-- ---- the arrival

module _ (s : EndState) (d : Segment) (n now : ℕ) (plain : has SYN d ≡ false) (ack : has ACK d ≡ true) where
  go_on_on : (u : EndState) (old : ℕ) (a : Option ℕ) → meant d.acknowledgement s.una ≡ a → Quietly s u → Reaches u a → Onward s (go_on u old d n now a).state d
  go_on_on u old a is q reaches =
      let v = windowed u old d n a in
      let t = acked_fin v a in
      let one = quiet_then s u t q (quiet_then u v t (windowed_quiet u old d n a) (fin_acked_quiet v a)) in
      let two = quiet_then u v t (windowed_quiet u old d n a) (fin_acked_quiet v a) in
      let h = hear_on t d n now (hears t.phase && (nat_lt 0 (length d.payload) || has FIN d)) in
      let end_state = (go_on u old d n now a).state in
      let up = h.una in
      let up2 = two.una in
      let up1 = one.una in
      record {
        gone = λ e. h.gone (one.gone e);
        last = λ e. one.last (h.last e);
        una = omega arith;
        fins = λ f e.
            ⊎_elim (λ (x : t.fin ≡ Some f). inl (sym one.fin ∙ x))
            (λ (x : has FIN d ≡ true). inr (plain, x, ack, subst (Reaches end_state) (sym is) (reaches_up u end_state a (omega arith) reaches))) (h.fins f e);
      }

pick : (s : EndState) (d : Segment) (b : Bool) (t u : Moved) → (b ≡ true → Onward s t.state d) → (b ≡ false → Onward s u.state d) → Onward s (if b then t else u).state d
pick s d true t u f g = f refl
pick s d false t u f g = g refl

established_quiet : (s : EndState) (a : Option ℕ) → s.phase ≡ SynReceived → Quietly s (record (acked s a) { phase = Established }) × Reaches (record (acked s a) { phase = Established }) a
established_quiet s a is =
    let r = acked_quiet s a in
    let q = r.0 in
    (record { gone = λ e. let wrong = sym (ap fin_gone is) ∙ e in absurd (cc); last = λ e. absurd (cc); una = q.una; fin = q.fin }, established_reaches (acked s a) a r.1)
  where
    established_reaches : (t : EndState) (o : Option ℕ) → Reaches t o → Reaches (record t { phase = Established }) o
    established_reaches t None h = tt
    established_reaches t (Some k) h = h

acknowledged_on : (s : EndState) (c : Option ℕ) (d : Segment) (n now : ℕ) (phase : Phase) → s.phase ≡ phase → has SYN d ≡ false → has ACK d ≡ true → Onward s (acknowledged (following c s) d n now (meant d.acknowledgement s.una) phase).state d
acknowledged_on s c d n now SynReceived is plain ack =
    let a = meant d.acknowledgement s.una in
    let f = following c s in
    pick s d (above a s.una && not (above a s.next)) _ _
    (λ e. let r = established_quiet f a is in
    let q : Quietly s (record (acked f a) { phase = Established }) = record { gone = r.0.gone; last = r.0.last; una = r.0.una; fin = r.0.fin } in
    go_on_on s d n now plain ack (record (acked f a) { phase = Established }) f.una a refl q r.1)
    (λ e. quiet_onward s f d (record { gone = λ g. g; last = λ g. g; una = omega arith; fin = refl }))
acknowledged_on s c d n now _ is plain ack =
    let a = meant d.acknowledgement s.una in
    let f = following c s in
    pick s d (above a s.next) _ _ (λ e. quiet_onward s (owing f) d (record { gone = λ g. g; last = λ g. g; una = omega arith; fin = refl }))
    (λ e. let r = acked_quiet f a in
    let q : Quietly s (acked f a) = record { gone = r.0.gone; last = r.0.last; una = r.0.una; fin = r.0.fin } in
    go_on_on s d n now plain ack (acked f a) f.una a refl q r.1)

ordinary_on : (s : EndState) (c : Option ℕ) (d : Segment) (n now : ℕ) → Onward s (ordinary s (following c s) d n now).state d
ordinary_on s c d n now =
    pick s d (has RST d) _ _
    (λ e. pick s d (n == s.expected) _ _ (λ e. quiet_onward s (record s { phase = Closed }) d (closed_quiet s)) (λ e. quiet_onward s (owing s) d (owing_quiet s)))
    (λ e. pick s d (has SYN d) _ _ (λ e. quiet_onward s (owing (following c s)) d (record { gone = λ g. g; last = λ g. g; una = omega arith; fin = refl }))
    (λ plain. pick s d (not (has ACK d)) _ _ (λ e. quiet_onward s (following c s) d (record { gone = λ g. g; last = λ g. g; una = omega arith; fin = refl }))
    (λ e. acknowledged_on s c d n now s.phase refl plain (not_false (has ACK d) e))))

pub check_on : (pair : Pair) (s : EndState) (c : Option ℕ) (d : Segment) (n now : ℕ) (phase : Phase) → s.phase ≡ phase → (waits s.phase ≡ true → s.una ≤ s.isn + 1) → Onward s (after_check pair s (following c s) d n now phase).state d
check_on pair s c d n now Listen is low =
    pick s d (syn_alone d) _ _
    (λ e. quiet_onward s (record (told_by_syn pair (following c s) d n) { phase = SynReceived }) d (record { gone = λ g. let wrong = sym (ap fin_gone is) ∙ g in absurd (cc); last = λ g. absurd (cc); una = omega arith; fin = refl }))
    (λ e. quiet_onward s s d (quiet_refl s))
check_on pair s c d n now SynSent is low =
    pick s d (not (syn_ack_alone d)) _ _ (λ e. quiet_onward s s d (quiet_refl s))
    (λ e. pick s d (nat_lt s.isn s.next && (d.acknowledgement == (s.isn + 1) % ring)) _ _
    (λ g. let una = low (ap waits is) in
    quiet_onward s (record (told_by_syn pair (following c s) d n) { phase = Established; una = s.isn + 1; wl2 = s.isn + 1; ack_owed = true }) d (record { gone = λ g. let wrong = sym (ap fin_gone is) ∙ g in absurd (cc); last = λ g. absurd (cc); una = una; fin = refl }))
    (λ g. quiet_onward s s d (quiet_refl s)))
check_on pair s c d n now _ is low =
    pick s d (fits_window n (segment_length d) s.expected (window s)) _ _ (λ e. ordinary_on s c d n now)
    (λ e. choose (λ (t : EndState). Onward s t d) (has RST d) s (owing s) (λ e. quiet_onward s s d (quiet_refl s)) (λ e. quiet_onward s (owing s) d (owing_quiet s)))
