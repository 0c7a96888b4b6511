-- Each case of an arrival is a steady change, and none of them answers as the check does.
use Rattle.std.proofs.Common.{◌≡◌, ℕ, ◌+◌, ◌-◌, ◌%◌, ◌^◌, ◌<◌, ◌==◌, Bool, true, false, not, ◌&&◌, nat_lt, length, Option, Some, None, ◌⊎◌, inl, inr, if◌then◌else◌, refl, sym, subst}
use Rattle.book_base.specs.declared.address.Pair.{Pair}
use Rattle.book_segments.specs.Meant.{meant}
use Rattle.book_segments.specs.Segments.{Segment, has, segment_length, ACK, FIN, RST, SYN}
use Rattle.book_endpoint.specs.declared.phase.Phase.{Phase}
use Rattle.book_endpoint.specs.declared.phase.Phase.TheVariants.{Listen, SynSent, SynReceived, Established, TimeWait, Closed}
use Rattle.book_endpoint.specs.States.{EndState, window}
use Rattle.book_segments.specs.Received.{keep, below_limit, first_missing, runs}
use Rattle.book_endpoint.specs.declared.arrival.Arrival.TheVariants.{Unexpected, Window, Challenge, NoAck, BadAck, TooManyRuns, Reset, Taken}
use Rattle.book_endpoint.specs.Arrivals.{syn_alone, syn_ack_alone}
use Rattle.book_endpoint.specs.Hearing.{Moved, answered, owing, above, in_range, fits_window, rested, finish, past_fin, pass_fin, fin_of, after_own_fin, acked_fin, windowed, acked, told_by_syn}
use Rattle.endpoint_steps.specs.Arriving.{heard_runs, hear_data, go_on, acknowledged, ordinary, after_check}
use Rattle.law_link.proofs.Tests.{choose}
use Rattle.book_base.proofs.TestLaws.{not_false}
use Rattle.law_link.proofs.Phases.{waits, PhaseOk, own_ok, past_ok, closed_ok, established_ok, received_ok, answered_ok}
use Rattle.law_link.proofs.Sound.{Sound, Steady, steady_refl, steady_then, with_phase, learns}
use Rattle.book_segments.specs.Bytes.{ring}

-- what a segment that passed may do: a steady change; a reset comes of RST alone
pub record MovedOk (s : EndState) (d : Segment) (r : Moved) : Type 0 where
  pub steady : Steady s r.state
  pub reset : r.answer ≡ Reset → has RST d ≡ true
  pub heard : (r.answer ≡ Reset) ⊎ ((r.answer ≡ Unexpected) ⊎ ((r.answer ≡ Window) ⊎ ((r.answer ≡ Challenge) ⊎ ((r.answer ≡ NoAck) ⊎ ((r.answer ≡ BadAck) ⊎ ((r.answer ≡ TooManyRuns) ⊎ (r.answer ≡ Taken)))))))

module _ (s : EndState) (d : Segment) where
  unexpected : (t : EndState) → Steady s t → MovedOk s d (answered t Unexpected)
  unexpected t h = record { steady = h; reset = λ e. absurd (cc); heard = inr (inl refl) }

  outside : (t : EndState) → Steady s t → MovedOk s d (answered t Window)
  outside t h = record { steady = h; reset = λ e. absurd (cc); heard = inr (inr (inl refl)) }

  challenged : (t : EndState) → Steady s t → MovedOk s d (answered t Challenge)
  challenged t h = record { steady = h; reset = λ e. absurd (cc); heard = inr (inr (inr (inl refl))) }

  no_ack : (t : EndState) → Steady s t → MovedOk s d (answered t NoAck)
  no_ack t h = record { steady = h; reset = λ e. absurd (cc); heard = inr (inr (inr (inr (inl refl)))) }

  bad_ack : (t : EndState) → Steady s t → MovedOk s d (answered t BadAck)
  bad_ack t h = record { steady = h; reset = λ e. absurd (cc); heard = inr (inr (inr (inr (inr (inl refl))))) }

  too_many : (t : EndState) → Steady s t → MovedOk s d (answered t TooManyRuns)
  too_many t h = record { steady = h; reset = λ e. absurd (cc); heard = inr (inr (inr (inr (inr (inr (inl refl)))))) }

  taken : (t : EndState) → Steady s t → MovedOk s d (answered t Taken)
  taken t h = record { steady = h; reset = λ e. absurd (cc); heard = inr (inr (inr (inr (inr (inr (inr refl)))))) }

  resets : (t : EndState) → has RST d ≡ true → Steady s t → MovedOk s d (answered t Reset)
  resets t is h = record { steady = h; reset = λ e. is; heard = inl refl }

rested_steady : (s : EndState) (now : ℕ) (phase : Phase) (o : Option ℕ) → Steady s (rested s now phase o)
rested_steady s now TimeWait None = steady_refl s
rested_steady s now _ _ = steady_refl s

pass_steady : (s : EndState) (o : Option ℕ) → Steady s (pass_fin s o)
pass_steady s None = steady_refl s
pass_steady s (Some f) = choose (Steady s) (f == s.expected) (record s { expected = f + 1; phase = past_fin s.phase }) s (λ e. with_phase s (past_fin s.phase) (past_ok s.phase)) (λ e. steady_refl s)

finish_ok : (s t : EndState) (d : Segment) (now : ℕ) → Steady s t → MovedOk s d (finish t now)
finish_ok s t d now h = taken s d (rested t now t.phase t.deadline) (steady_then s t (rested t now t.phase t.deadline) h (rested_steady t now t.phase t.deadline))

heard_ok : (s t : EndState) (m : ℕ → Option ℕ) (d : Segment) (n now : ℕ) (b : Bool) → Steady s t → MovedOk s d (heard_runs t m d n now b)
heard_ok s t m d n now true h = too_many s d (owing t) h
heard_ok s t m d n now false h =
    let w = window t in
    let f = n + length d.payload in
    let records = has FIN d && in_range f t.expected (t.expected + w) && (runs m false f (t.expected + w - f) == 0) in
    let u : EndState = record t { received = m; fin = fin_of t.fin records f; ack_owed = true; expected = first_missing m t.expected w } in
    finish_ok s (pass_fin u u.fin) d now (steady_then s u (pass_fin u u.fin) h (pass_steady u u.fin))

hear_ok : (s t : EndState) (d : Segment) (n now : ℕ) (b : Bool) → Steady s t → MovedOk s d (hear_data t d n now b)
hear_ok s t d n now false h = finish_ok s t d now h
hear_ok s t d n now true h = heard_ok s t (keep t.received (record { number = n; bytes = d.payload }) (record { low = t.expected; high = below_limit t.fin (t.expected + window t) })) d n now _ h

windowed_steady : (s : EndState) (old : ℕ) (d : Segment) (k : ℕ) (a : Option ℕ) → Steady s (windowed s old d k a)
windowed_steady s old d k None = steady_refl s
windowed_steady s old d k (Some a) = choose (Steady s) _ (record s { send_window = d.window; wl1 = k; wl2 = a }) s (λ e. steady_refl s) (λ e. steady_refl s)

acked_fin_steady : (s : EndState) (a : Option ℕ) → Steady s (acked_fin s a)
acked_fin_steady s a = choose (Steady s) _ (record s { phase = after_own_fin s.phase }) s (λ e. with_phase s (after_own_fin s.phase) (own_ok s.phase)) (λ e. steady_refl s)

acked_steady : (s : EndState) (a : Option ℕ) → Steady s (acked s a)
acked_steady s None = steady_refl s
acked_steady s (Some a) = choose (Steady s) (nat_lt s.una a) (record s { una = a }) s (λ e. steady_refl s) (λ e. steady_refl s)

pub acked_phase : (s : EndState) (a : Option ℕ) (phase : Phase) → s.phase ≡ phase → (acked s a).phase ≡ phase
acked_phase s None phase is = is
acked_phase s (Some a) phase is = choose (λ (t : EndState). t.phase ≡ phase) (nat_lt s.una a) (record s { una = a }) s (λ e. is) (λ e. is)

go_on_ok : (s t : EndState) (old : ℕ) (d : Segment) (n now : ℕ) (a : Option ℕ) → Steady s t → MovedOk s d (go_on t old d n now a)
go_on_ok s t old d n now a h =
    let v = windowed t old d n a in
    let u = acked_fin v a in
    hear_ok s u d n now _ (steady_then s v u (steady_then s t v h (windowed_steady t old d n a)) (acked_fin_steady v a))

acknowledged_ok : (s t : EndState) (d : Segment) (n now : ℕ) (a : Option ℕ) (phase : Phase) → t.phase ≡ phase → Steady s t → MovedOk s d (acknowledged t d n now a phase)
acknowledged_ok s t d n now a SynReceived is h =
    let u = acked t a in
    let v : EndState = record u { phase = Established } in
    choose (MovedOk s d) (above a t.una && not (above a t.next)) (go_on v t.una d n now a) (answered t BadAck)
    (λ e. go_on_ok s v t.una d n now a
    (steady_then s u v (steady_then s t u h (acked_steady t a)) (with_phase u Established (subst (λ p. PhaseOk p Established) (sym (acked_phase t a SynReceived is)) established_ok))))
    (λ e. bad_ack s d t h)
acknowledged_ok s t d n now a _ is h =
    choose (MovedOk s d) (above a t.next) (answered (owing t) BadAck) (go_on (acked t a) t.una d n now a)
    (λ e. bad_ack s d (owing t) h) (λ e. go_on_ok s (acked t a) t.una d n now a (steady_then s t (acked t a) h (acked_steady t a)))

-- the state once an RNextKeyID is heard: the current row alone changes
abbrev pub following : Option ℕ → EndState → EndState
following c s = record s { current = c }

ordinary_ok : (s : EndState) (c : Option ℕ) (d : Segment) (n now : ℕ) → MovedOk s d (ordinary s (following c s) d n now)
ordinary_ok s c d n now =
    let f = following c s in
    choose (MovedOk s d) (has RST d) _ _
    (λ rst. choose (MovedOk s d) (n == s.expected) (answered (record s { phase = Closed }) Reset) (answered (owing s) Challenge)
    (λ at. resets s d (record s { phase = Closed }) rst (with_phase s Closed (closed_ok s.phase))) (λ at. challenged s d (owing s) (steady_refl s)))
    (λ no. choose (MovedOk s d) (has SYN d) (answered (owing f) Challenge) _ (λ syn. challenged s d (owing f) (steady_refl s))
    (λ no2. choose (MovedOk s d) (not (has ACK d)) (answered f NoAck) _ (λ none. no_ack s d f (steady_refl s))
    (λ has_ack. acknowledged_ok s f d n now (meant d.acknowledgement f.una) f.phase refl (steady_refl s))))

-- what the tests of a SYN say
syn_of : (a b c e : Bool) → (a && b && c && e) ≡ true → a ≡ true
syn_of true b c e is = refl
syn_of false b c e is = absurd (cc)

-- a segment that passed; with SYN its number is a 32-bit number
pub after_check_ok : (pair : Pair) (s : EndState) (c : Option ℕ) (d : Segment) (n now : ℕ) (phase : Phase) → s.phase ≡ phase → (has SYN d ≡ true → n < 2 ^ 32) → Sound s
    → MovedOk s d (after_check pair s (following c s) d n now phase)
after_check_ok pair s c d n now Listen is fits h =
    let t = told_by_syn pair (following c s) d n in
    choose (MovedOk s d) (syn_alone d) (answered (record t { phase = SynReceived }) Taken) (answered s Unexpected)
    (λ e. taken s d (record t { phase = SynReceived })
    (learns s n SynReceived (h.unknown (subst (λ p. waits p ≡ true) (sym is) refl)) (fits (syn_of (has SYN d) (not (has ACK d)) (not (has RST d)) (not (has FIN d)) e)) refl (subst (λ p. PhaseOk p SynReceived) (sym is) received_ok)))
    (λ e. unexpected s d s (steady_refl s))
after_check_ok pair s c d n now SynSent is fits h =
    let t = told_by_syn pair (following c s) d n in
    let u : EndState = record t { phase = Established; una = s.isn + 1; wl2 = s.isn + 1; ack_owed = true } in
    choose (MovedOk s d) (not (syn_ack_alone d)) (answered s Unexpected) _
    (λ e. unexpected s d s (steady_refl s))
    (λ e. choose (MovedOk s d) (nat_lt s.isn s.next && (d.acknowledgement == (s.isn + 1) % ring)) (answered u Taken) (answered s BadAck)
    (λ g. taken s d u
    (learns s n Established (h.unknown (subst (λ p. waits p ≡ true) (sym is) refl)) (fits (syn_of (has SYN d) (has ACK d) (not (has RST d)) (not (has FIN d)) (not_false (syn_ack_alone d) e))) refl (subst (λ p. PhaseOk p Established) (sym is) answered_ok)))
    (λ g. bad_ack s d s (steady_refl s)))
after_check_ok pair s c d n now _ is fits h =
    choose (MovedOk s d) (fits_window n (segment_length d) s.expected (window s)) (ordinary s (following c s) d n now) (answered (if has RST d then s else owing s) Window)
    (λ e. ordinary_ok s c d n now)
    (λ e. outside s d (if has RST d then s else owing s) (choose (Steady s) (has RST d) s (owing s) (λ e. steady_refl s) (λ e. steady_refl s)))
