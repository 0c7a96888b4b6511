-- The window that an end knows after an arrival: the one that it knew before, or the one that the segment tells.
use Rattle.std.proofs.Common.{◌≡◌, ℕ, ◌+◌, ◌%◌, ◌==◌, Bool, true, false, not, ◌&&◌, ◌||◌, nat_lt, length, Option, Some, None, ◌⊎◌, inl, inr, if◌then◌else◌, refl, subst, ◌∙◌, Ok, Err}
use Rattle.book_base.specs.declared.address.Pair.{Pair}
use Rattle.book_segments.specs.Bytes.{ring}
use Rattle.book_segments.specs.Meant.{meant}
use Rattle.book_segments.specs.Received.{first_missing}
use Rattle.book_segments.specs.Segments.{Segment, Read, good, has, segment_length, FIN, SYN, RST, ACK}
use Rattle.std.specs.Prelude.{List}
use Rattle.book_keys.specs.Rows.{Row}
use Rattle.book_keys.specs.Coordination.{follow}
use Rattle.book_endpoint.specs.declared.phase.Phase.{Phase}
use Rattle.book_endpoint.specs.declared.phase.Phase.TheVariants.{Listen, SynSent, SynReceived, Established, TimeWait, Closed}
use Rattle.book_endpoint.specs.declared.arrival.Arrival.TheVariants.{Foreign, Checksum, Closed as AtClosed, Unexpected, Window, Challenge, NoAck, BadAck, Reset, Taken}
use Rattle.book_endpoint.specs.States.{EndState, window, hears, is_closed}
use Rattle.book_endpoint.specs.Verdicts.{Judgement}
use Rattle.book_endpoint.specs.Arrivals.{Arrived, syn_alone, syn_ack_alone, unmoved, judged_by, from_peer, arrive}
use Rattle.book_endpoint.specs.Hearing.{Moved, answered, owing, above, fits_window, rested, past_fin, pass_fin, fin_of, records_fin, after_own_fin, acked_fin, windowed, acked, told_by_syn}
use Rattle.endpoint_steps.specs.Arriving.{heard_runs, hear_data, go_on, acknowledged, reset, ordinary, after_check, arrive_judged}
use Rattle.endpoint_steps.proofs.Arriving.{read_by_cases}
use Rattle.law_link.proofs.Moves.{following}
use Rattle.law_link.proofs.Tests.{choose}

-- the window that is known at t is that at s, or x
abbrev pub IsTold : EndState → EndState → ℕ → Type 0
IsTold s t x = (t.send_window ≡ s.send_window) ⊎ (t.send_window ≡ x)

told_on : (s t u : EndState) (x : ℕ) → u.send_window ≡ t.send_window → IsTold s t x → IsTold s u x
told_on s t u x e (inl h) = inl (e ∙ h)
told_on s t u x e (inr h) = inr (e ∙ h)

told_from : (s t u : EndState) (x : ℕ) → t.send_window ≡ s.send_window → IsTold t u x → IsTold s u x
told_from s t u x e (inl h) = inl (h ∙ e)
told_from s t u x e (inr h) = inr h

rested_window : (s : EndState) (now : ℕ) (phase : Phase) (o : Option ℕ) → (rested s now phase o).send_window ≡ s.send_window
rested_window s now TimeWait None = refl
rested_window s now _ _ = refl

pass_window : (s : EndState) (o : Option ℕ) → (pass_fin s o).send_window ≡ s.send_window
pass_window s None = refl
pass_window s (Some f) = choose (λ (t : EndState). t.send_window ≡ s.send_window) (f == s.expected) (record s { expected = f + 1; phase = past_fin s.phase }) s (λ e. refl) (λ e. refl)

runs_window : (s : EndState) (kept : ℕ → Option ℕ) (d : Segment) (n now : ℕ) (b : Bool) → (heard_runs s kept d n now b).state.send_window ≡ s.send_window
runs_window s kept d n now true = refl
runs_window s kept d n now false =
    let f = n + length d.payload in
    let t : EndState = record s { received = kept; fin = fin_of s.fin (records_fin s kept d f) f; ack_owed = true; expected = first_missing kept s.expected (window s) } in
    let u = pass_fin t t.fin in
    rested_window u now u.phase u.deadline ∙ pass_window t t.fin

hear_window : (s : EndState) (d : Segment) (n now : ℕ) (b : Bool) → (hear_data s d n now b).state.send_window ≡ s.send_window
hear_window s d n now false = rested_window s now s.phase s.deadline
hear_window s d n now true = runs_window s _ d n now _

fin_window : (s : EndState) (o : Option ℕ) → (acked_fin s o).send_window ≡ s.send_window
fin_window s o = choose (λ (t : EndState). t.send_window ≡ s.send_window) (above o (s.isn + 1 + length s.given)) (record s { phase = after_own_fin s.phase }) s (λ e. refl) (λ e. refl)

acked_window : (s : EndState) (o : Option ℕ) → (acked s o).send_window ≡ s.send_window
acked_window s None = refl
acked_window s (Some a) = choose (λ (t : EndState). t.send_window ≡ s.send_window) (nat_lt s.una a) (record s { una = a }) s (λ e. refl) (λ e. refl)

windowed_told : (s : EndState) (old : ℕ) (d : Segment) (n : ℕ) (o : Option ℕ) → IsTold s (windowed s old d n o) d.window
windowed_told s old d n None = inl refl
windowed_told s old d n (Some a) = choose (λ (t : EndState). IsTold s t d.window) _ (record s { send_window = d.window; wl1 = n; wl2 = a }) s (λ e. inr refl) (λ e. inl refl)

go_on_told : (s : EndState) (old : ℕ) (d : Segment) (n now : ℕ) (o : Option ℕ) → IsTold s (go_on s old d n now o).state d.window
go_on_told s old d n now o =
    let w = windowed s old d n o in
    let t = acked_fin w o in
    let b = hears t.phase && (nat_lt 0 (length d.payload) || has FIN d) in
    told_on s w (hear_data t d n now b).state d.window (hear_window t d n now b ∙ fin_window w o) (windowed_told s old d n o)

acknowledged_told : (s : EndState) (d : Segment) (n now : ℕ) (o : Option ℕ) (phase : Phase) → IsTold s (acknowledged s d n now o phase).state d.window
acknowledged_told s d n now o SynReceived =
    let P : Moved → Type 0 = λ m. IsTold s m.state d.window in
    let u : EndState = record (acked s o) { phase = Established } in
    choose P (above o s.una && not (above o s.next)) (go_on u s.una d n now o) (answered s BadAck) (λ e. told_from s u (go_on u s.una d n now o).state d.window (acked_window s o) (go_on_told u s.una d n now o)) (λ e. inl refl)
acknowledged_told s d n now o _ =
    let P : Moved → Type 0 = λ m. IsTold s m.state d.window in
    let u = acked s o in
    choose P (above o s.next) (answered (owing s) BadAck) (go_on u s.una d n now o) (λ e. inl refl) (λ e. told_from s u (go_on u s.una d n now o).state d.window (acked_window s o) (go_on_told u s.una d n now o))

reset_window : (s : EndState) (n : ℕ) → (reset s n).state.send_window ≡ s.send_window
reset_window s n = choose (λ (m : Moved). m.state.send_window ≡ s.send_window) (n == s.expected) (answered (record s { phase = Closed }) Reset) (answered (owing s) Challenge) (λ e. refl) (λ e. refl)

ordinary_told : (s : EndState) (c : Option ℕ) (d : Segment) (n now : ℕ) → IsTold s (ordinary s (following c s) d n now).state d.window
ordinary_told s c d n now =
    let P : Moved → Type 0 = λ m. IsTold s m.state d.window in
    let f = following c s in
    let o = meant d.acknowledgement f.una in
    choose P (has RST d) (reset s n) _ (λ e. inl (reset_window s n)) (λ e1.
    choose P (has SYN d) (answered (owing f) Challenge) _ (λ e. inl refl) (λ e2.
    choose P (not (has ACK d)) (answered f NoAck) (acknowledged f d n now o f.phase) (λ e. inl refl) (λ e3. told_from s f (acknowledged f d n now o f.phase).state d.window refl (acknowledged_told f d n now o f.phase))))

check_told : (pair : Pair) (s : EndState) (c : Option ℕ) (d : Segment) (n now : ℕ) (phase : Phase) → IsTold s (after_check pair s (following c s) d n now phase).state d.window
check_told pair s c d n now Listen =
    let P : Moved → Type 0 = λ m. IsTold s m.state d.window in
    choose P (syn_alone d) (answered (record (told_by_syn pair (following c s) d n) { phase = SynReceived }) Taken) (answered s Unexpected) (λ e. inr refl) (λ e. inl refl)
check_told pair s c d n now SynSent =
    let P : Moved → Type 0 = λ m. IsTold s m.state d.window in
    choose P (not (syn_ack_alone d)) (answered s Unexpected) _ (λ e. inl refl) (λ e1.
    choose P (nat_lt s.isn s.next && (d.acknowledgement == (s.isn + 1) % ring)) _ (answered s BadAck) (λ e. inr refl) (λ e. inl refl))
check_told pair s c d n now _ =
    let P : Moved → Type 0 = λ m. IsTold s m.state d.window in
    choose P (fits_window n (segment_length d) s.expected (window s)) (ordinary s (following c s) d n now) (answered (if has RST d then s else owing s) Window) (λ e. ordinary_told s c d n now)
    (λ e. choose (λ (t : EndState). IsTold s t d.window) (has RST d) s (owing s) (λ e. inl refl) (λ e. inl refl))

judged_told : (rows : List Row) (pair : Pair) (now : ℕ) (s : EndState) (d : Segment) (j : Judgement) → IsTold s (arrive_judged rows pair now s d j).state d.window
judged_told rows pair now s d (Err why) = inl refl
judged_told rows pair now s d (Ok p) = check_told pair s (follow s.current rows pair p.rnext_key_id now) d p.number now s.phase

pub arrive_told : (rows : List Row) (pair : Pair) (now : ℕ) (s : EndState) (d : Segment) → IsTold s (arrive rows pair now s (Read d)).state d.window
arrive_told rows pair now s d =
    let P : Arrived → Type 0 = λ a. IsTold s a.state d.window in
    subst P (read_by_cases rows pair now s (Read d))
    (choose P (not (from_peer pair d)) (unmoved s Foreign) _ (λ e. inl refl) (λ e1.
    choose P (not (good d)) (unmoved s Checksum) _ (λ e. inl refl) (λ e2.
    choose P (is_closed s.phase) (unmoved s AtClosed) (arrive_judged rows pair now s d (judged_by rows pair now s d)) (λ e. inl refl) (λ e3. judged_told rows pair now s d (judged_by rows pair now s d)))))
