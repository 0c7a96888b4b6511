-- What is made and heard before both SYNs are acknowledged.
use Rattle.std.proofs.Common.{◌≡◌, ℕ, ◌+◌, ◌%◌, ◌<◌, ◌≤◌, ◌==◌, Bool, true, false, not, ◌&&◌, ◌||◌, nat_lt, List, length, Option, Some, None, if◌then◌else◌, refl, sym, ap, ◌∙◌, subst, arith}
use Rattle.std.proofs.lemmas.Bool.Decides.{nat_tests}
use Rattle.book_base.specs.declared.address.Pair.{Pair}
use Rattle.book_segments.specs.Bytes.{ring}
use Rattle.book_segments.specs.Meant.{meant}
use Rattle.book_segments.specs.Received.{keep, first_missing, below_limit}
use Rattle.book_segments.specs.Segments.{Segment, has, segment_length, FIN, SYN, RST, ACK}
use Rattle.book_macs.specs.Contexts.{context, context_known, context_of}
use Rattle.book_keys.specs.Rows.{Row}
use Rattle.book_keys.specs.Coordination.{Sending, choose as choose_row}
use Rattle.book_keys.specs.Plans.{has_sendable}
use Rattle.book_endpoint.specs.declared.phase.Phase.{Phase}
use Rattle.book_endpoint.specs.declared.phase.Phase.TheVariants.{Listen, SynSent, SynReceived, Established, TimeWait}
use Rattle.book_endpoint.specs.declared.arrival.Arrival.TheVariants.{Taken, Unexpected, Window, Challenge, NoAck, BadAck}
use Rattle.book_endpoint.specs.States.{EndState, window, hears}
use Rattle.book_endpoint.specs.Arrivals.{syn_alone, syn_ack_alone}
use Rattle.book_endpoint.specs.Hearing.{Moved, answered, owing, above, fits_window, rested, pass_fin, fin_of, records_fin, after_own_fin, acked_fin, windowed, acked, told_by_syn}
use Rattle.endpoint_steps.specs.Arriving.{reset, heard_runs, hear_data, go_on, acknowledged, ordinary, after_check}
use Rattle.book_endpoint.specs.Emissions.{Draft, Quiet, is_sending, is_silent, is_syn_sent, is_syn_received, unsent, rst_draft, syn_draft, syn_ack_draft, data_draft, fin_draft, ack_draft, window_end, sends_data, sends_fin, fitting, resends, is_blocked, sets, most_bytes, blank, seal_known, emit, resend}
use Rattle.endpoint_steps.specs.Drafting.{to_emit, unacknowledged, probe, to_resend, keyed, emitted}
use Rattle.endpoint_steps.proofs.Drafting.{emit_by_drafts, resend_by_drafts}
use Rattle.law_link.proofs.Moves.{following}
use Rattle.law_link.proofs.Sessions.{known_is}
use Rattle.law_link.proofs.Tests.{choose}
use Rattle.law_progress.specs.Progress.{IsSame, awaits}
use Rattle.law_progress.proofs.Making.{both_false, second_false, not_both, if_on, if_off, has_row, emitted_quiet, plain_context}
use Rattle.law_progress.proofs.Finishing.{not_on3, not_on4}
use Rattle.law_progress.proofs.Hearing.{IsPlain, Effect, acked_core, acked_una, go_on_effect}
use Rattle.law_progress.proofs.Joining.{SealsAs}

-- ---- which draft

-- before the own SYN is acknowledged, and not in LISTEN
abbrev pub is_asking : Phase → Bool
is_asking SynSent = true
is_asking SynReceived = true
is_asking _ = false

asking_quiet : (phase : Phase) → is_asking phase ≡ true → (is_sending phase ≡ false) × (resends phase ≡ false)
asking_quiet SynSent e = (refl, refl)
asking_quiet SynReceived e = (refl, refl)
asking_quiet _ e = absurd (cc)

both_on : (a b : Bool) → a ≡ true → b ≡ true → (a && b) ≡ true
both_on true b e f = f
both_on false b e f = absurd (cc)

not_equal : (a b : ℕ) → a < b → (b == a) ≡ false
not_equal a b h = grind (arith, nat_tests)

equal_now : (a b : ℕ) → a ≡ b → (a == b) ≡ true
equal_now a b h = grind (arith, nat_tests)

less_now : (a b : ℕ) → a < b → nat_lt a b ≡ true
less_now a b h = grind (arith, nat_tests)

not_less : (a b : ℕ) → b ≤ a → nat_lt a b ≡ false
not_less a b h = grind (arith, nat_tests)

module _ (s : EndState) (asking : is_asking s.phase ≡ true) (most : ℕ) where
  -- all that was to be sent was: an ACK, where one is owed and may be sent
  acks_only : s.rst_owed ≡ false → s.isn < s.next → to_emit s most ≡ (if s.ack_owed && not (is_silent s.phase) then Some (ack_draft s) else None)
  unfolding to_emit
  acks_only unowed sent =
      let goal = if s.ack_owed && not (is_silent s.phase) then Some (ack_draft s) else None in
      let P : Option Draft → Type 0 = λ o. o ≡ goal in
      let off = not_equal s.isn s.next sent in
      let quiet = asking_quiet s.phase asking in
      choose P s.rst_owed (Some (rst_draft s)) _ (λ e. absurd (not_both s.rst_owed e unowed)) (λ e1.
      choose P (is_syn_sent s.phase && (s.next == s.isn)) (Some (syn_draft s (record s { next = s.isn + 1 }))) _ (λ e. absurd (second_false (is_syn_sent s.phase) (s.next == s.isn) off e)) (λ e2.
      choose P (is_syn_received s.phase && (s.next == s.isn)) (Some (syn_ack_draft s (record s { next = s.isn + 1 }))) _ (λ e. absurd (second_false (is_syn_received s.phase) (s.next == s.isn) off e)) (λ e3.
      choose P (sends_data s) (Some (data_draft s (fitting s most))) _ (λ e. absurd (not_on3 (is_sending s.phase) (nat_lt 0 (unsent s)) (nat_lt s.next (window_end s)) quiet.0 e)) (λ e4.
      choose P (sends_fin s) (Some (fin_draft s)) _ (λ e. absurd (not_on4 (is_sending s.phase) s.closing (unsent s == 0) (nat_lt s.next (window_end s)) quiet.0 e)) (λ e5. refl)))))

  -- the SYN wasn't sent, so that nothing is sent again
  nothing_again : s.next ≤ s.isn → to_resend s most ≡ None
  unfolding to_resend
  nothing_again unsent_yet =
      let P : Option Draft → Type 0 = λ o. o ≡ None in
      let off = not_less s.isn s.next unsent_yet in
      let quiet = asking_quiet s.phase asking in
      choose P (is_syn_sent s.phase && nat_lt s.isn s.next) (Some (syn_draft s s)) _ (λ e. absurd (second_false (is_syn_sent s.phase) (nat_lt s.isn s.next) off e)) (λ e1.
      choose P (is_syn_received s.phase && nat_lt s.isn s.next) (Some (syn_ack_draft s s)) _ (λ e. absurd (second_false (is_syn_received s.phase) (nat_lt s.isn s.next) off e)) (λ e2.
      choose P (resends s.phase && nat_lt s.una s.next) (Some (unacknowledged s most)) _ (λ e. absurd (both_false (resends s.phase) (nat_lt s.una s.next) quiet.1 e)) (λ e3.
      choose P (is_blocked s) (probe s) None (λ e. absurd (not_on3 (is_sending s.phase) (s.una == s.next) (s.send_window == 0) quiet.0 e)) (λ e4. refl))))

module _ (s : EndState) (most : ℕ) where
  syn_first : s.phase ≡ SynSent → s.rst_owed ≡ false → s.next ≡ s.isn → to_emit s most ≡ Some (syn_draft s (record s { next = s.isn + 1 }))
  unfolding to_emit
  syn_first is unowed at =
      let goal = Some (syn_draft s (record s { next = s.isn + 1 })) in
      let P : Option Draft → Type 0 = λ o. o ≡ goal in
      let on = both_on (is_syn_sent s.phase) (s.next == s.isn) (ap is_syn_sent is) (equal_now s.next s.isn at) in
      choose P s.rst_owed (Some (rst_draft s)) _ (λ e. absurd (not_both s.rst_owed e unowed)) (λ e1.
      choose P (is_syn_sent s.phase && (s.next == s.isn)) goal _ (λ e. refl) (λ e. absurd (not_both (is_syn_sent s.phase && (s.next == s.isn)) on e)))

  syn_again : s.phase ≡ SynSent → s.isn < s.next → to_resend s most ≡ Some (syn_draft s s)
  unfolding to_resend
  syn_again is sent = if_on (is_syn_sent s.phase && nat_lt s.isn s.next) (Some (syn_draft s s)) _ (both_on (is_syn_sent s.phase) (nat_lt s.isn s.next) (ap is_syn_sent is) (less_now s.isn s.next sent))

  syn_ack_first : s.phase ≡ SynReceived → s.rst_owed ≡ false → s.next ≡ s.isn → to_emit s most ≡ Some (syn_ack_draft s (record s { next = s.isn + 1 }))
  unfolding to_emit
  syn_ack_first is unowed at =
      let goal = Some (syn_ack_draft s (record s { next = s.isn + 1 })) in
      let P : Option Draft → Type 0 = λ o. o ≡ goal in
      let on = both_on (is_syn_received s.phase) (s.next == s.isn) (ap is_syn_received is) (equal_now s.next s.isn at) in
      choose P s.rst_owed (Some (rst_draft s)) _ (λ e. absurd (not_both s.rst_owed e unowed)) (λ e1.
      choose P (is_syn_sent s.phase && (s.next == s.isn)) (Some (syn_draft s (record s { next = s.isn + 1 }))) _ (λ e. absurd (both_false (is_syn_sent s.phase) (s.next == s.isn) (ap is_syn_sent is) e)) (λ e2.
      choose P (is_syn_received s.phase && (s.next == s.isn)) goal _ (λ e. refl) (λ e. absurd (not_both (is_syn_received s.phase && (s.next == s.isn)) on e))))

  syn_ack_again : s.phase ≡ SynReceived → s.isn < s.next → to_resend s most ≡ Some (syn_ack_draft s s)
  unfolding to_resend
  syn_ack_again is sent =
      let P : Option Draft → Type 0 = λ o. o ≡ Some (syn_ack_draft s s) in
      let on = both_on (is_syn_received s.phase) (nat_lt s.isn s.next) (ap is_syn_received is) (less_now s.isn s.next sent) in
      choose P (is_syn_sent s.phase && nat_lt s.isn s.next) (Some (syn_draft s s)) _ (λ e. absurd (both_false (is_syn_sent s.phase) (nat_lt s.isn s.next) (ap is_syn_sent is) e)) (λ e1.
      choose P (is_syn_received s.phase && nat_lt s.isn s.next) (Some (syn_ack_draft s s)) _ (λ e. refl) (λ e. absurd (not_both (is_syn_received s.phase && nat_lt s.isn s.next) on e)))

-- ---- which segment

-- the context of a draft is known
abbrev Knows : Pair → EndState → Draft → Type 0
Knows pair s out = (sending : Sending) → (c : List ℕ) × (context_of (blank pair s out sending) (Some s.isn) s.peer_isn ≡ Some c)

knows_syn : (pair : Pair) (s t : EndState) → Knows pair s (syn_draft s t)
unfolding context_of
knows_syn pair s t sending = let d = blank pair s (syn_draft s t) sending in (context d.source d.destination d.sequence 0, refl)

knows_syn_ack : (pair : Pair) (s t : EndState) (q : ℕ) → s.peer_isn ≡ Some q → Knows pair s (syn_ack_draft s t)
unfolding context_of
knows_syn_ack pair s t q e sending = let d = blank pair s (syn_ack_draft s t) sending in (context d.source d.destination d.sequence q, ap (context_known d.source d.destination d.sequence) e)

seals_with : (pair : Pair) (s : EndState) (draft : ℕ → Option Draft) (out : Draft) (o : Option Sending) → ((m : ℕ) → draft m ≡ Some out) → Knows pair s out → (o ≡ None → ⊥) → SealsAs pair s (λ k. k ≡ out) (emitted pair s draft o)
seals_with pair s draft out None is knows some = absurd (some refl)
seals_with pair s draft out (Some sending) is knows some =
    let c = knows sending in
    record { out = out; sending = sending; context = c.0; is = ap (keyed pair s sending) (is (most_bytes pair s sending)) ∙ ap (seal_known pair s out sending) c.1; holds = refl }

seals_by : (pair : Pair) (s : EndState) (draft : ℕ → Option Draft) (out : Draft) (rows : List Row) (now : ℕ) → has_sendable rows pair now ≡ true → ((m : ℕ) → draft m ≡ Some out) → Knows pair s out
    → SealsAs pair s (λ k. k ≡ out) (emitted pair s draft (choose_row s.current rows pair now))
seals_by pair s draft out rows now has is knows = seals_with pair s draft out (choose_row s.current rows pair now) is knows (has_row s.current rows pair now has)

module _ (pair : Pair) (s : EndState) (rows : List Row) (now : ℕ) (has : has_sendable rows pair now ≡ true) where
  pub sends_syn : s.phase ≡ SynSent → s.rst_owed ≡ false → s.next ≡ s.isn → SealsAs pair s (λ k. k ≡ syn_draft s (record s { next = s.isn + 1 })) (emit rows pair now s)
  sends_syn is unowed at =
      let t : EndState = record s { next = s.isn + 1 } in
      subst (SealsAs pair s (λ k. k ≡ syn_draft s t)) (sym (emit_by_drafts rows pair now s))
      (seals_by pair s (to_emit s) (syn_draft s t) rows now has (λ m. syn_first s m is unowed at) (knows_syn pair s t))

  pub resends_syn : s.phase ≡ SynSent → s.isn < s.next → SealsAs pair s (λ k. k ≡ syn_draft s s) (resend rows pair now s)
  resends_syn is sent =
      subst (SealsAs pair s (λ k. k ≡ syn_draft s s)) (sym (resend_by_drafts rows pair now s))
      (seals_by pair s (to_resend s) (syn_draft s s) rows now has (λ m. syn_again s m is sent) (knows_syn pair s s))

  pub sends_syn_ack : (q : ℕ) → s.peer_isn ≡ Some q → s.phase ≡ SynReceived → s.rst_owed ≡ false → s.next ≡ s.isn → SealsAs pair s (λ k. k ≡ syn_ack_draft s (record s { next = s.isn + 1 })) (emit rows pair now s)
  sends_syn_ack q e is unowed at =
      let t : EndState = record s { next = s.isn + 1 } in
      subst (SealsAs pair s (λ k. k ≡ syn_ack_draft s t)) (sym (emit_by_drafts rows pair now s))
      (seals_by pair s (to_emit s) (syn_ack_draft s t) rows now has (λ m. syn_ack_first s m is unowed at) (knows_syn_ack pair s t q e))

  pub resends_syn_ack : (q : ℕ) → s.peer_isn ≡ Some q → s.phase ≡ SynReceived → s.isn < s.next → SealsAs pair s (λ k. k ≡ syn_ack_draft s s) (resend rows pair now s)
  resends_syn_ack q e is sent =
      subst (SealsAs pair s (λ k. k ≡ syn_ack_draft s s)) (sym (resend_by_drafts rows pair now s))
      (seals_by pair s (to_resend s) (syn_ack_draft s s) rows now has (λ m. syn_ack_again s m is sent) (knows_syn_ack pair s s q e))

  -- an ACK before the own SYN is acknowledged
  pub sends_ack : (q : ℕ) → s.peer_isn ≡ Some q → is_asking s.phase ≡ true → s.rst_owed ≡ false → s.isn < s.next → (s.ack_owed && not (is_silent s.phase)) ≡ true → SealsAs pair s (λ k. k ≡ ack_draft s) (emit rows pair now s)
  sends_ack q e asking unowed sent on =
      subst (SealsAs pair s (λ k. k ≡ ack_draft s)) (sym (emit_by_drafts rows pair now s)) (seals_by pair s (to_emit s) (ack_draft s) rows now has (λ m. acks_only s asking m unowed sent ∙ if_on (s.ack_owed && not (is_silent s.phase)) (Some (ack_draft s)) None on)
      (λ sending. let d = blank pair s (ack_draft s) sending in (context d.source d.destination s.isn q, plain_context d s.isn q s.peer_isn refl e)))

module _ (pair : Pair) (s : EndState) (rows : List Row) (now : ℕ) where
  -- the SYN was sent, and no ACK may be
  pub sends_nothing : is_asking s.phase ≡ true → s.rst_owed ≡ false → s.isn < s.next → (s.ack_owed && not (is_silent s.phase)) ≡ false → emit rows pair now s ≡ Quiet
  sends_nothing asking unowed sent off =
      emit_by_drafts rows pair now s ∙ emitted_quiet pair s (to_emit s) (choose_row s.current rows pair now) (λ m. acks_only s asking m unowed sent ∙ if_off (s.ack_owed && not (is_silent s.phase)) (Some (ack_draft s)) None off)

  pub resends_nothing : is_asking s.phase ≡ true → s.next ≤ s.isn → resend rows pair now s ≡ Quiet
  resends_nothing asking unsent_yet = resend_by_drafts rows pair now s ∙ emitted_quiet pair s (to_resend s) (choose_row s.current rows pair now) (λ m. nothing_again s asking m unsent_yet)

-- ---- what is heard

-- after the SYN of a session with this number
pub record Greeted (s t : EndState) (q : ℕ) : Type 0 where
  pub phase : t.phase ≡ SynReceived
  pub peer : t.peer_isn ≡ Some q
  pub same : IsSame s t

clash : (b : Bool) → b ≡ true → b ≡ false → ⊥
clash b e f = cc

greeted_in : (pair : Pair) (s : EndState) (c : Option ℕ) (d : Segment) (n now q : ℕ) (phase : Phase) → s.phase ≡ phase → d.flags ≡ SYN → n ≡ q → awaits phase s.peer_isn q ≡ true → Greeted s (after_check pair s (following c s) d n now phase).state q
greeted_in pair s c d n now q Listen is flags at waits =
    let alone : syn_alone d ≡ true = ap (λ (k : ℕ). sets k SYN && not (sets k ACK) && not (sets k RST) && not (sets k FIN)) flags in
    choose (λ (m : Moved). Greeted s m.state q) (syn_alone d) (answered (record (told_by_syn pair (following c s) d n) { phase = SynReceived }) Taken) (answered s Unexpected)
    (λ e. record { phase = refl; peer = ap (λ (k : ℕ). Some k) at; same = record { isn = refl; given = refl; closing = refl } }) (λ e. absurd (clash (syn_alone d) alone e))
greeted_in pair s c d n now q SynReceived is flags at waits =
    let syn : has SYN d ≡ true = ap (λ (k : ℕ). sets k SYN) flags in
    let rst : has RST d ≡ false = ap (λ (k : ℕ). sets k RST) flags in
    let P : Moved → Type 0 = λ m. Greeted s m.state q in
    let owed : Greeted s (owing s) q = record { phase = is; peer = known_is s.peer_isn q waits; same = record { isn = refl; given = refl; closing = refl } } in
    let owed_on : Greeted s (owing (following c s)) q = record { phase = is; peer = known_is s.peer_isn q waits; same = record { isn = refl; given = refl; closing = refl } } in
    choose P (fits_window n (segment_length d) s.expected (window s)) (ordinary s (following c s) d n now) (answered (if has RST d then s else owing s) Window)
    (λ e. choose P (has RST d) (reset s n) _ (λ e1. absurd (clash (has RST d) e1 rst)) (λ e1.
    choose P (has SYN d) (answered (owing (following c s)) Challenge) _ (λ e2. owed_on) (λ e2. absurd (clash (has SYN d) syn e2))))
    (λ e. choose (λ (t : EndState). Greeted s t q) (has RST d) s (owing s) (λ e1. absurd (clash (has RST d) e1 rst)) (λ e1. owed))
greeted_in pair s c d n now q _ is flags at waits = absurd (cc)

pub greeted : (pair : Pair) (s : EndState) (c : Option ℕ) (d : Segment) (n now q : ℕ) → d.flags ≡ SYN → n ≡ q → awaits s.phase s.peer_isn q ≡ true → Greeted s (after_check pair s (following c s) d n now s.phase).state q
greeted pair s c d n now q flags at waits = greeted_in pair s c d n now q s.phase refl flags at waits

-- after the SYN with ACK
pub record Met (s t : EndState) (n : ℕ) : Type 0 where
  pub phase : t.phase ≡ Established
  pub peer : t.peer_isn ≡ Some n
  pub una : t.una ≡ s.isn + 1
  pub expected : t.expected ≡ n + 1
  pub owed : t.ack_owed ≡ true
  pub next : t.next ≡ s.next
  pub same : IsSame s t

met_in : (pair : Pair) (s : EndState) (c : Option ℕ) (d : Segment) (n now : ℕ) (phase : Phase) → phase ≡ SynSent → d.flags ≡ SYN + ACK → s.isn < s.next → d.acknowledgement ≡ (s.isn + 1) % ring → Met s (after_check pair s (following c s) d n now phase).state n
met_in pair s c d n now SynSent is flags sent acks =
    let f = following c s in
    let alone : syn_ack_alone d ≡ true = ap (λ (k : ℕ). sets k SYN && sets k ACK && not (sets k RST) && not (sets k FIN)) flags in
    let off : not (syn_ack_alone d) ≡ false = ap not alone in
    let on : (nat_lt s.isn s.next && (d.acknowledgement == (s.isn + 1) % ring)) ≡ true = both_on (nat_lt s.isn s.next) (d.acknowledgement == (s.isn + 1) % ring) (less_now s.isn s.next sent) (equal_now d.acknowledgement ((s.isn + 1) % ring) acks) in
    let P : Moved → Type 0 = λ m. Met s m.state n in
    choose P (not (syn_ack_alone d)) (answered s Unexpected) _ (λ e. absurd (clash (not (syn_ack_alone d)) e off)) (λ e.
    choose P (nat_lt s.isn s.next && (d.acknowledgement == (s.isn + 1) % ring)) (answered (record (told_by_syn pair f d n) { phase = Established; una = s.isn + 1; wl2 = s.isn + 1; ack_owed = true }) Taken) (answered s BadAck)
    (λ e1. record { phase = refl; peer = refl; una = refl; expected = refl; owed = refl; next = refl; same = record { isn = refl; given = refl; closing = refl } })
    (λ e1. absurd (clash (nat_lt s.isn s.next && (d.acknowledgement == (s.isn + 1) % ring)) on e1)))
met_in pair s c d n now _ is flags sent acks = absurd (cc)

pub met : (pair : Pair) (s : EndState) (c : Option ℕ) (d : Segment) (n now : ℕ) → s.phase ≡ SynSent → d.flags ≡ SYN + ACK → s.isn < s.next → d.acknowledgement ≡ (s.isn + 1) % ring → Met s (after_check pair s (following c s) d n now s.phase).state n
met pair s c d n now is flags sent acks = met_in pair s c d n now s.phase is flags sent acks

-- ---- the last ACK

-- an end in SYN-RECEIVED goes on as an established one that acknowledged this number
abbrev pub joined : EndState → Option ℕ → ℕ → EndState
joined s c a = record (acked (following c s) (Some a)) { phase = Established }

not_over : (a b : ℕ) → a ≤ b → not (nat_lt b a) ≡ true
not_over a b h = grind (arith, nat_tests)

joins_in : (pair : Pair) (s : EndState) (c : Option ℕ) (d : Segment) (n now a : ℕ) (phase : Phase) → phase ≡ SynReceived → s.phase ≡ phase → IsPlain d → s.una < a → a ≤ s.next → meant d.acknowledgement s.una ≡ Some a → fits_window n (segment_length d) s.expected (window s) ≡ true
    → (after_check pair s (following c s) d n now phase).state ≡ (go_on (joined s c a) s.una d n now (Some a)).state
joins_in pair s c d n now a SynReceived is here plain low high means fits =
    let f = following c s in
    let goal = (go_on (joined s c a) s.una d n now (Some a)).state in
    let P : Moved → Type 0 = λ m. m.state ≡ goal in
    let on : (above (Some a) s.una && not (above (Some a) s.next)) ≡ true = both_on (nat_lt s.una a) (not (nat_lt s.next a)) (less_now s.una a low) (not_over a s.next high) in
    choose P (fits_window n (segment_length d) s.expected (window s)) (ordinary s f d n now) (answered (if has RST d then s else owing s) Window)
    (λ e. choose P (has RST d) (reset s n) _ (λ e1. absurd (clash (has RST d) e1 plain.rst)) (λ e1.
    choose P (has SYN d) (answered (owing f) Challenge) _ (λ e2. absurd (clash (has SYN d) e2 plain.syn)) (λ e2.
    choose P (not (has ACK d)) (answered f NoAck) _ (λ e3. absurd (not_off (has ACK d) plain.ack e3)) (λ e3.
    subst (λ (o : Option ℕ). P (acknowledged f d n now o f.phase)) (sym means)
    (subst (λ (p : Phase). P (acknowledged f d n now (Some a) p)) (sym here)
    (choose P (above (Some a) s.una && not (above (Some a) s.next)) (go_on (joined s c a) s.una d n now (Some a)) (answered f BadAck) (λ e4. refl) (λ e4. absurd (clash (above (Some a) s.una && not (above (Some a) s.next)) on e4))))))))
    (λ e. absurd (clash (fits_window n (segment_length d) s.expected (window s)) fits e))
  where
    not_off : (b : Bool) → b ≡ true → not b ≡ true → ⊥
    not_off true e g = absurd (cc)
    not_off false e g = absurd (cc)
joins_in pair s c d n now a _ is here plain low high means fits = absurd (cc)

pub joins : (pair : Pair) (s : EndState) (c : Option ℕ) (d : Segment) (n now a : ℕ) → s.phase ≡ SynReceived → IsPlain d → s.una < a → a ≤ s.next → meant d.acknowledgement s.una ≡ Some a → fits_window n (segment_length d) s.expected (window s) ≡ true
    → (after_check pair s (following c s) d n now s.phase).state ≡ (go_on (joined s c a) s.una d n now (Some a)).state
joins pair s c d n now a is plain low high means fits = joins_in pair s c d n now a s.phase is refl plain low high means fits

-- the end as if it was established before
abbrev pub as_established : EndState → EndState
as_established s = record s { phase = Established }

pub joins_effect : (s : EndState) (c : Option ℕ) (d : Segment) (n now a : ℕ) → IsPlain d → s.una < a → fits_window n (segment_length d) s.expected (window s) ≡ true
    → Effect (as_established s) (go_on (joined s c a) s.una d n now (Some a)).state d n a
joins_effect s c d n now a plain low fits =
    let f = following c s in
    go_on_effect (as_established s) (joined s c a) d n now a s.una plain refl (omega arith) (acked_core f a).0 (acked_una f a (omega arith)) refl fits

-- without a FIN it stays established
windowed_same : (s : EndState) (old : ℕ) (d : Segment) (n : ℕ) (a : Option ℕ) → ((windowed s old d n a).phase ≡ s.phase) × ((windowed s old d n a).fin ≡ s.fin) × ((windowed s old d n a).isn ≡ s.isn) × ((windowed s old d n a).given ≡ s.given)
windowed_same s old d n None = (refl, refl, refl, refl)
windowed_same s old d n (Some a) = choose (λ (t : EndState). (t.phase ≡ s.phase) × (t.fin ≡ s.fin) × (t.isn ≡ s.isn) × (t.given ≡ s.given)) _ (record s { send_window = d.window; wl1 = n; wl2 = a }) s (λ e. (refl, refl, refl, refl)) (λ e. (refl, refl, refl, refl))

acked_same : (s : EndState) (a : ℕ) → ((acked s (Some a)).fin ≡ s.fin) × ((acked s (Some a)).isn ≡ s.isn) × ((acked s (Some a)).given ≡ s.given)
acked_same s a = choose (λ (t : EndState). (t.fin ≡ s.fin) × (t.isn ≡ s.isn) × (t.given ≡ s.given)) (nat_lt s.una a) (record s { una = a }) s (λ e. (refl, refl, refl)) (λ e. (refl, refl, refl))

rested_steady : (s : EndState) (now : ℕ) (phase : Phase) (o : Option ℕ) → (rested s now phase o).phase ≡ s.phase
rested_steady s now TimeWait None = refl
rested_steady s now _ _ = refl

pass_none : (s : EndState) (o : Option ℕ) → o ≡ None → (pass_fin s o).phase ≡ s.phase
pass_none s None e = refl
pass_none s (Some f) e = absurd (cc)

none_recorded : (o : Option ℕ) (b : Bool) (f : ℕ) → o ≡ None → b ≡ false → fin_of o b f ≡ None
none_recorded None false f e g = refl
none_recorded None true f e g = absurd (cc)
none_recorded (Some k) b f e g = absurd (cc)

three_off : (a b c : Bool) → a ≡ false → (a && b && c) ≡ false
three_off false b c e = refl
three_off true b c e = absurd (cc)

heard_steady : (s : EndState) (m : ℕ → Option ℕ) (d : Segment) (n now : ℕ) (b : Bool) → s.fin ≡ None → has FIN d ≡ false → (heard_runs s m d n now b).state.phase ≡ s.phase
heard_steady s m d n now true none off = refl
heard_steady s m d n now false none off =
    let f = n + length d.payload in
    let t : EndState = record s { received = m; fin = fin_of s.fin (records_fin s m d f) f; ack_owed = true; expected = first_missing m s.expected (window s) } in
    let u = pass_fin t t.fin in
    let bare : t.fin ≡ None = none_recorded s.fin (records_fin s m d f) f none (three_off (has FIN d) _ _ off) in
    rested_steady u now u.phase u.deadline ∙ pass_none t t.fin bare

hear_steady : (s : EndState) (d : Segment) (n now : ℕ) (b : Bool) → s.fin ≡ None → has FIN d ≡ false → (hear_data s d n now b).state.phase ≡ s.phase
hear_steady s d n now false none off = rested_steady s now s.phase s.deadline
hear_steady s d n now true none off = heard_steady s (keep s.received (record { number = n; bytes = d.payload }) (record { low = s.expected; high = below_limit s.fin (s.expected + window s) })) d n now _ none off

pub joins_steady : (s : EndState) (c : Option ℕ) (d : Segment) (n now a : ℕ) → s.fin ≡ None → has FIN d ≡ false → a ≤ s.isn + 1 + length s.given → (go_on (joined s c a) s.una d n now (Some a)).state.phase ≡ Established
joins_steady s c d n now a none off low =
    let u = joined s c a in
    let k = acked_same (following c s) a in
    let v = windowed u s.una d n (Some a) in
    let w = windowed_same u s.una d n (Some a) in
    let t = acked_fin v (Some a) in
    let isn : v.isn ≡ s.isn = w.2 ∙ k.1 in
    let given : length v.given ≡ length s.given = ap length (w.3 ∙ k.2) in
    let same : (t.phase ≡ v.phase) × (t.fin ≡ v.fin) =
    choose (λ (x : EndState). (x.phase ≡ v.phase) × (x.fin ≡ v.fin)) (above (Some a) (v.isn + 1 + length v.given)) (record v { phase = after_own_fin v.phase }) v (λ e. absurd (over a (v.isn + 1 + length v.given) (omega arith) e)) (λ e. (refl, refl)) in
    hear_steady t d n now (hears t.phase && (nat_lt 0 (length d.payload) || has FIN d)) (same.1 ∙ w.1 ∙ k.0 ∙ none) off ∙ same.0 ∙ w.0
  where
    over : (a b : ℕ) → a ≤ b → nat_lt b a ≡ true → ⊥
    over a b h e = let no = not_less b a h in absurd (cc)
