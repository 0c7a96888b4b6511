-- What an end has to send gets less with each segment.
use Rattle.std.proofs.Common.{◌≡◌, ℕ, ◌+◌, ◌-◌, ◌<◌, ◌≤◌, ◌==◌, Bool, true, false, not, ◌&&◌, nat_lt, List, [], ◌∷◌, Option, Some, None, refl, ap, subst, if◌then◌else◌, arith, sym, ◌∙◌}
use Rattle.std.specs.Prelude.{is_some, min}
use Rattle.book_base.specs.declared.address.Address.{Address}
use Rattle.book_base.specs.declared.address.Address.TheVariants.{V4, V6}
use Rattle.book_base.specs.declared.address.Pair.{Pair}
use Rattle.book_base.specs.declared.algorithm.Algorithm.{Algorithm}
use Rattle.book_base.specs.declared.algorithm.Algorithm.TheVariants.{AesCmac, HmacSha1, HmacSha256}
use Rattle.book_base.specs.Algorithms.{mac_length_of}
use Rattle.book_segments.specs.Segments.{bit_of}
use Rattle.book_segments.proofs.Fields.{and_tells, eqb_is, lt_is, some_is}
use Rattle.book_macs.specs.Contexts.{context_of}
use Rattle.book_keys.specs.Coordination.{Sending, choose}
use Rattle.book_keys.specs.Rows.{Row}
use Rattle.book_endpoint.specs.declared.phase.Phase.{Phase}
use Rattle.book_endpoint.specs.declared.phase.Phase.TheVariants.{CloseWait, Closed, Established, TimeWait}
use Rattle.book_endpoint.specs.States.{EndState, given_end, is_due, own_mss, tick, tick_in}
use Rattle.book_endpoint.specs.Emissions.{Draft, Emission, Quiet, NoKey, Emits, ack_draft, again_draft, blank, data_draft, emit, fin_again_draft, fin_draft, fin_sent, fitting, is_blocked, is_sending, is_silent, is_syn_received, is_syn_sent, most_bytes, resend, resends, rst_draft, seal_known, sealed, sends_data, sends_fin, syn_ack_draft, syn_draft, unsent, window_end}
use Rattle.endpoint_steps.specs.Drafting.{emitted, keyed, to_emit, to_resend, unacknowledged}
use Rattle.endpoint_steps.proofs.Drafting.{emit_by_drafts, resend_by_drafts}
use Rattle.book_cmd_node.specs.NodeRuns.{Held, same_pair, held_end, with_end, ends_ticked}
use Rattle.law_node.proofs.Held.{held}
use Rattle.law_stack.proofs.Speaking.{Speaks}

-- how many segments an end may have to send at most, before anything comes
abbrev pub burden : EndState → ℕ
burden e = bit_of e.rst_owed + unsent e + bit_of (is_sending e.phase) + bit_of e.ack_owed

-- ---- the drafts

abbrev MayLight : EndState → Option Draft → Type 0
MayLight e o = (out : Draft) → o ≡ Some out → burden out.state + 1 ≤ burden e

abbrev MayKeep : EndState → Option Draft → Type 0
MayKeep e o = (out : Draft) → o ≡ Some out → burden out.state ≤ burden e

light_some : (e : EndState) (x : Draft) → burden x.state + 1 ≤ burden e → MayLight e (Some x)
light_some e x le out s = let same : x ≡ out = cc in subst (λ (d : Draft). burden d.state + 1 ≤ burden e) same le

light_pick : (e : EndState) (v : Bool) (o p : Option Draft) → (v ≡ true → MayLight e o) → MayLight e p → MayLight e (if v then o else p)
light_pick e true o p a b = a refl
light_pick e false o p a b = b

keep_some : (e : EndState) (x : Draft) → burden x.state ≤ burden e → MayKeep e (Some x)
keep_some e x le out s = let same : x ≡ out = cc in subst (λ (d : Draft). burden d.state ≤ burden e) same le

keep_pick : (e : EndState) (v : Bool) (o p : Option Draft) → (v ≡ true → MayKeep e o) → MayKeep e p → MayKeep e (if v then o else p)
keep_pick e true o p a b = a refl
keep_pick e false o p a b = b

bit_one : (v : Bool) → v ≡ true → bit_of v ≡ 1
bit_one v e = ap bit_of e

bit_low : (v : Bool) → bit_of false ≤ bit_of v
bit_low true = omega arith
bit_low false = omega arith

fin_stops : (phase : Phase) → is_sending phase ≡ true → bit_of (is_sending (fin_sent phase)) ≡ 0
fin_stops Established e = refl
fin_stops CloseWait e = refl
fin_stops _ e = absurd (cc)

-- the phase after the FIN sends no more than the one before
fin_low : (phase : Phase) → bit_of (is_sending (fin_sent phase)) ≤ bit_of (is_sending phase)
fin_low Established = omega arith
fin_low CloseWait = omega arith
fin_low _ = omega arith

rst_light : (e : EndState) → e.rst_owed ≡ true → burden (rst_draft e).state + 1 ≤ burden e
rst_light e t = omega (arith, bit_one e.rst_owed t)

syn_light : (e : EndState) (v : Bool) → (v && (e.next == e.isn)) ≡ true → burden (record e { next = e.isn + 1 }) + 1 ≤ burden e
syn_light e v t = let same = eqb_is e.next e.isn (and_tells v (e.next == e.isn) t).1 in omega (arith, same)

syn_ack_light : (e : EndState) (v : Bool) → (v && (e.next == e.isn)) ≡ true → burden (record e { next = e.isn + 1; ack_owed = false }) + 1 ≤ burden e
syn_ack_light e v t = let same = eqb_is e.next e.isn (and_tells v (e.next == e.isn) t).1 in omega (arith, same, bit_low e.ack_owed)

data_light : (e : EndState) (most : ℕ) → 1 ≤ most → sends_data e ≡ true → burden (data_draft e (fitting e most)).state + 1 ≤ burden e
data_light e most room t =
    let parts = and_tells (is_sending e.phase && nat_lt 0 (unsent e)) (nat_lt e.next (window_end e)) t in
    let some = lt_is 0 (unsent e) (and_tells (is_sending e.phase) (nat_lt 0 (unsent e)) parts.0).1 in
    let fits = lt_is e.next (window_end e) parts.1 in
    by_count (fitting e most) (omega (arith, room, some, fits)) some
  where
    by_count : (count : ℕ) → 1 ≤ count → 0 < unsent e → burden (data_draft e count).state + 1 ≤ burden e
    by_count count one some = omega (arith, one, some, bit_low e.ack_owed)

fin_light : (e : EndState) → sends_fin e ≡ true → burden (fin_draft e).state + 1 ≤ burden e
fin_light e t =
    let sending = first_of_four (is_sending e.phase) e.closing (unsent e == 0) (nat_lt e.next (window_end e)) t in
    omega (arith, fin_stops e.phase sending, bit_one (is_sending e.phase) sending, bit_low e.ack_owed)
  where
    first_of_four : (a b c d : Bool) → (a && b && c && d) ≡ true → a ≡ true
    first_of_four true b c d t = refl
    first_of_four false b c d t = t

ack_light : (e : EndState) (v : Bool) → (e.ack_owed && v) ≡ true → burden (ack_draft e).state + 1 ≤ burden e
ack_light e v t = omega (arith, bit_one e.ack_owed (and_tells e.ack_owed v t).0)

emit_light : (e : EndState) (most : ℕ) → 1 ≤ most → MayLight e (to_emit e most)
unfolding to_emit
emit_light e most room =
    light_pick e e.rst_owed _ _ (λ t. light_some e (rst_draft e) (rst_light e t))
    (light_pick e (is_syn_sent e.phase && (e.next == e.isn)) _ _ (λ t. light_some e (syn_draft e (record e { next = e.isn + 1 })) (syn_light e (is_syn_sent e.phase) t))
    (light_pick e (is_syn_received e.phase && (e.next == e.isn)) _ _ (λ t. light_some e (syn_ack_draft e (record e { next = e.isn + 1 })) (syn_ack_light e (is_syn_received e.phase) t))
    (light_pick e (sends_data e) _ _ (λ t. light_some e (data_draft e (fitting e most)) (data_light e most room t))
    (light_pick e (sends_fin e) _ _ (λ t. light_some e (fin_draft e) (fin_light e t))
    (light_pick e (e.ack_owed && not (is_silent e.phase)) _ _ (λ t. light_some e (ack_draft e) (ack_light e (not (is_silent e.phase)) t)) (λ out s. absurd (cc)))))))

again_keeps : (e : EndState) (v : Bool) (count : ℕ) → (let d : Draft = if v then again_draft e count else fin_again_draft e in burden d.state) ≤ burden e
again_keeps e true count = omega (arith, bit_low e.ack_owed)
again_keeps e false count = omega (arith, bit_low e.ack_owed)

resend_keeps : (e : EndState) (most : ℕ) → MayKeep e (to_resend e most)
unfolding to_resend
resend_keeps e most =
    keep_pick e (is_syn_sent e.phase && nat_lt e.isn e.next) _ _ (λ t. keep_some e (syn_draft e e) (omega arith))
    (keep_pick e (is_syn_received e.phase && nat_lt e.isn e.next) _ _ (λ t. keep_some e (syn_ack_draft e e) (omega (arith, bit_low e.ack_owed)))
    (keep_pick e (resends e.phase && nat_lt e.una e.next) _ _ (λ t. keep_some e (unacknowledged e most) (again_keeps e (nat_lt e.una (given_end e)) (min (e.next - e.una) most)))
    (keep_pick e (is_blocked e) _ _ (λ t. keep_pick e (nat_lt 0 (unsent e)) _ _ (λ t. keep_some e (data_draft e 1) (omega (arith, bit_low e.ack_owed)))
    (keep_pick e e.closing _ _ (λ t. keep_some e (fin_draft e) (omega (arith, fin_low e.phase, bit_low e.ack_owed))) (λ out s. absurd (cc)))) (λ out s. absurd (cc)))))

-- ---- the segments

-- what holds of the state after a draft holds of that after its segment
module _ (P : EndState → Type 0) (any : (e : EndState) (current : Option ℕ) → P e → P (record e { current = current })) where
  known_has : (pair : Pair) (s : EndState) (d : Draft) (sending : Sending) (o : Option (List ℕ)) (out : Emission) → P d.state → seal_known pair s d sending o ≡ Emits out → P out.state
  known_has pair s d sending None out h e = absurd (cc)
  known_has pair s d sending (Some context) out h e =
      let same : sealed pair s d sending context ≡ out = cc in subst (λ (x : Emission). P x.state) same (any d.state (Some sending.number) h)

  keyed_has : (pair : Pair) (s : EndState) (sending : Sending) (o : Option Draft) (out : Emission) → ((d : Draft) → o ≡ Some d → P d.state) → keyed pair s sending o ≡ Emits out → P out.state
  keyed_has pair s sending None out may e = absurd (cc)
  keyed_has pair s sending (Some d) out may e = known_has pair s d sending (context_of (blank pair s d sending) (Some s.isn) s.peer_isn) out (may d refl) e

  emitted_has : (pair : Pair) (s : EndState) (draft : ℕ → Option Draft) (o : Option Sending) (out : Emission) → ((sending : Sending) (d : Draft) → draft (most_bytes pair s sending) ≡ Some d → P d.state)
      → emitted pair s draft o ≡ Emits out → P out.state
  emitted_has pair s draft None out may e = no_key (is_some (draft 0)) e
    where
      no_key : (v : Bool) → (if v then NoKey else Quiet) ≡ Emits out → P out.state
      no_key true e = absurd (cc)
      no_key false e = absurd (cc)
  emitted_has pair s draft (Some sending) out may e = keyed_has pair s sending (draft (most_bytes pair s sending)) out (may sending) e

-- a segment has room for a byte
mac_short : (a : Algorithm) → mac_length_of a ≤ 16
mac_short HmacSha1 = omega arith
mac_short AesCmac = omega arith
mac_short HmacSha256 = omega arith

own_long : (a : Address) → 88 ≤ own_mss a
own_long (V4 bytes) = omega arith
own_long (V6 bytes) = omega arith

most_some : (pair : Pair) (e : EndState) (sending : Sending) → 88 ≤ e.mss → 1 ≤ most_bytes pair e sending
most_some pair e sending room = omega (arith, room, own_long pair.local.address, mac_short sending.row.algorithm)

pub emit_lightens : (rows : List Row) (pair : Pair) (now : ℕ) (e : EndState) (out : Emission) → Speaks e → emit rows pair now e ≡ Emits out → burden out.state + 1 ≤ burden e
emit_lightens rows pair now e out h is =
    emitted_has (λ s. burden s + 1 ≤ burden e) (λ s current le. le) pair e (to_emit e) (choose e.current rows pair now) out
    (λ sending d made. emit_light e (most_bytes pair e sending) (most_some pair e sending h.room) d made) (sym (emit_by_drafts rows pair now e) ∙ is)

pub resend_lightens : (rows : List Row) (pair : Pair) (now : ℕ) (e : EndState) (out : Emission) → resend rows pair now e ≡ Emits out → burden out.state ≤ burden e
resend_lightens rows pair now e out is =
    emitted_has (λ s. burden s ≤ burden e) (λ s current le. le) pair e (to_resend e) (choose e.current rows pair now) out
    (λ sending d made. resend_keeps e (most_bytes pair e sending) d made) (sym (resend_by_drafts rows pair now e) ∙ is)

tick_lightens : (now : ℕ) (e : EndState) → burden (tick now e) ≤ burden e
tick_lightens now e = at e.phase
  where
    pick : (v : Bool) → burden (if v then record e { phase = Closed } else e) ≤ burden e
    pick true = omega (arith, bit_low (is_sending e.phase))
    pick false = omega arith

    at : (phase : Phase) → burden (tick_in phase now e) ≤ burden e
    at TimeWait = pick (is_due e.deadline now)
    at _ = omega arith

-- ---- all ends of a node

-- how many segments ends may have to send at most
abbrev pub load : List Held → ℕ
load [] = 0
load (h ∷ hs) = burden h.state + load hs

pub load_with : (p : Pair) (old new : EndState) (hs : List Held) → held_end p hs ≡ Some old → load (with_end p new hs) + burden old ≡ load hs + burden new
load_with p old new [] was = absurd (cc)
load_with p old new (h ∷ hs) was = at (same_pair h.pair p) was (load_with p old new hs)
  where
    at : (v : Bool) → (if v then Some h.state else held_end p hs) ≡ Some old → (held_end p hs ≡ Some old → load (with_end p new hs) + burden old ≡ load hs + burden new)
        → load (if v then held p new ∷ hs else h ∷ with_end p new hs) + burden old ≡ burden h.state + load hs + burden new
    at true was next = let same = ap burden (some_is h.state old was) in omega (arith, same)
    at false was next = omega (arith, next was)

pub load_ticked : (now : ℕ) (hs : List Held) → load (ends_ticked now hs) ≤ load hs
load_ticked now [] = omega arith
load_ticked now (h ∷ hs) = omega (arith, tick_lightens now h.state, load_ticked now hs)
