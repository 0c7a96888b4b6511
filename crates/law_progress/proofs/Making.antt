-- What an established end makes that isn't closed: data at the next number or an ACK there, again from the oldest unacknowledged one, or a probe.
use Rattle.std.proofs.Common.{◌≡◌, ℕ, ◌+◌, ◌-◌, ◌<◌, ◌≤◌, ◌==◌, min, Bool, true, false, not, ◌&&◌, nat_lt, List, length, drop, Option, Some, None, ◌⊎◌, inl, inr, ⊎_elim, if◌then◌else◌, refl, ap, ◌∙◌, arith, length-take, subst, sym}
use Rattle.std.specs.Prelude.{is_some}
use Rattle.std.proofs.lemmas.List.{length-drop}
use Rattle.std.proofs.lemmas.Bool.Decides.{nat_tests}
use Rattle.book_base.specs.declared.address.Address.{Address}
use Rattle.book_base.specs.declared.address.Address.TheVariants.{V4, V6}
use Rattle.book_base.specs.declared.address.Pair.{Pair}
use Rattle.book_segments.specs.Segments.{Segment, has, bit_of, FIN, SYN, RST, PSH, ACK}
use Rattle.book_segments.proofs.Fields.{and_tells, lt_is, lt_not}
use Rattle.book_macs.specs.Contexts.{context, context_of_syn, context_of_later, context_of}
use Rattle.book_keys.specs.Rows.{Row}
use Rattle.book_keys.specs.Coordination.{Sending, choose as choose_row}
use Rattle.book_keys.specs.Plans.{has_sendable}
use Rattle.book_keys.proofs.SendingLaws.{choose_none}
use Rattle.book_endpoint.specs.declared.phase.Phase.{Phase}
use Rattle.book_endpoint.specs.declared.phase.Phase.TheVariants.{Listen, SynSent, SynReceived, Established, FinWait1, FinWait2, CloseWait, Closing, LastAck, TimeWait, Closed}
use Rattle.book_endpoint.specs.States.{EndState, own_mss, given_end}
use Rattle.book_endpoint.specs.Emissions.{Draft, Emitted, Quiet, NoKey, Emits, is_sending, is_silent, is_syn_sent, is_syn_received, fin_sent, unsent, slice_at, rst_draft, syn_draft, syn_ack_draft, data_draft, again_draft, fin_draft, fin_again_draft, ack_draft, window_end, sends_data, sends_fin, fitting, resends, is_blocked, sets, most_bytes, blank, sealed, seal_known, emit, resend}
use Rattle.endpoint_steps.specs.Drafting.{to_emit, unacknowledged, probe, to_resend, keyed, emitted}
use Rattle.endpoint_steps.proofs.Drafting.{emit_by_drafts, resend_by_drafts}
use Rattle.law_link.proofs.Tests.{choose}
use Rattle.book_base.proofs.TestLaws.{by_bool}
use Rattle.law_link.proofs.Phases.{fin_gone, fin_made}
use Rattle.law_link.proofs.Written.{mac_words}
use Rattle.law_link.proofs.Drafts.{sends_data_says, sends_fin_says}
use Rattle.law_progress.specs.Progress.{is_open, all_end}

-- ---- which draft

-- an end after the handshake that isn't closed and owes no RST
pub record IsOpen (s : EndState) : Type 0 where
  pub phase : is_open s.phase ≡ true
  pub rst : s.rst_owed ≡ false

-- the phases once the peer's FIN was passed
abbrev pub is_past : Phase → Bool
is_past CloseWait = true
is_past Closing = true
is_past LastAck = true
is_past TimeWait = true
is_past _ = false

-- the phases once the own FIN was acknowledged
abbrev pub is_settled : Phase → Bool
is_settled FinWait2 = true
is_settled TimeWait = true
is_settled _ = false

-- what is known of the numbers of an open end
pub record Numbers (s : EndState) : Type 0 where
  pub low : s.isn + 1 ≤ s.una
  pub una : s.una ≤ s.next
  pub next : s.next ≤ all_end s
  pub unfinished : fin_gone s.phase ≡ false → s.next ≤ s.isn + 1 + length s.given
  pub gone : fin_made s.phase ≡ true → (s.isn + 2 + length s.given ≤ s.next) × (s.closing ≡ true)
  pub settled : is_settled s.phase ≡ true → s.next ≤ s.una
  pub mss : 88 ≤ s.mss
  pub peer : (q : ℕ) × (s.peer_isn ≡ Some q)

pub both_false : (a b : Bool) → a ≡ false → (a && b) ≡ true → ⊥
both_false true b e f = absurd (cc)
both_false false b e f = absurd (cc)

pub second_false : (a b : Bool) → b ≡ false → (a && b) ≡ true → ⊥
second_false a true e f = absurd (cc)
second_false true false e f = absurd (cc)
second_false false false e f = absurd (cc)

pub not_both : (b : Bool) → b ≡ true → b ≡ false → ⊥
not_both b e f = cc

pub if_on : {X : Type 0} (b : Bool) (t u : X) → b ≡ true → (if b then t else u) ≡ t
if_on true t u e = refl
if_on false t u e = absurd (cc)

pub if_off : {X : Type 0} (b : Bool) (t u : X) → b ≡ false → (if b then t else u) ≡ u
if_off false t u e = refl
if_off true t u e = absurd (cc)

both_on : (a b : Bool) → a ≡ true → b ≡ true → (a && b) ≡ true
both_on true b e f = f
both_on false b e f = absurd (cc)

pub second_off : (a b : Bool) → b ≡ false → (a && b) ≡ false
second_off true b e = e
second_off false b e = refl

speaking : (a b : Bool) → a ≡ true → b ≡ false → (a && not b) ≡ true
speaking a true e f = absurd (cc)
speaking true false e f = refl
speaking false false e f = absurd (cc)

-- the phases after the handshake, by what they may send
pub data PhaseCase (phase : Phase) : Type 0 where
  may_send : is_sending phase ≡ true → fin_gone phase ≡ false → resends phase ≡ true → is_open (fin_sent phase) ≡ true → PhaseCase phase
  fin_left : is_sending phase ≡ false → fin_made phase ≡ true → resends phase ≡ true → PhaseCase phase
  all_settled : is_sending phase ≡ false → fin_made phase ≡ true → is_settled phase ≡ true → PhaseCase phase

phase_case : (phase : Phase) → is_open phase ≡ true → PhaseCase phase
phase_case Listen o = absurd (cc)
phase_case SynSent o = absurd (cc)
phase_case SynReceived o = absurd (cc)
phase_case Closed o = absurd (cc)
phase_case Established o = may_send refl refl refl refl
phase_case CloseWait o = may_send refl refl refl refl
phase_case FinWait1 o = fin_left refl refl refl
phase_case Closing o = fin_left refl refl refl
phase_case LastAck o = fin_left refl refl refl
phase_case FinWait2 o = all_settled refl refl refl
phase_case TimeWait o = all_settled refl refl refl

open_not : (phase : Phase) → is_open phase ≡ true → (is_syn_sent phase ≡ false) × (is_syn_received phase ≡ false) × (is_silent phase ≡ false)
open_not Listen o = absurd (cc)
open_not SynSent o = absurd (cc)
open_not SynReceived o = absurd (cc)
open_not Closed o = absurd (cc)
open_not Established o = (refl, refl, refl)
open_not CloseWait o = (refl, refl, refl)
open_not FinWait1 o = (refl, refl, refl)
open_not Closing o = (refl, refl, refl)
open_not LastAck o = (refl, refl, refl)
open_not FinWait2 o = (refl, refl, refl)
open_not TimeWait o = (refl, refl, refl)

module _ (s : EndState) (up : IsOpen s) (most : ℕ) where
  not_syn : is_syn_sent s.phase ≡ false
  not_syn = (open_not s.phase up.phase).0

  not_received : is_syn_received s.phase ≡ false
  not_received = (open_not s.phase up.phase).1

  -- what stands behind the first three tests
  emit_is : (goal : Option Draft) → (if sends_data s then Some (data_draft s (fitting s most)) else (if sends_fin s then Some (fin_draft s) else (if s.ack_owed && not (is_silent s.phase) then Some (ack_draft s) else None))) ≡ goal → to_emit s most ≡ goal
  unfolding to_emit
  emit_is goal is =
      let P : Option Draft → Type 0 = λ o. o ≡ goal in
      choose P s.rst_owed (Some (rst_draft s)) _ (λ e. absurd (not_both s.rst_owed e up.rst)) (λ e1.
      choose P (is_syn_sent s.phase && (s.next == s.isn)) (Some (syn_draft s (record s { next = s.isn + 1 }))) _ (λ e. absurd (both_false (is_syn_sent s.phase) (s.next == s.isn) not_syn e)) (λ e2.
      choose P (is_syn_received s.phase && (s.next == s.isn)) (Some (syn_ack_draft s (record s { next = s.isn + 1 }))) _ (λ e. absurd (both_false (is_syn_received s.phase) (s.next == s.isn) not_received e)) (λ e3. is)))

  pub emit_data : sends_data s ≡ true → to_emit s most ≡ Some (data_draft s (fitting s most))
  emit_data on = emit_is (Some (data_draft s (fitting s most))) (if_on (sends_data s) (Some (data_draft s (fitting s most))) _ on)

  emit_fin : sends_data s ≡ false → sends_fin s ≡ true → to_emit s most ≡ Some (fin_draft s)
  emit_fin off on = emit_is (Some (fin_draft s)) (if_off (sends_data s) (Some (data_draft s (fitting s most))) _ off ∙ if_on (sends_fin s) (Some (fin_draft s)) _ on)

  pub emit_ack : sends_data s ≡ false → sends_fin s ≡ false → s.ack_owed ≡ true → to_emit s most ≡ Some (ack_draft s)
  emit_ack off none owed =
      emit_is (Some (ack_draft s)) (if_off (sends_data s) (Some (data_draft s (fitting s most))) _ off ∙ if_off (sends_fin s) (Some (fin_draft s)) _ none
      ∙ if_on (s.ack_owed && not (is_silent s.phase)) (Some (ack_draft s)) None (speaking s.ack_owed (is_silent s.phase) owed (open_not s.phase up.phase).2))

  emit_none : sends_data s ≡ false → sends_fin s ≡ false → s.ack_owed ≡ false → to_emit s most ≡ None
  emit_none off none unowed =
      emit_is None (if_off (sends_data s) (Some (data_draft s (fitting s most))) _ off ∙ if_off (sends_fin s) (Some (fin_draft s)) _ none
      ∙ if_off (s.ack_owed && not (is_silent s.phase)) (Some (ack_draft s)) None (ap (λ (b : Bool). b && not (is_silent s.phase)) unowed))

  resend_is : (goal : Option Draft) → (if resends s.phase && nat_lt s.una s.next then Some (unacknowledged s most) else (if is_blocked s then probe s else None)) ≡ goal → to_resend s most ≡ goal
  unfolding to_resend
  resend_is goal is =
      let P : Option Draft → Type 0 = λ o. o ≡ goal in
      choose P (is_syn_sent s.phase && nat_lt s.isn s.next) (Some (syn_draft s s)) _ (λ e. absurd (both_false (is_syn_sent s.phase) (nat_lt s.isn s.next) not_syn e)) (λ e1.
      choose P (is_syn_received s.phase && nat_lt s.isn s.next) (Some (syn_ack_draft s s)) _ (λ e. absurd (both_false (is_syn_received s.phase) (nat_lt s.isn s.next) not_received e)) (λ e2. is))

  resend_again : resends s.phase ≡ true → s.una < s.next → s.una < given_end s → to_resend s most ≡ Some (again_draft s (min (s.next - s.una) most))
  resend_again may sent inside =
      let one : nat_lt s.una s.next ≡ true = grind (arith, nat_tests) in
      let two : nat_lt s.una (given_end s) ≡ true = grind (arith, nat_tests) in
      resend_is (Some (again_draft s (min (s.next - s.una) most))) (if_on (resends s.phase && nat_lt s.una s.next) (Some (unacknowledged s most)) _ (both_on (resends s.phase) (nat_lt s.una s.next) may one)
      ∙ ap (λ (d : Draft). Some d) (if_on (nat_lt s.una (given_end s)) (again_draft s (min (s.next - s.una) most)) (fin_again_draft s) two))

  resend_fin : resends s.phase ≡ true → s.una < s.next → given_end s ≤ s.una → to_resend s most ≡ Some (fin_again_draft s)
  resend_fin may sent past =
      let one : nat_lt s.una s.next ≡ true = grind (arith, nat_tests) in
      let two : nat_lt s.una (given_end s) ≡ false = grind (arith, nat_tests) in
      resend_is (Some (fin_again_draft s)) (if_on (resends s.phase && nat_lt s.una s.next) (Some (unacknowledged s most)) _ (both_on (resends s.phase) (nat_lt s.una s.next) may one)
      ∙ ap (λ (d : Draft). Some d) (if_off (nat_lt s.una (given_end s)) (again_draft s (min (s.next - s.una) most)) (fin_again_draft s) two))

  resend_probe : s.next ≤ s.una → is_blocked s ≡ true → (goal : Option Draft) → probe s ≡ goal → to_resend s most ≡ goal
  resend_probe sent shut goal is =
      let none : nat_lt s.una s.next ≡ false = grind (arith, nat_tests) in
      resend_is goal (if_off (resends s.phase && nat_lt s.una s.next) (Some (unacknowledged s most)) _ (second_off (resends s.phase) (nat_lt s.una s.next) none) ∙ if_on (is_blocked s) (probe s) None shut ∙ is)

  resend_none : s.next ≤ s.una → is_blocked s ≡ false → to_resend s most ≡ None
  resend_none sent wide =
      let none : nat_lt s.una s.next ≡ false = grind (arith, nat_tests) in
      resend_is None (if_off (resends s.phase && nat_lt s.una s.next) (Some (unacknowledged s most)) _ (second_off (resends s.phase) (nat_lt s.una s.next) none) ∙ if_off (is_blocked s) (probe s) None wide)

-- ---- which segment

-- what making leaves as it was
pub record Rest : Type 0 where
  pub isn : ℕ
  pub peer_isn : Option ℕ
  pub una : ℕ
  pub send_window : ℕ
  pub expected : ℕ
  pub given : List ℕ
  pub taken : List ℕ
  pub received : ℕ → Option ℕ
  pub fin : Option ℕ
  pub closing : Bool
  pub rst_owed : Bool
  pub mss : ℕ

abbrev pub rest : EndState → Rest
rest s = record { isn = s.isn; peer_isn = s.peer_isn; una = s.una; send_window = s.send_window; expected = s.expected; given = s.given; taken = s.taken; received = s.received; fin = s.fin; closing = s.closing; rst_owed = s.rst_owed; mss = s.mss }

-- the flags of a segment without SYN and RST, with ACK
pub record PlainFlags (flags : ℕ) : Type 0 where
  pub syn : sets flags SYN ≡ false
  pub rst : sets flags RST ≡ false
  pub ack : sets flags ACK ≡ true

-- how many numbers a draft takes
abbrev pub takes : Draft → ℕ
takes out = length out.payload + bit_of (sets out.flags FIN)

-- a segment that an open end makes
pub record Makes (pair : Pair) (s : EndState) (r : Emitted) : Type 0 where
  pub out : Draft
  pub sending : Sending
  pub context : List ℕ
  pub is : r ≡ Emits (sealed pair s out sending context)
  pub flags : PlainFlags out.flags
  pub same : rest out.state ≡ rest s
  pub opened : is_open out.state.phase ≡ true
  pub next : s.next ≤ out.state.next
  pub low : s.una ≤ out.number
  pub high : out.number + takes out ≤ all_end s
  pub bytes : 0 < length out.payload → out.number + length out.payload ≤ given_end s
  pub small : takes out ≤ 65535
  pub fin : sets out.flags FIN ≡ true → (out.number + length out.payload ≡ given_end s) × (s.closing ≡ true)

pub plain_context : (d : Segment) (own q : ℕ) (p : Option ℕ) → has SYN d ≡ false → p ≡ Some q → context_of d (Some own) p ≡ Some (context d.source d.destination own q)
unfolding context_of
plain_context d own q p plain e = choose (λ o. o ≡ Some (context d.source d.destination own q)) (has SYN d) (context_of_syn d p) (context_of_later d (Some own) p) (λ t. absurd (not_both (has SYN d) t plain)) (λ t. ap (context_of_later d (Some own)) e)

-- a draft for each most number of bytes becomes a segment
pub record Sealed (pair : Pair) (s : EndState) (out : ℕ → Draft) (r : Emitted) : Type 0 where
  pub sending : Sending
  pub context : List ℕ
  pub is : r ≡ Emits (sealed pair s (out (most_bytes pair s sending)) sending context)

pub emitted_seals : (pair : Pair) (s : EndState) (draft : ℕ → Option Draft) (out : ℕ → Draft) (q : ℕ) (o : Option Sending) → ((m : ℕ) → draft m ≡ Some (out m)) → ((m : ℕ) → sets (out m).flags SYN ≡ false) → s.peer_isn ≡ Some q
    → (o ≡ None → ⊥) → Sealed pair s out (emitted pair s draft o)
emitted_seals pair s draft out q None is plain knows some = absurd (some refl)
emitted_seals pair s draft out q (Some sending) is plain knows some =
    let most = most_bytes pair s sending in
    let d = blank pair s (out most) sending in
    let known = plain_context d s.isn q s.peer_isn (plain most) knows in
    record { sending = sending; context = context d.source d.destination s.isn q; is = ap (keyed pair s sending) (is most) ∙ ap (seal_known pair s (out most) sending) known }

pub emitted_quiet : (pair : Pair) (s : EndState) (draft : ℕ → Option Draft) (o : Option Sending) → ((m : ℕ) → draft m ≡ None) → emitted pair s draft o ≡ Quiet
emitted_quiet pair s draft None is = ap (λ (x : Option Draft). if is_some x then NoKey else Quiet) (is 0)
emitted_quiet pair s draft (Some sending) is = ap (keyed pair s sending) (is (most_bytes pair s sending))

pub has_row : (current : Option ℕ) (rows : List Row) (pair : Pair) (now : ℕ) → has_sendable rows pair now ≡ true → choose_row current rows pair now ≡ None → ⊥
has_row current rows pair now has none = let miss = choose_none current rows pair now none in not_both (has_sendable rows pair now) has miss

pub plain_data : PlainFlags (PSH + ACK)
plain_data = record { syn = refl; rst = refl; ack = refl }

pub plain_ack : PlainFlags ACK
plain_ack = record { syn = refl; rst = refl; ack = refl }

pub plain_fin : PlainFlags (FIN + ACK)
plain_fin = record { syn = refl; rst = refl; ack = refl }

slice_some : (s : EndState) (n count : ℕ) → s.isn + 1 ≤ n → length (slice_at s n count) ≡ min count (given_end s - n)
slice_some s n count low =
    let cut = length-take count (drop (n - (s.isn + 1)) s.given) in
    let left = length-drop (n - (s.isn + 1)) s.given in
    omega arith

own_low : (a : Address) → 1440 ≤ own_mss a
own_low (V4 bytes) = omega arith
own_low (V6 bytes) = omega arith

-- a segment has room for data
pub most_some : (pair : Pair) (s : EndState) (sending : Sending) → 88 ≤ s.mss → 2 ≤ most_bytes pair s sending
most_some pair s sending fits =
    let low = own_low pair.local.address in
    let words = mac_words sending.row.algorithm in
    let short = words.1 in
    omega arith

-- what a send makes
pub record SendCase (pair : Pair) (s : EndState) (r : Emitted) : Type 0 where
  pub which : ((m : Makes pair s r) × (m.out.number ≡ s.next) × ((sends_data s ≡ true) ⊎ (sends_fin s ≡ true) → 0 < takes m.out)) ⊎ ((r ≡ Quiet) × (sends_data s ≡ false) × (sends_fin s ≡ false) × (s.ack_owed ≡ false))

-- what a resend makes; the ACK that comes back will be in the window
pub record ResendCase (pair : Pair) (s : EndState) (r : Emitted) : Type 0 where
  pub which : ((m : Makes pair s r) × (m.out.number ≡ s.una) × (0 < takes m.out) × (m.out.state.next ≤ s.una + 65534 + takes m.out)) ⊎ ((r ≡ Quiet) × (s.next ≤ s.una) × (s.una < all_end s → (is_sending s.phase ≡ true) × (0 < s.send_window)))

fin_on : bit_of (sets (FIN + ACK) FIN) ≡ 1
fin_on = refl

sent_open : (phase : Phase) → is_open phase ≡ true → is_open (fin_sent phase) ≡ true
sent_open Listen o = absurd (cc)
sent_open SynSent o = absurd (cc)
sent_open SynReceived o = absurd (cc)
sent_open Closed o = absurd (cc)
sent_open Established o = refl
sent_open CloseWait o = refl
sent_open FinWait1 o = refl
sent_open Closing o = refl
sent_open LastAck o = refl
sent_open FinWait2 o = refl
sent_open TimeWait o = refl

sending_unsent : (phase : Phase) → is_sending phase ≡ true → fin_gone phase ≡ false
sending_unsent Listen o = absurd (cc)
sending_unsent SynSent o = absurd (cc)
sending_unsent SynReceived o = absurd (cc)
sending_unsent Closed o = absurd (cc)
sending_unsent Established o = refl
sending_unsent CloseWait o = refl
sending_unsent FinWait1 o = absurd (cc)
sending_unsent Closing o = absurd (cc)
sending_unsent LastAck o = absurd (cc)
sending_unsent FinWait2 o = absurd (cc)
sending_unsent TimeWait o = absurd (cc)

unless : (a : Bool) (k : ℕ) → a ≡ true → (a && nat_lt 0 k) ≡ false → k ≡ 0
unless true k e g = let low = lt_not 0 k g in omega arith
unless false k e g = absurd (cc)

all_blocked : (a b c : Bool) → a ≡ true → b ≡ true → c ≡ true → (a && b && c) ≡ true
all_blocked a b c e f g = grind arith

module _ (rows : List Row) (pair : Pair) (now : ℕ) (s : EndState) (up : IsOpen s) (h : Numbers s) (room : given_end s ≤ s.una + 65535) (keyed_now : has_sendable rows pair now ≡ true) where
  draft_case : SendCase pair s (emitted pair s (to_emit s) (choose_row s.current rows pair now))
  draft_case =
      let o = choose_row s.current rows pair now in
      let low = h.low in
      let una = h.una in
      let top = h.next in
      let S = SendCase pair s (emitted pair s (to_emit s) o) in
      by_bool S (sends_data s)
      (λ t.
      let out = λ (m : ℕ). data_draft s (fitting s m) in
      let r = emitted_seals pair s (to_emit s) out h.peer.0 o (λ m. emit_data s up m t) (λ m. refl) h.peer.1 (has_row s.current rows pair now keyed_now) in
      let most = most_bytes pair s r.sending in
      let big = most_some pair s r.sending h.mss in
      let wide : s.next < window_end s = lt_is s.next (window_end s) (and_tells (is_sending s.phase && nat_lt 0 (unsent s)) (nat_lt s.next (window_end s)) t).1 in
      let some = (sends_data_says s t).1 in
      let long = slice_some s s.next (fitting s most) (omega arith) in
      record { which = inl (record { out = out most; sending = r.sending; context = r.context; is = r.is; flags = plain_data; same = refl; opened = up.phase; next = omega arith; low = una; high = omega arith; bytes = λ some. omega arith; small = omega arith; fin = λ e. absurd (cc) }, refl, λ e. omega arith) })
      (λ t. by_bool S (sends_fin s)
      (λ f.
      let says = sends_fin_says s f in
      let none = says.2 in
      let out = λ (m : ℕ). fin_draft s in
      let r = emitted_seals pair s (to_emit s) out h.peer.0 o (λ m. emit_fin s up m t f) (λ m. refl) h.peer.1 (has_row s.current rows pair now keyed_now) in
      let below = h.unfinished (sending_unsent s.phase says.0) in
      let one : bit_of s.closing ≡ 1 = ap bit_of says.1 in
      record { which = inl (record { out = fin_draft s; sending = r.sending; context = r.context; is = r.is; flags = plain_fin; same = refl; opened = sent_open s.phase up.phase; next = omega arith; low = una; high = omega arith; bytes = λ some. absurd (omega arith); small = omega arith; fin = λ e. (omega arith, says.1) }, refl, λ e. omega arith) })
      (λ f. by_bool S s.ack_owed
      (λ owed.
      let out = λ (m : ℕ). ack_draft s in
      let r = emitted_seals pair s (to_emit s) out h.peer.0 o (λ m. emit_ack s up m t f owed) (λ m. refl) h.peer.1 (has_row s.current rows pair now keyed_now) in
      record {
        which = inl (
          record { out = ack_draft s; sending = r.sending; context = r.context; is = r.is; flags = plain_ack; same = refl; opened = up.phase; next = omega arith; low = una; high = omega arith; bytes = λ some. absurd (omega arith); small = omega arith; fin = λ e. absurd (cc) },
          refl,
          λ e. ⊎_elim (λ (x : sends_data s ≡ true). absurd (not_both (sends_data s) x t)) (λ (x : sends_fin s ≡ true). absurd (not_both (sends_fin s) x f)) e,
        );
      })
      (λ unowed. record { which = inr (emitted_quiet pair s (to_emit s) o (λ m. emit_none s up m t f unowed), t, f, unowed) })))

  -- what is unacknowledged is sent again
  again_case : resends s.phase ≡ true → s.una < s.next → ResendCase pair s (emitted pair s (to_resend s) (choose_row s.current rows pair now))
  again_case may sent =
      let o = choose_row s.current rows pair now in
      let low = h.low in
      let top = h.next in
      let C = ResendCase pair s (emitted pair s (to_resend s) o) in
      by_bool C (nat_lt s.una (given_end s))
      (λ t.
      let inside = lt_is s.una (given_end s) t in
      let out = λ (m : ℕ). again_draft s (min (s.next - s.una) m) in
      let r = emitted_seals pair s (to_resend s) out h.peer.0 o (λ m. resend_again s up m may sent inside) (λ m. refl) h.peer.1 (has_row s.current rows pair now keyed_now) in
      let most = most_bytes pair s r.sending in
      let big = most_some pair s r.sending h.mss in
      let long = slice_some s s.una (min (s.next - s.una) most) low in
      let bit = bit_low s.closing in
      record { which = inl (record { out = out most; sending = r.sending; context = r.context; is = r.is; flags = plain_data; same = refl; opened = up.phase; next = omega arith; low = omega arith; high = omega arith; bytes = λ some. omega arith; small = omega arith; fin = λ e. absurd (cc) }, refl, omega arith, reach (length (slice_at s s.una (min (s.next - s.una) most))) most (bit_of s.closing) long big bit inside sent top) })
      (λ t.
      let past = lt_not s.una (given_end s) t in
      let out = λ (m : ℕ). fin_again_draft s in
      let r = emitted_seals pair s (to_resend s) out h.peer.0 o (λ m. resend_fin s up m may sent past) (λ m. refl) h.peer.1 (has_row s.current rows pair now keyed_now) in
      let bit = bit_low s.closing in
      let on : s.closing ≡ true = closing_on s.closing (omega arith) in
      let one : bit_of s.closing ≡ 1 = ap bit_of on in
      record { which = inl (record { out = fin_again_draft s; sending = r.sending; context = r.context; is = r.is; flags = plain_fin; same = refl; opened = up.phase; next = omega arith; low = omega arith; high = omega arith; bytes = λ some. absurd (omega arith); small = omega arith; fin = λ e. (omega arith, on) }, refl, omega arith, omega arith) })
    where
      bit_low : (b : Bool) → bit_of b ≤ 1
      bit_low true = omega arith
      bit_low false = omega arith

      closing_on : (b : Bool) → 0 < bit_of b → b ≡ true
      closing_on true e = refl
      closing_on false e = absurd (omega arith)

      reach : (l most bit : ℕ) → l ≡ min (min (s.next - s.una) most) (given_end s - s.una) → 2 ≤ most → bit ≤ 1 → s.una < given_end s → s.una < s.next → s.next ≤ given_end s + bit → s.next ≤ s.una + 65534 + (l + 0)
      reach l most bit is big small inside sent top = omega (arith, room)

  -- nothing is unacknowledged: a probe, or nothing
  probe_case : s.next ≤ s.una → ResendCase pair s (emitted pair s (to_resend s) (choose_row s.current rows pair now))
  probe_case sent =
      let o = choose_row s.current rows pair now in
      let low = h.low in
      let una = h.una in
      let top = h.next in
      let C = ResendCase pair s (emitted pair s (to_resend s) o) in
      by_bool C (is_blocked s)
      (λ b.
      let sending = (and_tells (is_sending s.phase) (s.una == s.next) (and_tells (is_sending s.phase && (s.una == s.next)) (s.send_window == 0) b).0).0 in
      let below = h.unfinished (sending_unsent s.phase sending) in
      by_bool C (nat_lt 0 (unsent s))
      (λ t.
      let some = lt_is 0 (unsent s) t in
      let out = λ (m : ℕ). data_draft s 1 in
      let r = emitted_seals pair s (to_resend s) out h.peer.0 o (λ m. resend_probe s up m sent b (Some (data_draft s 1)) (if_on (nat_lt 0 (unsent s)) (Some (data_draft s 1)) _ t)) (λ m. refl) h.peer.1 (has_row s.current rows pair now keyed_now) in
      let long = slice_some s s.next 1 (omega arith) in
      record { which = inl (record { out = data_draft s 1; sending = r.sending; context = r.context; is = r.is; flags = plain_data; same = refl; opened = up.phase; next = omega arith; low = una; high = omega arith; bytes = λ some. omega arith; small = omega arith; fin = λ e. absurd (cc) }, omega arith, omega arith, omega arith) })
      (λ t.
      let none = lt_not 0 (unsent s) t in
      by_bool C s.closing
      (λ c.
      let out = λ (m : ℕ). fin_draft s in
      let r = emitted_seals pair s (to_resend s) out h.peer.0 o (λ m. resend_probe s up m sent b (Some (fin_draft s)) (if_off (nat_lt 0 (unsent s)) (Some (data_draft s 1)) _ t ∙ if_on s.closing (Some (fin_draft s)) None c)) (λ m. refl) h.peer.1 (has_row s.current rows pair now keyed_now) in
      let one : bit_of s.closing ≡ 1 = ap bit_of c in
      record { which = inl (record { out = fin_draft s; sending = r.sending; context = r.context; is = r.is; flags = plain_fin; same = refl; opened = sent_open s.phase up.phase; next = omega arith; low = una; high = omega arith; bytes = λ some. absurd (omega arith); small = omega arith; fin = λ e. (omega arith, c) }, omega arith, omega arith, omega arith) })
      (λ c.
      let zero_bit : bit_of s.closing ≡ 0 = ap bit_of c in
      record { which = inr (emitted_quiet pair s (to_resend s) o (λ m. resend_probe s up m sent b None (if_off (nat_lt 0 (unsent s)) (Some (data_draft s 1)) _ t ∙ if_off s.closing (Some (fin_draft s)) None c)), sent, λ waits. absurd (omega arith)) })))
      (λ b. record { which = inr (emitted_quiet pair s (to_resend s) o (λ m. resend_none s up m sent b), sent, λ waits. wide_now b waits) })
    where
      wide_now : is_blocked s ≡ false → s.una < all_end s → (is_sending s.phase ≡ true) × (0 < s.send_window)
      wide_now b waits =
          let una = h.una in
          by_bool ((is_sending s.phase ≡ true) × (0 < s.send_window)) (is_sending s.phase)
          (λ sending.
          let same : (s.una == s.next) ≡ true = grind (arith, nat_tests) in
          by_bool ((is_sending s.phase ≡ true) × (0 < s.send_window)) (s.send_window == 0)
          (λ e. absurd (not_both (is_blocked s) (all_blocked (is_sending s.phase) (s.una == s.next) (s.send_window == 0) sending same e) b))
          (λ e. (sending, grind (arith, nat_tests))))
          (λ off. made_all (phase_case s.phase up.phase) off)
        where
          made_all : PhaseCase s.phase → is_sending s.phase ≡ false → (is_sending s.phase ≡ true) × (0 < s.send_window)
          made_all (may_send on a b2 c) off = absurd (not_both (is_sending s.phase) on off)
          made_all (fin_left a made b2) off = let g = h.gone made in let one : bit_of s.closing ≡ 1 = ap bit_of g.1 in let top = g.0 in absurd (omega (arith, sent, waits))
          made_all (all_settled a made b2) off = let g = h.gone made in let one : bit_of s.closing ≡ 1 = ap bit_of g.1 in let top = g.0 in absurd (omega (arith, sent, waits))

  draft_again_case : ResendCase pair s (emitted pair s (to_resend s) (choose_row s.current rows pair now))
  draft_again_case =
      by_bool (ResendCase pair s (emitted pair s (to_resend s) (choose_row s.current rows pair now))) (nat_lt s.una s.next)
      (λ t. let sent = lt_is s.una s.next t in by_case (phase_case s.phase up.phase) sent)
      (λ t. probe_case (lt_not s.una s.next t))
    where
      by_case : PhaseCase s.phase → s.una < s.next → ResendCase pair s (emitted pair s (to_resend s) (choose_row s.current rows pair now))
      by_case (may_send on a may c) sent = again_case may sent
      by_case (fin_left a made may) sent = again_case may sent
      by_case (all_settled a made done) sent = let low = h.settled done in absurd (omega arith)

  pub send_case : SendCase pair s (emit rows pair now s)
  send_case = subst (SendCase pair s) (sym (emit_by_drafts rows pair now s)) draft_case

  pub resend_case : ResendCase pair s (resend rows pair now s)
  resend_case = subst (ResendCase pair s) (sym (resend_by_drafts rows pair now s)) draft_again_case
