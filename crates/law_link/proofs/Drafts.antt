-- What emit and resend make.
use Rattle.std.proofs.Common.{◌≡◌, ℕ, ◌+◌, ◌-◌, ◌^◌, ◌<◌, ◌≤◌, ◌==◌, min, Bool, true, false, not, ◌&&◌, nat_lt, [], length, drop, Option, Some, None, refl, arith, length-take}
use Rattle.std.specs.Prelude.{⊤, is_some, if◌then◌else◌}
use Rattle.book_base.specs.declared.address.Address.{Address}
use Rattle.book_base.specs.declared.address.Address.TheVariants.{V4, V6}
use Rattle.book_base.specs.declared.address.Pair.{Pair}
use Rattle.book_segments.specs.Segments.{bit_of, FIN, SYN, RST}
use Rattle.book_segments.specs.Spelling.{AreBytes}
use Rattle.book_segments.proofs.ByteLaws.{bytes_drop, bytes_take, nil_bytes}
use Rattle.book_segments.proofs.Fields.{and_tells, eqb_is, lt_is, lt_not}
use Rattle.book_endpoint.specs.States.{EndState, own_mss, given_end}
use Rattle.book_keys.specs.Coordination.{Sending}
use Rattle.book_endpoint.specs.Emissions.{Draft, is_sending, is_silent, is_syn_sent, is_syn_received, unsent, slice_at, rst_draft, syn_draft, syn_ack_draft, data_draft, again_draft, fin_draft, fin_again_draft, ack_draft, window_end, sends_data, sends_fin, fitting, resends, is_blocked, sets, most_bytes}
use Rattle.endpoint_steps.specs.Drafting.{to_emit, unacknowledged, probe, to_resend}
use Rattle.law_link.proofs.Tests.{choose}
use Rattle.book_base.proofs.TestLaws.{by_bool}
use Rattle.law_link.proofs.Phases.{fin_gone, sending_unfinished, fin_sent_gone, fin_sent_knows, resends_made, syn_sent_unfinished, syn_received_unfinished}
use Rattle.law_link.proofs.Sound.{Sound, Later, later_refl, later_next}

-- what holds of a segment that an end is about to make
pub record DraftOk (s : EndState) (out : Draft) : Type 0 where
  pub later : Later s out.state
  pub sound : Sound out.state
  pub flags : out.flags < 256
  pub syn : sets out.flags SYN ≡ true → (out.number ≡ s.isn) × (out.payload ≡ [])
  pub fin : sets out.flags FIN ≡ true → (s.closing ≡ true) × (out.payload ≡ []) × (out.number ≡ given_end s)
  pub rst : sets out.flags RST ≡ true → (s.aborted ≡ true) × (sets out.flags SYN ≡ false)
  pub small : out.number + (length out.payload + bit_of (sets out.flags SYN) + bit_of (sets out.flags FIN)) ≤ 2 ^ 63
  pub bytes : AreBytes out.payload
  pub long : length out.payload ≤ 1460
  pub sent : out.number + (length out.payload + bit_of (sets out.flags FIN)) ≤ out.state.next

-- the draft, if there is one
abbrev pub MayDraft : EndState → Option Draft → Type 0
MayDraft s None = ⊤
MayDraft s (Some out) = DraftOk s out

own_low : (a : Address) → own_mss a ≤ 1460
own_low (V4 bytes) = omega arith
own_low (V6 bytes) = omega arith

-- no segment has more bytes
pub most_low : (pair : Pair) (s : EndState) (sending : Sending) → most_bytes pair s sending ≤ 1460
most_low pair s sending = let low = own_low pair.local.address in omega arith

-- the same fields, with another next number
next_sound : (s : EndState) (next : ℕ) → next ≤ given_end s → Sound s → Sound (record s { next = next })
next_sound s next high h =
    record {
      isn_fits = h.isn_fits;
      peer_isn_fits = h.peer_isn_fits;
      few = h.few;
      bytes = h.bytes;
      next_high = omega arith;
      unfinished = λ e. high;
      unknown = h.unknown;
      closed = h.closed;
      reset = h.reset;
    }

rst_ok : (s : EndState) → s.rst_owed ≡ true → Sound s → DraftOk s (rst_draft s)
rst_ok s owed h =
    let top = h.next_high in
    let few = h.few in
    record {
      later = later_refl s;
      sound = record {
        isn_fits = h.isn_fits;
        peer_isn_fits = h.peer_isn_fits;
        few = h.few;
        bytes = h.bytes;
        next_high = h.next_high;
        unfinished = h.unfinished;
        unknown = h.unknown;
        closed = h.closed;
        reset = λ e. absurd (cc);
      };
      flags = omega arith;
      syn = λ e. absurd (cc);
      fin = λ e. absurd (cc);
      rst = λ e. (h.reset owed, refl);
      small = omega arith;
      bytes = nil_bytes;
      long = omega arith;
      sent = omega arith;
    }

-- a SYN, or a SYN with ACK
syn_ok : (s : EndState) (next : ℕ) → next ≤ given_end s → s.next ≤ next → s.isn ≤ next → Sound s → DraftOk s (syn_draft s (record s { next = next }))
syn_ok s next high more low h =
    let few = h.few in
    record {
      later = later_next s next more;
      sound = next_sound s next high h;
      flags = omega arith;
      syn = λ e. (refl, refl);
      fin = λ e. absurd (cc);
      rst = λ e. absurd (cc);
      small = omega arith;
      bytes = nil_bytes;
      long = omega arith;
      sent = omega arith;
    }

syn_ack_ok : (s : EndState) (next : ℕ) → next ≤ given_end s → s.next ≤ next → s.isn ≤ next → Sound s → DraftOk s (syn_ack_draft s (record s { next = next }))
syn_ack_ok s next high more low h =
    let few = h.few in
    record {
      later = later_next s next more;
      sound = next_sound s next high h;
      flags = omega arith;
      syn = λ e. (refl, refl);
      fin = λ e. absurd (cc);
      rst = λ e. absurd (cc);
      small = omega arith;
      bytes = nil_bytes;
      long = omega arith;
      sent = omega arith;
    }

ack_ok : (s : EndState) → Sound s → DraftOk s (ack_draft s)
ack_ok s h =
    let top = h.next_high in
    let few = h.few in
    record {
      later = later_refl s;
      sound = h;
      flags = omega arith;
      syn = λ e. absurd (cc);
      fin = λ e. absurd (cc);
      rst = λ e. absurd (cc);
      small = omega arith;
      bytes = nil_bytes;
      long = omega arith;
      sent = omega arith;
    }

slice_bytes : (s : EndState) (n count : ℕ) → AreBytes s.given → AreBytes (slice_at s n count)
slice_bytes s n count h = bytes_take (drop (n - (s.isn + 1)) s.given) count (bytes_drop s.given (n - (s.isn + 1)) h)

slice_long : (s : EndState) (n count : ℕ) → length (slice_at s n count) ≤ count
slice_long s n count = let cut = length-take count (drop (n - (s.isn + 1)) s.given) in omega arith

data_ok : (s : EndState) (count : ℕ) → s.next + count ≤ given_end s → count ≤ 1460 → Sound s → DraftOk s (data_draft s count)
data_ok s count fits most h =
    let few = h.few in
    let long = slice_long s s.next count in
    record {
      later = later_next s (s.next + count) (omega arith);
      sound = next_sound s (s.next + count) fits h;
      flags = omega arith;
      syn = λ e. absurd (cc);
      fin = λ e. absurd (cc);
      rst = λ e. absurd (cc);
      small = omega arith;
      bytes = slice_bytes s s.next count h.bytes;
      long = omega arith;
      sent = omega arith;
    }

again_ok : (s : EndState) (count : ℕ) → s.una + count ≤ s.next → count ≤ 1460 → Sound s → DraftOk s (again_draft s count)
again_ok s count fits most h =
    let few = h.few in
    let top = h.next_high in
    let long = slice_long s s.una count in
    record {
      later = later_refl s;
      sound = h;
      flags = omega arith;
      syn = λ e. absurd (cc);
      fin = λ e. absurd (cc);
      rst = λ e. absurd (cc);
      small = omega arith;
      bytes = slice_bytes s s.una count h.bytes;
      long = omega arith;
      sent = omega arith;
    }

fin_ok : (s : EndState) → is_sending s.phase ≡ true → s.closing ≡ true → given_end s ≤ s.next → Sound s → DraftOk s (fin_draft s)
fin_ok s phase closing all h =
    let few = h.few in
    let top = h.unfinished (sending_unfinished s.phase phase) in
    record {
      later = later_next s (s.next + 1) (omega arith);
      sound = record {
        isn_fits = h.isn_fits;
        peer_isn_fits = h.peer_isn_fits;
        few = h.few;
        bytes = h.bytes;
        next_high = omega arith;
        unfinished = λ e. let no = fin_sent_gone s.phase phase in absurd (cc);
        unknown = λ e. let no = fin_sent_knows s.phase phase in absurd (cc);
        closed = λ e. closing;
        reset = h.reset;
      };
      flags = omega arith;
      syn = λ e. absurd (cc);
      fin = λ e. (closing, refl, omega arith);
      rst = λ e. absurd (cc);
      small = omega arith;
      bytes = nil_bytes;
      long = omega arith;
      sent = omega arith;
    }

fin_again_ok : (s : EndState) → resends s.phase ≡ true → s.una < s.next → given_end s ≤ s.una → Sound s → DraftOk s (fin_again_draft s)
fin_again_ok s phase sent past h =
    let few = h.few in
    let top = h.next_high in
    let closing : s.closing ≡ true = by_bool (s.closing ≡ true) (fin_gone s.phase) (λ g. h.closed (resends_made s.phase phase g)) (λ g. let u = h.unfinished g in absurd (omega arith)) in
    record {
      later = later_refl s;
      sound = h;
      flags = omega arith;
      syn = λ e. absurd (cc);
      fin = λ e. (closing, refl, omega arith);
      rst = λ e. absurd (cc);
      small = omega arith;
      bytes = nil_bytes;
      long = omega arith;
      sent = omega arith;
    }

pub sends_data_says : (s : EndState) → sends_data s ≡ true → (is_sending s.phase ≡ true) × (0 < unsent s)
sends_data_says s t =
    let one = and_tells (is_sending s.phase) (nat_lt 0 (unsent s)) (and_tells (is_sending s.phase && nat_lt 0 (unsent s)) (nat_lt s.next (window_end s)) t).0 in
    (one.0, lt_is 0 (unsent s) one.1)

pub sends_fin_says : (s : EndState) → sends_fin s ≡ true → (is_sending s.phase ≡ true) × (s.closing ≡ true) × (unsent s ≡ 0)
sends_fin_says s t =
    let one = and_tells (is_sending s.phase && s.closing) (unsent s == 0) (and_tells (is_sending s.phase && s.closing && (unsent s == 0)) (nat_lt s.next (window_end s)) t).0 in
    let two = and_tells (is_sending s.phase) s.closing one.0 in
    (two.0, two.1, eqb_is (unsent s) 0 one.1)

pub emit_ok : (s : EndState) (most : ℕ) → most ≤ 1460 → Sound s → MayDraft s (to_emit s most)
unfolding to_emit
emit_ok s most low h =
    let P = MayDraft s in
    choose P s.rst_owed (Some (rst_draft s)) _ (λ owed. rst_ok s owed h) (λ e1.
    choose P (is_syn_sent s.phase && (s.next == s.isn)) (Some (syn_draft s (record s { next = s.isn + 1 }))) _ (λ t. let at = eqb_is s.next s.isn (and_tells (is_syn_sent s.phase) (s.next == s.isn) t).1 in syn_ok s (s.isn + 1) (omega arith) (omega arith) (omega arith) h) (λ e2.
    choose P (is_syn_received s.phase && (s.next == s.isn)) (Some (syn_ack_draft s (record s { next = s.isn + 1 }))) _ (λ t. let at = eqb_is s.next s.isn (and_tells (is_syn_received s.phase) (s.next == s.isn) t).1 in syn_ack_ok s (s.isn + 1) (omega arith) (omega arith) (omega arith) h) (λ e3.
    choose P (sends_data s) (Some (data_draft s (fitting s most))) _ (λ t. let some = (sends_data_says s t).1 in data_ok s (fitting s most) (omega arith) (omega arith) h) (λ e4.
    choose P (sends_fin s) (Some (fin_draft s)) _ (λ t. let says = sends_fin_says s t in let none = says.2 in fin_ok s says.0 says.1 (omega arith) h) (λ e5.
    choose P (s.ack_owed && not (is_silent s.phase)) (Some (ack_draft s)) None (λ t. ack_ok s h) (λ t. tt))))))

unacknowledged_ok : (s : EndState) (most : ℕ) → most ≤ 1460 → resends s.phase ≡ true → s.una < s.next → Sound s → DraftOk s (unacknowledged s most)
unacknowledged_ok s most low phase sent h =
    choose (DraftOk s) (nat_lt s.una (given_end s)) (again_draft s (min (s.next - s.una) most)) (fin_again_draft s)
    (λ g. again_ok s (min (s.next - s.una) most) (omega arith) (omega arith) h)
    (λ g. fin_again_ok s phase sent (lt_not s.una (given_end s) g) h)

probe_ok : (s : EndState) → is_blocked s ≡ true → Sound s → MayDraft s (probe s)
probe_ok s t h =
    let P = MayDraft s in
    let one = and_tells (is_sending s.phase && (s.una == s.next)) (s.send_window == 0) t in
    let phase = (and_tells (is_sending s.phase) (s.una == s.next) one.0).0 in
    choose P (nat_lt 0 (unsent s)) (Some (data_draft s 1)) _ (λ g. let some = lt_is 0 (unsent s) g in data_ok s 1 (omega arith) (omega arith) h) (λ g.
    choose P s.closing (Some (fin_draft s)) None (λ closing. let none = lt_not 0 (unsent s) g in fin_ok s phase closing (omega arith) h) (λ e. tt))

pub resend_ok : (s : EndState) (most : ℕ) → most ≤ 1460 → Sound s → MayDraft s (to_resend s most)
unfolding to_resend
resend_ok s most low h =
    let P = MayDraft s in
    choose P (is_syn_sent s.phase && nat_lt s.isn s.next) (Some (syn_draft s s)) _
    (λ t. let says = and_tells (is_syn_sent s.phase) (nat_lt s.isn s.next) t in let sent = lt_is s.isn s.next says.1 in syn_ok s s.next (h.unfinished (syn_sent_unfinished s.phase says.0)) (omega arith) (omega arith) h) (λ e1.
    choose P (is_syn_received s.phase && nat_lt s.isn s.next) (Some (syn_ack_draft s s)) _
    (λ t. let says = and_tells (is_syn_received s.phase) (nat_lt s.isn s.next) t in let sent = lt_is s.isn s.next says.1 in syn_ack_ok s s.next (h.unfinished (syn_received_unfinished s.phase says.0)) (omega arith) (omega arith) h) (λ e2.
    choose P (resends s.phase && nat_lt s.una s.next) (Some (unacknowledged s most)) _
    (λ t. let one = and_tells (resends s.phase) (nat_lt s.una s.next) t in unacknowledged_ok s most low one.0 (lt_is s.una s.next one.1) h) (λ e3.
    choose P (is_blocked s) (probe s) None (λ t. probe_ok s t h) (λ t. tt))))

-- ---- whether there is a draft doesn't depend on the most bytes

same_if : (b : Bool) (x y : Draft) (o p : Option Draft) → is_some o ≡ is_some p → is_some (if b then Some x else o) ≡ is_some (if b then Some y else p)
same_if true x y o p h = refl
same_if false x y o p h = h

pub emit_same : (s : EndState) (most : ℕ) → is_some (to_emit s most) ≡ is_some (to_emit s 0)
unfolding to_emit
emit_same s most =
    same_if s.rst_owed _ _ _ _ (same_if (is_syn_sent s.phase && (s.next == s.isn)) _ _ _ _ (same_if (is_syn_received s.phase && (s.next == s.isn)) _ _ _ _
    (same_if (sends_data s) _ _ _ _ refl)))

pub resend_same : (s : EndState) (most : ℕ) → is_some (to_resend s most) ≡ is_some (to_resend s 0)
unfolding to_resend
resend_same s most =
    same_if (is_syn_sent s.phase && nat_lt s.isn s.next) _ _ _ _ (same_if (is_syn_received s.phase && nat_lt s.isn s.next) _ _ _ _
    (same_if (resends s.phase && nat_lt s.una s.next) _ _ _ _ refl))
