-- The next number after a segment is the one after all that it carries.
use Rattle.std.proofs.Common.{◌≡◌, ℕ, ◌+◌, ◌-◌, ◌≤◌, ◌==◌, min, not, ◌&&◌, List, length, drop, Option, Some, None, sym, ap, subst, arith, length-take}
use Rattle.std.specs.Prelude.{⊤, is_some}
use Rattle.std.proofs.lemmas.List.{length-drop}
use Rattle.book_base.specs.declared.address.Pair.{Pair}
use Rattle.book_segments.specs.Segments.{bit_of, FIN, SYN}
use Rattle.book_macs.specs.Contexts.{context_of}
use Rattle.book_keys.specs.Rows.{Row}
use Rattle.book_keys.specs.Coordination.{Sending, choose as choose_row}
use Rattle.book_endpoint.specs.States.{EndState, given_end}
use Rattle.book_endpoint.specs.Emissions.{Draft, Emission, Emitted, Quiet, NoKey, Emits, is_silent, is_syn_sent, is_syn_received, slice_at, rst_draft, syn_draft, syn_ack_draft, data_draft, fin_draft, ack_draft, sends_data, sends_fin, fitting, sets, most_bytes, blank, sealed, seal_known, emit}
use Rattle.endpoint_steps.specs.Drafting.{to_emit, keyed, emitted}
use Rattle.endpoint_steps.proofs.Drafting.{emit_by_drafts}
use Rattle.law_link.proofs.Tests.{choose}
use Rattle.law_progress.proofs.Making.{takes, Makes}

-- a SYN takes a number too
record Advances (out : Draft) : Type 0 where
  next : out.state.next ≡ out.number + takes out + bit_of (sets out.flags SYN)

abbrev MayAdvance : Option Draft → Type 0
MayAdvance None = ⊤
MayAdvance (Some out) = Advances out

slice_long : (s : EndState) (n count : ℕ) → s.isn + 1 ≤ n → length (slice_at s n count) ≡ min count (given_end s - n)
slice_long s n count low =
    let cut = length-take count (drop (n - (s.isn + 1)) s.given) in
    let left = length-drop (n - (s.isn + 1)) s.given in
    omega arith

emit_advances : (s : EndState) (most : ℕ) → s.isn + 1 ≤ s.next → MayAdvance (to_emit s most)
unfolding to_emit
emit_advances s most low =
    let P = MayAdvance in
    choose P s.rst_owed (Some (rst_draft s)) _ (λ t. record { next = omega arith }) (λ e1.
    choose P (is_syn_sent s.phase && (s.next == s.isn)) (Some (syn_draft s (record s { next = s.isn + 1 }))) _ (λ t. record { next = omega arith }) (λ e2.
    choose P (is_syn_received s.phase && (s.next == s.isn)) (Some (syn_ack_draft s (record s { next = s.isn + 1 }))) _ (λ t. record { next = omega arith }) (λ e3.
    choose P (sends_data s) (Some (data_draft s (fitting s most))) _ (λ t. let long = slice_long s s.next (fitting s most) low in record { next = omega arith }) (λ e4.
    choose P (sends_fin s) (Some (fin_draft s)) _ (λ t. record { next = omega arith }) (λ e5.
    choose P (s.ack_owed && not (is_silent s.phase)) (Some (ack_draft s)) None (λ t. record { next = omega arith }) (λ t. tt))))))

record AdvancesOn (em : Emission) : Type 0 where
  next : em.state.next ≡ em.number + (length em.segment.payload + bit_of (sets em.flags FIN)) + bit_of (sets em.flags SYN)

abbrev AdvancesIf : Emitted → Type 0
AdvancesIf Quiet = ⊤
AdvancesIf NoKey = ⊤
AdvancesIf (Emits em) = AdvancesOn em

module _ (pair : Pair) (s : EndState) where
  sealed_advances : (out : Draft) (sending : Sending) (o : Option (List ℕ)) → Advances out → AdvancesIf (seal_known pair s out sending o)
  sealed_advances out sending None h = tt
  sealed_advances out sending (Some c) h = record { next = h.next }

  keyed_advances : (sending : Sending) (o : Option Draft) → MayAdvance o → AdvancesIf (keyed pair s sending o)
  keyed_advances sending None h = tt
  keyed_advances sending (Some out) h = sealed_advances out sending (context_of (blank pair s out sending) (Some s.isn) s.peer_isn) h

  emitted_advances : (draft : ℕ → Option Draft) (o : Option Sending) → ((m : ℕ) → MayAdvance (draft m)) → AdvancesIf (emitted pair s draft o)
  emitted_advances draft None h = choose AdvancesIf (is_some (draft 0)) NoKey Quiet (λ e. tt) (λ e. tt)
  emitted_advances draft (Some sending) h = keyed_advances sending (draft (most_bytes pair s sending)) (h (most_bytes pair s sending))

pub makes_next : (rows : List Row) (pair : Pair) (now : ℕ) (s : EndState) → s.isn + 1 ≤ s.next → (m : Makes pair s (emit rows pair now s)) → m.out.state.next ≡ m.out.number + takes m.out
makes_next rows pair now s low m =
    let all : AdvancesIf (emit rows pair now s) = subst AdvancesIf (sym (emit_by_drafts rows pair now s)) (emitted_advances pair s (to_emit s) (choose_row s.current rows pair now) (λ most. emit_advances s most low)) in
    let one : AdvancesIf (Emits (sealed pair s m.out m.sending m.context)) = subst AdvancesIf m.is all in
    let zero_syn : bit_of (sets m.out.flags SYN) ≡ 0 = ap bit_of m.flags.syn in
    let next : m.out.state.next ≡ m.out.number + takes m.out + bit_of (sets m.out.flags SYN) = one.next in
    omega arith
