-- Only an end in SYN-SENT makes a SYN without ACK.
use Rattle.std.proofs.Common.{◌≡◌, ℕ, ◌+◌, ◌==◌, Bool, true, false, not, ◌&&◌, List, Option, Some, None, refl, sym, subst}
use Rattle.std.specs.Prelude.{⊤, is_some}
use Rattle.book_base.specs.declared.address.Pair.{Pair}
use Rattle.book_segments.specs.Segments.{FIN, SYN, RST, ACK}
use Rattle.book_macs.specs.Contexts.{context_of}
use Rattle.book_keys.specs.Rows.{Row}
use Rattle.book_keys.specs.Coordination.{Sending, choose as choose_row}
use Rattle.book_endpoint.specs.States.{EndState}
use Rattle.book_endpoint.specs.Arrivals.{syn_alone}
use Rattle.book_endpoint.specs.Emissions.{Draft, Emitted, Quiet, NoKey, Emits, is_silent, is_syn_sent, is_syn_received, rst_draft, syn_draft, syn_ack_draft, data_draft, fin_draft, ack_draft, sends_data, sends_fin, fitting, sets, most_bytes, blank, seal_known, emit}
use Rattle.endpoint_steps.specs.Drafting.{to_emit, keyed, emitted}
use Rattle.endpoint_steps.proofs.Drafting.{emit_by_drafts}
use Rattle.law_link.proofs.Tests.{choose}

-- these flags have SYN alone
abbrev alone : ℕ → Bool
alone flags = sets flags SYN && not (sets flags ACK) && not (sets flags RST) && not (sets flags FIN)

record Plain (out : Draft) : Type 0 where
  flags : alone out.flags ≡ false

abbrev MayBePlain : Option Draft → Type 0
MayBePlain None = ⊤
MayBePlain (Some out) = Plain out

no_both : (a b : Bool) → a ≡ false → (a && b) ≡ true → ⊥
no_both true b e f = absurd (cc)
no_both false b e f = absurd (cc)

emit_plain : (s : EndState) (most : ℕ) → is_syn_sent s.phase ≡ false → MayBePlain (to_emit s most)
unfolding to_emit
emit_plain s most off =
    let P = MayBePlain in
    choose P s.rst_owed (Some (rst_draft s)) _ (λ t. record { flags = refl }) (λ e1.
    choose P (is_syn_sent s.phase && (s.next == s.isn)) (Some (syn_draft s (record s { next = s.isn + 1 }))) _ (λ t. absurd (no_both (is_syn_sent s.phase) (s.next == s.isn) off t)) (λ e2.
    choose P (is_syn_received s.phase && (s.next == s.isn)) (Some (syn_ack_draft s (record s { next = s.isn + 1 }))) _ (λ t. record { flags = refl }) (λ e3.
    choose P (sends_data s) (Some (data_draft s (fitting s most))) _ (λ t. record { flags = refl }) (λ e4.
    choose P (sends_fin s) (Some (fin_draft s)) _ (λ t. record { flags = refl }) (λ e5.
    choose P (s.ack_owed && not (is_silent s.phase)) (Some (ack_draft s)) None (λ t. record { flags = refl }) (λ t. tt))))))

abbrev pub PlainIf : Emitted → Type 0
PlainIf Quiet = ⊤
PlainIf NoKey = ⊤
PlainIf (Emits em) = syn_alone em.segment ≡ false

module _ (pair : Pair) (s : EndState) where
  sealed_plain : (out : Draft) (sending : Sending) (o : Option (List ℕ)) → Plain out → PlainIf (seal_known pair s out sending o)
  sealed_plain out sending None h = tt
  sealed_plain out sending (Some c) h = h.flags

  keyed_plain : (sending : Sending) (o : Option Draft) → MayBePlain o → PlainIf (keyed pair s sending o)
  keyed_plain sending None h = tt
  keyed_plain sending (Some out) h = sealed_plain out sending (context_of (blank pair s out sending) (Some s.isn) s.peer_isn) h

  emitted_plain : (draft : ℕ → Option Draft) (o : Option Sending) → ((m : ℕ) → MayBePlain (draft m)) → PlainIf (emitted pair s draft o)
  emitted_plain draft None h = choose PlainIf (is_some (draft 0)) NoKey Quiet (λ e. tt) (λ e. tt)
  emitted_plain draft (Some sending) h = keyed_plain sending (draft (most_bytes pair s sending)) (h (most_bytes pair s sending))

pub emits_plain : (rows : List Row) (pair : Pair) (now : ℕ) (s : EndState) → is_syn_sent s.phase ≡ false → PlainIf (emit rows pair now s)
emits_plain rows pair now s off = subst PlainIf (sym (emit_by_drafts rows pair now s)) (emitted_plain pair s (to_emit s) (choose_row s.current rows pair now) (λ most. emit_plain s most off))
