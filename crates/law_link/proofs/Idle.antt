-- An end makes nothing exactly where it has nothing to send: its context is known wherever it has.
use Rattle.std.proofs.Common.{◌≡◌, ℕ, Bool, true, false, List, Option, Some, None, inl, inr, if◌then◌else◌, refl, sym, ap, ◌∙◌}
use Rattle.std.specs.Prelude.{◌↔◌, is_some}
use Rattle.std.specs.List.{AllByRecursion}
use Rattle.book_base.specs.declared.address.Pair.{Pair}
use Rattle.book_base.specs.declared.end.End.{End}
use Rattle.book_segments.specs.Segments.{Segment, has, SYN, ACK}
use Rattle.book_macs.specs.Contexts.{context, context_known, context_of_syn, context_of_later, context_of}
use Rattle.book_keys.specs.Rows.{Row}
use Rattle.book_keys.specs.Coordination.{Sending, choose}
use Rattle.book_endpoint.specs.States.{EndState}
use Rattle.book_endpoint.specs.Emissions.{Draft, Quiet, NoKey, most_bytes, blank, seal_known, due_next, due_again, emit, resend}
use Rattle.endpoint_steps.specs.Drafting.{to_emit, to_resend, keyed, emitted}
use Rattle.endpoint_steps.proofs.Drafting.{emit_by_drafts, resend_by_drafts, none_next, none_again}
use Rattle.book_link.specs.declared.event.Event.{Event}
use Rattle.law_link.specs.Laws.{SetupFits, EventFits}
use Rattle.book_link.specs.Runs.{run}
use Rattle.book_link.specs.Worlds.{Setup, pair_of, Session, side, live}
use Rattle.law_link.proofs.Drafts.{emit_same, resend_same}
use Rattle.law_link.proofs.Whole.{Whole}
use Rattle.law_link.proofs.Carrying.{TellsContext, MayCarry, emit_carries, resend_carries}
use Rattle.law_link.proofs.Invariant.{live_whole}
use Rattle.law_link.proofs.Running.{run_inv}

-- ---- the context

-- something is there
abbrev IsThere : Option (List ℕ) → Type 0
IsThere o = (c : List ℕ) × (o ≡ Some c)

known_there : (d : Segment) (own : ℕ) (o : Option ℕ) → (q : ℕ) × (o ≡ Some q) → IsThere (context_known d.source d.destination own o)
known_there d own None known = absurd (cc)
known_there d own (Some q) known = (context d.source d.destination own q, refl)

syn_there : (d : Segment) (o : Option ℕ) (b : Bool) → (q : ℕ) × (o ≡ Some q)
    → IsThere (if b then context_known d.source d.destination d.sequence o else Some (context d.source d.destination d.sequence 0))
syn_there d o true known = known_there d d.sequence o known
syn_there d o false known = (context d.source d.destination d.sequence 0, refl)

alone_there : (d : Segment) (own : ℕ) (o : Option ℕ) (syn ack : Bool) → syn ≡ true → ack ≡ false
    → IsThere (if syn then (if ack then context_known d.source d.destination d.sequence o else Some (context d.source d.destination d.sequence 0)) else context_of_later d (Some own) o)
alone_there d own o true false e f = (context d.source d.destination d.sequence 0, refl)
alone_there d own o true true e f = absurd (cc)
alone_there d own o false ack e f = absurd (cc)

by_syn : (d : Segment) (own : ℕ) (o : Option ℕ) (b : Bool) → (q : ℕ) × (o ≡ Some q) → IsThere (if b then context_of_syn d o else context_of_later d (Some own) o)
by_syn d own o true known = syn_there d o (has ACK d) known
by_syn d own o false known = known_there d own o known

context_there : (d : Segment) (own : ℕ) (o : Option ℕ) → TellsContext d.flags o → IsThere (context_of d (Some own) o)
unfolding context_of
context_there d own o (inl alone) = alone_there d own o (has SYN d) (has ACK d) alone.0 alone.1
context_there d own o (inr known) = by_syn d own o (has SYN d) known

-- ---- nothing is made

sealed_speaks : (pair : Pair) (s : EndState) (out : Draft) (sending : Sending) (o : Option (List ℕ)) → IsThere o → seal_known pair s out sending o ≡ Quiet → ⊥
sealed_speaks pair s out sending None there is = absurd (cc)
sealed_speaks pair s out sending (Some c) there is = absurd (cc)

keyed_idle : (pair : Pair) (s : EndState) (sending : Sending) (o : Option Draft) → MayCarry s o → keyed pair s sending o ≡ Quiet → o ≡ None
keyed_idle pair s sending None carry is = refl
keyed_idle pair s sending (Some out) carry is =
    absurd (sealed_speaks pair s out sending (context_of (blank pair s out sending) (Some s.isn) s.peer_isn) (context_there (blank pair s out sending) s.isn s.peer_isn carry.context) is)

keyless_idle : (o : Option Draft) → (if is_some o then NoKey else Quiet) ≡ Quiet → o ≡ None
keyless_idle None is = refl
keyless_idle (Some out) is = absurd (cc)

same_none : (o p : Option Draft) → is_some o ≡ is_some p → o ≡ None → p ≡ None
same_none o None same is = refl
same_none None (Some out) same is = absurd (cc)
same_none (Some out) (Some other) same is = absurd (cc)

emitted_idle : (pair : Pair) (s : EndState) (draft : ℕ → Option Draft) (o : Option Sending) → ((most : ℕ) → is_some (draft most) ≡ is_some (draft 0)) → ((most : ℕ) → MayCarry s (draft most))
    → (emitted pair s draft o ≡ Quiet) ↔ (draft 0 ≡ None)
emitted_idle pair s draft None same carry = (keyless_idle (draft 0), λ none. ap (λ (x : Option Draft). if is_some x then NoKey else Quiet) none)
emitted_idle pair s draft (Some sending) same carry =
    let most = most_bytes pair s sending in (
      λ is. same_none (draft most) (draft 0) (same most) (keyed_idle pair s sending (draft most) (carry most) is),
      λ none. ap (keyed pair s sending) (same_none (draft 0) (draft most) (sym (same most)) none),
    )

emit_idle : (rows : List Row) (pair : Pair) (now : ℕ) (s : EndState) → Whole s → (emit rows pair now s ≡ Quiet) ↔ (due_next s ≡ None)
emit_idle rows pair now s h =
    let o = emitted_idle pair s (to_emit s) (choose s.current rows pair now) (emit_same s) (λ most. emit_carries s most h) in
    let same = emit_by_drafts rows pair now s in
    let none = none_next s in
    (λ is. none.0 (o.0 (sym same ∙ is)), λ is. same ∙ o.1 (none.1 is))

resend_idle : (rows : List Row) (pair : Pair) (now : ℕ) (s : EndState) → Whole s → (resend rows pair now s ≡ Quiet) ↔ (due_again s ≡ None)
resend_idle rows pair now s h =
    let o = emitted_idle pair s (to_resend s) (choose s.current rows pair now) (resend_same s) (λ most. resend_carries s most h) in
    let same = resend_by_drafts rows pair now s in
    let none = none_again s in
    (λ is. none.0 (o.0 (sym same ∙ is)), λ is. same ∙ o.1 (none.1 is))

-- ---- the live session of an end

module _ (setup : Setup) (fits : SetupFits setup) (events : List Event) (f : AllByRecursion EventFits events) (e : End) (s : Session) (lives : live (side (run setup events) e).sessions ≡ Some s) where
  whole : Whole s.state
  whole = live_whole (side (run setup events) e).sessions s lives ((run_inv setup fits events f).whole e)

  pub send_idle : (emit (side (run setup events) e).rows (pair_of setup e) (side (run setup events) e).clock s.state ≡ Quiet) ↔ (due_next s.state ≡ None)
  send_idle = emit_idle (side (run setup events) e).rows (pair_of setup e) (side (run setup events) e).clock s.state whole

  pub send_again_idle : (resend (side (run setup events) e).rows (pair_of setup e) (side (run setup events) e).clock s.state ≡ Quiet) ↔ (due_again s.state ≡ None)
  send_again_idle = resend_idle (side (run setup events) e).rows (pair_of setup e) (side (run setup events) e).clock s.state whole
