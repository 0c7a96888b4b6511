-- Where a table has no gap, an end is never without a key.
use Rattle.std.proofs.Common.{◌≡◌, ℕ, true, List, [], ◌∷◌, Option, Some, None, refl, sym, ◌∙◌}
use Rattle.std.specs.Prelude.{◌≢◌}
use Rattle.book_base.specs.declared.end.End.{End}
use Rattle.book_base.specs.declared.address.Pair.{Pair}
use Rattle.book_macs.specs.Contexts.{context_of}
use Rattle.book_keys.specs.Rows.{Row}
use Rattle.book_keys.specs.Coordination.{Sending, choose}
use Rattle.book_keys.specs.Plans.{has_sendable}
use Rattle.book_keys.proofs.SendingLaws.{choose_none}
use Rattle.book_endpoint.specs.States.{EndState}
use Rattle.book_endpoint.specs.Emissions.{Draft, Emitted, Quiet, NoKey, Emits, most_bytes, blank, seal_known, emit, resend}
use Rattle.endpoint_steps.specs.Drafting.{to_emit, to_resend, keyed, emitted}
use Rattle.endpoint_steps.proofs.Drafting.{emit_by_drafts, resend_by_drafts}
use Rattle.book_link.specs.Outcomes.{Outcome, WithoutKey, Idle, Nothing}
use Rattle.book_link.specs.declared.event.Event.TheVariants.{At}
use Rattle.book_link.specs.declared.event.Action.TheVariants.{Send, Resend}
use Rattle.book_link.specs.Worlds.{Setup, pair_of, Session, World, side}
use Rattle.book_link.specs.Steps.{View, Act, sent, send, send_again, act_on, step, view_of}
use Rattle.law_link.specs.Laws.{IsCovered}

sent_keyless : (v : View) (s : EndState) (without : Outcome) (o : Emitted) → without ≢ WithoutKey → (sent v s without o).outcome ≡ WithoutKey → o ≡ NoKey
sent_keyless v s without Quiet apart is = absurd (apart is)
sent_keyless v s without NoKey apart is = refl
sent_keyless v s without (Emits out) apart is = absurd (cc)

known_keyless : (pair : Pair) (s : EndState) (out : Draft) (sending : Sending) (o : Option (List ℕ)) → seal_known pair s out sending o ≡ NoKey → ⊥
known_keyless pair s out sending None is = absurd (cc)
known_keyless pair s out sending (Some c) is = absurd (cc)

keyed_keyless : (pair : Pair) (s : EndState) (sending : Sending) (o : Option Draft) → keyed pair s sending o ≡ NoKey → ⊥
keyed_keyless pair s sending None is = absurd (cc)
keyed_keyless pair s sending (Some out) is = known_keyless pair s out sending (context_of (blank pair s out sending) (Some s.isn) s.peer_isn) is

emitted_keyless : (pair : Pair) (s : EndState) (draft : ℕ → Option Draft) (o : Option Sending) → emitted pair s draft o ≡ NoKey → o ≡ None
emitted_keyless pair s draft None is = refl
emitted_keyless pair s draft (Some sending) is = absurd (keyed_keyless pair s sending (draft (most_bytes pair s sending)) is)

emit_keyless : (rows : List Row) (pair : Pair) (now : ℕ) (s : EndState) → emit rows pair now s ≡ NoKey → choose s.current rows pair now ≡ None
emit_keyless rows pair now s is = emitted_keyless pair s (to_emit s) (choose s.current rows pair now) (sym (emit_by_drafts rows pair now s) ∙ is)

resend_keyless : (rows : List Row) (pair : Pair) (now : ℕ) (s : EndState) → resend rows pair now s ≡ NoKey → choose s.current rows pair now ≡ None
resend_keyless rows pair now s is = emitted_keyless pair s (to_resend s) (choose s.current rows pair now) (sym (resend_by_drafts rows pair now s) ∙ is)

live_keyless : (w : World) (e : End) (sessions : List Session) (call : EndState → Act) → ((s : EndState) → (call s).outcome ≢ WithoutKey) → (act_on w e sessions call).outcome ≢ WithoutKey
live_keyless w e [] call never is = absurd (cc)
live_keyless w e (s ∷ rest) call never is = never s.state is

covered_now : (setup : Setup) (w : World) (e : End) → IsCovered setup w e → has_sendable (side w e).rows (pair_of setup e) (side w e).clock ≡ true
covered_now setup w e c = c.no_gap (side w e).clock c.after c.before

-- at a time without a gap a send or a resend finds a row
pub never_keyless : (setup : Setup) (w : World) (e : End) → IsCovered setup w e → ((step setup w (At e Send)).outcome ≢ WithoutKey) × ((step setup w (At e Resend)).outcome ≢ WithoutKey)
never_keyless setup w e c =
    let rows = (side w e).rows in
    let pair = pair_of setup e in
    let now = (side w e).clock in
    let yes = covered_now setup w e c in
    let clash : (s : EndState) → choose s.current rows pair now ≡ None → ⊥ = λ s none. let no = choose_none s.current rows pair now none in absurd (cc) in (
      live_keyless w e (side w e).sessions (send (view_of setup w e)) (λ s is. clash s (emit_keyless rows pair now s (sent_keyless (view_of setup w e) s Idle (emit rows pair now s) (λ f. absurd (cc)) is))),
      live_keyless w e (side w e).sessions (send_again (view_of setup w e)) (λ s is. clash s (resend_keyless rows pair now s (sent_keyless (view_of setup w e) s Nothing (resend rows pair now s) (λ f. absurd (cc)) is))),
    )
