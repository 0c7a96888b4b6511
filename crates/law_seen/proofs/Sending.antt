-- An end sends under its current row's key.
use Rattle.std.proofs.Common.{◌≡◌, ℕ, List, [], ◌∷◌, Option, Some, None, refl, sym, ap, subst}
use Rattle.std.specs.Prelude.{⊤}
use Rattle.book_base.specs.declared.address.Pair.{Pair}
use Rattle.book_base.specs.declared.end.End.{End}
use Rattle.book_base.specs.declared.end.End.TheVariants.{A, B}
use Rattle.book_segments.proofs.Fields.{some_is}
use Rattle.book_endpoint.specs.Emissions.{Draft, Emitted, Quiet, NoKey, Emits, blank, emit, most_bytes, resend, seal_known}
use Rattle.book_endpoint.specs.States.{EndState}
use Rattle.book_keys.specs.Choices.{Numbered, next_row}
use Rattle.book_keys.specs.Coordination.{Sending, choose as choose_row, sending_by}
use Rattle.book_macs.specs.Contexts.{context_of}
use Rattle.book_link.specs.Outcomes.{Outcome, Idle, Nothing}
use Rattle.book_link.specs.Steps.{Act, View, act_on, acted, put, send, send_again, sent, view_of, with_sessions}
use Rattle.book_link.specs.Worlds.{Happening, LinkSide, Session, Setup, World, live, pair_of, side}
use Rattle.endpoint_steps.proofs.Drafting.{emit_by_drafts, resend_by_drafts}
use Rattle.endpoint_steps.specs.Drafting.{emitted, keyed, to_emit, to_resend}
use Rattle.law_seen.proofs.Choosing.{choice}
use Rattle.law_seen.specs.Turning.{HasCurrent, IsUnder, MaySendWith, SendsUnder}

-- what was made, if anything, is under this row, which is the current one then
abbrev MadeUnder : Sending → Emitted → Type 0
MadeUnder sending Quiet = ⊤
MadeUnder sending NoKey = ⊤
MadeUnder sending (Emits out) = (out.sending ≡ sending) × (out.state.current ≡ Some sending.number)

sealed_under : (pair : Pair) (s : EndState) (out : Draft) (sending : Sending) (o : Option (List ℕ)) → MadeUnder sending (seal_known pair s out sending o)
sealed_under pair s out sending None = tt
sealed_under pair s out sending (Some context) = (refl, refl)

keyed_under : (pair : Pair) (s : EndState) (sending : Sending) (o : Option Draft) → MadeUnder sending (keyed pair s sending o)
keyed_under pair s sending None = tt
keyed_under pair s sending (Some out) = sealed_under pair s out sending (context_of (blank pair s out sending) (Some s.isn) s.peer_isn)

emitted_under : (pair : Pair) (s : EndState) (draft : ℕ → Option Draft) (o : Option Sending) (sending : Sending) → o ≡ Some sending → MadeUnder sending (emitted pair s draft o)
emitted_under pair s draft None sending is = absurd (cc)
emitted_under pair s draft (Some x) sending is =
    let same = sending_is x sending is in subst (λ (y : Sending). MadeUnder y (keyed pair s x (draft (most_bytes pair s x)))) same (keyed_under pair s x (draft (most_bytes pair s x)))
  where
    sending_is : (a b : Sending) → Some a ≡ Some b → a ≡ b
    sending_is a b e = cc

-- ---- the call

-- a call leaves this row the current one, and what it sends is under it
record CallsUnder (q : Numbered) (act : Act) : Type 0 where
  under : IsUnder q act.outcome
  current : act.state.current ≡ Some q.number

sent_under : (v : View) (s : EndState) (without : Outcome) (q : Numbered) (preferred : Option Numbered) (o : Emitted) → s.current ≡ Some q.number → IsUnder q without → MadeUnder (sending_by preferred q) o → CallsUnder q (sent v s without o)
sent_under v s without q preferred Quiet now quiet h = record { under = quiet; current = now }
sent_under v s without q preferred NoKey now quiet h = record { under = tt; current = now }
sent_under v s without q preferred (Emits out) now quiet h = record { under = (ap (λ x. x.number) h.0, ap (λ x. x.row) h.0); current = h.1 }

pub side_put : (w : World) (e : End) (now : LinkSide) (h : Option Happening) → side (put w e now h) e ≡ now
side_put w A now h = refl
side_put w B now h = refl

-- what a call does on the live session
record ActsUnder (w v : World) (e : End) (q : Numbered) (outcome : Outcome) : Type 0 where
  under : IsUnder q outcome
  current : HasCurrent v e q.number

acts_under : (w : World) (e : End) (sessions : List Session) (call : EndState → Act) (q : Numbered) (r : Session) → live sessions ≡ Some r → CallsUnder q (call r.state)
    → ActsUnder w (act_on w e sessions call).world e q (act_on w e sessions call).outcome
acts_under w e [] call q r lives h = absurd (cc)
acts_under w e (s ∷ rest) call q r lives h =
    let here : CallsUnder q (call s.state) = subst (λ (x : Session). CallsUnder q (call x.state)) (sym (some_is s r lives)) h in
    let act = call s.state in
    let now = with_sessions (side w e) (acted s act ∷ rest) in
    record { under = here.under; current = record { session = acted s act; lives = ap (λ (x : LinkSide). live x.sessions) (side_put w e now act.happened); current = here.current } }

pub sends_under : (setup : Setup) (w : World) (e : End) (q : Numbered) → HasCurrent w e q.number → MaySendWith setup w e q → SendsUnder setup w e q
sends_under setup w e q h may =
    let rows = (side w e).rows in
    let pair = pair_of setup e in
    let now = (side w e).clock in
    let s = h.session.state in
    let v = view_of setup w e in
    let next = next_row rows pair now in
    let chosen : choose_row s.current rows pair now ≡ Some (sending_by next q) = choice rows pair now s.current q h.current may in
    let one : MadeUnder (sending_by next q) (emit rows pair now s) =
    subst (MadeUnder (sending_by next q)) (sym (emit_by_drafts rows pair now s)) (emitted_under pair s (to_emit s) (choose_row s.current rows pair now) (sending_by next q) chosen) in
    let two : MadeUnder (sending_by next q) (resend rows pair now s) =
    subst (MadeUnder (sending_by next q)) (sym (resend_by_drafts rows pair now s)) (emitted_under pair s (to_resend s) (choose_row s.current rows pair now) (sending_by next q) chosen) in
    let a = acts_under w e (side w e).sessions (send v) q h.session h.lives (sent_under v s Idle q next (emit rows pair now s) h.current tt one) in
    let b = acts_under w e (side w e).sessions (send_again v) q h.session h.lives (sent_under v s Nothing q next (resend rows pair now s) h.current tt two) in
    record { sends = a.under; goes_on = a.current; resends = b.under; goes_on_again = b.current }
