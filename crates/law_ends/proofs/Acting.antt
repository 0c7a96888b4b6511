-- What an act at the link's pair does to a link and to the node that it mirrors.
use Rattle.std.proofs.Common.{◌≡◌, ℕ, Bool, true, false, not, nat_lt, nat_le, ◌||◌, List, [], ◌∷◌, ◌++◌, length, Option, Some, None, if◌then◌else◌, refl, sym, ap, ◌∙◌, subst}
use Rattle.book_base.specs.declared.address.Pair.{Pair}
use Rattle.book_base.specs.declared.end.End.{End}
use Rattle.book_keys.specs.Rows.{Row}
use Rattle.book_endpoint.specs.declared.phase.Phase.{Phase}
use Rattle.book_endpoint.specs.declared.phase.Phase.TheVariants.{Listen, SynSent, Closed}
use Rattle.book_endpoint.specs.States.{EndState, connected, listening, started, give, gives, room, taking, take_out, at_end, close_in, close, abort}
use Rattle.book_endpoint.specs.Emissions.{Emitted, Quiet, NoKey, Emits, emit, resend}
use Rattle.book_link.specs.Outcomes.{Outcome, Done, Idle, Nothing}
use Rattle.book_link.specs.Worlds.{Setup, pair_of, Session, World, side, live}
use Rattle.book_link.specs.Steps.{Act, View, acted, quietly, given, took, sent, send, send_again, view_of}
use Rattle.book_link.specs.Runs.{run_from}
use Rattle.book_cmd_node.specs.declared.node.Act.{Act as NodeAct}
use Rattle.book_cmd_node.specs.declared.node.Act.TheVariants as act
use Rattle.book_cmd_node.specs.NodeRuns.{NodeState, NodeStep, NodeOutcome, Performed, NodeFull, InUse, NoRoom, ConnectionClosing, NothingToSend, NothingToResend, called, made_called, take_called, after_call, stays, held_end, most_ends, on_held, on_other, on_pair}
use Rattle.law_node.proofs.Held.{held, once_without}
use Rattle.law_ends.specs.Users.{UserSession, new_session, after_act, AreFresh, IsTold}
use Rattle.law_ends.specs.Links.{IsLive, act_events, is_refusal}
use Rattle.law_ends.proofs.Stays.{part_of, Emitting, emit_emitting, resend_emitting}
use Rattle.law_ends.proofs.Standing.{Stands, Goes, goes_still, held_goes, quiet_goes, refused_goes, begins_goes}

or_nothing : (a b : Bool) → a ≡ b → (a || false) ≡ b
or_nothing true b e = e
or_nothing false b e = e

-- ---- what each call does to a session and to what its user knows

given_done : (piece : List ℕ) (s : EndState) → not (gives s) ≡ false → nat_lt (room s) (length piece) ≡ false → given piece s ≡ quietly (give piece s) Done
given_done piece s a b = rw (a, b) refl

gave_told : (s : Session) (x : UserSession) (piece : List ℕ) → IsTold s x → IsTold (acted s (quietly (give piece s.state) Done)) (record x { gave = x.gave ++ piece })
gave_told s x piece h = record {
  isn = h.isn;
  gave = ap (λ (l : List ℕ). l ++ piece) h.gave;
  took = h.took;
  ended = or_nothing s.end_shown x.ended h.ended;
  closed = h.closed;
  aborted = h.aborted;
}

took_told : (s : Session) (x : UserSession) (count : ℕ) → IsTold s x → IsTold (acted s (took count s.state)) (record x { took = x.took ++ taking count s.state; ended = x.ended || at_end (take_out count s.state) })
took_told s x count h = record {
  isn = h.isn;
  gave = h.gave;
  took = ap (λ (l : List ℕ). l ++ taking count s.state) h.took;
  ended = ap (λ (b : Bool). b || at_end (take_out count s.state)) h.ended;
  closed = h.closed;
  aborted = h.aborted;
}

closed_told : (s : Session) (x : UserSession) (phase : Phase) → IsTold s x → IsTold (acted s (quietly (close_in phase s.state) Done)) (record x { closed = true })
closed_told s x Listen h = record { isn = h.isn; gave = h.gave; took = h.took; ended = or_nothing s.end_shown x.ended h.ended; closed = λ e. refl; aborted = h.aborted }
closed_told s x SynSent h = record { isn = h.isn; gave = h.gave; took = h.took; ended = or_nothing s.end_shown x.ended h.ended; closed = λ e. refl; aborted = h.aborted }
closed_told s x Closed h = record { isn = h.isn; gave = h.gave; took = h.took; ended = or_nothing s.end_shown x.ended h.ended; closed = λ e. refl; aborted = h.aborted }
closed_told s x _ h = record { isn = h.isn; gave = h.gave; took = h.took; ended = or_nothing s.end_shown x.ended h.ended; closed = λ e. refl; aborted = h.aborted }

aborted_told : (s : Session) (x : UserSession) → IsTold s x → IsTold (acted s (quietly (abort s.state) Done)) (record x { aborted = true })
aborted_told s x h = record { isn = h.isn; gave = h.gave; took = h.took; ended = or_nothing s.end_shown x.ended h.ended; closed = h.closed; aborted = refl }

new_told : (s : EndState) (isn : ℕ) → s.isn ≡ isn → s.given ≡ [] → s.taken ≡ [] → s.closing ≡ false → s.aborted ≡ false → IsTold (record { state = s; end_shown = false }) (new_session isn)
new_told s isn a b c d e = record { isn = a; gave = b; took = c; ended = refl; closed = λ f. absurd (cc); aborted = e }

sent_same : (v : View) (s : EndState) (silence : Outcome) (nothing : NodeOutcome) (r : Emitted) → (sent v s silence r).state ≡ (made_called s nothing r).state
sent_same v s silence nothing Quiet = refl
sent_same v s silence nothing NoKey = refl
sent_same v s silence nothing (Emits out) = refl

sent_keeps : (v : View) (s : EndState) (silence : Outcome) (r : Emitted) → Emitting s r → (part_of (sent v s silence r).state ≡ part_of s) × ((sent v s silence r).shown ≡ false)
sent_keeps v s silence Quiet h = (refl, refl)
sent_keeps v s silence NoKey h = (refl, refl)
sent_keeps v s silence (Emits out) h = (h, refl)

-- a call that makes a segment or none isn't refused
made_done : (u : EndState) (nothing : NodeOutcome) (r : Emitted) → is_refusal nothing ≡ false → is_refusal (made_called u nothing r).outcome ≡ false
made_done u nothing Quiet e = e
made_done u nothing NoKey e = refl
made_done u nothing (Emits out) e = refl

module _ (setup : Setup) (w : World) (e : End) (rows : List Row) (n : NodeState) (us : List UserSession) (h : Stands (pair_of setup e) (side w e) rows n us) where
  abbrev pair : Pair
  pair = pair_of setup e

  -- the link after an act with its answer, where the node made this step
  abbrev pub GoesBy : NodeAct → NodeStep → Type 0
  GoesBy a step = Goes (pair_of setup e) w e (run_from setup w (if not (is_refusal step.outcome) then act_events e a else [])) rows step.node (after_act a step.outcome us)

  -- ---- at an end that is held

  give_by : (u : EndState) (piece : List ℕ) → held_end pair n.ends ≡ Some u → (a b : Bool) → not (gives u) ≡ a → nat_lt (room u) (length piece) ≡ b
      → GoesBy (act.Give piece) (after_call n pair (if a then called u ConnectionClosing else (if b then called u NoRoom else called (give piece u) Performed)))
  give_by u piece is true b f g = refused_goes pair w e rows n us u ConnectionClosing is h
  give_by u piece is false true f g = refused_goes pair w e rows n us u NoRoom is h
  give_by u piece is false false f g =
      held_goes pair w e rows n us u (given piece) (called (give piece u) Performed) (λ x. record x { gave = x.gave ++ piece }) (side w e).sessions refl is h (ap (λ (x : Act). x.state) (given_done piece u f g)) (λ s x st t.
      subst (λ (y : Act). IsTold (acted s y) (record x { gave = x.gave ++ piece })) (sym (given_done piece s.state (ap (λ (k : EndState). not (gives k)) st ∙ f) (ap (λ (k : EndState). nat_lt (room k) (length piece)) st ∙ g))) (gave_told s x piece t))

  take_by : (u : EndState) (count : ℕ) → held_end pair n.ends ≡ Some u → GoesBy (act.Take count) (after_call n pair (take_called count u))
  take_by u count is =
      let change : UserSession → UserSession = λ x. record x { took = x.took ++ taking count u; ended = x.ended || at_end (take_out count u) } in
      held_goes pair w e rows n us u (took count) (take_called count u) change (side w e).sessions refl is h refl (λ s x st t.
      subst (λ (k : EndState). IsTold (acted s (took count s.state)) (record x { took = x.took ++ taking count k; ended = x.ended || at_end (take_out count k) })) st (took_told s x count t))

  -- the same with the rows and the clock of the link
  view_emits : (make : List Row → Pair → ℕ → EndState → Emitted) (u : EndState) → make (side w e).rows (pair_of setup e) (side w e).clock u ≡ make rows (pair_of setup e) n.clock u
  view_emits make u = ap (λ (r : List Row). make r (pair_of setup e) (side w e).clock u) h.rows_are ∙ ap (λ (c : ℕ). make rows (pair_of setup e) c u) h.clock_is

  send_by : (u : EndState) → held_end pair n.ends ≡ Some u → GoesBy act.Send (after_call n pair (made_called u NothingToSend (emit rows pair n.clock u)))
  send_by u is =
      let r = emit rows pair n.clock u in
      let v = view_of setup w e in
      subst (λ (b : Bool). Goes pair w e (run_from setup w (if not b then act_events e act.Send else [])) rows (after_call n pair (made_called u NothingToSend r)).node us) (sym (made_done u NothingToSend r refl))
      (quiet_goes pair w e rows n us u (send v) (made_called u NothingToSend r) is h
      (ap (λ (x : Emitted). (sent v u Idle x).state) (view_emits emit u) ∙ sent_same v u Idle NothingToSend r)
      (λ s. sent_keeps v s Idle (emit (side w e).rows pair (side w e).clock s) (emit_emitting (side w e).rows pair (side w e).clock s)))

  resend_by : (u : EndState) → held_end pair n.ends ≡ Some u → GoesBy act.Resend (after_call n pair (made_called u NothingToResend (resend rows pair n.clock u)))
  resend_by u is =
      let r = resend rows pair n.clock u in
      let v = view_of setup w e in
      subst (λ (b : Bool). Goes pair w e (run_from setup w (if not b then act_events e act.Resend else [])) rows (after_call n pair (made_called u NothingToResend r)).node us) (sym (made_done u NothingToResend r refl))
      (quiet_goes pair w e rows n us u (send_again v) (made_called u NothingToResend r) is h
      (ap (λ (x : Emitted). (sent v u Nothing x).state) (view_emits resend u) ∙ sent_same v u Nothing NothingToResend r)
      (λ s. sent_keeps v s Nothing (resend (side w e).rows pair (side w e).clock s) (resend_emitting (side w e).rows pair (side w e).clock s)))

  remove_by : (u : EndState) → held_end pair n.ends ≡ Some u → GoesBy act.Remove (on_held rows n pair u act.Remove)
  remove_by u is = goes_still pair w e rows (on_held rows n pair u act.Remove).node us (record {
    rows_are = h.rows_are;
    clock_is = h.clock_is;
    live_is = subst (λ (o : Option EndState). IsLive o (live (side w e).sessions)) (sym h.once) tt;
    once = once_without pair pair n.ends h.once;
    told = h.told;
  })

  held_by : (u : EndState) (a : NodeAct) → held_end pair n.ends ≡ Some u → GoesBy a (on_held rows n pair u a)
  held_by u (act.Open isn) is = refused_goes pair w e rows n us u InUse is h
  held_by u (act.Listen isn) is = refused_goes pair w e rows n us u InUse is h
  held_by u (act.Start isn peer) is = refused_goes pair w e rows n us u InUse is h
  held_by u (act.Give piece) is = give_by u piece is (not (gives u)) (nat_lt (room u) (length piece)) refl refl
  held_by u (act.Take count) is = take_by u count is
  held_by u act.Send is = send_by u is
  held_by u act.Resend is = resend_by u is
  held_by u act.Close is = held_goes pair w e rows n us u (λ s. quietly (close s) Done) (called (close u) Performed) (λ x. record x { closed = true }) (side w e).sessions refl is h refl (λ s x st t. closed_told s x s.state.phase t)
  held_by u act.Abort is = held_goes pair w e rows n us u (λ s. quietly (abort s) Done) (called (abort u) Performed) (λ x. record x { aborted = true }) (side w e).sessions refl is h refl (λ s x st t. aborted_told s x t)
  held_by u act.Remove is = remove_by u is

  -- ---- where no end is held

  abbrev placed : EndState → Bool → NodeStep
  placed s full = if full then stays n NodeFull else record { node = record n { ends = n.ends ++ held (pair_of setup e) s ∷ [] }; outcome = Performed }

  open_by : (isn : ℕ) → held_end pair n.ends ≡ None → (full : Bool) → AreFresh (after_act (act.Open isn) (placed (connected pair isn) full).outcome us) → GoesBy (act.Open isn) (placed (connected pair isn) full)
  open_by isn none true fresh = goes_still pair w e rows n us h
  open_by isn none false fresh = begins_goes pair w e rows n us (connected pair isn) isn refl none h (new_told (connected pair isn) isn refl refl refl refl refl) fresh

  listen_by : (isn : ℕ) → held_end pair n.ends ≡ None → (full : Bool) → AreFresh (after_act (act.Listen isn) (placed (listening pair isn) full).outcome us) → GoesBy (act.Listen isn) (placed (listening pair isn) full)
  listen_by isn none true fresh = goes_still pair w e rows n us h
  listen_by isn none false fresh = begins_goes pair w e rows n us (listening pair isn) isn refl none h (new_told (listening pair isn) isn refl refl refl refl refl) fresh

  start_by : (isn peer : ℕ) → held_end pair n.ends ≡ None → (full : Bool) → AreFresh (after_act (act.Start isn peer) (placed (started pair isn peer) full).outcome us) → GoesBy (act.Start isn peer) (placed (started pair isn peer) full)
  start_by isn peer none true fresh = goes_still pair w e rows n us h
  start_by isn peer none false fresh = begins_goes pair w e rows n us (started pair isn peer) isn refl none h (new_told (started pair isn peer) isn refl refl refl refl refl) fresh

  other_by : (a : NodeAct) → held_end pair n.ends ≡ None → AreFresh (after_act a (on_other most_ends n pair a).outcome us) → GoesBy a (on_other most_ends n pair a)
  other_by (act.Open isn) none fresh = open_by isn none (nat_le most_ends (length n.ends)) fresh
  other_by (act.Listen isn) none fresh = listen_by isn none (nat_le most_ends (length n.ends)) fresh
  other_by (act.Start isn peer) none fresh = start_by isn peer none (nat_le most_ends (length n.ends)) fresh
  other_by (act.Give piece) none fresh = goes_still pair w e rows n us h
  other_by (act.Take count) none fresh = goes_still pair w e rows n us h
  other_by act.Send none fresh = goes_still pair w e rows n us h
  other_by act.Resend none fresh = goes_still pair w e rows n us h
  other_by act.Close none fresh = goes_still pair w e rows n us h
  other_by act.Abort none fresh = goes_still pair w e rows n us h
  other_by act.Remove none fresh = goes_still pair w e rows n us h

  -- an act at the link's pair
  pub act_by : (a : NodeAct) (o : Option EndState) → held_end (pair_of setup e) n.ends ≡ o → AreFresh (after_act a (on_pair most_ends rows n (record { pair = pair_of setup e; act = a }) o).outcome us)
      → GoesBy a (on_pair most_ends rows n (record { pair = pair_of setup e; act = a }) o)
  act_by a None none fresh = other_by a none fresh
  act_by a (Some u) is fresh = held_by u a is
