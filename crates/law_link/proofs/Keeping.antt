-- Each step keeps the facts.
use Rattle.std.proofs.Common.{◌≡◌, ℕ, ◌+◌, ◌≤◌, ◌==◌, Bool, true, false, ◌||◌, List, [], ◌∷◌, Option, Some, None, ◌⊎◌, inl, refl, sym, ap, ◌∙◌, subst}
use Rattle.std.specs.Prelude.{⊤}
use Rattle.std.specs.List.{AllByRecursion}
use Rattle.book_base.specs.declared.end.End.{End}
use Rattle.book_base.specs.declared.end.End.TheVariants.{A, B}
use Rattle.book_segments.specs.Segments.{Segment}
use Rattle.book_keys.specs.Lifetimes.{greatest_time}
use Rattle.book_keys.specs.Overlaps.{IsValid}
use Rattle.book_endpoint.specs.States.{EndState, at_end}
use Rattle.book_endpoint.specs.Verdicts.{Finding}
use Rattle.law_link.proofs.Ended.{at_end-later}
use Rattle.law_link.proofs.Sound.{Sound, Later}
use Rattle.law_link.proofs.Whole.{Whole}
use Rattle.law_link.proofs.Gains.{Brings, BringsFin, BringsAck}
use Rattle.book_link.specs.Worlds.{Setup, pair_of, Session, LinkSide, Made, Happening, Making, Coming, World, side, find}
use Rattle.book_link.specs.Steps.{Act, add, put, with_sessions, acted, act_on}
use Rattle.law_link.specs.Laws.{RowFits, TablesFit}
use Rattle.law_link.proofs.Invariant.{MadeBy, made-later, MadeOk, AllMadeOk, AllSound, AllWhole, AllShown, Distinct, Inv, Grows}
use Rattle.law_link.proofs.Arriving.{Passing}
use Rattle.law_link.proofs.Sessions.{both, grows_refl, grows_head, find_own}

pub made_ok-grows : (setup : Setup) (old new : List Session) (m : Made) → Grows old new → MadeOk setup old m → MadeOk setup new m
made_ok-grows setup old new m g h =
    let r = g m.isn h.session h.found in record { session = r.0; found = r.1; by = made-later setup h.session.state r.0.state m r.2 h.by }

pub all_made-grows : (setup : Setup) (w v : World) (history : List Happening) → ((e : End) → Grows (side w e).sessions (side v e).sessions)
    → AllMadeOk setup w history → AllMadeOk setup v history
all_made-grows setup w v [] g h = h
all_made-grows setup w v (Making m ∷ past) g h =
    (made_ok-grows setup (side w m.maker).sessions (side v m.maker).sessions m (g m.maker) h.0, all_made-grows setup w v past g h.1)
all_made-grows setup w v (Coming r ∷ past) g h = all_made-grows setup w v past g h

-- a segment that was just made is one of these sessions'
abbrev NewMade : Setup → End → List Session → Option Happening → Type 0
NewMade setup e sessions None = ⊤
NewMade setup e sessions (Some (Making m)) = (m.maker ≡ e) × MadeOk setup sessions m
NewMade setup e sessions (Some (Coming r)) = ⊤

made_add : (setup : Setup) (v : World) (e : End) (happened : Option Happening) (history : List Happening)
    → NewMade setup e (side v e).sessions happened → AllMadeOk setup v history → AllMadeOk setup v (add happened history)
made_add setup v e None history new h = h
made_add setup v e (Some (Making m)) history new h = (subst (λ (f : End). MadeOk setup (side v f).sessions m) (sym new.0) new.1, h)
made_add setup v e (Some (Coming r)) history new h = h

-- an end of which this holds
pub record SideOk (setup : Setup) (now : LinkSide) : Type 0 where
  pub sound : AllSound now.sessions
  pub whole : AllWhole now.sessions
  pub shown : AllShown now.sessions
  pub distinct : Distinct now.sessions
  pub rows : AllByRecursion RowFits now.rows
  pub valid : TablesFit setup → IsValid now.rows
  pub clock : now.clock ≤ greatest_time

pub side_ok : (setup : Setup) (w : World) (e : End) → Inv setup w → SideOk setup (side w e)
side_ok setup w e inv = record { sound = inv.sound e; whole = inv.whole e; shown = inv.shown e; distinct = inv.distinct e; rows = inv.rows e; valid = λ t. inv.valid t e; clock = inv.clock e }

inv_of : (setup : Setup) (v : World) → AllMadeOk setup v v.history → ((e : End) → SideOk setup (side v e)) → Inv setup v
inv_of setup v made ok = record { made = made; sound = λ e. (ok e).sound; whole = λ e. (ok e).whole; shown = λ e. (ok e).shown; distinct = λ e. (ok e).distinct; rows = λ e. (ok e).rows; valid = λ t e. (ok e).valid t; clock = λ e. (ok e).clock }

pub put_keeps : (setup : Setup) (w : World) (e : End) (now : LinkSide) (happened : Option Happening) → Inv setup w → Grows (side w e).sessions now.sessions
    → NewMade setup e now.sessions happened → SideOk setup now → Inv setup (put w e now happened)
put_keeps setup w A now happened inv g new ok =
    let v = put w A now happened in
    let grows : (f : End) → Grows (side w f).sessions (side v f).sessions = both (λ f. Grows (side w f).sessions (side v f).sessions) g (grows_refl w.b.sessions) in
    inv_of setup v (made_add setup v A happened w.history new (all_made-grows setup w v w.history grows inv.made)) (both (λ f. SideOk setup (side v f)) ok (side_ok setup w B inv))
put_keeps setup w B now happened inv g new ok =
    let v = put w B now happened in
    let grows : (f : End) → Grows (side w f).sessions (side v f).sessions = both (λ f. Grows (side w f).sessions (side v f).sessions) (grows_refl w.a.sessions) g in
    inv_of setup v (made_add setup v B happened w.history new (all_made-grows setup w v w.history grows inv.made)) (both (λ f. SideOk setup (side v f)) (side_ok setup w A inv) ok)

-- what a call of a session made
abbrev pub NewBy : Setup → End → EndState → Option Happening → Type 0
NewBy setup e s None = ⊤
NewBy setup e s (Some (Making m)) = (m.maker ≡ e) × MadeBy setup s m
NewBy setup e s (Some (Coming r)) = ⊤

-- an arrival that passed, with this segment and number
abbrev pub HasPassed : Setup → End → EndState → Option Happening → Segment → ℕ → Type 0
HasPassed setup e s None d n = ⊥
HasPassed setup e s (Some (Making m)) d n = ⊥
HasPassed setup e s (Some (Coming r)) d n = (r.at ≡ e) × (p : Finding) × (r.passed ≡ Some p) × (g : Passing (pair_of setup e) s r.bytes p) × (g.segment ≡ d) × (p.number ≡ n)

-- what a call may bring to the receiving half
pub record Gained (setup : Setup) (e : End) (s t : EndState) (happened : Option Happening) : Type 0 where
  pub bytes : (p b : ℕ) → t.received p ≡ Some b → (s.received p ≡ Some b) ⊎ ((d : Segment) × (n : ℕ) × HasPassed setup e s happened d n × Brings d n p b)
  pub fins : (f : ℕ) → t.fin ≡ Some f → (s.fin ≡ Some f) ⊎ ((d : Segment) × (n : ℕ) × HasPassed setup e s happened d n × BringsFin d n f)
  pub acks : (t.una ≡ s.una) ⊎ ((t.una ≤ t.isn + 1) ⊎ ((d : Segment) × (n : ℕ) × HasPassed setup e s happened d n × BringsAck d t.una))

-- all that a call may do to a session
pub record ActOk (setup : Setup) (e : End) (s : EndState) (act : Act) : Type 0 where
  pub later : Later s act.state
  pub sound : Sound act.state
  pub whole : Whole act.state
  pub shown : act.shown ≡ true → at_end act.state ≡ true
  pub made : NewBy setup e act.state act.happened
  pub gained : Gained setup e s act.state act.happened

pub same_gained : (setup : Setup) (e : End) (s t : EndState) (happened : Option Happening) → t.received ≡ s.received → t.fin ≡ s.fin → t.una ≡ s.una → Gained setup e s t happened
same_gained setup e s t happened a b c =
    record { bytes = λ p v r. inl (sym (ap (λ (m : ℕ → Option ℕ). m p) a) ∙ r); fins = λ f r. inl (sym b ∙ r); acks = inl c }

new_made : (setup : Setup) (e : End) (u : Session) (rest : List Session) (happened : Option Happening) → NewBy setup e u.state happened → NewMade setup e (u ∷ rest) happened
new_made setup e u rest None h = h
new_made setup e u rest (Some (Coming r)) h = h
new_made setup e u rest (Some (Making m)) h =
    let isn : u.state.isn ≡ m.isn = h.1.later.same_isn ∙ h.1.isn in
    (h.0, record { session = u; found = subst (λ (n : ℕ). find (u ∷ rest) n ≡ Some u) isn (find_own u rest (u.state.isn == u.state.isn) refl); by = h.1 })

-- a session whose end was shown before, or is shown now, is at the end of its stream
shown_now : (s t : EndState) (before now : Bool) → Whole s → Later s t → (before ≡ true → at_end s ≡ true) → (now ≡ true → at_end t ≡ true) → (before || now) ≡ true → at_end t ≡ true
shown_now s t true now whole l old new e = at_end-later s t whole l (old refl)
shown_now s t false now whole l old new e = new e

pub act_keeps : (setup : Setup) (w : World) (e : End) (sessions : List Session) (call : EndState → Act) → (side w e).sessions ≡ sessions → Inv setup w
    → ((s : EndState) → Sound s → Whole s → ActOk setup e s (call s)) → Inv setup (act_on w e sessions call).world
act_keeps setup w e [] call is inv ok = inv
act_keeps setup w e (s ∷ rest) call is inv ok =
    let sound : AllSound (s ∷ rest) = subst AllSound is (inv.sound e) in
    let act = call s.state in
    let whole : AllWhole (s ∷ rest) = subst AllWhole is (inv.whole e) in
    let apart : Distinct (s ∷ rest) = subst Distinct is (inv.distinct e) in
    let shown : AllShown (s ∷ rest) = subst AllShown is (inv.shown e) in
    let done : ActOk setup e s.state act = ok s.state sound.0 whole.0 in
    let u = acted s act in
    put_keeps setup w e (with_sessions (side w e) (u ∷ rest)) act.happened inv
    (subst (λ (l : List Session). Grows l (u ∷ rest)) (sym is) (grows_head s u rest done.later))
    (new_made setup e u rest act.happened done.made)
    (record { sound = (done.sound, sound.1); whole = (done.whole, whole.1); shown = (shown_now s.state act.state s.end_shown act.shown whole.0 done.later shown.0 done.shown, shown.1); distinct = (subst (λ (n : ℕ). find rest n ≡ None) (sym done.later.same_isn) apart.0, apart.1); rows = inv.rows e; valid = λ t. inv.valid t e; clock = inv.clock e })
