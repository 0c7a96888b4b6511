-- What an event does to an end that stands for its sessions.
use Rattle.std.proofs.Common.{◌≡◌, ℕ, Bool, true, false, ◌||◌, List, [], ◌∷◌, map, reverse, Option, Some, None, refl, sym, ap, ◌∙◌, subst}
use Rattle.book_base.specs.declared.end.End.{End}
use Rattle.book_base.specs.declared.end.End.TheVariants.{A, B}
use Rattle.book_keys.specs.Rows.{Row}
use Rattle.book_endpoint.specs.States.{EndState}
use Rattle.book_link.specs.Outcomes.{Outcome, NoSession}
use Rattle.book_link.specs.Steps.{Act, act_on, on_live, add, put}
use Rattle.book_link.specs.Worlds.{Session, Happening, World, LinkSide as EndSide, other, side as side_of}
use Rattle.link_report.specs.declared.sessions.Ended.{Ended}
use Rattle.link_report.specs.declared.sessions.Live.{Live}
use Rattle.link_report.specs.declared.side.Side.{Side}
use Rattle.link_report.specs.Sides.{facts_of, kept_facts, Sessions, StandsSide}
use Rattle.link_report.specs.Steps.{Moved}
use Rattle.tcp_endpoint.specs.Ends.{Stands}

-- the live session of an end, and those before it
pub record IsLive (l : Live) (dropped : List Ended) (sessions : List Session) : Type 0 where
  pub session : Session
  pub older : List Session
  pub are : sessions ≡ session ∷ older
  pub stands : Stands l.endpoint session.state
  pub shown : l.end_shown ≡ session.end_shown
  pub facts : map facts_of older ≡ reverse (map kept_facts dropped)

live_sessions : (l : Live) (dropped : List Ended) (sessions : List Session) → Sessions (Some l) dropped sessions → IsLive l dropped sessions
live_sessions l dropped [] h = absurd h
live_sessions l dropped (s ∷ older) h = record { session = s; older = older; are = refl; stands = h.0; shown = h.1; facts = h.2 }

-- a side with a live end stands for an end with a live session
pub live_is : (d : Side) (m : EndSide) (l : Live) → d.live ≡ Some l → StandsSide d m → IsLive l d.dropped.items m.sessions
live_is d m l some h = live_sessions l d.dropped.items m.sessions (subst (λ o. Sessions o d.dropped.items m.sessions) some h.sessions)

none_sessions : (dropped : List Ended) (sessions : List Session) → Sessions None dropped sessions → sessions ≡ []
none_sessions dropped [] h = refl
none_sessions dropped (s ∷ older) h = absurd h

-- a side without a live end stands for an end without a session
pub none_is : (d : Side) (m : EndSide) → d.live ≡ None → StandsSide d m → m.sessions ≡ []
none_is d m none h = none_sessions d.dropped.items m.sessions (subst (λ o. Sessions o d.dropped.items m.sessions) none h.sessions)

pub put_at : (w : World) (at : End) (m : EndSide) (h : Option Happening) → side_of (put w at m h) at ≡ m
put_at w A m h = refl
put_at w B m h = refl

pub put_other : (w : World) (at : End) (m : EndSide) (h : Option Happening) → side_of (put w at m h) (other at) ≡ side_of w (other at)
put_other w A m h = refl
put_other w B m h = refl

pub put_history : (w : World) (at : End) (m : EndSide) (h : Option Happening) → (put w at m h).history ≡ add h w.history
put_history w A m h = refl
put_history w B m h = refl

-- an end put in place of the one that there was
pub moved_put : (w : World) (at : End) (m : EndSide) (told : Outcome) (d : Side) → StandsSide d m
    → Moved w (record { world = put w at m None; outcome = told }) at d told
moved_put w at m told d stands =
    record {
      stands = rw (put_at w at m None) stands;
      others = put_other w at m None;
      history = put_history w at m None;
      outcome = refl;
    }

-- what a call does to a live session, where nothing is made and nothing comes
pub record Acts (act : Act) (l l' : Live) (told : Outcome) : Type 0 where
  pub state : EndState
  pub shown : Bool
  pub is : act ≡ record { state = state; shown = shown; happened = None; outcome = told }
  pub stands : Stands l'.endpoint state
  pub marked : l'.end_shown ≡ (l.end_shown || shown)

-- a call on the live session moves the end
pub moved_live : (w : World) (at : End) (call : EndState → Act) (d d' : Side) (l l' : Live) (told : Outcome) → StandsSide d (side_of w at)
    → d.live ≡ Some l → d'.live ≡ Some l' → d'.clock ≡ d.clock → d'.table.rows ≡ d.table.rows → d'.dropped.items ≡ d.dropped.items
    → ((s : EndState) → Stands l.endpoint s → Acts (call s) l l' told) → Moved w (on_live w at call) at d' told
moved_live w at call d d' l l' told h was now clock rows dropped calls =
    let k = live_is d (side_of w at) l was h in
    let c = calls k.session.state k.stands in
    let old : (l.end_shown || c.shown) ≡ (k.session.end_shown || c.shown) = ap (λ b. b || c.shown) k.shown in
    rw (k.are, c.is) (moved_put w at _ told d' (record {
      clock = h.clock ∙ sym clock;
      rows = h.rows ∙ sym rows;
      sessions = rw (now, dropped) (c.stands, c.marked ∙ old, k.facts);
    }))
