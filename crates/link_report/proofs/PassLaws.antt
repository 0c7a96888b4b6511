-- What it does to an end that stands for its sessions that a segment is made, or that bytes come.
use Rattle.std.proofs.Common.{◌≡◌, ℕ, Bool, true, false, ◌||◌, List, [], ◌∷◌, Option, Some, None, refl, sym, ap, ◌∙◌, subst}
use Rattle.book_base.specs.declared.address.Pair.{Pair}
use Rattle.book_base.specs.declared.end.End.{End}
use Rattle.book_segments.specs.Segments.{Reading, Bad as Unread, reading}
use Rattle.book_segments.specs.declared.fault.DatagramFault.{DatagramFault}
use Rattle.book_keys.specs.Rows.{Row}
use Rattle.book_endpoint.specs.declared.arrival.Arrival.TheVariants as answers
use Rattle.book_endpoint.specs.Arrivals as arrivals
use Rattle.book_endpoint.specs.Emissions.{Emitted, Quiet, NoKey, Emits}
use Rattle.book_endpoint.specs.States.{EndState}
use Rattle.book_link.specs.declared.event.Event.TheVariants.{At}
use Rattle.book_link.specs.declared.event.Transmission.{Transmission}
use Rattle.book_link.specs.declared.event.Transmission.TheVariants.{New, Again}
use Rattle.book_link.specs.Outcomes.{NoSession}
use Rattle.book_link.specs.Steps.{View, Act, Stepped, act_on, acted, came, come, made_of, on_live, put, sent, step, with_sessions, view_of}
use Rattle.book_link.specs.Worlds.{Setup, pair_of, Session, World, LinkSide as EndSide, other, side as side_of}
use Rattle.link_report.specs.declared.sessions.Ended.{Ended}
use Rattle.link_report.specs.declared.sessions.Live.{Live}
use Rattle.link_report.specs.declared.side.Side.{Side}
use Rattle.link_report.specs.Segments.{emission_of, HasCome, HasSent, IsCome, made_by, quiet, sending, TellsCome, TellsSent}
use Rattle.link_report.specs.Sides.{StandsSide}
use Rattle.link_report.proofs.ActLaws.{IsLive, live_is, none_is, put_at, put_history, put_other}
use Rattle.link_report.proofs.OfferLaws.{not_shown}
use Rattle.tcp_endpoint.specs.Arrivals.{Arrives}
use Rattle.tcp_endpoint.specs.declared.arrival.Arrived.{Arrived}
use Rattle.tcp_endpoint.specs.declared.emission.Emission.{Emission}
use Rattle.tcp_endpoint.specs.declared.emission.Emission.TheVariants as emissions
use Rattle.tcp_endpoint.specs.declared.emission.Resent.{Resent}
use Rattle.tcp_endpoint.specs.declared.emission.Resent.TheVariants as resents
use Rattle.tcp_endpoint.specs.Emissions.{AnswersAs, AnswersAgainAs, Emits as EmitsAs, Resends as ResendsAs, state_after}
use Rattle.tcp_endpoint.specs.declared.endpoint.Endpoint.{Endpoint}
use Rattle.tcp_endpoint.specs.Ends.{Stands}

-- a side whose live session is in another state
pub stands_after : (d d' : Side) (m : EndSide) (l l' : Live) (k : IsLive l d.dropped.items m.sessions) (act : Act)
    → StandsSide d m → d'.live ≡ Some l' → d'.clock ≡ d.clock
    → d'.table.rows ≡ d.table.rows → d'.dropped.items ≡ d.dropped.items → l'.end_shown ≡ l.end_shown → Stands l'.endpoint act.state → act.shown ≡ false
    → StandsSide d' (with_sessions m (acted k.session act ∷ k.older))
stands_after d d' m l l' k act h now clock rows dropped same stands hidden =
    record {
      clock = h.clock ∙ sym clock;
      rows = h.rows ∙ sym rows;
      sessions = rw (now, dropped, hidden) (stands, same ∙ k.shown ∙ not_shown k.session.end_shown, k.facts);
    }

-- what is told where the session's call makes this
tells_sent : (setup : Setup) (w : World) (which : Transmission) (e : End) (d : Side) (m : EndSide) (s : EndState) (before out : List ℕ) (a : Emission) (b : Emitted)
    → (side_of w e).clock ≡ d.clock → (side_of w e).rows ≡ d.table.rows → made_by which d.table.rows d.pair d.clock s ≡ b → AnswersAs before out a b
    → TellsSent w (record { world = put w e m (sent (view_of setup w e) s (quiet which) b).happened; outcome = (sent (view_of setup w e) s (quiet which) b).outcome })
    which e d before out (Some a)
tells_sent setup w which e d m s before out emissions.Idle Quiet clock rows is h = record { outcome_is = refl; history = put_history w e m None; buffer = h }
tells_sent setup w which e d m s before out emissions.Idle NoKey clock rows is h = absurd h
tells_sent setup w which e d m s before out emissions.Idle (Emits x) clock rows is h = absurd h
tells_sent setup w which e d m s before out emissions.NoKey Quiet clock rows is h = absurd h
tells_sent setup w which e d m s before out emissions.NoKey NoKey clock rows is h = record { outcome_is = refl; history = put_history w e m None; buffer = h }
tells_sent setup w which e d m s before out emissions.NoKey (Emits x) clock rows is h = absurd h
tells_sent setup w which e d m s before out (emissions.Segment n) Quiet clock rows is h = absurd h
tells_sent setup w which e d m s before out (emissions.Segment n) NoKey clock rows is h = absurd h
tells_sent setup w which e d m s before out (emissions.Segment n) (Emits x) clock rows is h = (
  made_of (view_of setup w e) s x,
  refl,
  put_history w e m _,
  record {
    name = refl;
    maker = refl;
    clock = clock;
    rows = rows;
    bytes = refl;
    told = h;
    state = s;
    isn = refl;
    is = is;
  },
)

state_sent : (v : View) (which : Transmission) (s : EndState) (b : Emitted) → (sent v s (quiet which) b).state ≡ state_after s b
state_sent v which s Quiet = refl
state_sent v which s NoKey = refl
state_sent v which s (Emits x) = refl

hidden_sent : (v : View) (which : Transmission) (s : EndState) (b : Emitted) → (sent v s (quiet which) b).shown ≡ false
hidden_sent v which s Quiet = refl
hidden_sent v which s NoKey = refl
hidden_sent v which s (Emits x) = refl

-- the step of a send is a call on the live session
step_sends : (setup : Setup) (w : World) (which : Transmission) (e : End) (t : Session) (older : List Session) → (side_of w e).sessions ≡ t ∷ older
    → step setup w (At e (sending which))
    ≡ act_on w e (t ∷ older) (λ s. sent (view_of setup w e) s (quiet which) (made_by which (side_of w e).rows (pair_of setup e) (side_of w e).clock s))
step_sends setup w New e t older is = rw is refl
step_sends setup w Again e t older is = rw is refl

made_at : (rows rows' : List Row) (p p' : Pair) (n n' : ℕ) (which : Transmission) (s : EndState) → rows ≡ rows' → p ≡ p' → n ≡ n'
    → made_by which rows p n s ≡ made_by which rows' p' n' s
made_at rows rows' p p' n n' which s x y z = rw (x, y, z) refl

emits_at : (rows rows' : List Row) (p p' : Pair) (n n' : ℕ) (which : Transmission) (s : EndState) (l : Live) (before out : List ℕ) (a : Emission)
    → rows ≡ rows' → p ≡ p' → n ≡ n' → EmitsAs s l.endpoint before out a (made_by which rows p n s)
    → EmitsAs s l.endpoint before out a (made_by which rows' p' n' s)
emits_at rows rows' p p' n n' which s l before out a x y z h = rw (sym x, sym y, sym z) h

-- a live session sends
pub has_sent : (setup : Setup) (w : World) (which : Transmission) (e : End) (d d' : Side) (l l' : Live) (before out : List ℕ) (a : Emission) (p : Pair) → p ≡ d.pair
    → pair_of setup e ≡ d.pair → StandsSide d (side_of w e) → d.live ≡ Some l → d'.live ≡ Some l' → d'.pair ≡ d.pair → d'.clock ≡ d.clock
    → d'.table ≡ d.table → d'.dropped.items ≡ d.dropped.items → l'.end_shown ≡ l.end_shown
    → ((s : EndState) → Stands l.endpoint s → EmitsAs s l'.endpoint before out a (made_by which d.table.rows p d.clock s))
    → HasSent w (step setup w (At e (sending which))) which e d' before out (Some a)
has_sent setup w which e d d' l l' before out a p bound pair h was now pairs clock table dropped same emits =
    let k = live_is d (side_of w e) l was h in
    let s = k.session.state in
    let b = made_by which (side_of w e).rows (pair_of setup e) (side_of w e).clock s in
    let rows = ap (λ t. t.rows) table in
    let g : EmitsAs s l'.endpoint before out a b = emits_at _ _ _ _ _ _ which s l' before out a (sym h.rows) (bound ∙ sym pair) (sym h.clock) (emits s k.stands) in
    let is : made_by which d'.table.rows d'.pair d'.clock s ≡ b =
    made_at _ _ _ _ _ _ which s (rows ∙ sym h.rows) (pairs ∙ sym pair) (clock ∙ sym h.clock) in
    let act = sent (view_of setup w e) s (quiet which) b in
    let m = with_sessions (side_of w e) (acted k.session act ∷ k.older) in
    rw (step_sends setup w which e k.session k.older k.are) (record {
      stands = rw (put_at w e m act.happened) (stands_after d d' (side_of w e) l l' k act h now clock rows dropped same
          (subst (λ x. Stands l'.endpoint x) (sym (state_sent (view_of setup w e) which s b)) g.stands) (hidden_sent (view_of setup w e) which s b));
      others = put_other w e m act.happened;
      tells = tells_sent setup w which e d' m s before out a b (h.clock ∙ sym clock) (h.rows ∙ sym rows) is g.answer_is;
    })

arrives_at : (rows seen rows' : List Row) (p from p' : Pair) (n n' : ℕ) (s : EndState) (r : Reading) (l : Live) (a : Arrived) → rows ≡ seen → p ≡ from
    → rows ≡ rows' → p ≡ p' → n ≡ n' → Arrives rows p r l.endpoint a (arrivals.arrive rows p n s r)
    → Arrives seen from r l.endpoint a (arrivals.arrive rows' p' n' s r)
arrives_at rows seen rows' p from p' n n' s r l a u v x y z h = rw (sym u, sym v, sym x, sym y, sym z) h

-- bytes were read, and come as what was read
pub arrives_read : (rows : List Row) (p : Pair) (n : ℕ) (s : EndState) (bytes : List ℕ) (r : Reading) (e : Endpoint) (a : Arrived) → reading bytes ≡ r
    → Arrives rows p r e a (arrivals.arrive rows p n s r) → Arrives rows p (reading bytes) e a (arrivals.arrive rows p n s (reading bytes))
arrives_read rows p n s bytes r e a is h = subst (λ (x : Reading). Arrives rows p x e a (arrivals.arrive rows p n s x)) (sym is) h

-- bytes that are no datagram change nothing
pub arrives_bad : (rows : List Row) (p : Pair) (n : ℕ) (s : EndState) (fault : DatagramFault) (e : Endpoint) → Stands e s
    → Arrives rows p (Unread fault) e (record { arrival = answers.Bad fault; passed = None }) (arrivals.arrive rows p n s (Unread fault))
unfolding arrivals.arrive
arrives_bad rows p n s fault e h = record { stands = h; answer = refl; passed = tt }

-- bytes come to a live session
pub has_come : (setup : Setup) (w : World) (e : End) (bytes : List ℕ) (d d' : Side) (l l' : Live) (a : Arrived) (p : Pair) → p ≡ d.pair
    → pair_of setup e ≡ d.pair → StandsSide d (side_of w e) → d.live ≡ Some l → d'.live ≡ Some l' → d'.pair ≡ d.pair → d'.clock ≡ d.clock
    → d'.table ≡ d.table → d'.dropped.items ≡ d.dropped.items → l'.end_shown ≡ l.end_shown
    → ((s : EndState) → Stands l.endpoint s
    → Arrives d.table.rows p (reading bytes) l'.endpoint a (arrivals.arrive d.table.rows p d.clock s (reading bytes)))
    → HasCome w (on_live w e (come bytes (view_of setup w e))) e d' bytes (Some a)
has_come setup w e bytes d d' l l' a p bound pair h was now pairs clock table dropped same arrives =
    let k = live_is d (side_of w e) l was h in
    let s = k.session.state in
    let r = arrivals.arrive (side_of w e).rows (pair_of setup e) (side_of w e).clock s (reading bytes) in
    let rows = ap (λ t. t.rows) table in
    let g : Arrives d'.table.rows d'.pair (reading bytes) l'.endpoint a r =
    arrives_at _ _ _ _ _ _ _ _ s (reading bytes) l' a (sym rows) (bound ∙ sym pairs) (sym h.rows) (bound ∙ sym pair) (sym h.clock) (arrives s k.stands) in
    let act = came bytes (view_of setup w e) s r in
    let m = with_sessions (side_of w e) (acted k.session act ∷ k.older) in
    rw k.are (record {
      stands = rw (put_at w e m act.happened) (stands_after d d' (side_of w e) l l' k act h now clock rows dropped same g.stands refl);
      others = put_other w e m act.happened;
      tells = (
        _,
        refl,
        put_history w e m act.happened,
        record {
          at = refl;
          clock = h.clock ∙ sym clock;
          bytes_are = refl;
          answer = g.answer;
          passed = g.passed;
        },
      );
    })
