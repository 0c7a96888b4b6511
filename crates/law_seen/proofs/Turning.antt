-- One segment of the other end turns an end to the row that it asks for.
use Rattle.std.proofs.Common.{◌≡◌, ℕ, ◌==◌, true, List, [], ◌∷◌, Option, Some, if◌then◌else◌, refl, sym, ap, ◌∙◌, subst, arith}
use Rattle.std.proofs.lemmas.Bool.Decides.{nat_tests}
use Rattle.std.specs.List.{AllByRecursion}
use Rattle.std.specs.Option.{option_or}
use Rattle.book_base.specs.declared.address.Pair.{Pair}
use Rattle.book_base.specs.declared.end.End.{End}
use Rattle.book_base.specs.declared.end.End.TheVariants.{A, B}
use Rattle.book_segments.specs.Options.{Ao, One, find_ao}
use Rattle.book_segments.specs.Segments.{reading, SYN}
use Rattle.book_endpoint.specs.Arrivals.{arrive}
use Rattle.book_endpoint.specs.declared.arrival.Arrival.{Arrival}
use Rattle.book_endpoint.specs.declared.arrival.Arrival.TheVariants.{Taken}
use Rattle.book_endpoint.specs.Emissions.{Emitted, Quiet, NoKey, Emits, ao_place, emit, sets}
use Rattle.book_endpoint.specs.States.{EndState}
use Rattle.book_keys.specs.Choices.{Numbered, named_send, next_row}
use Rattle.book_keys.specs.Coordination.{follow, numbered}
use Rattle.book_keys.specs.Lookups.{number_of}
use Rattle.book_keys.specs.Rows.{Row, sendable}
use Rattle.book_link.specs.declared.event.Action.TheVariants.{Deliver, Send}
use Rattle.book_link.specs.declared.event.Event.{Event}
use Rattle.book_link.specs.declared.event.Event.TheVariants.{At}
use Rattle.book_link.specs.Outcomes.{Answered, Idle, Sent}
use Rattle.book_link.specs.Runs.{run}
use Rattle.book_link.specs.Steps.{Act, Stepped, act_on, acted, add, come, deliver, made_of, put, send, sent, step, view_of, with_sessions}
use Rattle.book_link.specs.Worlds.{Happening, LinkSide, Made, Session, Setup, World, live, other, pair_of, segment_named, side}
use Rattle.law_link.proofs.Invariant.{mac_in, wired}
use Rattle.law_link.proofs.Running.{named_ok, run_inv, step_keeps}
use Rattle.law_link.proofs.Written.{area_ao}
use Rattle.law_link.specs.Laws.{SetupFits, EventFits}
use Rattle.law_seen.proofs.Choosing.{asks, named_may}
use Rattle.law_seen.proofs.Hearing.{arrive_follows}
use Rattle.law_seen.proofs.Sending.{sends_under, side_put}
use Rattle.law_seen.specs.Turning.{HasCurrent, SendsUnder, TakesPlace, after_send}

-- ---- what was sent

-- what is known of a segment that an end just made
record JustMade (setup : Setup) (w : World) (e : End) (m : Made) (v : World) : Type 0 where
  maker : m.maker ≡ e
  rows : m.rows ≡ (side w e).rows
  clock : m.clock ≡ (side w e).clock
  named : segment_named m.name v.history ≡ Some m
  here : (f : End) → f ≡ other e → side v f ≡ side w f

eqb_refl : (x : ℕ) → (x == x) ≡ true
eqb_refl x = grind (arith, nat_tests)

made_is : (a b : Made) → Sent a ≡ Sent b → a ≡ b
made_is a b e = cc

put_history : (w : World) (e : End) (now : LinkSide) (h : Option Happening) → (put w e now h).history ≡ add h w.history
put_history w A now h = refl
put_history w B now h = refl

put_other : (w : World) (e f : End) (now : LinkSide) (h : Option Happening) → f ≡ other e → side (put w e now h) f ≡ side w f
put_other w A A now h is = absurd (cc)
put_other w A B now h is = refl
put_other w B A now h is = refl
put_other w B B now h is = absurd (cc)

sent_made : (setup : Setup) (w : World) (e : End) (s : Session) (rest : List Session) (m : Made) (o : Emitted) → (sent (view_of setup w e) s.state Idle o).outcome ≡ Sent m
    → JustMade setup w e m (put w e (with_sessions (side w e) (acted s (sent (view_of setup w e) s.state Idle o) ∷ rest)) (sent (view_of setup w e) s.state Idle o).happened)
sent_made setup w e s rest m Quiet is = absurd (cc)
sent_made setup w e s rest m NoKey is = absurd (cc)
sent_made setup w e s rest m (Emits out) is =
    let k = made_of (view_of setup w e) s.state out in
    let act = sent (view_of setup w e) s.state Idle (Emits out) in
    let now = with_sessions (side w e) (acted s act ∷ rest) in
    let v = put w e now act.happened in
    let same : k ≡ m = made_is k m is in
    let named : segment_named k.name v.history ≡ Some k =
    ap (segment_named k.name) (put_history w e now act.happened) ∙ ap (λ b. if b then Some k else segment_named k.name w.history) (eqb_refl k.name) in
    subst (λ (x : Made). JustMade setup w e x v) same (record { maker = refl; rows = refl; clock = refl; named = named; here = λ f other. put_other w e f now act.happened other })

made_on : (setup : Setup) (w : World) (e : End) (sessions : List Session) (m : Made) → (act_on w e sessions (send (view_of setup w e))).outcome ≡ Sent m → JustMade setup w e m (act_on w e sessions (send (view_of setup w e))).world
made_on setup w e [] m is = absurd (cc)
made_on setup w e (s ∷ rest) m is = sent_made setup w e s rest m (emit (side w e).rows (pair_of setup e) (side w e).clock s.state) is

-- ---- what comes

-- an arrival on the live session that is taken leaves the row that it names the current one
come_current : (setup : Setup) (w : World) (e : End) (sessions : List Session) (bytes : List ℕ) (n : ℕ) → ((s : EndState) → (arrive (side w e).rows (pair_of setup e) (side w e).clock s (reading bytes)).answer ≡ Taken
    → (arrive (side w e).rows (pair_of setup e) (side w e).clock s (reading bytes)).state.current ≡ Some n) → (act_on w e sessions (come bytes (view_of setup w e))).outcome ≡ Answered Taken
    → HasCurrent (act_on w e sessions (come bytes (view_of setup w e))).world e n
come_current setup w e [] bytes n follows is = absurd (cc)
come_current setup w e (s ∷ rest) bytes n follows is =
    let act = come bytes (view_of setup w e) s.state in
    let now = with_sessions (side w e) (acted s act ∷ rest) in
    let answer : (arrive (side w e).rows (pair_of setup e) (side w e).clock s.state (reading bytes)).answer ≡ Taken = answer_is _ is in
    record { session = acted s act; lives = ap (λ (x : LinkSide). live x.sessions) (side_put w e now act.happened); current = follows s.state answer }
  where
    answer_is : (a : Arrival) → Answered a ≡ Answered Taken → a ≡ Taken
    answer_is a e = cc

follow_named : (current : Option ℕ) (rows : List Row) (pair : Pair) (id now : ℕ) (q : Numbered) → named_send rows pair id now ≡ Some q → follow current rows pair id now ≡ Some q.number
unfolding follow
follow_named current rows pair id now q is = ap (λ o. option_or (number_of o) current) is

-- the clock and the table of an end stay when a segment comes
kept_side : (setup : Setup) (w : World) (e : End) (sessions : List Session) (call : EndState → Act) → ((side (act_on w e sessions call).world e).rows ≡ (side w e).rows) × ((side (act_on w e sessions call).world e).clock ≡ (side w e).clock)
kept_side setup w e [] call = (refl, refl)
kept_side setup w e (s ∷ rest) call =
    let is = side_put w e (with_sessions (side w e) (acted s (call s.state) ∷ rest)) (call s.state).happened in
    (ap (λ (x : LinkSide). x.rows) is, ap (λ (x : LinkSide). x.clock) is)

delivered : (setup : Setup) (w : World) (e : End) (name : ℕ) (m : Made) → segment_named name w.history ≡ Some m → step setup w (At e (Deliver name)) ≡ act_on w e (side w e).sessions (come m.bytes (view_of setup w e))
delivered setup w e name m is = ap (deliver setup w e) is

module _ (setup : Setup) (fits : SetupFits setup) where
  pub takes_place : (events : List Event) → AllByRecursion EventFits events → (e : End) → TakesPlace setup (run setup events) e
  takes_place events f e q m asked is =
      let w = run setup events in
      let o = other e in
      let v = after_send setup w e in
      let inv = step_keeps setup fits w (At o Send) tt (run_inv setup fits events f) in
      let made = made_on setup w o (side w o).sessions m is.sent in
      let back : e ≡ other o = other_twice e in
      let same : side v e ≡ side w e = made.here e back in
      let ok = named_ok setup fits v m.name v.history m inv.made made.named in
      let h = ok.by in
      let wire = wired setup ok.session.state m h fits in
      let pair = pair_of setup e in
      let prefers : next_row m.rows (pair_of setup m.maker) m.clock ≡ Some asked.preferred =
      ap (λ (x : List Row). next_row x (pair_of setup m.maker) m.clock) made.rows ∙ (ap (λ (x : End). next_row (side w o).rows (pair_of setup x) m.clock) made.maker ∙ (ap (next_row (side w o).rows (pair_of setup o)) made.clock ∙ asked.prefers)) in
      let rnext : h.sending.rnext_key_id ≡ asked.preferred.row.recv_id = asks m.rows (pair_of setup m.maker) m.clock h.state.current asked.preferred h.sending prefers h.picked in
      let ao : Ao = record { key_id = h.sending.key_id; rnext_key_id = h.sending.rnext_key_id; mac = mac_in setup ok.session.state m h; place = ao_place (sets h.draft.flags SYN) } in
      let option : find_ao m.emission.segment.area ≡ One ao =
      ap (λ x. find_ao x.segment.area) h.emission ∙ area_ao (pair_of setup m.maker) (sets h.draft.flags SYN) h.sending (mac_in setup ok.session.state m h) in
      let now = (side v e).clock in
      let rows = (side v e).rows in
      let may : named_send rows pair h.sending.rnext_key_id now ≡ Some q =
      ap (λ (x : LinkSide). named_send x.rows pair h.sending.rnext_key_id x.clock) same ∙ (ap (λ id. named_send (side w e).rows pair id (side w e).clock) rnext ∙ asked.may) in
      let follows : (s : EndState) → (arrive rows pair now s (reading m.bytes)).answer ≡ Taken → (arrive rows pair now s (reading m.bytes)).state.current ≡ Some q.number =
      λ s. subst (λ r. (arrive rows pair now s r).answer ≡ Taken → (arrive rows pair now s r).state.current ≡ Some q.number) (sym wire.reads)
      (λ taken. arrive_follows rows pair now s m.emission.segment ao option taken ∙ follow_named s.current rows pair h.sending.rnext_key_id now q may) in
      let call = come m.bytes (view_of setup v e) in
      let comes = delivered setup v e m.name m made.named in
      let taken : (act_on v e (side v e).sessions call).outcome ≡ Answered Taken = ap (λ (x : Stepped). x.outcome) (sym comes) ∙ is.taken in
      let current = come_current setup v e (side v e).sessions m.bytes q.number follows taken in
      let kept = kept_side setup v e (side v e).sessions call in
      let z = (act_on v e (side v e).sessions call).world in
      let may_now : numbered (sendable pair now) 1 q.number rows ≡ Some q = named_may rows pair h.sending.rnext_key_id now q may in
      let may_then : numbered (sendable pair (side z e).clock) 1 q.number (side z e).rows ≡ Some q =
      ap (λ t. numbered (sendable pair t) 1 q.number (side z e).rows) kept.1 ∙ (ap (numbered (sendable pair now) 1 q.number) kept.0 ∙ may_now) in
      subst (λ (x : Stepped). SendsUnder setup x.world e q) (sym comes) (sends_under setup z e q current may_then)
    where
      other_twice : (f : End) → f ≡ other (other f)
      other_twice A = refl
      other_twice B = refl
