-- What an outcome carries fits the room that is taken for it.
use Rattle.std.proofs.Common.{◌≡◌, ℕ, ◌≤◌, Bool, true, false, not, List, [], ◌∷◌, length, take, Option, Some, None, if◌then◌else◌, refl, sym, ap, ◌∙◌, subst, arith}
use Rattle.std.proofs.lemmas.List.{length-take}
use Rattle.std.specs.Prelude.{nat_lt, replicate}
use Rattle.book_base.specs.declared.end.End.{End}
use Rattle.book_keys.specs.Tables.{Adding, AddedAs, TooMany, OverlapsRow, adding, withdrawn}
use Rattle.book_keys.specs.Rows.{Row}
use Rattle.book_endpoint.specs.States.{EndState, connected, listening, started, taking, gives, room, ready, give, close, abort}
use Rattle.book_endpoint.specs.Emissions.{Emitted, Quiet, NoKey, Emits, emit, resend}
use Rattle.book_link.specs.declared.event.Fixing.{Fixing}
use Rattle.book_link.specs.Alterations.{altered, has_place}
use Rattle.book_link.specs.declared.event.Event.{Event}
use Rattle.book_link.specs.declared.event.Event.TheVariants.{At, Dump}
use Rattle.book_link.specs.declared.event.Action.TheVariants.{Clock, Connect, Listen, Start, Give, Fill, Send, Resend, Deliver, Inject, Alter, Take, Close, Abort, AddRow, Withdraw}
use Rattle.book_link.specs.Outcomes as book
use Rattle.book_keys.specs.Tables.{row_of_new}
use Rattle.book_link.specs.Steps.{View, Act, act_on, add_row, begin, come, deliver, alter, given, image_of, on_live, quietly, send, send_again, sent, step, took, withdraw, view_of}
use Rattle.book_link.specs.Worlds.{Setup, World, Session, Made, pair_of, side, find, segment_named}
use Rattle.link_report.specs.declared.outcome.Outcome.{Outcome}
use Rattle.link_report.specs.declared.outcome.Outcome.TheVariants as outcome
use Rattle.link_report.specs.Outcomes.{Shows, content_of}
use Rattle.link_world.specs.Events.{image_bytes, most_content}

-- the bytes that an outcome of the definitions carries
abbrev carried : book.Outcome → List ℕ
carried (book.Took bytes shown) = bytes
carried (book.Image bytes) = bytes
carried _ = []

-- a told outcome carries what the one that it shows carries
shown_content : (o : Outcome) (x : book.Outcome) → Shows o x → content_of o ≡ carried x
shown_content outcome.Done x is = sym (ap carried is)
shown_content outcome.IsnUsed x is = sym (ap carried is)
shown_content outcome.NoSession x is = sym (ap carried is)
shown_content outcome.NoSegment x is = sym (ap carried is)
shown_content outcome.NoPlace x is = sym (ap carried is)
shown_content outcome.Full x is = sym (ap carried is)
shown_content outcome.Closed x is = sym (ap carried is)
shown_content (outcome.Sent name m) x is = sym (ap carried is.1)
shown_content outcome.NoKey x is = sym (ap carried is)
shown_content outcome.Idle x is = sym (ap carried is)
shown_content outcome.Nothing x is = sym (ap carried is)
shown_content (outcome.Arrival answer) x is = sym (ap carried is)
shown_content (outcome.Took bytes shown) x is = sym (ap carried is)
shown_content (outcome.Image bytes) x is = sym (ap carried is)
shown_content (outcome.Added row) x is = sym (ap carried is)
shown_content outcome.TooManyRows x is = sym (ap carried is)
shown_content (outcome.Overlap row) x is = sym (ap carried is)
shown_content outcome.NoRow x is = sym (ap carried is)

-- a call on the live session carries nothing where it does so in every state
on_sessions : (w : World) (e : End) (sessions : List Session) (call : EndState → Act) → ((s : EndState) → carried (call s).outcome ≡ [])
    → carried (act_on w e sessions call).outcome ≡ []
on_sessions w e [] call h = refl
on_sessions w e (s ∷ rest) call h = h s.state

-- of three calls one is chosen
one_of : (b c : Bool) (x y z : Act) → carried x.outcome ≡ [] → carried y.outcome ≡ [] → carried z.outcome ≡ []
    → carried (if b then x else (if c then y else z)).outcome ≡ []
one_of true c x y z h i j = h
one_of false true x y z h i j = i
one_of false false x y z h i j = j

given_none : (piece : List ℕ) (s : EndState) → carried (given piece s).outcome ≡ []
given_none piece s =
    one_of (not (gives s)) (nat_lt (room s) (length piece)) (quietly s book.HasClosed) (quietly s book.Full) (quietly (give piece s) book.Done) refl refl refl

begun_none : (w : World) (e : End) (s : EndState) (o : Option Session) → carried (begin w e s o).outcome ≡ []
begun_none w e s None = refl
begun_none w e s (Some used) = refl

sent_none : (v : View) (s : EndState) (without : book.Outcome) (r : Emitted) → carried without ≡ [] → carried (sent v s without r).outcome ≡ []
sent_none v s without Quiet h = h
sent_none v s without NoKey h = refl
sent_none v s without (Emits out) h = refl

come_none : (setup : Setup) (w : World) (e : End) (bytes : List ℕ) → carried (on_live w e (come bytes (view_of setup w e))).outcome ≡ []
come_none setup w e bytes = on_sessions w e (side w e).sessions (come bytes (view_of setup w e)) (λ s. refl)

delivered_none : (setup : Setup) (w : World) (e : End) (o : Option Made) → carried (deliver setup w e o).outcome ≡ []
delivered_none setup w e None = refl
delivered_none setup w e (Some m) = come_none setup w e m.bytes

placed_none : (setup : Setup) (w : World) (e : End) (m : Made) (place mask : ℕ) (fixing : Fixing) (b : Bool)
    → carried (if b then on_live w e (come (altered m.bytes (record { place = place; mask = mask; fixing = fixing })) (view_of setup w e)) else record { world = w; outcome = book.NoPlace }).outcome ≡ []
placed_none setup w e m place mask fixing true = come_none setup w e (altered m.bytes (record { place = place; mask = mask; fixing = fixing }))
placed_none setup w e m place mask fixing false = refl

altered_none : (setup : Setup) (w : World) (e : End) (place mask : ℕ) (fixing : Fixing) (o : Option Made) → carried (alter setup w e (record { place = place; mask = mask; fixing = fixing }) o).outcome ≡ []
altered_none setup w e place mask fixing None = refl
altered_none setup w e place mask fixing (Some m) = placed_none setup w e m place mask fixing (has_place m.bytes place)

added_none : (w : World) (e : End) (a : Adding) → carried (add_row w e a).outcome ≡ []
added_none w e (AddedAs number rows) = refl
added_none w e TooMany = refl
added_none w e (OverlapsRow number) = refl

withdrawn_none : (w : World) (e : End) (o : Option (List Row)) → carried (withdraw w e o).outcome ≡ []
withdrawn_none w e None = refl
withdrawn_none w e (Some rows) = refl

-- nothing fits any room
fits_none : (xs : List ℕ) (n : ℕ) → xs ≡ [] → length xs ≤ n
fits_none xs n is = let e = ap length is in omega (arith, e)

-- a take of so many bytes gives no more
took_fits : (w : World) (e : End) (sessions : List Session) (count : ℕ) → length (carried (act_on w e sessions (took count)).outcome) ≤ count
took_fits w e [] count = fits_none [] count refl
took_fits w e (s ∷ rest) count = let e = length-take count (ready s.state) in omega (arith, e)

-- what is shown of a segment is its bytes
image_fits : (o : Option Made) → length (carried (image_of o)) ≤ length (image_bytes o)
image_fits None = omega arith
image_fits (Some m) = omega arith

-- the outcome of an event carries no more than there is room for
step_fits : (setup : Setup) (w : World) (event : Event) → length (carried (step setup w event).outcome) ≤ most_content event w.history
step_fits setup w (At e (Clock seconds)) = fits_none [] 0 refl
step_fits setup w (At e (Connect isn)) = let s = connected (pair_of setup e) isn in fits_none _ 0 (begun_none w e s (find (side w e).sessions s.isn))
step_fits setup w (At e (Listen isn)) = let s = listening (pair_of setup e) isn in fits_none _ 0 (begun_none w e s (find (side w e).sessions s.isn))
step_fits setup w (At e (Start isn peer)) = let s = started (pair_of setup e) isn peer in fits_none _ 0 (begun_none w e s (find (side w e).sessions s.isn))
step_fits setup w (At e (Give piece)) = fits_none _ 0 (on_sessions w e (side w e).sessions (given piece) (given_none piece))
step_fits setup w (At e (Fill count byte)) = fits_none _ 0 (on_sessions w e (side w e).sessions (given (replicate count byte)) (given_none (replicate count byte)))
step_fits setup w (At e Send) =
    fits_none _ 0 (on_sessions w e (side w e).sessions (send (view_of setup w e))
    (λ s. sent_none (view_of setup w e) s book.Idle (emit (side w e).rows (pair_of setup e) (side w e).clock s) refl))
step_fits setup w (At e Resend) =
    fits_none _ 0 (on_sessions w e (side w e).sessions (send_again (view_of setup w e))
    (λ s. sent_none (view_of setup w e) s book.Nothing (resend (side w e).rows (pair_of setup e) (side w e).clock s) refl))
step_fits setup w (At e (Deliver name)) = fits_none _ 0 (delivered_none setup w e (segment_named name w.history))
step_fits setup w (At e (Inject bytes)) = fits_none _ 0 (come_none setup w e bytes)
step_fits setup w (At e (Alter name place mask fixing)) = fits_none _ 0 (altered_none setup w e place mask fixing (segment_named name w.history))
step_fits setup w (At e (Take count)) = took_fits w e (side w e).sessions count
step_fits setup w (At e Close) = fits_none _ 0 (on_sessions w e (side w e).sessions (λ s. quietly (close s) book.Done) (λ s. refl))
step_fits setup w (At e Abort) = fits_none _ 0 (on_sessions w e (side w e).sessions (λ s. quietly (abort s) book.Done) (λ s. refl))
step_fits setup w (At e (AddRow row)) = fits_none _ 0 (added_none w e (adding (side w e).rows (row_of_new row)))
step_fits setup w (At e (Withdraw number)) = fits_none _ 0 (withdrawn_none w e (withdrawn (side w e).rows number))
step_fits setup w (Dump name) = image_fits (segment_named name w.history)

-- what a told outcome carries fits room for the most that its event's carries
pub told_fits : (setup : Setup) (w : World) (event : Event) (o : Outcome) (n : ℕ) → Shows o (step setup w event).outcome
    → n ≡ most_content event w.history → length (content_of o) ≤ n
told_fits setup w event o n shows is =
    let same = ap length (shown_content o (step setup w event).outcome shows) in
    let fits = step_fits setup w event in
    omega (arith, same, fits, is)
