-- What each event does to a link. Its top is `step`.
use Rattle.std.specs.Prelude.{ℕ, suc, nat_lt, Bool, false, not, ◌||◌, List, [], ◌∷◌, length}
use Rattle.std.specs.Prelude.{replicate, Option, Some, None, if◌then◌else◌}
use Rattle.book_base.specs.declared.address.Pair.{Pair}
use Rattle.book_base.specs.declared.end.End.{End}
use Rattle.book_base.specs.declared.end.End.TheVariants.{A, B}
use Rattle.book_segments.specs.Segments.{reading, spell}
use Rattle.book_keys.specs.Rows.{Row}
use Rattle.book_keys.specs.Tables.{Adding, AddedAs, TooMany, OverlapsRow, adding, withdrawn}
use Rattle.book_keys.specs.Tables.{row_of_new}
use Rattle.book_endpoint.specs.States.{EndState, connected, listening, started, offered, taking}
use Rattle.book_endpoint.specs.States.{take_out, at_end, close, abort, tick}
use Rattle.book_endpoint.specs.Arrivals.{Arrived, arrive}
use Rattle.book_endpoint.specs.Emissions.{Emission, Emitted, Quiet, NoKey, Emits, emit, resend}
use Rattle.book_link.specs.Alterations.{Alteration, has_place, altered}
use Rattle.book_link.specs.declared.event.Event.{Event}
use Rattle.book_link.specs.declared.event.Action.{Action}
use Rattle.book_link.specs.declared.event.Event.TheVariants.{At, Dump}
use Rattle.book_link.specs.declared.event.Action.TheVariants.{Clock, Connect, Listen, Start, Give}
use Rattle.book_link.specs.declared.event.Action.TheVariants.{Fill, Send, Resend, Deliver, Inject}
use Rattle.book_link.specs.declared.event.Action.TheVariants.{Alter, Take, Close, Abort, AddRow}
use Rattle.book_link.specs.declared.event.Action.TheVariants.{Withdraw}
use Rattle.book_link.specs.Outcomes.{Outcome, Done, Sent, Answered, Took, Image, Added, IsnUsed}
use Rattle.book_link.specs.Outcomes.{NoSession, NoSegment, NoPlace, Full, HasClosed, WithoutKey}
use Rattle.book_link.specs.Outcomes.{Idle, Nothing, TooManyRows, OverlapWith, NoRow}
use Rattle.book_link.specs.Worlds.{Setup, pair_of, Session, LinkSide, Made, Happening, Making}
use Rattle.book_link.specs.Worlds.{Coming}
use Rattle.book_link.specs.Worlds.{World, side, find, segments, segment_named}

-- the world after an event, and the event's outcome (own)
pub record Stepped : Type 0 where
  pub world : World
  pub outcome : Outcome

-- what a call does to the live session of an end: its new state, whether a take showed the end of
-- its stream, what was made or came, and the outcome (own)
pub record Act : Type 0 where
  pub state : EndState
  pub shown : Bool
  pub happened : Option Happening
  pub outcome : Outcome

-- the history with one more happening, if there is one (own)
abbrev pub add : Option Happening → List Happening → List Happening
add None history = history
add (Some h) history = h ∷ history

-- the world with this end, and with one more happening (own)
abbrev pub put : World → End → LinkSide → Option Happening → World
put w A now happened = record w { a = now; history = add happened w.history }
put w B now happened = record w { b = now; history = add happened w.history }

-- an end with these sessions in place of its own (own)
abbrev pub with_sessions : LinkSide → List Session → LinkSide
with_sessions s sessions = record { clock = s.clock; rows = s.rows; sessions = sessions }

-- an end with these rows in place of its table (own)
abbrev pub with_table : LinkSide → List Row → LinkSide
with_table s rows = record { clock = s.clock; rows = rows; sessions = s.sessions }

-- a session after what a call did to it (own)
abbrev pub acted : Session → Act → Session
acted s act = record { state = act.state; end_shown = s.end_shown || act.shown }

-- a call on the newest of an end's sessions (own)
abbrev pub act_on : World → End → List Session → (EndState → Act) → Stepped
act_on w e [] call = record { world = w; outcome = NoSession }
act_on w e (s ∷ rest) call =
    let act = call s.state in
    record {
      world = put w e (with_sessions (side w e) (acted s act ∷ rest)) act.happened;
      outcome = act.outcome;
    }

-- a call on the live session of an end (own)
abbrev pub on_live : World → End → (EndState → Act) → Stepped
on_live w e call = act_on w e (side w e).sessions call

-- a call by which nothing is made and nothing comes (own)
abbrev pub quietly : EndState → Outcome → Act
quietly s outcome = record { state = s; shown = false; happened = None; outcome = outcome }

-- an end's sessions when its clock is set: only the live one ticks (own)
abbrev pub ticked : ℕ → List Session → List Session
ticked now [] = []
ticked now (s ∷ rest) = record { state = tick now s.state; end_shown = s.end_shown } ∷ rest

-- an end whose clock is set, which ticks its live session (own)
abbrev pub with_clock : LinkSide → ℕ → LinkSide
with_clock s seconds = record {
  clock = seconds;
  rows = s.rows;
  sessions = ticked seconds s.sessions;
}

-- a session begins, unless the end used its initial sequence number before (own)
abbrev pub begin : World → End → EndState → Option Session → Stepped
begin w e s (Some used) = record { world = w; outcome = IsnUsed }
begin w e s None =
    let now = side w e in
    let sessions = record { state = s; end_shown = false } ∷ now.sessions in
    record { world = put w e (with_sessions now sessions) None; outcome = Done }

-- an end's new session, by which the one before is dropped (own)
abbrev pub begin_new : World → End → EndState → Stepped
begin_new w e s = begin w e s (find (side w e).sessions s.isn)

-- a piece is given, unless the end is closed or there is no room for it (own)
abbrev pub given : List ℕ → EndState → Act
given piece s = offered quietly (record { closed = HasClosed; full = Full; done = Done }) piece s

-- what an end has in view when it acts: which of the two it is, its pair, its clock, its table as
-- it is now, and the name that the next segment gets, the numbers from 1 on; nothing of the other
-- end (own)
pub record View : Type 0 where
  pub at : End
  pub pair : Pair
  pub clock : ℕ
  pub rows : List Row
  pub next_name : ℕ

-- what an end has in view in a world (own)
abbrev pub view_of : Setup → World → End → View
view_of setup w e = record {
  at = e;
  pair = pair_of setup e;
  clock = (side w e).clock;
  rows = (side w e).rows;
  next_name = suc (segments w.history);
}

-- an action of the live session of an end, by what the end has in view (own)
abbrev pub acts : Setup → World → End → (View → EndState → Act) → Stepped
acts setup w e action = on_live w e (action (view_of setup w e))

-- the entry of a segment in the history (own)
abbrev pub made_of : View → EndState → Emission → Made
made_of v s out = record {
  name = v.next_name;
  maker = v.at;
  isn = s.isn;
  clock = v.clock;
  rows = v.rows;
  emission = out;
  bytes = spell out.segment;
}

-- what comes of a call that makes a segment, or none: then the outcome is the word for no segment,
-- or that no key may be used (own)
abbrev pub sent : View → EndState → (nothing_sent : Outcome) → Emitted → Act
sent v s nothing_sent Quiet = quietly s nothing_sent
sent v s nothing_sent NoKey = quietly s WithoutKey
sent v s nothing_sent (Emits out) =
    let made = made_of v s out in
    record { state = out.state; shown = false; happened = Some (Making made); outcome = Sent made }

-- the live session sends what is due (RFC 9293, section 3.8, and own)
abbrev pub send : View → EndState → Act
send v s = sent v s Idle (emit v.rows v.pair v.clock s)

-- the live session sends again the oldest of what isn't acknowledged (RFC 9293, section 3.8.1,
-- and own)
abbrev pub send_again : View → EndState → Act
send_again v s = sent v s Nothing (resend v.rows v.pair v.clock s)

-- what comes of an arrival, with its entry in the history (own)
abbrev pub came : List ℕ → View → EndState → Arrived → Act
came bytes v s r = record {
  state = r.state;
  shown = false;
  happened = Some (Coming (record {
    at = v.at;
    isn = s.isn;
    clock = v.clock;
    bytes = bytes;
    answer = r.answer;
    passed = r.passed;
  }));
  outcome = Answered r.answer;
}

-- a datagram comes to the live session (RFC 9293, section 3.10.7, and own)
abbrev pub come : List ℕ → View → EndState → Act
come bytes v s = came bytes v s (arrive v.rows v.pair v.clock s (reading bytes))

-- at most so many bytes are taken of the live session's stream (own)
abbrev pub took : ℕ → EndState → Act
took count s =
    let t = take_out count s in
    record {
      state = t;
      shown = at_end t;
      happened = None;
      outcome = Took (taking count s) (at_end t);
    }

-- a segment is delivered as it was made (own)
abbrev pub deliver : Setup → World → End → Option Made → Stepped
deliver setup w e None = record { world = w; outcome = NoSegment }
deliver setup w e (Some m) = acts setup w e (come m.bytes)

-- a copy of a segment is delivered, altered in one byte (own)
abbrev pub alter : Setup → World → End → Alteration → Option Made → Stepped
alter setup w e change None = record { world = w; outcome = NoSegment }
alter setup w e change (Some m) =
    if has_place m.bytes change.place then acts setup w e (come (altered m.bytes change))
    else record { world = w; outcome = NoPlace }

-- the bytes of a segment, as an outcome (own)
abbrev pub image_of : Option Made → Outcome
image_of None = NoSegment
image_of (Some m) = Image m.bytes

-- the clock of an end is set (own)
abbrev pub set_clock : World → End → (seconds : ℕ) → Stepped
set_clock w e seconds = record {
  world = put w e (with_clock (side w e) seconds) None;
  outcome = Done;
}

-- a row is added to an end's table, or refused (own)
abbrev pub add_row : World → End → Adding → Stepped
add_row w e (AddedAs number rows) = record {
  world = put w e (with_table (side w e) rows) None;
  outcome = Added number;
}
add_row w e TooMany = record { world = w; outcome = TooManyRows }
add_row w e (OverlapsRow number) = record { world = w; outcome = OverlapWith number }

-- a row of an end's table is withdrawn, where there is such a row (own)
abbrev pub withdraw : World → End → Option (List Row) → Stepped
withdraw w e None = record { world = w; outcome = NoRow }
withdraw w e (Some rows) = record {
  world = put w e (with_table (side w e) rows) None;
  outcome = Done;
}

-- the world after an action at an end, and the action's outcome (own)
abbrev pub step_at : Setup → World → End → Action → Stepped
step_at setup w e (Clock seconds) = set_clock w e seconds
step_at setup w e (Connect isn) = begin_new w e (connected (pair_of setup e) isn)
step_at setup w e (Listen isn) = begin_new w e (listening (pair_of setup e) isn)
step_at setup w e (Start isn peer) = begin_new w e (started (pair_of setup e) isn peer)
step_at setup w e (Give piece) = on_live w e (given piece)
step_at setup w e (Fill count byte) = on_live w e (given (replicate count byte))
step_at setup w e Send = acts setup w e send
step_at setup w e Resend = acts setup w e send_again
step_at setup w e (Deliver name) = deliver setup w e (segment_named name w.history)
step_at setup w e (Inject bytes) = acts setup w e (come bytes)
step_at setup w e (Alter name place mask fixing) =
    let change : Alteration = record { place = place; mask = mask; fixing = fixing } in
    alter setup w e change (segment_named name w.history)
step_at setup w e (Take count) = on_live w e (took count)
step_at setup w e Close = on_live w e (λ s. quietly (close s) Done)
step_at setup w e Abort = on_live w e (λ s. quietly (abort s) Done)
step_at setup w e (AddRow row) = add_row w e (adding (side w e).rows (row_of_new row))
step_at setup w e (Withdraw number) = withdraw w e (withdrawn (side w e).rows number)

-- the world after an event, and the event's outcome (own)
abbrev pub step : Setup → World → Event → Stepped
step setup w (At e action) = step_at setup w e action
step setup w (Dump name) = record { world = w; outcome = image_of (segment_named name w.history) }
