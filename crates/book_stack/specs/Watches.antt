-- The retransmission timer of a connection, and what it is told of the connection (RFC 6298,
-- sections 3 and 5). Times are in milliseconds since 1970.
use Rattle.std.specs.Prelude.{ℕ, ◌+◌, ◌-◌, ◌*◌, ◌/◌, nat_lt, nat_le, Bool, true, false, not, ◌&&◌}
use Rattle.std.specs.Prelude.{◌||◌, Option, Some, None, is_some, if◌then◌else◌}
use Rattle.book_cmd_link.specs.declared.timer.Timer.{Timer}
use Rattle.book_cmd_link.specs.Timers.{new_timer, expired}
use Rattle.book_endpoint.specs.declared.arrival.Arrival.{Arrival}
use Rattle.book_endpoint.specs.declared.arrival.Arrival.TheVariants.{Bad, Foreign, Checksum}
use Rattle.book_endpoint.specs.declared.arrival.Arrival.TheVariants.{Closed as AtClosed, Refused}
use Rattle.book_endpoint.specs.declared.phase.Phase.{Phase}
use Rattle.book_endpoint.specs.declared.phase.Phase.TheVariants.{SynSent, SynReceived, Established}
use Rattle.book_endpoint.specs.declared.phase.Phase.TheVariants.{FinWait1, CloseWait, Closing}
use Rattle.book_endpoint.specs.declared.phase.Phase.TheVariants.{LastAck, Listen, TimeWait}
use Rattle.book_endpoint.specs.States.{EndState}
use Rattle.book_endpoint.specs.Emissions.{unsent}
use Rattle.book_endpoint.specs.Hearing.{segment_lifetime}
use Rattle.book_stack.specs.declared.front.Change.{Change}
use Rattle.book_stack.specs.declared.front.Front.{Front}
use Rattle.book_stack.specs.declared.front.Timed.{Timed}
use Rattle.book_stack.specs.Millis.{sampled_millis, timer_behind_lost_syn}

-- what is kept of a connection beside its end (own)
pub record ConnectionWatch : Type 0 where
  pub timer : Timer  -- the timer's value, and the smoothed times (RFC 6298, section 2)
  pub deadline : Option ℕ  -- when the timer expires, if it runs, or when TIME-WAIT ends
  pub timed : Option Timed  -- the number that is timed, and when it was sent (section 3)
  pub syn_again : Bool  -- the SYN was sent again (section 5.7)
  pub heard : ℕ  -- when the peer moved the connection on, or the end began to wait for it

-- the timer of a new connection (RFC 6298, section 2.1)
abbrev pub new_connection_watch : ConnectionWatch
new_connection_watch = record {
  timer = new_timer;
  deadline = None;
  timed = None;
  syn_again = false;
  heard = 0;
}

-- where an end stands (own)
abbrev pub end_front : EndState → Front
end_front s = record { phase = s.phase; una = s.una; next = s.next; expected = s.expected }

-- the timer runs anew, its value from now on (RFC 6298, section 5)
abbrev pub timer_started : ℕ → ConnectionWatch → ConnectionWatch
timer_started now w = record w { deadline = Some (now + w.timer.value) }

-- the timer doesn't run, and nothing is timed (RFC 6298, section 5.2)
abbrev pub timer_stopped : ConnectionWatch → ConnectionWatch
timer_stopped w = record w { deadline = None; timed = None }

-- what is timed was acknowledged: a sample is taken (RFC 6298, section 3)
abbrev pub after_sample : ℕ → Front → ConnectionWatch → Option Timed → ConnectionWatch
after_sample now f w None = w
after_sample now f w (Some t) = if nat_le t.number f.una
    then record w { timer = sampled_millis w.timer (now - t.sent); timed = None } else w

-- an acknowledgement of new data: the timer runs anew where some isn't acknowledged, else it stops
-- (RFC 6298, sections 5.2 and 5.3)
abbrev pub after_acknowledgement : ℕ → Front → ConnectionWatch → ConnectionWatch
after_acknowledgement now f w = let t = after_sample now f w w.timed in
    if nat_lt f.una f.next then timer_started now t else timer_stopped t

-- the own SYN isn't acknowledged (own)
abbrev pub is_opening : Phase → Bool
is_opening SynSent = true
is_opening SynReceived = true
is_opening _ = false

-- the phase is TIME-WAIT (own)
abbrev pub is_time_wait : Phase → Bool
is_time_wait TimeWait = true
is_time_wait _ = false

-- the handshake was completed after the SYN was sent again: the timer begins anew, with three
-- seconds (RFC 6298, section 5.7)
abbrev pub after_handshake : Change → ConnectionWatch → ConnectionWatch
after_handshake c w = if w.syn_again && is_opening c.before.phase && not (is_opening c.after.phase)
    then record w { timer = timer_behind_lost_syn; syn_again = false } else w

-- where TIME-WAIT that is entered now ends: twice 120 seconds on (RFC 9293, section 3.4.2)
abbrev pub time_wait_end : ℕ → ℕ
time_wait_end now = 1000 * (now / 1000 + 2 * segment_lifetime)

-- TIME-WAIT was entered (own)
abbrev pub rests_now : ℕ → Change → ConnectionWatch → ConnectionWatch
rests_now now c w = if is_time_wait c.after.phase && not (is_time_wait c.before.phase)
    then record w { deadline = Some (time_wait_end now) } else w

-- the segment passed the check (own)
abbrev pub is_heard : Arrival → Bool
is_heard (Bad fault) = false
is_heard Foreign = false
is_heard Checksum = false
is_heard AtClosed = false
is_heard (Refused why) = false
is_heard _ = true

-- the phase is LISTEN (own)
abbrev pub is_listening : Phase → Bool
is_listening Listen = true
is_listening _ = false

-- a segment moved the connection on: it acknowledged a number that wasn't, or it brought the
-- number that was expected. What was taken once moves nothing when it is sent again, whoever sends
-- it; nor does a segment out of the window, as a keep-alive is. A SYN that is heard in LISTEN
-- doesn't count, since its MAC would pass for any connection of its sockets (own)
abbrev pub moves_on : Change → Bool
moves_on c = not (is_listening c.before.phase)
    && (nat_lt c.before.una c.after.una || nat_lt c.before.expected c.after.expected)

-- a segment was heard (own)
abbrev pub hearing : ℕ → Change → ConnectionWatch → ConnectionWatch
hearing now c w = if moves_on c then record w { heard = now } else w

-- the timer after an arrival (RFC 6298, sections 3, 5.2, 5.3 and 5.7)
abbrev pub arrived : ℕ → Change → ConnectionWatch → ConnectionWatch
arrived now c w = let v = after_handshake c (hearing now c w) in
    rests_now now c
    (if nat_lt c.before.una c.after.una then after_acknowledgement now c.after v else v)

-- the timer runs from now on, and the peer is waited for, unless it runs already (RFC 6298, section
-- 5.1)
abbrev pub running : ℕ → ConnectionWatch → Option ℕ → ConnectionWatch
running now w None = timer_started now (record w { heard = now })
running now w (Some d) = w

-- the number is timed, unless another one is (RFC 6298, section 3)
abbrev pub timing : ℕ → Front → ConnectionWatch → Option Timed → ConnectionWatch
timing now f w None = record w { timed = Some (record { number = f.next; sent = now }) }
timing now f w (Some t) = w

-- the timer after a segment was sent for the first time: new numbers are timed, and start it (RFC
-- 6298, sections 3 and 5.1)
abbrev pub after_sending : ℕ → Change → ConnectionWatch → ConnectionWatch
after_sending now c w = if nat_lt c.before.next c.after.next
    then (let r = running now w w.deadline in timing now c.after r r.timed) else w

-- something isn't acknowledged or waits for the peer's window: numbers that were sent, bytes that
-- weren't, or the FIN (RFC 9293, sections 3.8.6.1 and 3.10.8)
abbrev pub awaits_in : Phase → EndState → Bool
awaits_in SynSent s = nat_lt s.isn s.next
awaits_in SynReceived s = nat_lt s.isn s.next
awaits_in Established s = nat_lt s.una s.next || nat_lt 0 (unsent s) || s.closing
awaits_in CloseWait s = nat_lt s.una s.next || nat_lt 0 (unsent s) || s.closing
awaits_in FinWait1 s = nat_lt s.una s.next
awaits_in Closing s = nat_lt s.una s.next
awaits_in LastAck s = nat_lt s.una s.next
awaits_in phase s = false

-- the same of an end; where it has nothing to send, exactly then something would be sent again
-- (own)
abbrev pub awaits : EndState → Bool
awaits s = awaits_in s.phase s

-- the timer of an end that has nothing to send, in this phase: it runs exactly where something
-- would be sent again (own)
abbrev pub at_rest : ℕ → Phase → Bool → ConnectionWatch → ConnectionWatch
at_rest now phase true w = running now w w.deadline
at_rest now phase false w = if is_time_wait phase then w else timer_stopped w

-- the timer expired: its value is doubled, it runs anew, and nothing is timed (RFC 6298, sections
-- 3, 5.5 and 5.6)
abbrev pub expired_at : ℕ → Phase → ConnectionWatch → ConnectionWatch
expired_at now phase w = timer_started now (record w
    { timer = expired w.timer; timed = None; syn_again = w.syn_again || is_opening phase })

-- how long the end has waited for its peer while nothing moved the connection on, where it waits:
-- not in TIME-WAIT, nor while all that it sent is acknowledged and nothing waits to be sent, since
-- its timer doesn't run then; so an idle connection is never silent (RFC 9293, section 3.9.1.1)
abbrev pub silence : ℕ → Phase → ConnectionWatch → Option ℕ
silence now phase w = if is_time_wait phase || not (is_some w.deadline) then None
    else Some (now - w.heard)

-- the user timeout, five minutes (RFC 9293, section 3.9.1.1)
abbrev pub user_timeout : ℕ
user_timeout = 300000

-- an end has waited so long that its user is to be told (own)
abbrev pub is_overdue : Option ℕ → Bool
is_overdue None = false
is_overdue (Some millis) = nat_le user_timeout millis
