-- What the timer of an end stands for.
use Rattle.std.specs.Prelude.{ℕ, nat_lt, Option, option_map, if◌then◌else◌}
use Rattle.std.specs.Option.{option_or}
use Rattle.book_cmd_link.specs.TimedRuns as book
use Rattle.book_link.specs.declared.event.Transmission.{Transmission}
use Rattle.book_link.specs.SendFronts.{SendFront}
use Rattle.link_world.specs.declared.front.Front.{Front}
use Rattle.link_world.specs.Fronts.{front_of}
use Rattle.book_cmd_link.specs.Timers.{expired}
use Rattle.cmd_link.specs.declared.watch.Sending.{Sending}
use Rattle.cmd_link.specs.declared.watch.Watch.{Watch}

-- what is timed, as the definitions have it
abbrev pub timed_of : Sending → book.Timed
timed_of s = record { number = s.number; reading = s.reading }

-- the timer of an end, as the definitions have it
abbrev pub seen : Watch → book.Watch
seen w = record { timer = w.timer; deadline = w.deadline; timed = option_map timed_of w.sending }

-- a front that may be missing, as the definitions have it
abbrev pub front_seen : Option Front → Option SendFront
front_seen f = option_map front_of f

-- an acknowledgement of new data (RFC 6298, sections 3, 5.2 and 5.3)
abbrev pub acknowledged_at : ℕ → SendFront → book.Watch → book.Watch
acknowledged_at reading f w =
    let sample = book.sampled_by f.una reading w w.timed in
    if nat_lt f.una f.next then book.started_anew reading sample else book.stopped sample

-- new numbers were sent, which are timed unless others are, or they were sent before (RFC 6298, sections 3 and 5.1)
abbrev pub sent_more : ℕ → SendFront → Transmission → book.Watch → book.Watch
sent_more reading f which w =
    record w {
      deadline = option_or w.deadline (book.started_anew reading w).deadline;
      timed = option_or w.timed (book.newly_timed which f.next reading);
    }

-- the timer expired at this reading (RFC 6298, sections 5.5 and 5.6)
abbrev pub expired_at : ℕ → book.Watch → book.Watch
expired_at reading w = book.started_anew reading (record w { timer = expired w.timer })
