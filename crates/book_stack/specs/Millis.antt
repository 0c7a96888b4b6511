-- The retransmission timer on a clock of milliseconds (RFC 6298, section 2).
use Rattle.std.specs.Prelude.{ℕ, ◌+◌, ◌*◌, min, max, Some, None}
use Rattle.book_cmd_link.specs.declared.timer.Timer.{Timer}
use Rattle.book_cmd_link.specs.declared.timer.Smoothed.{Smoothed}
use Rattle.book_cmd_link.specs.Timers.{bounded, smoothed_with}

-- the value that smoothed times give: SRTT plus the greater of G, which is 1 here, and four times
-- RTTVAR, within its bounds (RFC 6298, sections 2.2 to 2.5)
abbrev pub value_in_millis : Smoothed → ℕ
value_in_millis s = bounded (s.mean + max 1 (4 * s.variation))

-- a sample that counts: more than a day counts as a day (own)
abbrev pub counted_millis : ℕ → ℕ
counted_millis millis = min millis 86400000

-- the timer after a sample of so many milliseconds (RFC 6298, sections 2.2 and 2.3)
abbrev pub sampled_millis : Timer → ℕ → Timer
sampled_millis t millis = let s = smoothed_with t.smoothed (counted_millis millis) in
    record { value = value_in_millis s; smoothed = Some s }

-- the timer once data begins to flow after a SYN that was sent again: begun anew, with three
-- seconds, whatever its value was (RFC 6298, section 5.7)
abbrev pub timer_behind_lost_syn : Timer
timer_behind_lost_syn = record { value = 3000; smoothed = None }
