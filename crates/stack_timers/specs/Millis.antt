-- The timer on a clock that shows milliseconds (RFC 6298, section 2).
use Rattle.std.specs.Prelude.{ℕ, ◌+◌, ◌*◌, max, Some}
use Rattle.book_cmd_link.specs.declared.timer.Smoothed.{Smoothed}
use Rattle.book_cmd_link.specs.declared.timer.Timer.{Timer}
use Rattle.book_cmd_link.specs.Timers.{bounded}

-- the value that smoothed times give: SRTT plus the greater of one millisecond and four times RTTVAR,
-- within its bounds (RFC 6298, sections 2.2 to 2.5)
abbrev pub finer_value : Smoothed → ℕ
finer_value s = bounded (s.mean + max 1 (4 * s.variation))

-- the timer with these smoothed times (own)
abbrev pub with_sample : Smoothed → Timer
with_sample s = record { value = finer_value s; smoothed = Some s }
