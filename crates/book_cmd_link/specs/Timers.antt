-- Retransmission timers: the arithmetic of RFC 6298 in whole milliseconds, each division rounded
-- down (own). `new_timer`, `sampled` and `expired` are the file's tops.
use Rattle.std.specs.Prelude.{ℕ, ◌+◌, ◌*◌, ◌/◌, min, max, Option, None, Some}
use Rattle.std.specs.Int.{abs_diff}
use Rattle.book_cmd_link.specs.declared.timer.Timer.{Timer}
use Rattle.book_cmd_link.specs.declared.timer.Smoothed.{Smoothed}

-- the least value of a timer, one second (RFC 6298, section 2.4)
abbrev pub least_value : ℕ
least_value = 1000

-- the greatest value of a timer, one minute (RFC 6298, section 2.5)
abbrev pub greatest_value : ℕ
greatest_value = 60000

-- the granularity G of the clock, which shows whole seconds (RFC 6298, section 2; own)
abbrev pub granularity : ℕ
granularity = 1000

-- a value kept within its bounds (RFC 6298, sections 2.4 and 2.5)
abbrev pub bounded : ℕ → ℕ
bounded value = min (max value least_value) greatest_value

-- the timer before any sample has the value of one second (RFC 6298, section 2.1)
abbrev pub new_timer : Timer
new_timer = record { value = least_value; smoothed = None }

-- what a round-trip time makes of the smoothed ones: the first is SRTT, and its half RTTVAR (RFC
-- 6298, section 2.2); a later one counts for an eighth of SRTT, and its distance from the old SRTT
-- for a quarter of RTTVAR (section 2.3)
abbrev pub smoothed_with : Option Smoothed → ℕ → Smoothed
smoothed_with None r = record { mean = r; variation = r / 2 }
smoothed_with (Some s) r =
    record { mean = (7 * s.mean + r) / 8; variation = (3 * s.variation + abs_diff s.mean r) / 4 }

-- the value of a timer: SRTT plus the greater of G and four times RTTVAR, within its bounds (RFC
-- 6298, sections 2.2 to 2.5)
abbrev pub value_of : Smoothed → ℕ
value_of s = bounded (s.mean + max granularity (4 * s.variation))

-- the timer after a sample of so many seconds, of which more than a day counts as a day (RFC 6298,
-- sections 2.2 and 2.3, and own)
abbrev pub sampled : Timer → ℕ → Timer
sampled t seconds =
    let s = smoothed_with t.smoothed (1000 * min seconds 86400) in
    record { value = value_of s; smoothed = Some s }

-- the timer after it expired: its value is doubled, up to the greatest (RFC 6298, section 5.5)
abbrev pub expired : Timer → Timer
expired t = record { value = min (2 * t.value) greatest_value; smoothed = t.smoothed }
