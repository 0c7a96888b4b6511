-- What holds of every timer, so that no sum of its arithmetic leaves 32 bits.
use Rattle.std.specs.Prelude.{◌≤◌, Option}
use Rattle.std.specs.Option.{ForSome}
use Rattle.book_cmd_link.specs.declared.timer.Timer.{Timer}
use Rattle.book_cmd_link.specs.declared.timer.Smoothed.{Smoothed}

-- neither smoothed time is over a day, in milliseconds
abbrev pub IsWithinADay : Smoothed → Type 0
IsWithinADay s = (s.mean ≤ 86400000) × (s.variation ≤ 86400000)

-- nor is one, where there was a sample
abbrev pub AreWithinADay : Option Smoothed → Type 0
AreWithinADay smoothed = ForSome smoothed IsWithinADay

-- the value is from one second to one minute, in milliseconds
abbrev pub IsTimer : Timer → Type 0
IsTimer t = (1000 ≤ t.value) × (t.value ≤ 60000) × AreWithinADay t.smoothed
