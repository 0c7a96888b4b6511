-- The integer that a counter stands for.
use Rattle.std.specs.Prelude.{ℕ, ◌+◌, ◌*◌}
use Rattle.book_segments.specs.Bytes.{ring}
use Rattle.tcp_segment.specs.declared.counter.Counter.{Counter}

-- the extension counts laps of 2^32 (RFC 5925, section 6.2)
abbrev pub number : Counter → ℕ
number c = c.extension * ring + c.low
