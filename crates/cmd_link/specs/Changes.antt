-- What the change that an event made at its end makes of the timer there.
use Rattle.std.specs.Prelude.{◌&&◌, if◌then◌else◌}
use Rattle.book_cmd_link.specs.TimedRuns.{Watch, new_watch, untimed_by, watch_by}
use Rattle.cmd_link.specs.declared.change.Change.{Change}
use Rattle.cmd_link.specs.Watches.{front_seen}

-- a new session has a new timer, and what is sent again isn't timed (RFC 6298, section 3)
abbrev pub changed : Change → Watch → Watch
changed c w =
    let now = watch_by c.reading c.transmission (front_seen c.old) (front_seen c.new) w in
    if c.begins && c.done then new_watch else untimed_by c.transmission c.sent now
