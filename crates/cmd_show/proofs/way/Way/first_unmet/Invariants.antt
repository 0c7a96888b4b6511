use Rattle.std.proofs.Common.{◌≡◌, ◌+◌, drop}
use Rattle.book_keys.specs.Plans.{first_unmet, unmet_reason}
use Rattle.cmd_show.proofs.way.Way.first_unmet.Given as goal

abbrev pub invariant-loop-i : goal.invariant-loop-i
invariant-loop-i l =
    first_unmet (unmet_reason l.self.others.now l.self.pair l.self.lead l.self.lag) l.end (l.i + 1) (drop l.i l.self.rows.now)
    ≡ first_unmet (unmet_reason l.self.others.now l.self.pair l.self.lead l.self.lag) l.end 1 l.self.rows.now
