use Rattle.std.proofs.Common.{◌≡◌, drop}
use Rattle.std.specs.List.{list_any}
use Rattle.book_keys.specs.Plans.{accepts_throughout}
use Rattle.cmd_show.proofs.way.Way.is_accepted_throughout.Given as goal

abbrev pub invariant-loop-i : goal.invariant-loop-i
invariant-loop-i l =
    list_any (accepts_throughout l.self.pair l.self.lead l.self.lag l.row) (drop l.i l.self.others.now)
    ≡ list_any (accepts_throughout l.self.pair l.self.lead l.self.lag l.row) l.self.others.now
