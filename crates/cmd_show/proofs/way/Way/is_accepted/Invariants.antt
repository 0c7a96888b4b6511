use Rattle.std.proofs.Common.{◌≡◌, drop}
use Rattle.std.specs.List.{list_any}
use Rattle.book_keys.specs.Plans.{accepts_from}
use Rattle.cmd_show.proofs.way.Way.is_accepted.Given as goal

abbrev pub invariant-loop-i : goal.invariant-loop-i
invariant-loop-i l =
    list_any (accepts_from l.self.pair l.row) (drop l.i l.self.others.now) ≡ list_any (accepts_from l.self.pair l.row) l.self.others.now
