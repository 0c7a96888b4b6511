use Rattle.std.proofs.Common.{◌≡◌, ℕ, ◌-◌, List, [], length}
use Rattle.cmd_check.proofs.Goings.{Going}
use Rattle.cmd_check.proofs.lines.check_all.Given as goal

abbrev pub invariant-lines : goal.invariant-lines
invariant-lines g l =
    (given : List ℕ) × (read : List (List ℕ)) × Going l.fn.judge.checking.tables l.reader l.judge l.number given read (g.I.Source.side l.fn.input) (g.I.Source.side l.input) (g.O.Sink.side l.fn.out) (g.O.Sink.side l.out) × (l.gathered.items ≡ [])

abbrev pub decreases-lines : goal.decreases-lines
decreases-lines g l = 268435456 - (l.reader.taken - length l.reader.kept)
