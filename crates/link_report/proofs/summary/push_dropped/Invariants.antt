use Rattle.std.proofs.Common.{◌≡◌, ◌++◌, take, map}
use Rattle.std.specs.Prelude.{reverse}
use Rattle.link_report.specs.Sides.{kept_facts}
use Rattle.link_report.specs.Lines.{kept_lines}
use Rattle.link_report.proofs.summary.push_dropped.Given as goal

abbrev pub invariant-loop-index : goal.invariant-loop-index
invariant-loop-index l = l.out.items ≡ l.initial.out.items ++ kept_lines l.end (reverse (map kept_facts (take l.index l.dropped)))
