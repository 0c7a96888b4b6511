use Rattle.std.proofs.Common.{◌≡◌, ◌++◌, drop}
use Rattle.std.specs.List.{flat_map}
use Rattle.book_sessions.specs.SessionTexts.{passed_line}
use Rattle.scope_sessions.proofs.passed_texts.push_counts.Given as goal

abbrev pub invariant-loop-count : goal.invariant-loop-count
invariant-loop-count l = l.out.items ++ flat_map passed_line (drop l.count-index l.passed) ≡ l.fn.out.items ++ flat_map passed_line l.passed
