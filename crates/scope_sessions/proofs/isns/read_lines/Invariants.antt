use Rattle.std.proofs.Common.{◌≡◌, [], length}
use Rattle.book_lines.specs.Said.{said_by}
use Rattle.book_sessions.specs.GivenLines.{given_isns_in}
use Rattle.scope_sessions.specs.Given.{given_from}
use Rattle.scope_sessions.proofs.isns.read_lines.Given as goal

abbrev pub invariant-loop-line : goal.invariant-loop-line
invariant-loop-line l = given_from l.given.items (said_by given_isns_in l.lines) ≡ given_from [] (said_by given_isns_in l.fn.lines)

abbrev pub decreases-loop-line : goal.decreases-loop-line
decreases-loop-line l = length l.lines
