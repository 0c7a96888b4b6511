use Rattle.book_keys.proofs.GapLaws.{gap_exactly, covered_is_sendable}
use Rattle.book_keys.proofs.rollover.gap_is_least.Goals as goal

pub returns-clause-least : goal.returns-clause-least
returns-clause-least c = gap_exactly

pub returns-clause-covered : goal.returns-clause-covered
returns-clause-covered c = covered_is_sendable
