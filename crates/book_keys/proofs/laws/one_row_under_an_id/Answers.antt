use Rattle.book_keys.proofs.OverlapLaws.{one_accepts, one_sends}
use Rattle.book_keys.proofs.laws.one_row_under_an_id.Goals as goal

pub returns-clause-acceptable : goal.returns-clause-acceptable
returns-clause-acceptable c = one_accepts

pub returns-clause-sendable : goal.returns-clause-sendable
returns-clause-sendable c = one_sends
