use Rattle.book_plans.proofs.FindingLaws.{first_is_lint, none_exactly}
use Rattle.book_plans.proofs.laws.findings_are_of_lint.Goals as goal

pub returns-clause-first : goal.returns-clause-first
returns-clause-first c = first_is_lint

pub returns-clause-none : goal.returns-clause-none
returns-clause-none c = none_exactly
