use Rattle.book_plans.proofs.CalendarLaws.{nothing_turns}
use Rattle.book_plans.proofs.laws.steady_rows_dont_turn.Goals as goal

pub returns : goal.returns
returns c = nothing_turns
