use Rattle.std.proofs.Common.{List, [], ◌∷◌}
use Rattle.std.specs.Prelude.{⊤}
use Rattle.std.specs.List.{AllByRecursion}
use Rattle.book_keys.specs.Rows.{Row}
use Rattle.book_keys.proofs.SendingLaws.{chosen, choose_none, choose_exactly}
use Rattle.book_keys.proofs.rollover.chosen_is_sendable.Goals as goal

all_rows : (rows : List Row) → AllByRecursion (λ (r : Row). ⊤) rows
all_rows [] = tt
all_rows (r ∷ rows) = (tt, all_rows rows)

pub returns-clause-some : goal.returns-clause-some
returns-clause-some c = λ current rows pair now s e. let h = chosen (λ (r : Row). ⊤) current rows pair now s (all_rows rows) e in (h.may, h.key_id)

pub returns-clause-none : goal.returns-clause-none
returns-clause-none c = choose_none

pub returns-clause-exactly : goal.returns-clause-exactly
returns-clause-exactly c = choose_exactly
