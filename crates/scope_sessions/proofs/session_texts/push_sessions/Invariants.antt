use Rattle.std.proofs.Common.{◌≡◌, ◌++◌, drop}
use Rattle.std.specs.List.{flat_map}
use Rattle.book_sessions.specs.SessionTexts.{lines_of_session}
use Rattle.scope_sessions.proofs.session_texts.push_sessions.Given as goal

abbrev pub invariant-loop-number : goal.invariant-loop-number
invariant-loop-number l = l.out.items ++ flat_map (lines_of_session l.index.uses) (drop l.number-index l.numbers) ≡ l.fn.out.items ++ flat_map (lines_of_session l.index.uses) l.numbers
