use Rattle.std.proofs.Common.{◌≡◌, drop}
use Rattle.std.specs.List.{find}
use Rattle.book_sessions.specs.SessionTexts.{is_of_session}
use Rattle.scope_sessions.proofs.session_texts.first_of.Given as goal

abbrev pub invariant-loop-one : goal.invariant-loop-one
invariant-loop-one l = find (is_of_session l.number) (drop l.one-index l.uses) ≡ find (is_of_session l.number) l.uses
