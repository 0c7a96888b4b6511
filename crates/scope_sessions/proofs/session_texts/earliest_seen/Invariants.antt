use Rattle.std.proofs.Common.{◌≡◌, drop}
use Rattle.book_sessions.specs.SessionTexts.{earliest_seen}
use Rattle.scope_sessions.proofs.session_texts.earliest_seen.Given as goal

abbrev pub invariant-loop-one : goal.invariant-loop-one
invariant-loop-one l = earliest_seen l.earliest (drop l.one-index l.uses) ≡ earliest_seen l.time l.uses
