use Rattle.std.proofs.Common.{◌≡◌, ◌++◌, drop}
use Rattle.std.specs.List.{flat_map}
use Rattle.book_sessions.specs.SessionTexts.{use_line_in}
use Rattle.scope_sessions.proofs.session_texts.push_uses.Given as goal

abbrev pub invariant-loop-one : goal.invariant-loop-one
invariant-loop-one l = l.out.items ++ flat_map (use_line_in l.number) (drop l.one-index l.uses) ≡ l.fn.out.items ++ flat_map (use_line_in l.number) l.uses
