use Rattle.std.proofs.Common.{◌≡◌, ◌++◌, drop, filter}
use Rattle.book_sessions.specs.Retiring.{is_live}
use Rattle.capture_listener.proofs.live.live_uses.Given as goal

abbrev pub invariant-loop-one : goal.invariant-loop-one
invariant-loop-one l = l.out.items ++ filter (is_live l.index.uses) (drop l.one-index l.index.uses) ≡ filter (is_live l.index.uses) l.index.uses
