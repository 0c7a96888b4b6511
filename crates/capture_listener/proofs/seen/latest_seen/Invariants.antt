use Rattle.std.proofs.Common.{◌≡◌, drop}
use Rattle.book_sessions.specs.Retiring.{latest_seen}
use Rattle.capture_listener.proofs.seen.latest_seen.Given as goal

abbrev pub invariant-loop-one : goal.invariant-loop-one
invariant-loop-one l = latest_seen l.latest (drop l.one-index l.uses) ≡ latest_seen l.time l.uses
