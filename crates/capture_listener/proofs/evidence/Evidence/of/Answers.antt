use Rattle.book_sessions.specs.Retiring.{is_live}
use Rattle.capture_listener.proofs.OwnUses.{filter_keeps}
use Rattle.capture_listener.proofs.evidence.Evidence.of.Goals as goal

pub invariant_of-result : goal.invariant_of-result
invariant_of-result c =
    let uses = c.args.index.now.uses in
    rw c.in_ok-live.ensures (filter_keeps (is_live uses) uses uses c.uses-uses.ensures.one)
