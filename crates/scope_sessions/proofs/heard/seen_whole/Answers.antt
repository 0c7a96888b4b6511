use Rattle.std.proofs.Common.{sym, ap, ◌∙◌}
use Rattle.scope_sessions.proofs.Counting.{one_read, seen_off}
use Rattle.scope_sessions.proofs.heard.seen_whole.Goals as goal

pub returns-in-Err : goal.returns-in-Err
returns-in-Err c s d read number time = let impossible = sym c.in-Err.ensures.refused ∙ read in absurd (cc)

pub returns-in-Ok : goal.returns-in-Ok
returns-in-Ok c s d read number time =
    seen_off s c.in-Ok.datagram d c.seen_segment.result (one_read c.in-Ok.datagram d (sym c.in-Ok.ensures.read ∙ read)) (c.seen_segment.ensures s number time)
