use Rattle.std.proofs.Common.{refl}
use Rattle.book_segments.specs.Segments.{reading}
use Rattle.scope_sessions.specs.Counting.{stored_at}
use Rattle.scope_sessions.proofs.Counting.{heard_bad}
use Rattle.scope_sessions.proofs.heard.hear.Goals as goal

pub returns-in-Err-clause-heard : goal.returns-in-Err-clause-heard
returns-in-Err-clause-heard g c = λ k knows.
    let s = stored_at c.args.packet c.args.time c.args.bytes.now in
    heard_bad c.seen_cut.result c.args.listener.now.judging k c.args.listener.now s (reading c.args.bytes.now) c.in-Err.fault c.in-Err.ensures.refused (c.seen_cut.ensures s refl refl refl) knows
