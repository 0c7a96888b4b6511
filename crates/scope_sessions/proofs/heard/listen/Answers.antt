use Rattle.book_sessions.specs.Listening.{listen}
use Rattle.book_segments.specs.Segments.{Read}
use Rattle.scope_sessions.proofs.Counting.{seen_told}
use Rattle.scope_sessions.proofs.heard.listen.Goals as goal

pub returns-clause-seen : goal.returns-clause-seen
returns-clause-seen g c = λ k s knows number time.
    seen_told c.hear.new.self s c.args.datagram.now (listen c.args.listener.now.judging k c.args.time (Read c.args.datagram.now)) c.in_ok-heard.heard c.seen_segment.result
    (c.in_ok-heard.ensures.heard k knows) (c.seen_segment.ensures s number time)

pub returns-clause-knows : goal.returns-clause-knows
returns-clause-knows g c = λ k knows. (c.in_ok-heard.ensures.heard k knows).knows
