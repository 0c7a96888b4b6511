use Rattle.link_report.proofs.SummaryLaws.{lines_of_some}
use Rattle.link_report.proofs.TextLaws.{in_two}
use Rattle.link_report.proofs.summary.push_sessions.Goals as goal

pub returns-in_ok-push_session-in-Some : goal.returns-in_ok-push_session-in-Some
returns-in_ok-push_session-in-Some c = λ m h.
    let told = lines_of_some c.args.end c.args.side.now m c.in-Some.live.now c.ended.result c.phase.result c.in-Some.ensures.some
    (record { facts_are = c.ended.ensures; phase_is = rw c.endpoint.ensures at c.phase.ensures }) h in
    in_two c.args.out.now.items _ _ _ _ _ (rw c.dropped-dropped.ensures at c.in_ok-push_dropped-in-Some.ensures)
    (rw (c.dropped-dropped.ensures, c.phase_word-place.ensures) at c.in_ok-push_session-in-Some.ensures) told
