use Rattle.book_link.specs.Reports.{summary}
use Rattle.link_report.proofs.TextLaws.{in_three}
use Rattle.link_report.proofs.summary.push_summary.Goals as goal

pub returns : goal.returns
unfolding summary
returns c = λ w a b made forgeries.
    in_three c.args.out.now.items _ _ _ _ _ _ (c.in_ok-push_sessions.ensures w.a a) (c.in_ok-push_sessions-2.ensures w.b b)
    (rw (made, forgeries) at c.in_ok-push_counts.ensures)
