use Rattle.std.proofs.Common.{sym}
use Rattle.book_cmd_link.specs.LinkEvents.{event_named}
use Rattle.link_script.proofs.line_events.named.Goals as goal

pub returns-in_ok-end_alone-in-Resend : goal.returns-in_ok-end_alone-in-Resend
unfolding event_named
returns-in_ok-end_alone-in-Resend c = rw c.in-Resend.is (sym c.in_ok-end_alone-in-Resend.ensures)

pub returns-in_ok-end_alone-in-Close : goal.returns-in_ok-end_alone-in-Close
unfolding event_named
returns-in_ok-end_alone-in-Close c = rw c.in-Close.is (sym c.in_ok-end_alone-in-Close.ensures)

pub returns-in_ok-end_alone-in-Abort : goal.returns-in_ok-end_alone-in-Abort
unfolding event_named
returns-in_ok-end_alone-in-Abort c = rw c.in-Abort.is (sym c.in_ok-end_alone-in-Abort.ensures)
