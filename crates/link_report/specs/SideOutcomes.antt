-- What the answers of an end stand for.
use Rattle.std.specs.Prelude.{◌≡◌}
use Rattle.book_link.specs.Outcomes as book
use Rattle.tcp_endpoint.specs.declared.send.GiveAnswer.{GiveAnswer}
use Rattle.tcp_endpoint.specs.declared.send.GiveAnswer.TheVariants as given
use Rattle.link_report.specs.declared.answer.Answer.{Answer}
use Rattle.link_report.specs.declared.answer.Answer.TheVariants as answer

-- the outcome of an event by which no segment is made and nothing comes
abbrev pub outcome_of : Answer → book.Outcome
outcome_of answer.Done = book.Done
outcome_of answer.IsnUsed = book.IsnUsed
outcome_of answer.NoSession = book.NoSession
outcome_of answer.Full = book.Full
outcome_of answer.Closed = book.HasClosed
outcome_of (answer.Took bytes shown) = book.Took bytes shown
outcome_of (answer.Added row) = book.Added row
outcome_of answer.TooManyRows = book.TooManyRows
outcome_of (answer.Overlap row) = book.OverlapWith row
outcome_of answer.NoRow = book.NoRow

-- the answer where a piece was given, or wasn't
abbrev pub answer_given : GiveAnswer → Answer
answer_given given.Ok = answer.Done
answer_given given.Full = answer.Full
answer_given given.Closed = answer.Closed
