-- A call of an end that is held. Our own format.
use Rattle.std.specs.Prelude.{ℕ, List}
use Rattle.book_base.specs.declared.address.Pair.{Pair}
use Rattle.book_keys.specs.Rows.{Row}
use Rattle.book_endpoint.specs.States.{EndState, offered, close, abort}
use Rattle.book_endpoint.specs.Emissions.{emit, resend}
use Rattle.book_cmd_node.specs.declared.node.Act.{Act}
use Rattle.book_cmd_node.specs.declared.node.Act.TheVariants as act
use Rattle.book_cmd_node.specs.NodeRuns as book

-- what a call of an end that is held makes of its state, and what it answers; the other acts are no calls
abbrev pub act_on : List Row → Pair → ℕ → EndState → Act → book.Called
act_on rows pair now s (act.Give piece) = offered book.called book.node_offers piece s
act_on rows pair now s (act.Take count) = book.take_called count s
act_on rows pair now s act.Send = book.made_called s book.NothingToSend (emit rows pair now s)
act_on rows pair now s act.Resend = book.made_called s book.NothingToResend (resend rows pair now s)
act_on rows pair now s act.Close = book.called (close s) book.Performed
act_on rows pair now s act.Abort = book.called (abort s) book.Performed
act_on rows pair now s _ = book.called s book.InUse
