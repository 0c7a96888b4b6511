use Rattle.book_bgp.proofs.Spelled.{messages_are_spelled, messages_spelled}
use Rattle.book_bgp.proofs.laws.messages_are_the_greatest.Goals as goal

pub returns-clause-are : goal.returns-clause-are
returns-clause-are c = λ bytes bytes_are. (messages_are_spelled bytes bytes_are).are

pub returns-clause-spelled : goal.returns-clause-spelled
returns-clause-spelled c = λ bytes bytes_are. (messages_are_spelled bytes bytes_are).spelled

pub returns-clause-greatest : goal.returns-clause-greatest
returns-clause-greatest c = messages_spelled
