use Rattle.std.proofs.Common.{◌++◌}
use Rattle.book_bgp.specs.Messages.{messages, behind}
use Rattle.book_bgp.proofs.Streams.{messages_append, fault_messages, fault_stays}
use Rattle.book_bgp.proofs.laws.messages_of_more_begin_alike.Goals as goal

pub returns-clause-prefix : goal.returns-clause-prefix
returns-clause-prefix c = λ bytes more. (messages (behind bytes ++ more), messages_append bytes more)

pub returns-clause-fault : goal.returns-clause-fault
returns-clause-fault c = λ bytes more fault is. (fault_messages bytes more fault is, fault_stays bytes more fault is)
