use Rattle.cmd_link.proofs.TellLaws.{speaks_in_order, tells_messages}
use Rattle.cmd_link.proofs.laws.messages_come_in_order.Goals as goal

pub returns-clause-told : goal.returns-clause-told
returns-clause-told c = λ setup events. tells_messages setup events

pub returns-clause-begins : goal.returns-clause-begins
returns-clause-begins c = λ setup events fits all. speaks_in_order setup events fits all
