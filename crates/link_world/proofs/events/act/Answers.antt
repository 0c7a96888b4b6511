use Rattle.book_link.specs.declared.event.Action.TheVariants as action
use Rattle.link_world.proofs.ActLaws.{quietly}
use Rattle.link_world.proofs.events.act.Goals as goal

pub returns-in-Clock : goal.returns-in-Clock
returns-in-Clock c =
    rw c.in-Clock.is (quietly c.args.end c.args.side.now c.set_clock.new.self c.args.log.now (action.Clock c.in-Clock.seconds) c.set_clock.result c.told.result c.set_clock.ensures.pair c.set_clock.ensures.step c.told.ensures)

pub returns-in-Give : goal.returns-in-Give
returns-in-Give c =
    rw c.in-Give.is (quietly c.args.end c.args.side.now c.give.new.self c.args.log.now (action.Give c.in-Give.piece) c.give.result c.told-in-Give.result c.give.ensures.pair c.give.ensures.step c.told-in-Give.ensures)

pub returns-in_ok-fill-in-Fill : goal.returns-in_ok-fill-in-Fill
returns-in_ok-fill-in-Fill c =
    rw c.in-Fill.is (quietly c.args.end c.args.side.now c.fill.new.self c.args.log.now (action.Fill c.in-Fill.count c.in-Fill.byte) c.in_ok-fill-in-Fill.field-0 c.told-in-Fill.result c.in_ok-fill-in-Fill.ensures.pair c.in_ok-fill-in-Fill.ensures.step c.told-in-Fill.ensures)

pub returns-in_ok-take-in-Take : goal.returns-in_ok-take-in-Take
returns-in_ok-take-in-Take c =
    rw c.in-Take.is (quietly c.args.end c.args.side.now c.take.new.self c.args.log.now (action.Take c.in-Take.count) c.in_ok-take-in-Take.field-0 c.told-in-Take.result c.in_ok-take-in-Take.ensures.pair c.in_ok-take-in-Take.ensures.step c.told-in-Take.ensures)

pub returns-in-Close : goal.returns-in-Close
returns-in-Close c =
    rw c.in-Close.is (quietly c.args.end c.args.side.now c.close.new.self c.args.log.now action.Close c.close.result c.told-in-Close.result c.close.ensures.pair c.close.ensures.step c.told-in-Close.ensures)

pub returns-in-Abort : goal.returns-in-Abort
returns-in-Abort c =
    rw c.in-Abort.is (quietly c.args.end c.args.side.now c.abort.new.self c.args.log.now action.Abort c.abort.result c.told-in-Abort.result c.abort.ensures.pair c.abort.ensures.step c.told-in-Abort.ensures)

pub returns-in_ok-add_row-in-AddRow : goal.returns-in_ok-add_row-in-AddRow
returns-in_ok-add_row-in-AddRow c =
    rw c.in-AddRow.is (quietly c.args.end c.args.side.now c.add_row.new.self c.args.log.now (action.AddRow c.in-AddRow.row) c.in_ok-add_row-in-AddRow.field-0 c.told-in-AddRow.result c.in_ok-add_row-in-AddRow.ensures.pair c.in_ok-add_row-in-AddRow.ensures.step c.told-in-AddRow.ensures)

pub returns-in-Withdraw : goal.returns-in-Withdraw
returns-in-Withdraw c =
    rw c.in-Withdraw.is (quietly c.args.end c.args.side.now c.withdraw.new.self c.args.log.now (action.Withdraw c.in-Withdraw.number) c.withdraw.result c.told-in-Withdraw.result c.withdraw.ensures.pair c.withdraw.ensures.step c.told-in-Withdraw.ensures)
