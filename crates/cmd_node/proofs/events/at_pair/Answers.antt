use Rattle.std.proofs.Common.{sym, refl, ◌∙◌}
use Rattle.std.proofs.lemmas.Result.{IfOk-weaker}
use Rattle.book_endpoint.specs.States.{connected, listening, started}
use Rattle.book_cmd_node.specs.declared.node.Act.TheVariants as act
use Rattle.book_cmd_node.specs.NodeRuns.{most_ends, on_pair}
use Rattle.cmd_node.proofs.StepLaws.{begun_reaches, call_reaches, removed_reaches}
use Rattle.cmd_node.proofs.events.at_pair.Goals as goal

pub returns-in-Open-clause-reached : goal.returns-in-Open-clause-reached
returns-in-Open-clause-reached g c =
    IfOk-weaker c.begun.result _ _
    (λ told begins n S.
    rw c.in-Open.is (begun_reaches c.args.table.now.rows c.args.node.now c.connect.new.self c.args.clock n c.args.pair.now c.args.room.now told c.connect.result
    (connected c.args.pair.now c.in-Open.isn) (on_pair most_ends c.args.table.now.rows n (record { pair = c.args.pair.now; act = (act.Open c.in-Open.isn) })) S
    c.connect.ensures.refused c.connect.ensures.unchanged c.connect.ensures.added begins refl (λ t. refl)))
    c.begun.ensures

pub returns-in-Listen-clause-reached : goal.returns-in-Listen-clause-reached
returns-in-Listen-clause-reached g c =
    IfOk-weaker c.begun-in-Listen.result _ _
    (λ told begins n S.
    rw c.in-Listen.is (begun_reaches c.args.table.now.rows c.args.node.now c.listen.new.self c.args.clock n c.args.pair.now c.args.room.now told c.listen.result
    (listening c.args.pair.now c.in-Listen.isn) (on_pair most_ends c.args.table.now.rows n (record { pair = c.args.pair.now; act = (act.Listen c.in-Listen.isn) })) S
    c.listen.ensures.refused c.listen.ensures.unchanged c.listen.ensures.added begins refl (λ t. refl)))
    c.begun-in-Listen.ensures

pub returns-in-Start-clause-reached : goal.returns-in-Start-clause-reached
returns-in-Start-clause-reached g c =
    IfOk-weaker c.begun-in-Start.result _ _
    (λ told begins n S.
    rw c.in-Start.is (begun_reaches c.args.table.now.rows c.args.node.now c.start.new.self c.args.clock n c.args.pair.now c.args.room.now told c.start.result
    (started c.args.pair.now c.in-Start.isn c.in-Start.peer) (on_pair most_ends c.args.table.now.rows n (record { pair = c.args.pair.now; act = (act.Start c.in-Start.isn c.in-Start.peer) })) S
    c.start.ensures.refused c.start.ensures.unchanged c.start.ensures.added begins refl (λ t. refl)))
    c.begun-in-Start.ensures

pub returns-then-remove-clause-reached : goal.returns-then-remove-clause-reached
returns-then-remove-clause-reached g c = λ n S.
    rw c.in-Remove.is (removed_reaches c.args.table.now.rows c.args.node.now c.remove.new.self c.args.clock n c.args.pair.now c.args.room.now S
    (sym c.remove.ensures.held ∙ c.if-remove.true) c.remove.ensures.removed)

pub returns-in-Give-clause-reached : goal.returns-in-Give-clause-reached
returns-in-Give-clause-reached g c =
    call_reaches c.call.result c.args.table.now.rows c.args.node.now c.call.new.node c.args.clock c.args.pair.now c.args.act.now c.call.new.room
    (rw c.in-Give.is tt) c.call.ensures.reached

pub returns-in-Take-clause-reached : goal.returns-in-Take-clause-reached
returns-in-Take-clause-reached g c =
    call_reaches c.call-in-Take.result c.args.table.now.rows c.args.node.now c.call-in-Take.new.node c.args.clock c.args.pair.now c.args.act.now c.call-in-Take.new.room
    (rw c.in-Take.is tt) c.call-in-Take.ensures.reached

pub returns-in-Send-clause-reached : goal.returns-in-Send-clause-reached
returns-in-Send-clause-reached g c =
    call_reaches c.call-in-Send.result c.args.table.now.rows c.args.node.now c.call-in-Send.new.node c.args.clock c.args.pair.now c.args.act.now c.call-in-Send.new.room
    (rw c.in-Send.is tt) c.call-in-Send.ensures.reached

pub returns-in-Resend-clause-reached : goal.returns-in-Resend-clause-reached
returns-in-Resend-clause-reached g c =
    call_reaches c.call-in-Resend.result c.args.table.now.rows c.args.node.now c.call-in-Resend.new.node c.args.clock c.args.pair.now c.args.act.now c.call-in-Resend.new.room
    (rw c.in-Resend.is tt) c.call-in-Resend.ensures.reached

pub returns-in-Close-clause-reached : goal.returns-in-Close-clause-reached
returns-in-Close-clause-reached g c =
    call_reaches c.call-in-Close.result c.args.table.now.rows c.args.node.now c.call-in-Close.new.node c.args.clock c.args.pair.now c.args.act.now c.call-in-Close.new.room
    (rw c.in-Close.is tt) c.call-in-Close.ensures.reached

pub returns-in-Abort-clause-reached : goal.returns-in-Abort-clause-reached
returns-in-Abort-clause-reached g c =
    call_reaches c.call-in-Abort.result c.args.table.now.rows c.args.node.now c.call-in-Abort.new.node c.args.clock c.args.pair.now c.args.act.now c.call-in-Abort.new.room
    (rw c.in-Abort.is tt) c.call-in-Abort.ensures.reached
