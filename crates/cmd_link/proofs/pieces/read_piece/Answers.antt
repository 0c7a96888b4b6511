use Rattle.std.proofs.Common.{arith}
use Rattle.cmd_link.proofs.ReadLaws.{loop_on, reads_fault_again, reads_fault_first}
use Rattle.cmd_link.proofs.pieces.read_piece.Goals as goal

pub returns-then-fed-eq0 : goal.returns-then-fed-eq0
returns-then-fed-eq0 c = λ bytes stands small.
    reads_fault_again c.args.place.now c.args.piece.now c.loop.rest.now c.args.out.now.items c.loop.out.items c.args.reader.now c.loop.reader c.feed-fed.new.self c.feed-fed.result
    bytes c.in-Fault.fault c.loop.invariant.0 stands c.feed-fed.ensures.exact c.in-Fault.is c.if-fed-eq0.true c.feed-fed.ensures.reads

pub returns-in-Fault : goal.returns-in-Fault
returns-in-Fault c = λ bytes stands small.
    let some = c.if-fed-eq0.false in
    reads_fault_first c.args.place.now c.args.piece.now c.loop.rest.now c.args.out.now.items c.loop.out.items c.push_fault.new.out.items c.args.reader.now c.loop.reader
    c.feed-fed.new.self c.feed-fed.result bytes c.in-Fault.fault c.loop.invariant.0 stands small c.feed-fed.ensures.exact c.in-Fault.is (omega (arith, some))
    c.feed-fed.ensures.reads (rw c.place.ensures at c.in_ok-push_fault-in-Fault.ensures)

pub loop-preserved : goal.loop-preserved
loop-preserved c =
    loop_on c.args.place.now c.args.piece.now c.loop.rest.now c.args.out.now.items c.loop.out.items c.push_message.new.out.items c.args.reader.now c.loop.reader
    c.feed-fed.new.self c.feed-fed.result c.kind.result c.loop.counter c.body.result.now c.loop.invariant.0 c.loop.invariant.1 c.feed-fed.ensures.exact c.in-Message.is
    c.feed-fed.ensures.reads c.feed-fed.ensures.within c.feed-fed.ensures.used c.kind.ensures c.body.ensures c.in_ok-push_message-in-Message.ensures
