use Rattle.std.proofs.Common.{refl}
use Rattle.stack_ends.proofs.SpeakLaws.{costs_of, leaves_of, speaks_of}
use Rattle.stack_ends.proofs.send.speak.Goals as goal

pub returns-clause-speaks : goal.returns-clause-speaks
returns-clause-speaks g c = λ s S.
    let h = c.emit-emission.ensures.emits s S in
    let S' = h.stands in
    speaks_of s c.emit-emission.new.self c.waits-waits.new.end c.args.room.now c.emit-emission.new.out _ _ c.emit-emission.result h (λ T. c.waits-waits.ensures.stands _ T)
    (rw (c.said.ensures, c.front_of-before.ensures s S, c.front_of-after.ensures _ S', c.waits-waits.ensures.waits _ S') refl)

pub returns-clause-room : goal.returns-clause-room
returns-clause-room g c = rw c.said.ensures (leaves_of c.args.room.now c.emit-emission.new.out c.emit-emission.result (λ none. (c.emit-emission.ensures.unchanged none).1))

pub returns-clause-costs : goal.returns-clause-costs
returns-clause-costs g c =
    rw c.said.ensures (costs_of c.args.end.now c.emit-emission.new.self c.emit-emission.result c.args.steps.now c.emit-emission.new.steps c.emit-emission.ensures.costs)
