use Rattle.std.proofs.Common.{refl}
use Rattle.stack_ends.proofs.SpeakLaws.{costs_again, leaves_again, repeats_of}
use Rattle.stack_ends.proofs.send.repeat.Goals as goal

pub returns-clause-speaks : goal.returns-clause-speaks
returns-clause-speaks g c = λ s S.
    let h = c.resend-resent.ensures.resends s S in
    let S' = h.stands in
    repeats_of s c.resend-resent.new.self c.waits-waits.new.end c.args.room.now c.resend-resent.new.out _ _ c.resend-resent.result h (λ T. c.waits-waits.ensures.stands _ T)
    (rw (c.said_again.ensures, c.front_of-before.ensures s S, c.front_of-after.ensures _ S', c.waits-waits.ensures.waits _ S') refl)

pub returns-clause-room : goal.returns-clause-room
returns-clause-room g c = rw c.said_again.ensures (leaves_again c.args.room.now c.resend-resent.new.out c.resend-resent.result (λ none. (c.resend-resent.ensures.unchanged none).1))

pub returns-clause-costs : goal.returns-clause-costs
returns-clause-costs g c =
    rw c.said_again.ensures (costs_again c.args.end.now c.resend-resent.new.self c.resend-resent.result c.args.steps.now c.resend-resent.new.steps c.resend-resent.ensures.costs)
