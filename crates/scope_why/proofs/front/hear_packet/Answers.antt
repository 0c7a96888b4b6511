use Rattle.scope_why.proofs.front.hear_packet.Goals as goal

pub returns-in-Ok-clause-stands : goal.returns-in-Ok-clause-stands
returns-in-Ok-clause-stands g c = λ b number stands. rw c.in-Ok.is (c.hear_stored.ensures.stands b number stands)
