use Rattle.std.proofs.Common.{◌≡◌, List, ℕ, subst}
use Rattle.std.proofs.lemmas.Result.{IfOk-weaker}
use Rattle.tcp_endpoint.specs.Answers.{give_answer, offered}
use Rattle.tcp_endpoint.specs.Ends.{Stands}
use Rattle.cmd_node.proofs.ActLaws.{given_follows, sent_follows, resent_follows}
use Rattle.cmd_node.proofs.acts.act_on.Goals as goal

pub returns-in-Give-clause-acted : goal.returns-in-Give-clause-acted
returns-in-Give-clause-acted g c = λ s S.
    let answer = subst (λ (b : List ℕ). c.give.result ≡ give_answer s b) c.as_slice.ensures (c.give.ensures.answer s S) in
    let stands = subst (λ (b : List ℕ). Stands c.give.new.self (offered b s)) c.as_slice.ensures (c.give.ensures.stands s S) in
    rw (c.in-Give.is, c.told_given.ensures) (given_follows c.in-Give.piece c.args.room.now s c.give.new.self c.give.result answer stands)

pub returns-in-Take-clause-acted : goal.returns-in-Take-clause-acted
returns-in-Take-clause-acted g c =
    IfOk-weaker c.take.result _ _ (λ told took s S. rw c.in-Take.is (took s c.args.room.now S)) c.take.ensures.took

pub returns-in-Send-clause-acted : goal.returns-in-Send-clause-acted
returns-in-Send-clause-acted g c = λ s S.
    rw (c.in-Send.is, c.told_made.ensures) (sent_follows s c.emit.new.self c.args.room.now c.emit.new.out c.emit.result _ (c.emit.ensures.emits s S))

pub returns-in-Resend-clause-acted : goal.returns-in-Resend-clause-acted
returns-in-Resend-clause-acted g c = λ s S.
    rw (c.in-Resend.is, c.told_again.ensures) (resent_follows s c.resend.new.self c.args.room.now c.resend.new.out c.resend.result _ (c.resend.ensures.resends s S))
