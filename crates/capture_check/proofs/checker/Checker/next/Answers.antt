use Rattle.std.proofs.Common.{subst, IfOk}
use Rattle.book_cmd_check.specs.Captures.{Heard}
use Rattle.capture_check.specs.Checkers.{Hears}
use Rattle.capture_check.proofs.HearLaws.{unreadable, readable}
use Rattle.capture_check.proofs.checker.Checker.next.Goals as goal

pub returns-in-Err-clause-heard : goal.returns-in-Err-clause-heard
returns-in-Err-clause-heard g c = λ held S. unreadable c.args.self.now.tables c.args.self.now.entries held c.args.time c.args.bytes.now c.in-Err.fault S c.in-Err.ensures.refused

pub returns-in-Ok-clause-heard : goal.returns-in-Ok-clause-heard
returns-in-Ok-clause-heard g c = λ held S.
    let is = readable c.args.self.now.tables held c.args.time c.args.bytes.now c.in-Ok.datagram c.in-Ok.ensures.read in
    subst (λ (h : Heard). IfOk c.hear.result (λ line. Hears c.hear.new.self.entries line h)) is (c.hear.ensures.heard held S)
