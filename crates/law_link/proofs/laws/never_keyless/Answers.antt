use Rattle.book_link.specs.Runs.{run}
use Rattle.law_link.proofs.Gaps.{never_keyless}
use Rattle.law_link.proofs.laws.never_keyless.Goals as goal

pub returns-clause-send : goal.returns-clause-send
returns-clause-send c = λ setup events e h. (never_keyless setup (run setup events) e h).0

pub returns-clause-resend : goal.returns-clause-resend
returns-clause-resend c = λ setup events e h. (never_keyless setup (run setup events) e h).1
