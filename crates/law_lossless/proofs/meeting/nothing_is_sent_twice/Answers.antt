use Rattle.law_lossless.proofs.Once.{sends_once}
use Rattle.law_lossless.proofs.meeting.nothing_is_sent_twice.Goals as goal

pub returns : goal.returns
returns c = sends_once
