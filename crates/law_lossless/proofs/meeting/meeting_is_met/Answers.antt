use Rattle.law_lossless.proofs.MeetingBeginning.{begins_held}
use Rattle.law_lossless.proofs.meeting.meeting_is_met.Goals as goal

pub returns : goal.returns
returns c = begins_held
