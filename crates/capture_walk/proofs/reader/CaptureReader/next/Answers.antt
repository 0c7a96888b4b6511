use Rattle.capture_walk.proofs.StreamWalking.{some_shown, walks}
use Rattle.capture_walk.proofs.reader.CaptureReader.next.Goals as goal

pub returns-clause-walks : goal.returns-clause-walks
returns-clause-walks g c = λ left is. walks _ _ _ _ c.advance.ensures.0 left _ is c.advance.ensures.1

pub returns-clause-shown : goal.returns-clause-shown
returns-clause-shown g c = some_shown _ _ _ _ c.advance.ensures.0 _ c.advance.ensures.1
