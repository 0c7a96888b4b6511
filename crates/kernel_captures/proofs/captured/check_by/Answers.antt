use Rattle.std.proofs.Common.{refl}
use Rattle.kernel_captures.proofs.captured.check_by.Goals as goal

pub returns-in-Err : goal.returns-in-Err
returns-in-Err g c = (c.read_all.ensures.0, c.read_all.ensures.1.gave, (refl, refl))
