use Rattle.capture_listener.proofs.CutLaws.{mended_same}
use Rattle.capture_listener.proofs.cut_off.with_checksum.Goals as goal

pub returns-in-None : goal.returns-in-None
returns-in-None c = mended_same c.args.bytes.items (rw c.as_slice.ensures.value at (rw c.in-None.is at c.in_ok-found.ensures))
