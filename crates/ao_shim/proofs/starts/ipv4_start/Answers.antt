use Rattle.std.proofs.Common.{refl}
use Rattle.book_segments.specs.Bytes.{put2}
use Rattle.ao_shim.proofs.starts.ipv4_start.Goals as goal

pub returns : goal.returns
unfolding put2
returns c = rw (c.write_u16-2.ensures, c.write_u16.ensures) refl
