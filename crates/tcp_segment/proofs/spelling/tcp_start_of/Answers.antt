use Rattle.std.proofs.Common.{refl}
use Rattle.book_segments.specs.Bytes.{put2, put4}
use Rattle.tcp_segment.proofs.spelling.tcp_start_of.Goals as goal

pub returns-clause-bytes : goal.returns-clause-bytes
unfolding put2 put4
returns-clause-bytes c = rw (c.write_u16-3.ensures, c.write_u32-2.ensures, c.write_u32.ensures, c.write_u16-2.ensures, c.write_u16.ensures) refl
