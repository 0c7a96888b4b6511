use Rattle.std.proofs.Common.{refl}
use Rattle.book_segments.specs.Bytes.{put2}
use Rattle.tcp_segment.proofs.spelling.put_options.Goals as goal

pub returns-in-Some-clause-end : goal.returns-in-Some-clause-end
unfolding put2
returns-in-Some-clause-end c = rw (c.put.ensures.end, c.write_u16.ensures, c.in-Some.is) refl

pub returns-in-Some-clause-front : goal.returns-in-Some-clause-front
unfolding put2
returns-in-Some-clause-front c = rw (c.put.ensures.front, c.write_u16.ensures, c.in-Some.is) refl
