use Rattle.std.proofs.Common.{subst}
use Rattle.book_segments.specs.Spelling.{AreBytes}
use Rattle.link_world.proofs.ranges.see_row.Goals as goal

pub returns : goal.returns
returns c = record { recv_id = c.see_byte.ensures; send_id = c.see_byte-2.ensures; master = subst AreBytes c.as_slice.ensures c.see_bytes.ensures }
