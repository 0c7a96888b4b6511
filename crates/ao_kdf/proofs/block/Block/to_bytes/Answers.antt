use Rattle.book_segments.specs.Bytes.{put4}
use Rattle.ao_kdf.proofs.block.Block.to_bytes.Goals as goal

pub returns : goal.returns
unfolding put4
returns c = rw (c.to_be_bytes.ensures, c.to_be_bytes-2.ensures, c.to_be_bytes-3.ensures, c.to_be_bytes-4.ensures)
