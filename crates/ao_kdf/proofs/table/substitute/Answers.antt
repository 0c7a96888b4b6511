use Rattle.book_segments.specs.Bytes.{put4}
use Rattle.ao_kdf.proofs.table.substitute.Goals as goal

pub returns : goal.returns
unfolding put4
returns c = let e = c.products.ensures in cc
