use Rattle.book_segments.specs.Bytes.{put4}
use Rattle.ao_kdf.proofs.Columns.{blocks, put4_xor}
use Rattle.ao_kdf.proofs.block.Block.xor.Goals as goal

pub returns : goal.returns
unfolding put4
returns c =
    let a = c.args.self in
    let b = c.args.other in blocks _ _ _ _ _ _ _ _ (put4_xor a.first b.first) (put4_xor a.second b.second) (put4_xor a.third b.third) (put4_xor a.fourth b.fourth)
