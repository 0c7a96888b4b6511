use Rattle.book_segments.specs.Bytes.{put4}
use Rattle.book_macs.specs.Ciphers.{sub_shift}
use Rattle.ao_kdf.proofs.Columns.{blocks}
use Rattle.ao_kdf.proofs.block.Block.round.Goals as goal

pub returns : goal.returns
unfolding put4 sub_shift
returns c =
    rw (blocks _ _ _ _ _ _ _ _ c.mixed_column.ensures c.mixed_column-2.ensures c.mixed_column-3.ensures c.mixed_column-4.ensures, c.to_be_bytes.ensures, c.to_be_bytes-2.ensures, c.to_be_bytes-3.ensures, c.to_be_bytes-4.ensures)
