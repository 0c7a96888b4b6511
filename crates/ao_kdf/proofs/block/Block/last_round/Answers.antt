use Rattle.std.proofs.Common.{refl}
use Rattle.book_segments.specs.Bytes.{put4}
use Rattle.book_macs.specs.Ciphers.{sub_shift}
use Rattle.ao_kdf.proofs.Columns.{blocks, xored_with}
use Rattle.ao_kdf.proofs.block.Block.last_round.Goals as goal

pub returns : goal.returns
unfolding put4 sub_shift
returns c =
    rw (
      blocks _ _ _ _ _ _ _ _ (xored_with _ _ _ _ refl c.substituted.ensures) (xored_with _ _ _ _ refl c.substituted-2.ensures) (xored_with _ _ _ _ refl c.substituted-3.ensures) (xored_with _ _ _ _ refl c.substituted-4.ensures),
      c.to_be_bytes.ensures,
      c.to_be_bytes-2.ensures,
      c.to_be_bytes-3.ensures,
      c.to_be_bytes-4.ensures,
    )
