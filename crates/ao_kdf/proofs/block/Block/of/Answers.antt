use Rattle.std.proofs.Common.{◌∙◌}
use Rattle.ao_kdf.proofs.Columns.{blocks, quarters}
use Rattle.ao_kdf.proofs.block.Block.of.Goals as goal

pub returns : goal.returns
returns c =
    blocks _ _ _ _ _ _ _ _ c.word_at.ensures c.word_at-2.ensures c.word_at-3.ensures c.word_at-4.ensures ∙ quarters c.args.bytes.now c.requires
