use Rattle.std.proofs.Common.{sym, ◌∙◌, ◌+◌}
use Rattle.ao_kdf.proofs.Columns.{spelt, four_at}
use Rattle.ao_kdf.proofs.block.word_at.Goals as goal

pub returns : goal.returns
returns c =
    let at = c.args.at in
    let b = c.type_inv.bytes in
    rw (c.from_be_bytes.ensures) (spelt _ _ _ _ (b at).fits (b (at + 1)).fits (b (at + 2)).fits (b (at + 3)).fits ∙ sym (four_at c.args.bytes.now at c.requires))
