use Rattle.std.proofs.Common.{[]}
use Rattle.ao_kdf.specs.Block.{bytes_of}
use Rattle.ao_kdf.proofs.cmac_hasher.message_code.Goals as goal

pub returns : goal.returns
returns c =
    let key = bytes_of c.args.key in c.finish_block.ensures key c.args.message.now (c.update.ensures key [] c.under-hasher.ensures)
