use Rattle.book_macs.specs.Ciphers.{sbox}
use Rattle.ao_kdf.proofs.Columns.{mixed_word}
use Rattle.ao_kdf.proofs.block.mixed_column.Goals as goal

pub returns : goal.returns
returns c =
    mixed_word c.products.result c.second_products.result c.third_products.result c.fourth_products.result c.args.key (sbox c.args.a) (sbox c.args.b) (sbox c.args.c) (sbox c.args.d) c.products.ensures c.second_products.ensures c.third_products.ensures c.fourth_products.ensures
