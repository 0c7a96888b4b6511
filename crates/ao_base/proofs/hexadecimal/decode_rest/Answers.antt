use Rattle.std.proofs.Common.{arith}
use Rattle.std.proofs.lemmas.Bool.{ltb-true}
use Rattle.book_base.proofs.HexadecimalLaws.{decoding_on, decoding_done}
use Rattle.ao_base.proofs.hexadecimal.decode_rest.Goals as goal

pub pairs-preserved : goal.pairs-preserved
pairs-preserved c =
    rw (c.max-greatest.ensures, c.max.ensures)
    (decoding_on c.args.word.now c.pairs.bytes c.pairs.i c.pairs.greatest c.digit-high.result c.digit-low.result
    (omega arith) (omega arith) c.digit-high.ensures c.digit-low.ensures c.pairs.invariant)

pub returns-clause-yes : goal.returns-clause-yes
returns-clause-yes c = λ yes.
    decoding_done c.args.word.now c.pairs.bytes c.pairs.i c.pairs.greatest (omega arith) (omega arith) (ltb-true _ _ yes) c.pairs.invariant
