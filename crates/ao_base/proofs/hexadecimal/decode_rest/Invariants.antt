use Rattle.book_base.proofs.HexadecimalLaws.{Decoding}
use Rattle.ao_base.proofs.hexadecimal.decode_rest.Given as goal

abbrev pub invariant-pairs : goal.invariant-pairs
invariant-pairs l = Decoding l.word l.bytes l.i l.greatest
