use Rattle.std.proofs.Common.{arith, refl}
use Rattle.book_base.proofs.HexadecimalLaws.{odd_none}
use Rattle.ao_base.proofs.hexadecimal.read_hex.Goals as goal

pub returns-then-word-ne0-clause-not_hex : goal.returns-then-word-ne0-clause-not_hex
returns-then-word-ne0-clause-not_hex c = (λ _. odd_none c.args.word.now (omega arith), λ _. refl)
