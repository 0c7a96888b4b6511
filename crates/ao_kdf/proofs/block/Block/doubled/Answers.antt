use Rattle.std.proofs.Common.{◌∙◌, arith}
use Rattle.ao_kdf.proofs.Doubling.{shifted, doubled_low, doubled_high}
use Rattle.ao_kdf.proofs.block.Block.doubled.Goals as goal

pub returns-then-self-lt-TOP_BIT : goal.returns-then-self-lt-TOP_BIT
returns-then-self-lt-TOP_BIT c =
    let s = c.args.self in
    shifted s.first s.second s.third s.fourth (omega arith) (omega arith) (omega arith) (omega arith) ∙ doubled_low s.first s.second s.third s.fourth c.if-self-lt-TOP_BIT.true

pub returns-else-self-lt-TOP_BIT : goal.returns-else-self-lt-TOP_BIT
returns-else-self-lt-TOP_BIT c =
    let s = c.args.self in
    rw (c.xor.ensures, shifted s.first s.second s.third s.fourth (omega arith) (omega arith) (omega arith) (omega arith)) (doubled_high s.first s.second s.third s.fourth (omega arith) c.if-self-lt-TOP_BIT.false)
