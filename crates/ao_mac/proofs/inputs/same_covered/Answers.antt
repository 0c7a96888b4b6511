use Rattle.std.proofs.Common.{ℕ, List, slice_index, ap, arith}
use Rattle.ao_mac.proofs.InputLaws.{decides, same_by_index}
use Rattle.ao_mac.proofs.inputs.same_covered.Goals as goal

pub returns : goal.returns
returns c =
    decides c.same_front.result c.same_front.ensures
    (same_by_index c.args.one.now c.args.other.now c.len-len.result (omega (arith, c.len-len.ensures, c.len.ensures, c.if-len.false)) c.len-len.ensures)
    (λ e k h. ap (λ (l : List ℕ). slice_index l k) e)
