use Rattle.std.proofs.Common.{◌/◌, ◌%◌, ◌^◌}
use Rattle.std.proofs.lemmas.Nat.{xor_shr, xor_mod}
use Rattle.book_segments.specs.Bytes.{put4}
use Rattle.ao_kdf.proofs.Columns.{blocks, put4_xor}
use Rattle.ao_kdf.proofs.block.Halves.xor.Goals as goal

pub returns : goal.returns
unfolding put4
returns c =
    let a = c.args.self in
    let b = c.args.other in
    rw (xor_shr a.high b.high 32, xor_mod a.high b.high 32, xor_shr a.low b.low 32, xor_mod a.low b.low 32)
    (blocks _ _ _ _ _ _ _ _ (put4_xor (a.high / 2 ^ 32) (b.high / 2 ^ 32)) (put4_xor (a.high % 2 ^ 32) (b.high % 2 ^ 32)) (put4_xor (a.low / 2 ^ 32) (b.low / 2 ^ 32)) (put4_xor (a.low % 2 ^ 32) (b.low % 2 ^ 32)))
