use Rattle.std.proofs.Common.{◌≡◌, [], ◌∷◌, refl, arith}
use Rattle.std.specs.Prelude.{bit_xor}
use Rattle.book_segments.specs.Bytes.{put4}
use Rattle.book_macs.specs.Ciphers.{next_key}
use Rattle.ao_kdf.proofs.Columns.{blocks, xored_with, spelt, xor_bytes}
use Rattle.ao_kdf.proofs.block.Block.next_key.Goals as goal

pub returns : goal.returns
unfolding put4 next_key
returns c =
    let head : put4 c.from_be_bytes.result [] ≡ bit_xor c.substitute.result c.args.constant ∷ c.substitute-2.result ∷ c.substitute-3.result ∷ c.substitute-4.result ∷ []
    = rw c.from_be_bytes.ensures (spelt _ _ _ _ (xor_bytes _ _ (omega arith) c.ranges.constant.fits) (omega arith) (omega arith) (omega arith)) in
    let first = xored_with c.args.self.first c.from_be_bytes.result _ _ refl head in
    let second = xored_with c.args.self.second _ _ _ refl first in
    let third = xored_with c.args.self.third _ _ _ refl second in
    let fourth = xored_with c.args.self.fourth _ _ _ refl third in
    rw (blocks _ _ _ _ _ _ _ _ first second third fourth, c.substitute.ensures, c.substitute-2.ensures, c.substitute-3.ensures, c.substitute-4.ensures, c.to_be_bytes.ensures)
