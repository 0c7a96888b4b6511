use Rattle.std.proofs.Common.{◌≡◌, ◌≤◌, length, take, refl, rules, arith}
use Rattle.std.proofs.lemmas.List.{length-take-le}
use Rattle.ao_kdf.specs.Block.{halves_bytes}
use Rattle.ao_kdf.proofs.Chains.{ended}
use Rattle.ao_kdf.proofs.cmac_hasher.Cmac.finish_block.Goals as goal

pub returns : goal.returns
returns c = λ key fed h.
    let s = c.args.self in
    let len : length s.held ≡ 16 = search rules in
    let short : length (take s.filled s.held) ≤ 16 = omega (arith, s.within, length-take-le s.filled s.held) in
    rw (c.to_columns.ensures, c.encrypt_halves.ensures key h.keyed, c.xor.ensures, c.closed-last.ensures key h.subkeys)
    (ended key fed (halves_bytes s.state) (take s.filled s.held) _ h.same short refl)
