use Rattle.std.proofs.Common.{◌≡◌, ◌<◌, length, take, replicate, rules, arith}
use Rattle.book_macs.specs.Ciphers.{aes}
use Rattle.std.proofs.lemmas.List.{take_all, length-take-le}
use Rattle.ao_kdf.proofs.Chains.{closed_whole, closed_padded}
use Rattle.ao_kdf.proofs.cmac_hasher.closed.Goals as goal

pub returns-then-filled-eq-BLOCK_LEN : goal.returns-then-filled-eq-BLOCK_LEN
returns-then-filled-eq-BLOCK_LEN c = λ key s.
    let len : length c.args.held ≡ 16 = search rules in
    let whole : take c.args.filled c.args.held ≡ c.args.held = take_all c.args.filled c.args.held (omega arith) in
    rw (c.xor.ensures, c.to_halves.ensures, c.of.ensures, s.whole, whole) (closed_whole (aes key (replicate 16 0)) c.args.held len)

pub returns-else-filled-eq-BLOCK_LEN : goal.returns-else-filled-eq-BLOCK_LEN
returns-else-filled-eq-BLOCK_LEN c = λ key s.
    let len : length c.args.held ≡ 16 = search rules in
    let front : length (take c.args.filled c.args.held) ≡ c.args.filled = length-take-le c.args.filled c.args.held (omega arith) in
    let short : length (take c.args.filled c.args.held) < 16 = omega arith in
    rw (c.xor-else-filled-eq-BLOCK_LEN.ensures, c.to_halves-else-filled-eq-BLOCK_LEN.ensures, c.of-else-filled-eq-BLOCK_LEN.ensures, c.padded.ensures, s.padded)
    (rw front at (closed_padded (aes key (replicate 16 0)) (take c.args.filled c.args.held) short))
