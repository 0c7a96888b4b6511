use Rattle.std.proofs.Common.{◌≡◌, ◌+◌, ◌<◌, ◌-◌, ◌≤◌, ◌∙◌, ◌++◌, length, take, rules, arith, sym, refl}
use Rattle.std.proofs.lemmas.List.{take_all, take-append-drop}
use Rattle.ao_kdf.specs.Block.{halves_bytes}
use Rattle.book_macs.specs.Ciphers.{aes, xor}
use Rattle.ao_kdf.proofs.Chains.{fed_over, fed_within}
use Rattle.ao_kdf.proofs.cmac_hasher.Cmac.update.Goals as goal

pub returns-then-piece-room : goal.returns-then-piece-room
returns-then-piece-room c = λ key fed h.
    let s = c.args.self.now in
    let piece = c.args.piece.now in
    record {
      keyed = h.keyed;
      subkeys = h.subkeys;
      same = λ more. fed_within key fed piece (take s.filled s.held) _ (halves_bytes s.state) more (h.same (piece ++ more)) c.overlaid-self.ensures;
    }

pub returns : goal.returns
returns c = λ key fed h.
    let s = c.args.self.now in
    let piece = c.args.piece.now in
    let front = c.split_at.result.0.now in
    let rest = c.split_at.result.1.now in
    let block = c.overlaid-block.result in
    let len : length block ≡ 16 = search rules in
    let short : length block ≤ 16 = omega arith in
    let cut : front ++ rest ≡ piece = rw (c.split_at.ensures.front, c.split_at.ensures.back) (take-append-drop (16 - s.filled) piece) in
    let full : s.filled + length front ≡ 16 = omega (arith, s.within, c.split_at.ensures.front_len) in
    let whole : block ≡ take s.filled s.held ++ front = sym (take_all 16 block short) ∙ (rw full at c.overlaid-block.ensures) in
    let some : 0 < length rest = omega (arith, c.split_at.ensures.back_len, c.if-piece-room.false) in
    let none : 0 + length c.absorbed.result.1.now ≡ length c.absorbed.result.1.now = omega arith in
    let last = rw none at c.overlaid-self-2.ensures in
    let chained : halves_bytes c.encrypt_halves-state.result ≡ aes key (xor (halves_bytes s.state) block) = rw (c.encrypt_halves-state.ensures key h.keyed, c.xor.ensures, c.to_halves.ensures, c.of.ensures) refl in
    record {
      keyed = h.keyed;
      subkeys = h.subkeys;
      same = λ more.
          rw last (fed_over key fed piece front rest (take s.filled s.held) block (halves_bytes s.state) more (h.same (piece ++ more)) cut whole len some ∙ (rw chained at (c.absorbed.ensures.same key more h.keyed)));
    }
