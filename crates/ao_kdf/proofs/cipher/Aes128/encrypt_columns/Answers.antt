use Rattle.std.proofs.Common.{sym, ap, ◌∙◌, lit<}
use Rattle.book_macs.specs.Ciphers.{aes_rounds, round_constants}
use Rattle.ao_kdf.specs.Block.{bytes_of}
use Rattle.ao_kdf.specs.Cipher.{key_at}
use Rattle.ao_kdf.proofs.Rounds.{aes_start, aes_round, aes_last}
use Rattle.ao_kdf.proofs.cipher.Aes128.encrypt_columns.Goals as goal

pub returns : goal.returns
returns c = λ key h.
    let cipher = c.args.self.now in
    rw c.last_round.ensures
    (sym (aes_start key _ _ h.first
    ∙ ap (aes_rounds round_constants (key_at cipher.keys 0)) (sym c.xor.ensures)
    ∙ aes_round cipher key 0 _ _ h (lit< tt) c.round.ensures
    ∙ aes_round cipher key 1 _ _ h (lit< tt) c.round-2.ensures
    ∙ aes_round cipher key 2 _ _ h (lit< tt) c.round-3.ensures
    ∙ aes_round cipher key 3 _ _ h (lit< tt) c.round-4.ensures
    ∙ aes_round cipher key 4 _ _ h (lit< tt) c.round-5.ensures
    ∙ aes_round cipher key 5 _ _ h (lit< tt) c.round-6.ensures
    ∙ aes_round cipher key 6 _ _ h (lit< tt) c.round-7.ensures
    ∙ aes_round cipher key 7 _ _ h (lit< tt) c.round-8.ensures
    ∙ aes_round cipher key 8 _ _ h (lit< tt) c.round-9.ensures
    ∙ aes_last (key_at cipher.keys 9) (key_at cipher.keys 10) (bytes_of c.round-9.result) (h.next 9 (lit< tt))))
