use Rattle.std.proofs.Common.{◌≡◌, replicate}
use Rattle.book_macs.specs.Ciphers.{aes}
use Rattle.ao_kdf.specs.Block.{bytes_of}
use Rattle.ao_kdf.proofs.Chains.{zeros}
use Rattle.ao_kdf.proofs.subkeys.Subkeys.of.Goals as goal

pub returns : goal.returns
returns c = λ key h.
    let under : bytes_of c.to_columns-zeros.result ≡ aes key (replicate 16 0) = rw (c.to_columns-zeros.ensures, c.encrypt_halves.ensures key h, c.to_halves.ensures, zeros) in
    record {
      whole = rw (c.to_halves-2.ensures, c.doubled-whole.ensures, under);
      padded = rw (c.to_halves-3.ensures, c.doubled.ensures, c.doubled-whole.ensures, under);
    }
