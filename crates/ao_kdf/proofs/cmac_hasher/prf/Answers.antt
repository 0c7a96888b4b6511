use Rattle.book_macs.specs.Ciphers.{prf}
use Rattle.ao_kdf.proofs.cmac_hasher.prf.Goals as goal

pub returns : goal.returns
unfolding prf
returns c = rw (c.to_bytes.ensures, c.message_code.ensures, c.fitted.ensures)
