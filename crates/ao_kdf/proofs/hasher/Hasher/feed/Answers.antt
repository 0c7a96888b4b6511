use Rattle.ao_kdf.proofs.HasherLaws.{feeds_sha1, feeds_cmac, feeds_sha256}
use Rattle.ao_kdf.proofs.hasher.Hasher.feed.Goals as goal

pub returns-in-Sha1 : goal.returns-in-Sha1
returns-in-Sha1 c = feeds_sha1 _ _ _ _ c.in-Sha1.is c.update.ensures

pub returns-in-Cmac : goal.returns-in-Cmac
returns-in-Cmac c = feeds_cmac _ _ _ _ c.in-Cmac.is c.update-in-Cmac.ensures

pub returns-in-Sha256 : goal.returns-in-Sha256
returns-in-Sha256 c = feeds_sha256 _ _ _ _ c.in-Sha256.is c.update-in-Sha256.ensures
