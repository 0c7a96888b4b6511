use Rattle.std.proofs.Common.{◌∙◌}
use Rattle.ao_mac.proofs.FeedLaws.{finishes_sha1, finishes_cmac, finishes_sha256, lasts_sha1, lasts_cmac, lasts_sha256}
use Rattle.ao_mac.proofs.hasher.finish.Goals as goal

pub returns-in-Sha1-clause-mac : goal.returns-in-Sha1-clause-mac
returns-in-Sha1-clause-mac c = λ algorithm key fed s. c.front_of.ensures.bytes ∙ finishes_sha1 _ _ _ c.in-Sha1.is c.finish.ensures algorithm key fed s

pub returns-in-Sha1-clause-length : goal.returns-in-Sha1-clause-length
returns-in-Sha1-clause-length c = lasts_sha1 _ _ _ c.in-Sha1.is c.front_of.ensures.length

pub returns-in-Cmac-clause-mac : goal.returns-in-Cmac-clause-mac
returns-in-Cmac-clause-mac c = λ algorithm key fed s. c.front_of-in-Cmac.ensures.bytes ∙ finishes_cmac _ _ _ c.in-Cmac.is c.finish-in-Cmac.ensures algorithm key fed s

pub returns-in-Cmac-clause-length : goal.returns-in-Cmac-clause-length
returns-in-Cmac-clause-length c = lasts_cmac _ _ _ c.in-Cmac.is c.front_of-in-Cmac.ensures.length

pub returns-in-Sha256-clause-mac : goal.returns-in-Sha256-clause-mac
returns-in-Sha256-clause-mac c = λ algorithm key fed s. c.front_of-in-Sha256.ensures.bytes ∙ finishes_sha256 _ _ _ c.in-Sha256.is c.finish-in-Sha256.ensures algorithm key fed s

pub returns-in-Sha256-clause-length : goal.returns-in-Sha256-clause-length
returns-in-Sha256-clause-length c = lasts_sha256 _ _ _ c.in-Sha256.is c.front_of-in-Sha256.ensures.length
