use Rattle.book_macs.proofs.Chains.{padded_whole, cmac_folds}
use Rattle.book_macs.proofs.ciphers.cmac_is_the_chain.Goals as goal

pub returns-clause-whole : goal.returns-clause-whole
returns-clause-whole c = padded_whole

pub returns-clause-chain : goal.returns-clause-chain
returns-clause-chain c = cmac_folds
