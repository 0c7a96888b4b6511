-- What is fed to a hasher of an algorithm.
use Rattle.std.specs.Prelude.{ℕ, List}
use Rattle.book_base.specs.declared.algorithm.Algorithm.{Algorithm}
use Rattle.book_base.specs.declared.algorithm.Algorithm.TheVariants.{HmacSha1, AesCmac, HmacSha256}
use Rattle.ao_kdf.specs.Hasher.{StandsForSha1, StandsForSha256}
use Rattle.ao_kdf.specs.CmacHasher as cmac
use Rattle.ao_kdf.specs.declared.hasher.Hasher.{Hasher}
use Rattle.ao_kdf.specs.declared.hasher.Hasher.TheVariants.{Sha1, Cmac, Sha256}

-- the bytes that were fed to a hasher of an algorithm under a key, in whatever pieces (RFC 5926, section 3.2, and own)
abbrev pub StandsFor : Hasher → Algorithm → List ℕ → List ℕ → Type 0
StandsFor (Sha1 h) HmacSha1 key fed = StandsForSha1 h key fed
StandsFor (Cmac h) AesCmac key fed = cmac.StandsFor h key fed
StandsFor (Sha256 h) HmacSha256 key fed = StandsForSha256 h key fed
StandsFor _ _ key fed = ⊥
