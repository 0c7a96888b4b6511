-- A hasher of an algorithm goes on as the hasher in it does.
use Rattle.std.proofs.Common.{◌≡◌, ℕ, List, ◌++◌, subst}
use Rattle.book_base.specs.declared.algorithm.Algorithm.{Algorithm}
use Rattle.book_base.specs.declared.algorithm.Algorithm.TheVariants.{HmacSha1, AesCmac, HmacSha256}
use Rattle.ao_kdf.specs.Hasher as hmac_hasher
use Rattle.ao_kdf.specs.declared.cmac_hasher.Cmac as cmac_hasher
use Rattle.ao_kdf.specs.CmacHasher as cmac_fed
use Rattle.ao_kdf.specs.declared.hasher.Hasher.{Hasher}
use Rattle.ao_kdf.specs.declared.hasher.Hasher.TheVariants.{Sha1, Cmac, Sha256}
use Rattle.ao_kdf.specs.Hashers.{StandsFor}

fed_sha1 : (h g : hmac_hasher.HmacSha1) (algorithm : Algorithm) (key fed piece : List ℕ)
    → ((key fed : List ℕ) → hmac_hasher.StandsForSha1 h key fed → hmac_hasher.StandsForSha1 g key (fed ++ piece))
    → StandsFor (Sha1 h) algorithm key fed → StandsFor (Sha1 g) algorithm key (fed ++ piece)
fed_sha1 h g HmacSha1 key fed piece f s = f key fed s
fed_sha1 h g AesCmac key fed piece f s = absurd s
fed_sha1 h g HmacSha256 key fed piece f s = absurd s

pub feeds_sha1 : (old : Hasher) (h g : hmac_hasher.HmacSha1) (piece : List ℕ) → old ≡ Sha1 h
    → ((key fed : List ℕ) → hmac_hasher.StandsForSha1 h key fed → hmac_hasher.StandsForSha1 g key (fed ++ piece))
    → (algorithm : Algorithm) (key fed : List ℕ) → StandsFor old algorithm key fed → StandsFor (Sha1 g) algorithm key (fed ++ piece)
feeds_sha1 old h g piece is f algorithm key fed s = fed_sha1 h g algorithm key fed piece f (subst (λ o. StandsFor o algorithm key fed) is s)

fed_cmac : (h g : cmac_hasher.Cmac) (algorithm : Algorithm) (key fed piece : List ℕ)
    → ((key fed : List ℕ) → cmac_fed.StandsFor h key fed → cmac_fed.StandsFor g key (fed ++ piece))
    → StandsFor (Cmac h) algorithm key fed → StandsFor (Cmac g) algorithm key (fed ++ piece)
fed_cmac h g HmacSha1 key fed piece f s = absurd s
fed_cmac h g AesCmac key fed piece f s = f key fed s
fed_cmac h g HmacSha256 key fed piece f s = absurd s

pub feeds_cmac : (old : Hasher) (h g : cmac_hasher.Cmac) (piece : List ℕ) → old ≡ Cmac h
    → ((key fed : List ℕ) → cmac_fed.StandsFor h key fed → cmac_fed.StandsFor g key (fed ++ piece))
    → (algorithm : Algorithm) (key fed : List ℕ) → StandsFor old algorithm key fed → StandsFor (Cmac g) algorithm key (fed ++ piece)
feeds_cmac old h g piece is f algorithm key fed s = fed_cmac h g algorithm key fed piece f (subst (λ o. StandsFor o algorithm key fed) is s)

fed_sha256 : (h g : hmac_hasher.HmacSha256) (algorithm : Algorithm) (key fed piece : List ℕ)
    → ((key fed : List ℕ) → hmac_hasher.StandsForSha256 h key fed → hmac_hasher.StandsForSha256 g key (fed ++ piece))
    → StandsFor (Sha256 h) algorithm key fed → StandsFor (Sha256 g) algorithm key (fed ++ piece)
fed_sha256 h g HmacSha1 key fed piece f s = absurd s
fed_sha256 h g AesCmac key fed piece f s = absurd s
fed_sha256 h g HmacSha256 key fed piece f s = f key fed s

pub feeds_sha256 : (old : Hasher) (h g : hmac_hasher.HmacSha256) (piece : List ℕ) → old ≡ Sha256 h
    → ((key fed : List ℕ) → hmac_hasher.StandsForSha256 h key fed → hmac_hasher.StandsForSha256 g key (fed ++ piece))
    → (algorithm : Algorithm) (key fed : List ℕ) → StandsFor old algorithm key fed → StandsFor (Sha256 g) algorithm key (fed ++ piece)
feeds_sha256 old h g piece is f algorithm key fed s = fed_sha256 h g algorithm key fed piece f (subst (λ o. StandsFor o algorithm key fed) is s)
