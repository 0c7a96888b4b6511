-- What a hasher answers is the MAC of what was fed to it, in whatever pieces.
use Rattle.std.proofs.Common.{◌≡◌, ℕ, List, take, ap, subst}
use Rattle.book_base.specs.Algorithms.{mac_length_of}
use Rattle.book_base.specs.declared.algorithm.Algorithm.{Algorithm}
use Rattle.book_base.specs.declared.algorithm.Algorithm.TheVariants.{HmacSha1, AesCmac, HmacSha256}
use Rattle.ao_kdf.specs.Hasher as hmac_hasher
use Rattle.ao_kdf.specs.declared.cmac_hasher.Cmac as cmac_hasher
use Rattle.ao_kdf.specs.CmacHasher as cmac_fed
use Rattle.book_macs.specs.Keys.{untruncated, mac}
use Rattle.ao_kdf.specs.declared.hasher.Hasher.{Hasher}
use Rattle.ao_kdf.specs.declared.hasher.Hasher.TheVariants.{Sha1, Cmac, Sha256}
use Rattle.ao_kdf.specs.Hashers.{StandsFor}

-- ---- the first bytes of the code are the MAC

sha1_mac : (h : hmac_hasher.HmacSha1) (algorithm : Algorithm) (key fed bytes : List ℕ)
    → ((key fed : List ℕ) → hmac_hasher.StandsForSha1 h key fed → bytes ≡ untruncated HmacSha1 key fed) → StandsFor (Sha1 h) algorithm key fed → take 12 bytes ≡ mac algorithm key fed
unfolding mac
sha1_mac h HmacSha1 key fed bytes f s = ap (take 12) (f key fed s)
sha1_mac h AesCmac key fed bytes f s = absurd s
sha1_mac h HmacSha256 key fed bytes f s = absurd s

cmac_mac : (h : cmac_hasher.Cmac) (algorithm : Algorithm) (key fed bytes : List ℕ)
    → ((key fed : List ℕ) → cmac_fed.StandsFor h key fed → bytes ≡ untruncated AesCmac key fed) → StandsFor (Cmac h) algorithm key fed → take 12 bytes ≡ mac algorithm key fed
unfolding mac
cmac_mac h HmacSha1 key fed bytes f s = absurd s
cmac_mac h AesCmac key fed bytes f s = ap (take 12) (f key fed s)
cmac_mac h HmacSha256 key fed bytes f s = absurd s

sha256_mac : (h : hmac_hasher.HmacSha256) (algorithm : Algorithm) (key fed bytes : List ℕ)
    → ((key fed : List ℕ) → hmac_hasher.StandsForSha256 h key fed → bytes ≡ untruncated HmacSha256 key fed) → StandsFor (Sha256 h) algorithm key fed → take 16 bytes ≡ mac algorithm key fed
unfolding mac
sha256_mac h HmacSha1 key fed bytes f s = absurd s
sha256_mac h AesCmac key fed bytes f s = absurd s
sha256_mac h HmacSha256 key fed bytes f s = ap (take 16) (f key fed s)

pub finishes_sha1 : (old : Hasher) (h : hmac_hasher.HmacSha1) (bytes : List ℕ) → old ≡ Sha1 h
    → ((key fed : List ℕ) → hmac_hasher.StandsForSha1 h key fed → bytes ≡ untruncated HmacSha1 key fed)
    → (algorithm : Algorithm) (key fed : List ℕ) → StandsFor old algorithm key fed → take 12 bytes ≡ mac algorithm key fed
finishes_sha1 old h bytes is f algorithm key fed s = sha1_mac h algorithm key fed bytes f (subst (λ o. StandsFor o algorithm key fed) is s)

pub finishes_cmac : (old : Hasher) (h : cmac_hasher.Cmac) (bytes : List ℕ) → old ≡ Cmac h
    → ((key fed : List ℕ) → cmac_fed.StandsFor h key fed → bytes ≡ untruncated AesCmac key fed)
    → (algorithm : Algorithm) (key fed : List ℕ) → StandsFor old algorithm key fed → take 12 bytes ≡ mac algorithm key fed
finishes_cmac old h bytes is f algorithm key fed s = cmac_mac h algorithm key fed bytes f (subst (λ o. StandsFor o algorithm key fed) is s)

pub finishes_sha256 : (old : Hasher) (h : hmac_hasher.HmacSha256) (bytes : List ℕ) → old ≡ Sha256 h
    → ((key fed : List ℕ) → hmac_hasher.StandsForSha256 h key fed → bytes ≡ untruncated HmacSha256 key fed)
    → (algorithm : Algorithm) (key fed : List ℕ) → StandsFor old algorithm key fed → take 16 bytes ≡ mac algorithm key fed
finishes_sha256 old h bytes is f algorithm key fed s = sha256_mac h algorithm key fed bytes f (subst (λ o. StandsFor o algorithm key fed) is s)

-- ---- how long the MAC is

long_sha1 : (h : hmac_hasher.HmacSha1) (algorithm : Algorithm) (key fed : List ℕ) (n : ℕ) → n ≡ 12 → StandsFor (Sha1 h) algorithm key fed → n ≡ mac_length_of algorithm
long_sha1 h HmacSha1 key fed n e s = e
long_sha1 h AesCmac key fed n e s = absurd s
long_sha1 h HmacSha256 key fed n e s = absurd s

long_cmac : (h : cmac_hasher.Cmac) (algorithm : Algorithm) (key fed : List ℕ) (n : ℕ) → n ≡ 12 → StandsFor (Cmac h) algorithm key fed → n ≡ mac_length_of algorithm
long_cmac h HmacSha1 key fed n e s = absurd s
long_cmac h AesCmac key fed n e s = e
long_cmac h HmacSha256 key fed n e s = absurd s

long_sha256 : (h : hmac_hasher.HmacSha256) (algorithm : Algorithm) (key fed : List ℕ) (n : ℕ) → n ≡ 16 → StandsFor (Sha256 h) algorithm key fed → n ≡ mac_length_of algorithm
long_sha256 h HmacSha1 key fed n e s = absurd s
long_sha256 h AesCmac key fed n e s = absurd s
long_sha256 h HmacSha256 key fed n e s = e

pub lasts_sha1 : (old : Hasher) (h : hmac_hasher.HmacSha1) (n : ℕ) → old ≡ Sha1 h → n ≡ 12 → (algorithm : Algorithm) (key fed : List ℕ) → StandsFor old algorithm key fed → n ≡ mac_length_of algorithm
lasts_sha1 old h n is e algorithm key fed s = long_sha1 h algorithm key fed n e (subst (λ o. StandsFor o algorithm key fed) is s)

pub lasts_cmac : (old : Hasher) (h : cmac_hasher.Cmac) (n : ℕ) → old ≡ Cmac h → n ≡ 12 → (algorithm : Algorithm) (key fed : List ℕ) → StandsFor old algorithm key fed → n ≡ mac_length_of algorithm
lasts_cmac old h n is e algorithm key fed s = long_cmac h algorithm key fed n e (subst (λ o. StandsFor o algorithm key fed) is s)

pub lasts_sha256 : (old : Hasher) (h : hmac_hasher.HmacSha256) (n : ℕ) → old ≡ Sha256 h → n ≡ 16 → (algorithm : Algorithm) (key fed : List ℕ) → StandsFor old algorithm key fed → n ≡ mac_length_of algorithm
lasts_sha256 old h n is e algorithm key fed s = long_sha256 h algorithm key fed n e (subst (λ o. StandsFor o algorithm key fed) is s)
