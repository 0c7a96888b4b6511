-- What a hasher stands for.
use Rattle.std.specs.Prelude.{ℕ, List, ◌++◌}
use Rattle.sha1.specs.Sha1.{Holds, sha1}
use Rattle.sha1.specs.declared.Sha1.{Sha1}
use Rattle.sha2.specs.Hashers.{Holds256}
use Rattle.sha2.specs.Sha256.{sha256}
use Rattle.sha2.specs.declared.Sha256.{Sha256}
use Rattle.book_macs.specs.Hmac.{ipad, opad, xored_key}
use Rattle.ao_kdf.specs.declared.hmac.Hmac.{Hmac}

-- the bytes that were fed to a hasher under a key, in whatever pieces (RFC 2104, section 2)
pub record StandsFor {H : Type 0} {N : ℕ} (Holds : H → List ℕ → Type 0) (hash : List ℕ → List ℕ) (hasher : Hmac H N) (key fed : List ℕ) : Type 0 where
  pub inner : Holds hasher.inner (xored_key hash key ipad ++ fed)
  pub outer : Holds hasher.outer (xored_key hash key opad)

-- a hasher of HMAC-SHA-1
abbrev pub HmacSha1 : Type 0
HmacSha1 = Hmac Sha1 20

-- the bytes that were fed to a hasher of HMAC-SHA-1 (RFC 2104, section 2)
abbrev pub StandsForSha1 : HmacSha1 → List ℕ → List ℕ → Type 0
StandsForSha1 hasher key fed = StandsFor Holds sha1 hasher key fed

-- a hasher of HMAC-SHA-256
abbrev pub HmacSha256 : Type 0
HmacSha256 = Hmac Sha256 32

-- the bytes that were fed to a hasher of HMAC-SHA-256 (RFC 2104, section 2)
abbrev pub StandsForSha256 : HmacSha256 → List ℕ → List ℕ → Type 0
StandsForSha256 hasher key fed = StandsFor Holds256 sha256 hasher key fed
