-- Algorithms and their names.
use Rattle.std.specs.Prelude.{ℕ, List, Option, Some, None, codes, bytes_eq, if◌then◌else◌}
use Rattle.book_base.specs.declared.algorithm.Algorithm.{Algorithm}
use Rattle.book_base.specs.declared.algorithm.Algorithm.TheVariants.{HmacSha1, AesCmac, HmacSha256}
use Rattle.std.specs.Prelude.{Bool, true, false}

-- the name of an algorithm (RFC 5926, section 3.2, and own)
abbrev pub name_of : Algorithm → List ℕ
name_of HmacSha1 = codes "HMAC-SHA-1-96"
name_of AesCmac = codes "AES-128-CMAC-96"
name_of HmacSha256 = codes "HMAC-SHA-256-128"

-- the algorithm of a name (own)
abbrev pub algorithm_of : List ℕ → Option Algorithm
algorithm_of word =
    if bytes_eq word (name_of HmacSha1) then Some HmacSha1
    else if bytes_eq word (name_of AesCmac) then Some AesCmac
    else if bytes_eq word (name_of HmacSha256) then Some HmacSha256 else None

-- the bytes of a MAC (RFC 5926, section 3.2, and own)
abbrev pub mac_length_of : Algorithm → ℕ
mac_length_of HmacSha1 = 12
mac_length_of AesCmac = 12
mac_length_of HmacSha256 = 16

-- both are the same algorithm (own)
abbrev pub same_algorithm : (one other : Algorithm) → Bool
same_algorithm HmacSha1 HmacSha1 = true
same_algorithm AesCmac AesCmac = true
same_algorithm HmacSha256 HmacSha256 = true
same_algorithm _ _ = false
