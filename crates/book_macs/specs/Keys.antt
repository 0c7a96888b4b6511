-- The traffic key and the MAC under it: `traffic_key` and `mac` are the file's tops.
use Rattle.std.specs.Prelude.{ℕ, List, [], ◌∷◌, ◌++◌, codes, take}
use Rattle.sha1.specs.Sha1.{sha1}
use Rattle.sha2.specs.Sha256.{sha256}
use Rattle.book_base.specs.Algorithms.{mac_length_of}
use Rattle.book_base.specs.declared.algorithm.Algorithm.{Algorithm}
use Rattle.book_base.specs.declared.algorithm.Algorithm.TheVariants.{HmacSha1, AesCmac, HmacSha256}
use Rattle.book_segments.specs.Bytes.{put2}
use Rattle.book_macs.specs.Hmac.{hmac}
use Rattle.book_macs.specs.Ciphers.{cmac, prf}

-- what the key derivation hashes: a counter of 1, the label, the context, and the output length in
-- bits as two bytes (RFC 5926, section 3.1)
abbrev pub derivation_input : List ℕ → ℕ → List ℕ
derivation_input context bits = 1 ∷ codes "TCP-AO" ++ (context ++ put2 bits [])

-- one step of the key derivation: 160 bits by HMAC-SHA-1, 128 bits by the PRF of AES-CMAC (RFC
-- 5926, section 3.1), 256 bits by HMAC-SHA-256 (own)
abbrev pub derived : Algorithm → (master context : List ℕ) → List ℕ
derived HmacSha1 master context = hmac sha1 master (derivation_input context 0x00a0)
derived AesCmac master context = prf master (derivation_input context 0x0080)
derived HmacSha256 master context = hmac sha256 master (derivation_input context 0x0100)

-- the traffic key of a master key for a context (RFC 5925, section 5.2)
unfoldable pub traffic_key : Algorithm → (master context : List ℕ) → List ℕ
traffic_key algorithm master context = derived algorithm master context

-- the length of a traffic key in bytes (RFC 5926, section 3.1, and own)
abbrev pub key_length : Algorithm → ℕ
key_length HmacSha1 = 20
key_length AesCmac = 16
key_length HmacSha256 = 32

-- the whole MAC of an input: HMAC-SHA-1, AES-CMAC (RFC 5926, section 3.2) or HMAC-SHA-256 (own)
abbrev pub untruncated : Algorithm → (key input : List ℕ) → List ℕ
untruncated HmacSha1 key input = hmac sha1 key input
untruncated AesCmac key input = cmac key input
untruncated HmacSha256 key input = hmac sha256 key input

-- the MAC of an input under a traffic key: the first 96 bits of HMAC-SHA-1 and of AES-CMAC, the
-- first 128 bits of HMAC-SHA-256 (RFC 5926, section 3.2, and own)
unfoldable pub mac : Algorithm → (key input : List ℕ) → List ℕ
mac algorithm key input = take (mac_length_of algorithm) (untruncated algorithm key input)
