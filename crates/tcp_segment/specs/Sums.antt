-- Checksums over plain sums of words.
use Rattle.std.specs.Prelude.{◌≡◌, ℕ, ◌+◌, ◌-◌, ◌%◌, ◌==◌, ◌<◌, ◌≤◌, List, ◌++◌, length, if◌then◌else◌}
use Rattle.book_segments.specs.Segments.{words_sum}
use Rattle.book_segments.specs.Spelling.{with_checksum, ip_length, addresses_in}

-- the complement of the one's complement sum, for a plain sum (RFC 1071)
abbrev pub complement_at : ℕ → ℕ
complement_at s = if s == 0 then 65535 else (if s % 65535 == 0 then 0 else 65535 - s % 65535)

-- the bytes of an IP header without options and at least 20 TCP bytes (RFC 9293, section 3.1)
pub record HasPlainHeader (b : List ℕ) : Type 0 where
  pub least : ip_length b + 20 ≤ length b
  pub most : length b < ip_length b + 65536

-- the checksum of TCP bytes behind these addresses
abbrev pub checksum_over : List ℕ → List ℕ → ℕ
checksum_over addresses t = complement_at (words_sum addresses + 6 + length t + words_sum (with_checksum t 0))

-- where the bytes are an IP header, TCP bytes and a rest, their TCP checksum was set right and nothing else changed
abbrev pub IsSet : List ℕ → List ℕ → ℕ → ℕ → Type 0
IsSet before after header end =
    (ip t rest : List ℕ) → length ip ≡ header → before ≡ ip ++ (t ++ rest) → end ≡ header + length t → 20 ≤ length t
    → after ≡ ip ++ (with_checksum t (checksum_over (addresses_in before) t) ++ rest)
