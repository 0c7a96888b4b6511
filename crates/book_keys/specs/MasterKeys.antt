-- Which bytes are a master key.
use Rattle.std.specs.Prelude.{ℕ, ◌≤◌, ◌&&◌, nat_le, Bool, List, length}

-- how many bytes a master key has at most (own)
abbrev pub longest_master_key : ℕ
longest_master_key = 255

-- bytes are a master key: at least one, and at most 255 (RFC 5925, section 3.1, and RFC 5926,
-- section 3.1, name no length; both bounds are own)
abbrev pub IsMasterKey : List ℕ → Type 0
IsMasterKey bytes = (1 ≤ length bytes) × (length bytes ≤ longest_master_key)

-- the test whether bytes are a master key (own)
abbrev pub is_master_key : List ℕ → Bool
is_master_key bytes = nat_le 1 (length bytes) && nat_le (length bytes) longest_master_key
