-- Received bytes by number, as a map (RFC 9293, section 3.10.7.4).
use Rattle.std.specs.Prelude.{ℕ, zero, suc, ◌+◌, ◌-◌, min, nat_lt, nat_le, ◌&&◌, Bool, not}
use Rattle.std.specs.Prelude.{List, [], ◌∷◌, slice_get, Option, Some, None, unwrap_or, is_some}
use Rattle.std.specs.Prelude.{if◌then◌else◌}

-- so many bytes from a number on, 0 in place of one that is missing (RFC 9293, section 3.4, and
-- own)
abbrev pub bytes_from : (ℕ → Option ℕ) → (first count : ℕ) → List ℕ
bytes_from m n zero = []
bytes_from m n (suc k) = unwrap_or (m n) 0 ∷ bytes_from m (suc n) k

-- the byte that was kept first, where there is one, else the later one (own)
abbrev pub first_known : (kept later : Option ℕ) → Option ℕ
first_known (Some b) o = Some b
first_known None o = o

-- bytes of a stream, with the number of the first (RFC 9293, section 3.4)
pub record Piece : Type 0 where
  pub number : ℕ
  pub bytes : List ℕ

-- the numbers from low to below high (own)
pub record Interval : Type 0 where
  pub low : ℕ
  pub high : ℕ

-- the received bytes, and of a piece those in the interval whose numbers have no byte yet (RFC
-- 9293, section 3.10.7.4)
unfoldable pub keep : (ℕ → Option ℕ) → Piece → Interval → (place : ℕ) → Option ℕ
keep m piece interval p = first_known (m p)
    (if nat_le interval.low p && nat_lt p interval.high && nat_le piece.number p
    then slice_get piece.bytes (p - piece.number) else None)

-- the first number from p on that has no byte, within so many (RFC 9293, section 3.10.7.4)
abbrev pub first_missing : (ℕ → Option ℕ) → (first count : ℕ) → ℕ
first_missing m p zero = p
first_missing m p (suc k) = if is_some (m p) then first_missing m (suc p) k else p

-- how many separate runs of bytes begin from p on, within so many numbers; `inside` says that the
-- number before p has a byte (own)
abbrev pub runs : (ℕ → Option ℕ) → Bool → (first count : ℕ) → ℕ
runs m inside p zero = 0
runs m inside p (suc k) =
    (if is_some (m p) && not inside then 1 else 0) + runs m (is_some (m p)) (suc p) k

-- the most separate runs of bytes that are kept past the first that is missing (own)
abbrev pub most_runs : ℕ
most_runs = 64

-- a number, but not past the limit, where there is one (own)
abbrev pub below_limit : Option ℕ → ℕ → ℕ
below_limit None high = high
below_limit (Some l) high = min l high
