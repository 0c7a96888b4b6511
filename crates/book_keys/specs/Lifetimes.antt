-- Lifetimes, and the first time that none of them contains.
use Rattle.std.specs.Prelude.{◌≡◌, ℕ, ◌≤◌, ◌<◌, ◌&&◌, nat_le, Bool, false, true, List}
use Rattle.std.specs.List.{list_any}
use Rattle.book_keys.specs.declared.lifetime.Lifetime.{Lifetime}

-- the greatest time that a key file can write: the last second of the year 9999 (own)
abbrev pub greatest_time : ℕ
greatest_time = 253_402_300_799

-- the time is in the lifetime, both ends included (RFC 7210, section 2)
abbrev pub contains : Lifetime → ℕ → Bool
contains l time = nat_le l.first time && nat_le time l.last

-- some of these lifetimes contains the time (RFC 7210, section 2)
abbrev pub is_covered : List Lifetime → ℕ → Bool
is_covered ls time = list_any (λ l. contains l time) ls

-- this is the least time from low to high that none of the lifetimes contains (own)
pub record IsFirstGap (ls : List Lifetime) (low high time : ℕ) : Type 0 where
  pub above : low ≤ time
  pub below : time ≤ high
  pub free : is_covered ls time ≡ false
  pub least : (t : ℕ) → low ≤ t → t < time → is_covered ls t ≡ true
