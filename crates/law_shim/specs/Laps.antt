-- What is handed to a kernel was sealed under the number under which it passed. The file's top:
-- `HasOneNumber`.
use Rattle.std.specs.Prelude.{◌≡◌, ℕ, ◌+◌, ◌<◌, ◌≤◌, ◌^◌, List}
use Rattle.book_base.specs.declared.address.Pair.{Pair}
use Rattle.book_shim.specs.Keeping.{Setting}
use Rattle.book_shim.specs.Arriving.{Opened}
use Rattle.law_shim.specs.Worlds.{Side, Event, run, kept_at}
use Rattle.law_shim.specs.Origins.{IsOriginal}

-- the number after the greatest that an end heard in the connection, after these events (own)
abbrev pub heard_at : Pair → List Event → Side → ℕ
heard_at pair events at = (kept_at (run pair events) at).heard

-- what is handed to the kernel of an end is what the other kernel gave, sealed under the very
-- number under which it passed, which is within 2^31 of the number heard: what has its sequence
-- number, but is of 2^32 or more numbers ago, isn't taken for it (RFC 5925, section 6.2, and own)
pub record HasOneNumber (pair : Pair) (events : List Event) (here : Setting) (at : Side)
    (t : Opened) : Type 0 where
  pub original : IsOriginal pair events here at t
  pub number : t.passed.number ≡ original.sent.number
  pub below : original.sent.number < heard_at pair events at + 2 ^ 31
  pub above : heard_at pair events at ≤ original.sent.number + 2 ^ 31
