-- Readings one after another, up to the first fault. Our own.
use Rattle.std.specs.Prelude.{Option, Some, None, Result, Ok, Err}

infixl 10 ◌>>=◌
-- one reading after another, up to the first fault (own)
abbrev pub ◌>>=◌ : {A B F : Type 0} → Result A F → (A → Result B F) → Result B F
(Ok x) >>= f = f x
(Err e) >>= f = Err e

-- a value that may be missing, or the fault (own)
abbrev pub or_fault : {A F : Type 0} → Option A → F → Result A F
or_fault (Some x) e = Ok x
or_fault None e = Err e
