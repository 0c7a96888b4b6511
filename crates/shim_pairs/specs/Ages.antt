-- Of two pairs the one of which nothing passed for longer. No public clause cites this file.
use Rattle.std.specs.Prelude.{nat_le, if◌then◌else◌, Option, Some, None}
use Rattle.shim_pairs.specs.declared.eldest.Aged.{Aged}

-- of two ages the lower one, the first where they are equal (own)
abbrev pub keep : Aged → Option Aged → Aged
keep a None = a
keep a (Some b) = if nat_le a.last b.last then a else b

-- the age that is known and another one (own)
abbrev pub next : Option Aged → Aged → Aged
next None b = b
next (Some a) b = keep a (Some b)
