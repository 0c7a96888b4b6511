-- What a row is wanted for: to send, or to accept what comes in.
use Rattle.std.specs.Prelude.{ℕ, Bool}
use Rattle.book_base.specs.declared.address.Pair.{Pair}
use Rattle.book_keys.specs.declared.direction.Direction.{Direction}
use Rattle.book_keys.specs.declared.lifetime.Lifetime.{Lifetime}
use Rattle.book_keys.specs.Rows.{Row, receives, sends, sendable, acceptable}
use Rattle.book_keys.specs.Choices.{sendable_as, acceptable_as}
use Rattle.key_table.specs.declared.want.Want.{Want}
use Rattle.key_table.specs.declared.want.Want.TheVariants.{Send, Accept}

-- sendable, or acceptable
abbrev pub usable : Want → Pair → ℕ → Row → Bool
usable Send = sendable
usable Accept = acceptable

-- the same under SendID, or RecvID
abbrev pub usable_as : Want → Pair → ℕ → ℕ → Row → Bool
usable_as Send = sendable_as
usable_as Accept = acceptable_as

-- the lifetime for that use
abbrev pub wanted_lifetime : Want → Row → Lifetime
wanted_lifetime Send r = r.sending
wanted_lifetime Accept r = r.accepting

-- its start
abbrev pub wanted_start : Want → Row → ℕ
wanted_start want r = (wanted_lifetime want r).first

-- the direction allows that use
abbrev pub allows : Want → Direction → Bool
allows Send d = sends d
allows Accept d = receives d

-- the id for that use
abbrev pub wanted_id : Want → Row → ℕ
wanted_id Send r = r.send_id
wanted_id Accept r = r.recv_id
