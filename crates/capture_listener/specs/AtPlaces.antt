-- What uses at places show, each if there is one at its place (own).
use Rattle.std.specs.Prelude.{Bool, ◌&&◌, ◌||◌, nat_lt, Option, Some, None, if◌then◌else◌}
use Rattle.book_base.specs.declared.address.Socket.{Socket}
use Rattle.book_sessions.specs.declared.retiring.Ending.{Ending}
use Rattle.book_sessions.specs.declared.retiring.Wanting.{Wanting}
use Rattle.book_sessions.specs.declared.uses.KeyUse.{KeyUse}
use Rattle.book_sessions.specs.Retiring.{and_ending, and_wanting, goes_from, is_elsewhere}

-- what a use shows of the ending of another's connection (own)
abbrev pub ending_found : Option KeyUse → (one : KeyUse) → Ending → Ending
ending_found None u e = e
ending_found (Some v) u e = and_ending u v e

-- what a use shows of the way from one socket to another (own)
abbrev pub wanting_found : (KeyUse → Bool) → (source destination : Socket) → Option KeyUse → Wanting → Wanting
wanting_found wants a b None w = w
wanting_found wants a b (Some u) w = if goes_from a b u then and_wanting (wants u) u w else w

-- a use follows another in another connection, or others do (own)
abbrev pub followed_found : Option KeyUse → (one : KeyUse) → (others : Bool) → Bool
followed_found None u others = others
followed_found (Some v) u others = (is_elsewhere u v && nat_lt u.moved v.packet) || others
