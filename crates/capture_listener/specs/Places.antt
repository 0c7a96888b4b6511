-- Where the uses of a session stand among all of them (own). Its tops: `places_of`, `number_between`.
use Rattle.std.specs.Prelude.{ℕ, suc, ◌+◌, Bool, false, ◌&&◌, ◌||◌, List, [], ◌∷◌}
use Rattle.std.specs.Prelude.{Option, Some, None, option_map, if◌then◌else◌}
use Rattle.std.specs.List.{find, slice_get}
use Rattle.book_base.specs.declared.address.Socket.{Socket}
use Rattle.book_segments.specs.Sockets.{same_socket}
use Rattle.book_sessions.specs.declared.outcome.PassedOver.{PassedOver}
use Rattle.book_sessions.specs.declared.uses.KeyUse.{KeyUse}
use Rattle.book_sessions.specs.declared.uses.PassedCount.{PassedCount}
use Rattle.book_sessions.specs.declared.uses.SeenSegment.{SeenSegment}
use Rattle.book_sessions.specs.Sessions.{greater_of, is_flow_of, is_use_of, same_reason}
use Rattle.book_sessions.specs.SessionTexts.{is_of_session}

-- the places of those of the session of this number, where the first of these uses has place i (own)
abbrev pub places_from : (number i : ℕ) → List KeyUse → List ℕ
places_from n i [] = []
places_from n i (u ∷ us) =
    if is_of_session n u then i ∷ places_from n (suc i) us else places_from n (suc i) us

-- the places of the uses of the session of this number, in order, from 0 (own)
abbrev pub places_of : (number : ℕ) → List KeyUse → List ℕ
places_of n uses = places_from n 0 uses

-- these go between the two sockets, in either direction (own)
abbrev pub is_between : (one other : Socket) → KeyUse → Bool
is_between a b u = (same_socket a u.source && same_socket b u.destination)
    || (same_socket a u.destination && same_socket b u.source)

-- the number of the session between two sockets, if one is known (own)
abbrev pub number_between : (one other : Socket) → List KeyUse → Option ℕ
number_between a b uses = option_map (λ u. u.session) (find (is_between a b) uses)

-- a segment is one of the use at this place (own)
abbrev pub is_use_found : SeenSegment → Option KeyUse → Bool
is_use_found s None = false
is_use_found s (Some u) = is_use_of s u

-- the first of these places at which a segment is one of the use (own)
abbrev pub place_among : SeenSegment → List KeyUse → (places : List ℕ) → Option ℕ
place_among s uses places = find (λ p. is_use_found s (slice_get uses p)) places

-- a use, if there is one, in front of others (own)
abbrev pub and_found : Option KeyUse → List KeyUse → List KeyUse
and_found None us = us
and_found (Some u) us = u ∷ us

-- the uses at these places (own)
abbrev pub uses_at : List KeyUse → (places : List ℕ) → List KeyUse
uses_at uses [] = []
uses_at uses (p ∷ ps) = and_found (slice_get uses p) (uses_at uses ps)

-- the place of a reason, from 0; their number where it isn't among them (own)
abbrev pub place_of_reason : PassedOver → List PassedCount → ℕ
place_of_reason why [] = 0
place_of_reason why (c ∷ cs) = if same_reason why c.why then 0 else place_of_reason why cs + 1

-- how far those at a place came, if they passed in the segment's connection and go its way, and the
-- others (own)
abbrev pub reached_with : SeenSegment → Option KeyUse → Option ℕ → Option ℕ
reached_with s None others = others
reached_with s (Some u) others = if is_flow_of s u then Some (greater_of u.reached others) else others

-- how far the uses at these places came that passed in the segment's connection and go its way (own)
abbrev pub reached_among : SeenSegment → List KeyUse → (places : List ℕ) → Option ℕ
reached_among s uses [] = None
reached_among s uses (p ∷ ps) = reached_with s (slice_get uses p) (reached_among s uses ps)
