-- What becomes of the segments of a ladder: which come, which come again, and which come late. Its
-- tops are `has_come` and `newest_at`.
use Rattle.std.specs.Prelude.{ℕ, max, ◌==◌, ◌||◌, Bool, false, List, [], ◌∷◌, Option, Some, None}
use Rattle.std.specs.Prelude.{if◌then◌else◌}
use Rattle.book_base.specs.declared.end.End.{End}
use Rattle.book_link.specs.Worlds.{same_end}
use Rattle.book_draw.specs.declared.rung.Brought.{Brought}
use Rattle.book_draw.specs.declared.rung.Brought.TheVariants.{Segment, Altered, Injected}
use Rattle.book_draw.specs.declared.rung.Delivery.{Delivery}
use Rattle.book_draw.specs.declared.rung.Rung.{Rung}
use Rattle.book_draw.specs.declared.rung.Rung.TheVariants.{Clock, Made, Came, Call, Turned}

-- a segment that came as it was made, if it was one that came (own)
abbrev pub delivery_to : End → Brought → Option Delivery
delivery_to e (Segment n) = Some (record { at = e; name = n })
delivery_to e (Altered n) = None
delivery_to e Injected = None

-- the delivery of a segment in a rung, if there is one (own)
abbrev pub delivery_of : Rung → Option Delivery
delivery_of (Clock e seconds) = None
delivery_of (Made e sketch transmission) = None
delivery_of (Came e what answer) = delivery_to e what
delivery_of (Call e d reply) = None
delivery_of (Turned e phase) = None

-- this is the delivery of the segment of this number (own)
abbrev pub brings : ℕ → Option Delivery → Bool
brings n None = false
brings n (Some d) = n == d.name

-- the segment of this number is delivered in these rungs; one that never is was lost (own)
abbrev pub has_come : ℕ → List Rung → Bool
has_come n [] = false
has_come n (r ∷ rs) = brings n (delivery_of r) || has_come n rs

-- the number of the segment that is delivered to this end, 0 where none is (own)
abbrev pub number_come : End → Option Delivery → ℕ
number_come e None = 0
number_come e (Some d) = if same_end d.at e then d.name else 0

-- the greatest number of the segments that are delivered to an end in these rungs, 0 where none is;
-- a segment that comes after one with a greater number comes late (own)
abbrev pub newest_at : End → List Rung → ℕ
newest_at e [] = 0
newest_at e (r ∷ rs) = max (number_come e (delivery_of r)) (newest_at e rs)
