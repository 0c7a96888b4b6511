-- The arrows of a ladder, and those of a run's history. Its tops are `arrows` and `happened`.
use Rattle.std.specs.Prelude.{List, [], ◌∷◌, ◌++◌}
use Rattle.book_base.specs.declared.end.End.{End}
use Rattle.book_endpoint.specs.declared.arrival.Arrival.{Arrival}
use Rattle.book_link.specs.Worlds.{Happening, Making, Coming}
use Rattle.book_draw.specs.declared.rung.Sketch.{Sketch}
use Rattle.book_draw.specs.declared.rung.Rung.{Rung}
use Rattle.book_draw.specs.declared.rung.Rung.TheVariants.{Clock, Made, Came, Call, Turned}
use Rattle.book_draw.specs.Rungs.{sketch_of}

-- an arrow leaves the end that made a segment, or reaches an end, which answers (own)
pub data Arrow : Type 0 where
  Leaves : (maker : End) (sketch : Sketch) → Arrow
  Reaches : (at : End) (answer : Arrival) → Arrow

-- the arrows of rungs (own)
abbrev pub arrows : List Rung → List Arrow
arrows [] = []
arrows (Clock e seconds ∷ rs) = arrows rs
arrows (Made e sketch transmission ∷ rs) = Leaves e sketch ∷ arrows rs
arrows (Came e what answer ∷ rs) = Reaches e answer ∷ arrows rs
arrows (Call e d reply ∷ rs) = arrows rs
arrows (Turned e phase ∷ rs) = arrows rs

-- the arrow of an entry of a history (own)
abbrev pub arrow_of : Happening → Arrow
arrow_of (Making m) = Leaves m.maker (sketch_of m)
arrow_of (Coming c) = Reaches c.at c.answer

-- the arrows of a history, the oldest first (own)
abbrev pub happened : List Happening → List Arrow
happened [] = []
happened (h ∷ past) = happened past ++ arrow_of h ∷ []
