-- That a picture has an element for each rung.
use Rattle.std.proofs.Common.{◌≡◌, List, [], ◌∷◌, map, refl, ap, ◌∙◌}
use Rattle.book_draw.proofs.Happens.{all_arrows}
use Rattle.book_draw.specs.Arrows.{arrows, happened}
use Rattle.book_draw.specs.declared.rung.Rung.{Rung}
use Rattle.book_draw.specs.Rungs.{rungs}
use Rattle.page_draw_svg.specs.Placements.{placements_from, rung_of_placed, rungs_placed}
use Rattle.book_link.specs.declared.event.Event.{Event}
use Rattle.book_link.specs.Runs.{run}
use Rattle.book_link.specs.Worlds.{Setup}

from_placed : (all earlier rs : List Rung) → map rung_of_placed (placements_from all earlier rs) ≡ rs
from_placed all earlier [] = refl
from_placed all earlier (r ∷ rs) = ap (λ (l : List Rung). r ∷ l) (from_placed all (r ∷ earlier) rs)

pub each_rung : (rs : List Rung) → map rung_of_placed (rungs_placed rs) ≡ rs
each_rung rs = from_placed rs [] rs

pub each_arrow : (setup : Setup) (events : List Event) → arrows (map rung_of_placed (rungs_placed (rungs setup events))) ≡ happened (run setup events).history
each_arrow setup events = ap arrows (each_rung (rungs setup events)) ∙ all_arrows setup events
