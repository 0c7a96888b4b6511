-- What the check does with the segment whose MAC is in question (RFC 5925, section 7.5).
use Rattle.std.specs.Prelude.{◌≡◌, ◌≢◌, ℕ, Ok}
use Rattle.book_segments.specs.Segments.{pair_reached}
use Rattle.book_endpoint.specs.Verdicts.{Finding}
use Rattle.book_why.specs.Judging.{ComesToItsMac, suspect_finding}
use Rattle.book_why.specs.Recipes.{Suspect, mac_made, recipe_of}
use Rattle.book_why.specs.Sights.{Sight, known_at, suspect_at}

-- the check comes to the MAC of a segment that it sees so, and it isn't the one that the right
-- recipe makes (RFC 5925, section 7.5)
pub record Failing (s : Sight) : Type 0 where
  pub suspect : Suspect
  pub row : ℕ
  pub found : suspect_at s ≡ Ok suspect
  pub comes : ComesToItsMac s.table.rows (pair_reached s.segment) (known_at s) s.now row suspect
  pub differs : suspect.ao.mac ≢ mac_made (recipe_of suspect)

-- the check comes to the MAC of a segment that it sees so, it is the one that the right recipe
-- makes, and this is what it passes with (RFC 5925, section 7.5)
pub record Passing (s : Sight) (p : Finding) : Type 0 where
  pub suspect : Suspect
  pub found : suspect_at s ≡ Ok suspect
  pub comes : ComesToItsMac s.table.rows (pair_reached s.segment) (known_at s) s.now p.row suspect
  pub agrees : suspect.ao.mac ≡ mac_made (recipe_of suspect)
  pub finding : p ≡ suspect_finding p.row suspect
