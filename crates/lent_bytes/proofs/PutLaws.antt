-- What a place holds after a part of it was written.
use Rattle.std.proofs.Common.{◌≡◌, ℕ, ◌≤◌, List, length, take, ap, ◌∙◌, arith}
use Rattle.lent_bytes.specs.Part.{with_part}
use Rattle.lent_bytes.specs.declared.Room.{Ghosts}
use Rattle.lent_bytes.proofs.PartLaws.{length-with_part, take-with_part}

module _ {B : Type 0} (g : Ghosts B) (s : B) (from to : ℕ) (w : List ℕ) (order : from ≤ to) (fits : to ≤ length (g.bytes s)) where
  -- it keeps its length
  pub length-put : length (g.bytes (g.put s (with_part (g.bytes s) from to w))) ≡ length (g.bytes s)
  length-put = ap length (g.put_bytes s (with_part (g.bytes s) from to w)) ∙ length-with_part (g.bytes s) from to w order fits

  -- what is in front of the part stays
  pub take-put : (n : ℕ) → n ≤ from → take n (g.bytes (g.put s (with_part (g.bytes s) from to w))) ≡ take n (g.bytes s)
  take-put n h = ap (take n) (g.put_bytes s (with_part (g.bytes s) from to w)) ∙ take-with_part (g.bytes s) from to w n h (omega (arith, order, fits))
