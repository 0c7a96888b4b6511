-- The parts of an input, one pushed behind the other.
use Rattle.std.proofs.Common.{append_assoc, ◌≡◌, ℕ, List, ◌++◌}

pub joined : (a b p q r s t : List ℕ) → (((((a ++ b) ++ p) ++ q) ++ r) ++ s) ++ t ≡ (a ++ (b ++ (p ++ (q ++ (r ++ s))))) ++ t
joined a b p q r s t = simp append_assoc
