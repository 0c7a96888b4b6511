-- Pieces that are put one behind the other.
use Rattle.std.proofs.Common.{◌≡◌, ℕ, List, ◌++◌, append_assoc}

-- three pieces, and two, as one
pub put_three : (front a b now p q r x : List ℕ) → p ++ (q ++ r) ≡ x → a ≡ front ++ p → b ≡ a ++ q → now ≡ b ++ r → now ≡ front ++ x
put_three front a b now p q r x e one two three = rw (three, two, one, ← e) (simp append_assoc)

pub put_two : (front a now p q x : List ℕ) → p ++ q ≡ x → a ≡ front ++ p → now ≡ a ++ q → now ≡ front ++ x
put_two front a now p q x e one two = rw (two, one, ← e) (simp append_assoc)
