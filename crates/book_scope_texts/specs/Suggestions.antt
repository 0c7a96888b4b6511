-- Which known word is meant by an unknown one (own). Its top is `meant_word`.
use Rattle.std.specs.Prelude.{ℕ, zero, suc, ◌==◌, ◌||◌, Bool, true, false, List, [], ◌∷◌, cond}
use Rattle.std.specs.Prelude.{Option, Some, None}
use Rattle.std.specs.List.{find}
use Rattle.std.specs.Option.{option_or}
use Rattle.std.specs.Str.{bytes_eq}

-- two words behind what they begin with in common (own)
pub record Parted : Type 0 where
  pub one : List ℕ
  pub other : List ℕ

-- what is left of two words behind their common beginning (own)
unfoldable pub parted : (one other : List ℕ) → Parted
parted (x ∷ xs) (y ∷ ys) =
    cond (x == y) (parted xs ys) (record { one = x ∷ xs; other = y ∷ ys })
parted [] ys = record { one = []; other = ys }
parted xs [] = record { one = xs; other = [] }

-- a word without its first byte (own)
abbrev pub behind_first : List ℕ → List ℕ
behind_first [] = []
behind_first (x ∷ xs) = xs

-- one word becomes the other by at most so many edits, each of which changes, removes or adds a
-- byte (own)
unfoldable pub is_edit_within : (edits : ℕ) → (one other : List ℕ) → Bool
is_edit_within zero xs ys = bytes_eq xs ys
is_edit_within (suc n) xs ys =
    is_edit_within n (behind_first (parted xs ys).one) (behind_first (parted xs ys).other)
    || (is_edit_within n (parted xs ys).one (behind_first (parted xs ys).other)
    || is_edit_within n (behind_first (parted xs ys).one) (parted xs ys).other)

-- the known word that is meant by another one: the first that is one edit away, else the first that
-- two edits are (own)
unfoldable pub meant_word : (known : List (List ℕ)) → List ℕ → Option (List ℕ)
meant_word known word =
    option_or (find (λ k. is_edit_within 1 word k) known)
    (find (λ k. is_edit_within 2 word k) known)
