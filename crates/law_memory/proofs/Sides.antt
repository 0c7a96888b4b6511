-- What was written to a side that was empty.
use Rattle.std.proofs.Common.{◌≡◌, ◌⊎◌, inl, inr, ℕ, suc, zero, ◌≤◌, List, [], ◌∷◌, ◌++◌, length, take, Option, Some, None, refl, ap, ◌∙◌, arith}
use Rattle.std.specs.Io.KnownBytes.{Appends}
use Rattle.ao_base.specs.Outside.{Rose, Side, WasWritten}
use Rattle.ao_run.specs.Obeys.{Offers}

appended : (before now : Option (List ℕ)) (bytes : List ℕ) → Appends before now bytes → before ≡ Some [] → now ≡ Some bytes
appended None now bytes a e = absurd (cc)
appended (Some xs) None bytes a e = absurd a
appended (Some xs) (Some ys) bytes a e = let empty : xs ≡ [] = cc in ap (λ (l : List ℕ). Some l) (a ∙ ap (λ (l : List ℕ). l ++ bytes) empty)

pub written : (bytes : List ℕ) (before now : Side) → WasWritten bytes before now → before.bytes ≡ Some [] → now.bytes ≡ Some bytes
written bytes before now w e = appended before.bytes now.bytes bytes w.bytes e

all_taken : (bytes : List ℕ) (n : ℕ) → length bytes ≤ n → take n bytes ≡ bytes
all_taken [] zero h = refl
all_taken [] (suc n) h = refl
all_taken (b ∷ bs) zero h = absurd (omega arith)
all_taken (b ∷ bs) (suc n) h = ap (λ (l : List ℕ). b ∷ l) (all_taken bs n (omega arith))

offered_by : (text : List ℕ) (before now : Side) (n : ℕ) → WasWritten (take n text) before now → (length text ≤ n) ⊎ Rose before now → before.bytes ≡ Some [] → (Rose before now → ⊥) → now.bytes ≡ Some text
offered_by text before now n w (inl long) e calm = written (take n text) before now w e ∙ ap (λ (l : List ℕ). Some l) (all_taken text n long)
offered_by text before now n w (inr rose) e calm = absurd (calm rose)

pub told : (text : List ℕ) (before now : Side) → Offers text before now → before.bytes ≡ Some [] → (Rose before now → ⊥) → now.bytes ≡ Some text
told text before now o e calm = offered_by text before now o.0 o.1 o.2 e calm
