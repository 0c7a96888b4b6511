-- What was given of a source that tells its bytes.
use Rattle.std.proofs.Common.{◌≡◌, inl, inr, ℕ, ◌≤◌, List, ◌++◌, length, Option, Some, None, sym, ap, ◌∙◌, arith, length-append}
use Rattle.std.proofs.lemmas.List.{append-nil}
use Rattle.std.specs.Io.KnownBytes.{Consumes}
use Rattle.std.specs.Io.KnownBytes.{IsAtEnd as is_at_end}
use Rattle.ao_base.specs.Outside.{Counts, Rose, Side}
use Rattle.ao_run.specs.Completes.{IsCalm}

-- what was given is all that was told
pub all_given : (before now : Option (List ℕ)) (given text : List ℕ) → Consumes before now given → before ≡ Some text → is_at_end now → given ≡ text
all_given None now given text c told at_end = absurd (cc)
all_given (Some xs) None given text c told at_end = absurd c
all_given (Some xs) (Some ys) given text c told at_end =
    let e : xs ≡ text = cc in
    sym (append-nil given) ∙ (ap (λ (l : List ℕ). given ++ l) (sym at_end) ∙ (sym c ∙ e))

-- no more was given than was told
pub no_more : (before now : Option (List ℕ)) (given text : List ℕ) → Consumes before now given → before ≡ Some text → length given ≤ length text
no_more None now given text c told = absurd (cc)
no_more (Some xs) None given text c told = absurd c
no_more (Some xs) (Some ys) given text c told =
    let e : xs ≡ text = cc in
    let n : length xs ≡ length (given ++ ys) = ap (λ (l : List ℕ). length l) c in
    let m : length xs ≡ length text = ap (λ (l : List ℕ). length l) e in
    omega (arith, n, m, length-append given ys)

-- no fault comes while no more bytes than these go by
pub calm : (n : ℕ) (bytes : List ℕ) (a b : Side) → Counts n a b → n ≤ length bytes → IsCalm bytes a b → Rose a b → ⊥
calm n bytes a b counts few (inl none) rose = none rose
calm n bytes a b counts few (inr x) rose =
    let quiet = counts.quiet x.0 x.1 (omega (arith, few, x.2)) in
    omega (arith, quiet.0, x.3, rose)
