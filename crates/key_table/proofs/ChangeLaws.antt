-- Rows by their numbers, added and withdrawn.
use Rattle.std.proofs.Common.{◌≡◌, ◌<◌, ◌≤◌, ℕ, zero, suc, ◌+◌, ◌-◌, ◌==◌, Bool, true, false, List, [], ◌∷◌, length, Option, Some, None, if◌then◌else◌, refl, ap, ◌∙◌, subst, arith, nat_lt, get_or}
use Rattle.std.specs.Prelude.{slice_set, slice_get, is_some}
use Rattle.key_table.specs.Loans.{place_of}
use Rattle.std.specs.List.{find}
use Rattle.book_base.specs.declared.address.Address.{Address}
use Rattle.std.proofs.lemmas.Bool.Decides.{nat_tests}
use Rattle.book_keys.specs.Rows.{Row, Table, has_address}
use Rattle.book_keys.specs.Choices.{Numbered, qualified}
use Rattle.book_keys.specs.Coordination.{numbered}
use Rattle.book_keys.specs.Tables.{disabled, without_row, withdrawn}

-- past the rows there is none of this number
pub numbered_past : (good : Row → Bool) (n number : ℕ) (rows : List Row) → n + length rows ≤ number → numbered good n number rows ≡ None
numbered_past good n number [] h = refl
numbered_past good n number (r ∷ rs) h =
    let differ : (n == number) ≡ false = grind (arith, nat_tests) in
    rw differ (numbered_past good (n + 1) number rs (omega arith))

-- before them neither
pub numbered_before : (good : Row → Bool) (n number : ℕ) (rows : List Row) → number < n → numbered good n number rows ≡ None
numbered_before good n number [] h = refl
numbered_before good n number (r ∷ rs) h =
    let differ : (n == number) ≡ false = grind (arith, nat_tests) in
    rw differ (numbered_before good (n + 1) number rs (omega arith))

-- the row of a number, where it qualifies
pub numbered_at : (good : Row → Bool) (n k : ℕ) (rows : List Row) (d : Row) → k < length rows → numbered good n (n + k) rows ≡ qualified good (n + k) (get_or rows k d)
numbered_at good n k [] d h = absurd (omega arith)
numbered_at good n zero (r ∷ rs) d h =
    let same : (n == (n + 0)) ≡ true = grind (arith, nat_tests) in
    let e : n + 0 ≡ n = omega arith in
    rw same (rw e refl)
numbered_at good n (suc k) (r ∷ rs) d h =
    let differ : (n == (n + suc k)) ≡ false = grind (arith, nat_tests) in
    let e : n + suc k ≡ (n + 1) + k = omega arith in
    rw differ (rw e (numbered_at good (n + 1) k rs d (omega arith)))

is_qualified : (b : Bool) (n : Numbered) → is_some (if b then Some n else None) ≡ b
is_qualified true n = refl
is_qualified false n = refl

-- a row of this number qualifies exactly where the row at its place does
pub numbered_row : (good : Row → Bool) (n : ℕ) (rows : List Row) (d : Row) → 1 ≤ n → n ≤ length rows → is_some (numbered good 1 n rows) ≡ good (get_or rows (n - 1) d)
numbered_row good n rows d low high =
    let e : 1 + (n - 1) ≡ n = omega arith in
    let at = numbered_at good 1 (n - 1) rows d (omega arith) in
    let r : Row = get_or rows (n - 1) d in
    ap is_some (subst (λ (m : ℕ). numbered good 1 m rows ≡ qualified good m r) e at) ∙ is_qualified (good r) (record { number = n; row = r })

pub numbered_none : (good : Row → Bool) (n : ℕ) (rows : List Row) → n ≡ 0 → is_some (numbered good 1 n rows) ≡ false
numbered_none good n rows e = ap is_some (numbered_before good 1 n rows (omega arith))

pub numbered_beyond : (good : Row → Bool) (n : ℕ) (rows : List Row) → length rows < n → is_some (numbered good 1 n rows) ≡ false
numbered_beyond good n rows h = ap is_some (numbered_past good 1 n rows (omega arith))

-- a row withdrawn at its place
pub without_at : (rows : List Row) (k : ℕ) (d : Row) → k < length rows → without_row rows k ≡ slice_set rows k (disabled (get_or rows k d))
without_at [] k d h = absurd (omega arith)
without_at (r ∷ rs) zero d h = refl
without_at (r ∷ rs) (suc k) d h = ap (λ (l : List Row). r ∷ l) (without_at rs k d (omega arith))

taken_if : (b : Bool) (rows : List Row) → b ≡ true → (if b then Some rows else None) ≡ Some rows
taken_if true rows e = refl
taken_if false rows e = absurd (cc)

left_if : (b : Bool) (rows : List Row) → b ≡ false → (if b then Some rows else None) ≡ None
left_if true rows e = absurd (cc)
left_if false rows e = refl

-- the row of a number is withdrawn
pub withdrawn_at : (rows : List Row) (n : ℕ) (d : Row) → 1 ≤ n → n ≤ length rows → withdrawn rows n ≡ Some (slice_set rows (n - 1) (disabled (get_or rows (n - 1) d)))
unfolding withdrawn
withdrawn_at rows zero d low high = absurd (omega arith)
withdrawn_at rows (suc k) d low high =
    let e : suc k - 1 ≡ k = omega arith in
    let t : nat_lt k (length rows) ≡ true = grind (arith, nat_tests) in
    taken_if (nat_lt k (length rows)) (without_row rows k) t ∙ ap Some (rw e (without_at rows k d (omega arith)))

pub withdrawn_none : (rows : List Row) (n : ℕ) → n ≡ 0 → withdrawn rows n ≡ None
unfolding withdrawn
withdrawn_none rows zero e = refl
withdrawn_none rows (suc k) e = absurd (omega arith)

pub withdrawn_beyond : (rows : List Row) (n : ℕ) → length rows < n → withdrawn rows n ≡ None
unfolding withdrawn
withdrawn_beyond rows zero h = refl
withdrawn_beyond rows (suc k) h =
    let t : nat_lt k (length rows) ≡ false = grind (arith, nat_tests) in left_if (nat_lt k (length rows)) (without_row rows k) t

at_first : (b : Bool) (t : Table) (ts : List Table) (i : ℕ) → slice_get (t ∷ ts) (if b then 0 else i + 1) ≡ (if b then Some t else slice_get ts i)
at_first true t ts i = refl
at_first false t ts i = let e : i + 1 ≡ suc i = omega arith in rw e refl

chosen : (b : Bool) (t : Table) (x y : Option Table) → x ≡ y → (if b then Some t else x) ≡ (if b then Some t else y)
chosen b t x y e = rw e refl

-- the table at the first place of an address is the one that is found by it
pub found_at : (address : Address) (ts : List Table) → slice_get ts (place_of address ts) ≡ find (has_address address) ts
found_at address [] = refl
found_at address (t ∷ ts) =
    at_first (has_address address t) t ts (place_of address ts) ∙ chosen (has_address address t) t (slice_get ts (place_of address ts)) (find (has_address address) ts) (found_at address ts)
