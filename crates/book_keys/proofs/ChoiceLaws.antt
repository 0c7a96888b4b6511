-- The row that is chosen, by recursion over the rows.
use Rattle.std.proofs.Common.{◌≡◌, ℕ, zero, suc, ◌+◌, ◌-◌, ◌<◌, ◌≤◌, Bool, true, false, List, [], ◌∷◌, length, get_or, Option, Some, None, refl, subst, ltb, cond, arith}
use Rattle.std.specs.List.{All}
use Rattle.std.specs.Option.{option_or}
use Rattle.std.proofs.lemmas.Bool.{ltb-true, ltb-false}
use Rattle.book_keys.specs.Rows.{Row}
use Rattle.book_keys.specs.Choices.{Numbered, later, latest, lowest, IsLatest, IsLowest}

-- what holds of the head and of each of the tail holds of each
pub all_cons : (P : Row → Type 0) (r : Row) (rs : List Row) → P r → All P rs → All P (r ∷ rs)
all_cons P r rs head tail zero d lt = head
all_cons P r rs head tail (suc k) d lt = tail k d (omega arith)

abbrev Fails : (Row → Bool) → Row → Type 0
Fails good s = good s ≡ false

abbrev StartsBy : (Row → Bool) → (Row → ℕ) → ℕ → Row → Type 0
StartsBy good start most s = good s ≡ true → start s ≤ most

-- the row x of these rows, the first of which has number n
record Place (n : ℕ) (rows : List Row) (x : Numbered) : Type 0 where
  index : ℕ
  counted : x.number ≡ n + index
  within : index < length rows
  here : (d : Row) → get_or rows index d ≡ x.row

at_head : (n : ℕ) (r : Row) (rs : List Row) → Place n (r ∷ rs) (record { number = n; row = r })
at_head n r rs = record { index = 0; counted = omega arith; within = omega arith; here = λ d. refl }

in_tail : (n : ℕ) (r : Row) (rs : List Row) (x : Numbered) → Place (n + 1) rs x → Place n (r ∷ rs) x
in_tail n r rs x p = record { index = suc p.index; counted = omega (arith, p.counted); within = omega (arith, p.within); here = p.here }

record Found (good : Row → Bool) (start : Row → ℕ) (n : ℕ) (rows : List Row) (x : Numbered) : Type 0 where
  place : Place n rows x
  qualifies : good x.row ≡ true
  greatest : All (StartsBy good start (start x.row)) rows
  lowest : (k : ℕ) (d : Row) → n + k < x.number → good (get_or rows k d) ≡ true → start (get_or rows k d) < start x.row

module _ (good : Row → Bool) (start : Row → ℕ) (n : ℕ) (r : Row) (rs : List Row) where
  only_head : good r ≡ true → All (Fails good) rs → Found good start n (r ∷ rs) (record { number = n; row = r })
  only_head holds none = record {
    place = at_head n r rs;
    qualifies = holds;
    greatest = all_cons (StartsBy good start (start r)) r rs (λ p. omega arith) (λ k d lt p. let no = none k d lt in absurd (cc));
    lowest = λ k d lt. absurd (omega arith);
  }

  head_stays : (y : Numbered) → good r ≡ true → start y.row ≤ start r → Found good start (n + 1) rs y → Found good start n (r ∷ rs) (record { number = n; row = r })
  head_stays y holds low f = record {
    place = at_head n r rs;
    qualifies = holds;
    greatest = all_cons (StartsBy good start (start r)) r rs (λ p. omega arith) (λ k d lt p. omega (arith, f.greatest k d lt p));
    lowest = λ k d lt. absurd (omega arith);
  }

  before_tail : (y : Numbered) → (good r ≡ true → start r < start y.row) → Found good start (n + 1) rs y → (k : ℕ) (d : Row) → n + k < y.number → good (get_or (r ∷ rs) k d) ≡ true → start (get_or (r ∷ rs) k d) < start y.row
  before_tail y less f zero d lt p = less p
  before_tail y less f (suc k) d lt p = f.lowest k d (omega arith) p

  tail_wins : (y : Numbered) → (good r ≡ true → start r < start y.row) → Found good start (n + 1) rs y → Found good start n (r ∷ rs) y
  tail_wins y less f = record {
    place = in_tail n r rs y f.place;
    qualifies = f.qualifies;
    greatest = all_cons (StartsBy good start (start y.row)) r rs (λ p. omega (arith, less p)) f.greatest;
    lowest = before_tail y less f;
  }

  moved : (y x : Numbered) → Found good start n (r ∷ rs) y → Option.Some y ≡ Some x → Found good start n (r ∷ rs) x
  moved y x f e = let same : y ≡ x = cc in subst (λ (z : Numbered). Found good start n (r ∷ rs) z) same f

  decide : (less : Bool) (y x : Numbered) → ltb (start r) (start y.row) ≡ less → good r ≡ true → Found good start (n + 1) rs y → cond less (Some y) (Some (record { number = n; row = r })) ≡ Some x → Found good start n (r ∷ rs) x
  decide true y x t holds f e = moved y x (tail_wins y (λ _. ltb-true _ _ t) f) e
  decide false y x t holds f e = moved (record { number = n; row = r }) x (head_stays y holds (ltb-false _ _ t) f) e

  join : (b : Bool) (more : Option Numbered) → good r ≡ b → ((y : Numbered) → more ≡ Some y → Found good start (n + 1) rs y) → (more ≡ None → All (Fails good) rs) → (x : Numbered) → later start (cond b (Some (record { number = n; row = r })) None) more ≡ Some x → Found good start n (r ∷ rs) x
  join true None holds some none x e = moved (record { number = n; row = r }) x (only_head holds (none refl)) e
  join true (Some y) holds some none x e = decide (ltb (start r) (start y.row)) y x refl holds (some y refl) e
  join false None holds some none x e = absurd (cc)
  join false (Some y) holds some none x e = moved y x (tail_wins y (λ p. absurd (cc)) (some y refl)) e

  empty : (b : Bool) (more : Option Numbered) → good r ≡ b → (more ≡ None → All (Fails good) rs) → later start (cond b (Some (record { number = n; row = r })) None) more ≡ None → All (Fails good) (r ∷ rs)
  empty true None holds none e = absurd (cc)
  empty true (Some y) holds none e = absurd (unequal (ltb (start r) (start y.row)) y e) where
    unequal : (less : Bool) (y : Numbered) → cond less (Some y) (Some (record { number = n; row = r })) ≡ None → ⊥
    unequal true y e = cc
    unequal false y e = cc
  empty false None holds none e = all_cons (Fails good) r rs holds (none refl)
  empty false (Some y) holds none e = absurd (cc)

pub latest-none : (good : Row → Bool) (start : Row → ℕ) (n : ℕ) (rows : List Row) → latest good start n rows ≡ None → All (Fails good) rows
latest-none good start n [] e = λ k d lt. absurd (omega arith)
latest-none good start n (r ∷ rs) e = empty good start n r rs (good r) (latest good start (n + 1) rs) refl (latest-none good start (n + 1) rs) e

latest-some : (good : Row → Bool) (start : Row → ℕ) (n : ℕ) (rows : List Row) (x : Numbered) → latest good start n rows ≡ Some x → Found good start n rows x
latest-some good start n [] x e = absurd (cc)
latest-some good start n (r ∷ rs) x e = join good start n r rs (good r) (latest good start (n + 1) rs) refl (latest-some good start (n + 1) rs) (latest-none good start (n + 1) rs) x e

pub latest-IsLatest : (good : Row → Bool) (start : Row → ℕ) (rows : List Row) (x : Numbered) → latest good start 1 rows ≡ Some x → IsLatest good start rows x
latest-IsLatest good start rows x e =
    let f = latest-some good start 1 rows x e in
    let i : x.number - 1 ≡ f.place.index = omega (arith, f.place.counted) in
    record {
      low = omega (arith, f.place.counted);
      high = omega (arith, f.place.counted, f.place.within);
      here = λ d. rw i (f.place.here d);
      qualifies = f.qualifies;
      greatest = f.greatest;
      lowest = λ k d lt p. f.lowest k d (omega arith) p;
    }

record First (good : Row → Bool) (n : ℕ) (rows : List Row) (x : Numbered) : Type 0 where
  place : Place n rows x
  qualifies : good x.row ≡ true
  before : (k : ℕ) (d : Row) → n + k < x.number → good (get_or rows k d) ≡ false

module _ (good : Row → Bool) (n : ℕ) (r : Row) (rs : List Row) where
  shifted : (y x : Numbered) → First good n (r ∷ rs) y → Option.Some y ≡ Some x → First good n (r ∷ rs) x
  shifted y x f e = let same : y ≡ x = cc in subst (λ (z : Numbered). First good n (r ∷ rs) z) same f

  not_before : (y : Numbered) → good r ≡ false → First good (n + 1) rs y → (k : ℕ) (d : Row) → n + k < y.number → good (get_or (r ∷ rs) k d) ≡ false
  not_before y fails f zero d lt = fails
  not_before y fails f (suc k) d lt = f.before k d (omega arith)

  first_of_two : (b : Bool) (more : Option Numbered) → good r ≡ b → ((y : Numbered) → more ≡ Some y → First good (n + 1) rs y) → (x : Numbered) → option_or (cond b (Some (record { number = n; row = r })) None) more ≡ Some x → First good n (r ∷ rs) x
  first_of_two true more holds some x e = shifted (record { number = n; row = r }) x (record { place = at_head n r rs; qualifies = holds; before = λ k d lt. absurd (omega arith) }) e
  first_of_two false more holds some x e =
      let f = some x e in
      record { place = in_tail n r rs x f.place; qualifies = f.qualifies; before = not_before x holds f }

  neither : (b : Bool) (more : Option Numbered) → good r ≡ b → (more ≡ None → All (Fails good) rs) → option_or (cond b (Some (record { number = n; row = r })) None) more ≡ None → All (Fails good) (r ∷ rs)
  neither true more holds none e = absurd (cc)
  neither false more holds none e = all_cons (Fails good) r rs holds (none e)

pub lowest-none : (good : Row → Bool) (n : ℕ) (rows : List Row) → lowest good n rows ≡ None → All (Fails good) rows
lowest-none good n [] e = λ k d lt. absurd (omega arith)
lowest-none good n (r ∷ rs) e = neither good n r rs (good r) (lowest good (n + 1) rs) refl (lowest-none good (n + 1) rs) e

lowest-some : (good : Row → Bool) (n : ℕ) (rows : List Row) (x : Numbered) → lowest good n rows ≡ Some x → First good n rows x
lowest-some good n [] x e = absurd (cc)
lowest-some good n (r ∷ rs) x e = first_of_two good n r rs (good r) (lowest good (n + 1) rs) refl (lowest-some good (n + 1) rs) x e

pub lowest-IsLowest : (good : Row → Bool) (rows : List Row) (x : Numbered) → lowest good 1 rows ≡ Some x → IsLowest good rows x
lowest-IsLowest good rows x e =
    let f = lowest-some good 1 rows x e in
    let i : x.number - 1 ≡ f.place.index = omega (arith, f.place.counted) in
    record {
      low = omega (arith, f.place.counted);
      high = omega (arith, f.place.counted, f.place.within);
      here = λ d. rw i (f.place.here d);
      qualifies = f.qualifies;
      before = λ k d lt. f.before k d (omega arith);
    }
