-- What is left to send with.
use Rattle.std.proofs.Common.{◌≡◌, ℕ, zero, suc, ◌+◌, ◌-◌, ◌≤◌, ◌<◌, ◌&&◌, ◌||◌, Bool, true, false, not, List, [], ◌∷◌, ◌++◌, length, take, drop, Option, Some, None, inl, inr, refl, sym, ap, ◌∙◌, arith, max, is_some, if◌then◌else◌}
use Rattle.std.specs.Prelude.{IfSome, IfNone}
use Rattle.std.specs.List.{list_all}
use Rattle.std.proofs.lemmas.List.{append-nil, drop_all}
use Rattle.book_base.specs.declared.address.Pair.{Pair}
use Rattle.book_keys.specs.declared.lifetime.Lifetime.{Lifetime}
use Rattle.book_keys.specs.Lifetimes.{is_covered, IsFirstGap}
use Rattle.book_keys.specs.Plans.{first_failing}
use Rattle.book_keys.specs.Rows.{Row, sends_for}
use Rattle.book_keys.proofs.GapLaws.{here_or_later}
use Rattle.book_sessions.specs.Retiring.{contain_rest, leaves_rows, lifetimes_left}

-- ---- the first time that fails

none_fails : (good : ℕ → Bool) (low n : ℕ) → ((t : ℕ) → low ≤ t → t < low + n → good t ≡ true) → is_some (first_failing good low n) ≡ false
none_fails good low zero all = refl
none_fails good low (suc n) all = rw (all low (omega arith) (omega arith)) (none_fails good (low + 1) n (λ t a b. all t (omega arith) (omega arith)))

one_fails : (good : ℕ → Bool) (low n t : ℕ) → low ≤ t → t < low + n → good t ≡ false → is_some (first_failing good low n) ≡ true
one_fails good low zero t a b e = absurd (omega arith)
one_fails good low (suc n) t a b e = at (good low) refl (one_fails good (low + 1) n t)
  where
    at : (x : Bool) → good low ≡ x → (low + 1 ≤ t → t < low + 1 + n → good t ≡ false → is_some (first_failing good (low + 1) n) ≡ true)
        → is_some (if x then first_failing good (low + 1) n else Some low) ≡ true
    at false f more = refl
    at true f more = elim (here_or_later low t a) [
      | inl same ↦ let here : good t ≡ true = rw (← same) f in absurd (cc)
      | inr later ↦ more later (omega arith) e
    ]

rest_by : (ls : List Lifetime) (low high : ℕ) (o : Option ℕ) → IfSome o (IsFirstGap ls low high) → IfNone o ((t : ℕ) → low ≤ t → t ≤ high → is_covered ls t ≡ true)
    → is_some o ≡ is_some (first_failing (is_covered ls) low (high + 1 - low))
rest_by ls low high None some none = sym (none_fails (is_covered ls) low (high + 1 - low) (λ t a b. none t a (omega arith)))
rest_by ls low high (Some time) gap none =
    let above = gap.above in
    let below = gap.below in
    sym (one_fails (is_covered ls) low (high + 1 - low) time above (omega arith) gap.free)

told_otherwise : (some told : Bool) → some ≡ not told → told ≡ not some
told_otherwise some true e = rw e refl
told_otherwise some false e = rw e refl

-- the lifetimes leave no time free
pub rest_told : (ls : List Lifetime) (from low : ℕ) (l : Lifetime) (o : Option ℕ) (told : Bool) → low ≡ max l.first from → is_some o ≡ not told
    → IfSome o (IsFirstGap ls low l.last) → IfNone o ((t : ℕ) → low ≤ t → t ≤ l.last → is_covered ls t ≡ true) → told ≡ contain_rest ls from l
rest_told ls from low l o told is told_is some none =
    told_otherwise (is_some o) told told_is ∙ (ap not (rest_by ls low l.last o some none) ∙ ap (λ (x : ℕ). not (is_some (first_failing (is_covered ls) x (l.last + 1 - x)))) is)

-- ---- the lifetimes that are left

-- once all rows are read, those that were kept are all
pub all_left_kept : (gone : Row → Bool) (kept : List Lifetime) (rows : List Row) (i : ℕ) (pair : Pair) → length rows ≤ i
    → kept ++ lifetimes_left gone (drop i rows) pair ≡ lifetimes_left gone rows pair → kept ≡ lifetimes_left gone rows pair
all_left_kept gone kept rows i pair past so_far = sym (append-nil kept) ∙ (rw (drop_all i rows past) at so_far)

-- what the rows leave, by the lifetimes that were kept
pub rows_by : (gone : Row → Bool) (kept : List Lifetime) (rows : List Row) (pair : Pair) (from : ℕ) (told : Bool) → kept ≡ lifetimes_left gone rows pair
    → told ≡ list_all (λ (r : Row). not (sends_for pair r && gone r) || contain_rest kept from r.sending) rows → told ≡ leaves_rows gone rows pair from
rows_by gone kept rows pair from told is by = by ∙ ap (λ (ls : List Lifetime). list_all (λ (r : Row). not (sends_for pair r && gone r) || contain_rest ls from r.sending) rows) is
