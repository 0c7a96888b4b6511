-- A row that isn't met is found exactly where two tables aren't aligned.
use Rattle.std.proofs.Common.{◌≡◌, ℕ, ◌+◌, Bool, true, false, not, ◌&&◌, ◌||◌, List, [], ◌∷◌, Option, Some, None, refl, ap, if◌then◌else◌}
use Rattle.std.specs.Prelude.{option_map}
use Rattle.std.specs.List.{list_any}
use Rattle.std.specs.Option.{option_or}
use Rattle.book_base.specs.declared.address.Pair.{Pair}
use Rattle.book_base.specs.declared.end.End.{End}
use Rattle.book_base.specs.declared.end.End.TheVariants.{A, B}
use Rattle.book_keys.specs.Rows.{Row, sends_for}
use Rattle.book_keys.specs.Plans.{mirrored, accepts_from, outlasts, accepts_throughout, AlignedFrom, Aligned, Reason, NoPeerRow, ShortAccept, Misaligned, misaligned_by, unmet_reason, first_unmet, first_misaligned}

both_none : (one two : Option Misaligned) → option_or one two ≡ None → (one ≡ None) × (two ≡ None)
both_none None two e = (refl, e)
both_none (Some one) two e = absurd (cc)

neither_some : (one two : Option Misaligned) → one ≡ None → two ≡ None → option_or one two ≡ None
neither_some None two e f = f
neither_some (Some one) two e f = absurd (cc)

no_reason : (end : End) (n : ℕ) (o : Option Reason) → option_map (misaligned_by end n) o ≡ None → o ≡ None
no_reason end n None e = refl
no_reason end n (Some x) e = absurd (cc)

-- the reason, by whether a row sends, is accepted, and is accepted throughout
abbrev reason_by : Bool → Bool → Bool → Option Reason
reason_by a b c = if not a then None else (if not b then Some NoPeerRow else (if not c then Some ShortAccept else None))

met : (a b c : Bool) → reason_by a b c ≡ None → a ≡ true → c ≡ true
met true true true e h = refl
met true true false e h = absurd (cc)
met true false c e h = absurd (cc)
met false b c e h = absurd (cc)

without_reason : (a b c : Bool) → (a ≡ true → c ≡ true) → (c ≡ true → b ≡ true) → reason_by a b c ≡ None
without_reason false b c f g = refl
without_reason true b false f g = let no_way = f refl in absurd (cc)
without_reason true true true f g = refl
without_reason true false true f g = let no_way = g refl in absurd (cc)

-- a test that is part of another
any_weaker : (p q : Row → Bool) (rows : List Row) → list_any (λ o. p o && q o) rows ≡ true → list_any p rows ≡ true
any_weaker p q [] e = absurd (cc)
any_weaker p q (r ∷ rs) e = by_test (p r) (q r) (λ f. any_weaker p q rs f) e
  where
    by_test : (b c : Bool) → (list_any (λ o. p o && q o) rs ≡ true → list_any p rs ≡ true) → ((b && c) || list_any (λ o. p o && q o) rs) ≡ true → (b || list_any p rs) ≡ true
    by_test true c more e = refl
    by_test false c more e = more e

none_unmet : (end : End) (n : ℕ) (rows others : List Row) (pair : Pair) (lead lag : ℕ) → first_unmet (unmet_reason others pair lead lag) end n rows ≡ None → AlignedFrom rows others pair lead lag
none_unmet end n [] others pair lead lag e = tt
none_unmet end n (r ∷ rs) others pair lead lag e =
    let t = both_none (option_map (misaligned_by end n) (unmet_reason others pair lead lag r)) (first_unmet (unmet_reason others pair lead lag) end (n + 1) rs) e in (
      met (sends_for pair r) (list_any (accepts_from pair r) others) (list_any (accepts_throughout pair lead lag r) others) (no_reason end n (unmet_reason others pair lead lag r) t.0),
      none_unmet end (n + 1) rs others pair lead lag t.1,
    )

aligned_none : (end : End) (n : ℕ) (rows others : List Row) (pair : Pair) (lead lag : ℕ) → AlignedFrom rows others pair lead lag → first_unmet (unmet_reason others pair lead lag) end n rows ≡ None
aligned_none end n [] others pair lead lag h = refl
aligned_none end n (r ∷ rs) others pair lead lag h =
    let here : unmet_reason others pair lead lag r ≡ None =
    without_reason (sends_for pair r) (list_any (accepts_from pair r) others) (list_any (accepts_throughout pair lead lag r) others) h.0 (any_weaker (accepts_from pair r) (outlasts lead lag r) others) in
    neither_some (option_map (misaligned_by end n) (unmet_reason others pair lead lag r)) (first_unmet (unmet_reason others pair lead lag) end (n + 1) rs)
    (ap (option_map (misaligned_by end n)) here) (aligned_none end (n + 1) rs others pair lead lag h.1)

pub none_misaligned : (a b : List Row) (pair : Pair) (lead lag : ℕ) → first_misaligned a b pair lead lag ≡ None → Aligned a b pair lead lag
unfolding first_misaligned
none_misaligned a b pair lead lag e =
    let t = both_none (first_unmet (unmet_reason b pair lead lag) A 1 a) (first_unmet (unmet_reason a (mirrored pair) lead lag) B 1 b) e in
    (none_unmet A 1 a b pair lead lag t.0, none_unmet B 1 b a (mirrored pair) lead lag t.1)

pub aligned_has_none : (a b : List Row) (pair : Pair) (lead lag : ℕ) → Aligned a b pair lead lag → first_misaligned a b pair lead lag ≡ None
unfolding first_misaligned
aligned_has_none a b pair lead lag h =
    neither_some (first_unmet (unmet_reason b pair lead lag) A 1 a) (first_unmet (unmet_reason a (mirrored pair) lead lag) B 1 b)
    (aligned_none A 1 a b pair lead lag h.0) (aligned_none B 1 b a (mirrored pair) lead lag h.1)
