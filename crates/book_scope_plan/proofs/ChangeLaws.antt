-- Where no row begins to be sent with, each end goes on with the one that it had, or has none.
use Rattle.std.proofs.Common.{◌≡◌, ℕ, zero, suc, ◌+◌, ◌-◌, ◌≤◌, ◌<◌, Bool, true, false, ◌||◌, List, [], ◌∷◌, ◌++◌, length, Option, Some, None, inl, inr, ⊎_elim, refl, sym, ap, ◌∙◌, subst, arith}
use Rattle.std.proofs.lemmas.Bool.Decides.{nat_tests}
use Rattle.std.proofs.lemmas.List.Folds.{list_any-append}
use Rattle.std.specs.List.{list_any}
use Rattle.book_base.specs.declared.address.Pair.{Pair}
use Rattle.book_base.specs.declared.end.End.TheVariants.{A, B}
use Rattle.book_plans.specs.declared.turn.Role.TheVariants.{Acceptable, AskedFor, Sendable, SentWith}
use Rattle.book_plans.specs.declared.turn.Turn.{Turn}
use Rattle.book_plans.specs.Calendar.{PlannedEnd, planned, is_number, turn_at, turn_by, role_turn, row_turns, turns_from, turns_after, turns_in}
use Rattle.book_keys.specs.declared.plan.Plan.{Plan}
use Rattle.book_keys.specs.Choices.{Numbered, send_row, send_start}
use Rattle.book_keys.specs.Lookups.{number_of}
use Rattle.book_keys.specs.Plans.{mirrored, rows_at}
use Rattle.book_keys.specs.Rows.{Row, Table, sendable}
use Rattle.book_keys.proofs.ChoiceLaws.{latest-IsLatest}
use Rattle.book_keys.proofs.GapLaws.{here_or_later}
use Rattle.book_scope_plan.specs.PlanTexts.{IsNoOther, begins_sending, changes_key, sent_at}

or_parts : (a b : Bool) → (a || b) ≡ false → (a ≡ false) × (b ≡ false)
or_parts true b h = absurd (cc)
or_parts false b h = (refl, h)

two_parts : (xs ys : List Turn) → list_any begins_sending (xs ++ ys) ≡ false → (list_any begins_sending xs ≡ false) × (list_any begins_sending ys ≡ false)
two_parts xs ys h = or_parts _ _ (sym (list_any-append begins_sending xs ys) ∙ h)

had_before : (before now : Bool) (turn : Bool → Turn) → begins_sending (turn true) ≡ true → list_any begins_sending (turn_by before now turn) ≡ false → now ≡ true → before ≡ true
had_before true now turn begins none is = refl
had_before false true turn begins none is = absurd (cc)
had_before false false turn begins none is = absurd (cc)

is_found : (n : ℕ) (o : Option ℕ) → is_number n o ≡ true → o ≡ Some n
is_found n None h = absurd (cc)
is_found n (Some m) h = let same : m ≡ n = grind (arith, nat_tests) in ap Some same

finds : (n : ℕ) (o : Option ℕ) → o ≡ Some n → is_number n o ≡ true
finds n None h = absurd (cc)
finds n (Some m) h = let same : m ≡ n = cc in grind (arith, nat_tests)

-- an end at a time
abbrev end_sent : PlannedEnd → ℕ → Option ℕ
end_sent e time = sent_at e.rows e.pair time

of_row : (e : PlannedEnd) (time n : ℕ) (r : Row) → list_any begins_sending (row_turns e time n r) ≡ false
    → is_number n (end_sent e (time + 1)) ≡ true → is_number n (end_sent e time) ≡ true
of_row e time n r none is =
    let one = two_parts (role_turn e time n r Acceptable) _ none in
    let two = two_parts (role_turn e time n r AskedFor) _ one.1 in
    let three = two_parts (role_turn e time n r Sendable) _ two.1 in
    had_before (is_number n (end_sent e time)) (is_number n (end_sent e (time + 1))) (turn_at e.end (time + 1) n SentWith) refl three.1 is

of_rows : (e : PlannedEnd) (time n m : ℕ) (rs : List Row) → list_any begins_sending (turns_from e time n rs) ≡ false
    → n ≤ m → m < n + length rs → is_number m (end_sent e (time + 1)) ≡ true → is_number m (end_sent e time) ≡ true
of_rows e time n m [] none low high is = absurd (omega arith)
of_rows e time n m (r ∷ rs) none low high is =
    let parts = two_parts (row_turns e time n r) (turns_from e time (n + 1) rs) none in
    ⊎_elim (λ (same : n ≡ m). subst (λ k. is_number k (end_sent e time) ≡ true) same (of_row e time n r parts.0 (subst (λ k. is_number k (end_sent e (time + 1)) ≡ true) (sym same) is)))
    (λ (after : n + 1 ≤ m). of_rows e time (n + 1) m rs parts.1 after (omega (arith, high)) is)
    (here_or_later n m low)

-- in one second
one_second : (e : PlannedEnd) (time : ℕ) → list_any begins_sending (turns_from e time 1 e.rows) ≡ false → IsNoOther (end_sent e time) (end_sent e (time + 1))
one_second e time none = by_row (send_row e.rows e.pair (time + 1)) refl
  where
    by_row : (found : Option Numbered) → send_row e.rows e.pair (time + 1) ≡ found → IsNoOther (end_sent e time) (end_sent e (time + 1))
    by_row None is = inl (ap number_of is)
    by_row (Some x) is =
        let found = latest-IsLatest (sendable e.pair (time + 1)) send_start e.rows x is in
        let now : end_sent e (time + 1) ≡ Some x.number = ap number_of is in
        let before = is_found x.number (end_sent e time) (of_rows e time 1 x.number e.rows none found.low (omega (arith, found.high)) (finds x.number (end_sent e (time + 1)) now)) in
        inr (now ∙ sym before)

joined : (before mid now : Option ℕ) → IsNoOther before mid → IsNoOther mid now → IsNoOther before now
joined before mid now one (inl none) = inl none
joined before mid now (inl none) (inr same) = inl (same ∙ none)
joined before mid now (inr first) (inr same) = inr (same ∙ first)

module _ (a b : List Row) (pair : Pair) where
  abbrev at_a : PlannedEnd
  at_a = planned A a pair

  abbrev at_b : PlannedEnd
  at_b = planned B b (mirrored pair)

  abbrev Both : (low time : ℕ) → Type 0
  Both low time = IsNoOther (end_sent at_a low) (end_sent at_a time) × IsNoOther (end_sent at_b low) (end_sent at_b time)

  pub many_seconds : (low n k : ℕ) → k ≤ n → list_any begins_sending (turns_in a b pair low n) ≡ false → Both low (low + k)
  many_seconds low n zero few none = let same : low + 0 ≡ low = omega arith in rw same (inr refl, inr refl)
  many_seconds low zero (suc k) few none = absurd (omega arith)
  many_seconds low (suc n) (suc k) few none =
      let parts = two_parts (turns_after a b pair low) (turns_in a b pair (low + 1) n) none in
      let ends = two_parts (turns_from at_a low 1 a) (turns_from at_b low 1 b) parts.0 in
      let rest = many_seconds (low + 1) n k (omega arith) parts.1 in
      let same : low + suc k ≡ low + 1 + k = omega arith in
      rw same (
        joined (end_sent at_a low) (end_sent at_a (low + 1)) (end_sent at_a (low + 1 + k)) (one_second at_a low ends.0) rest.0,
        joined (end_sent at_b low) (end_sent at_b (low + 1)) (end_sent at_b (low + 1 + k)) (one_second at_b low ends.1) rest.1,
      )

module _ (tables : List Table) (plan : Plan) (pair : Pair) (time : ℕ) (unchanged : changes_key tables plan pair ≡ false) (low : plan.from ≤ time) (high : time ≤ plan.to) where
  pub unchanged_both : Both (rows_at tables pair.local.address) (rows_at tables pair.remote.address) pair plan.from time
  unfolding changes_key
  unchanged_both =
      let at : plan.from + (time - plan.from) ≡ time = omega (arith, low) in
      subst (λ t. Both (rows_at tables pair.local.address) (rows_at tables pair.remote.address) pair plan.from t) at
      (many_seconds (rows_at tables pair.local.address) (rows_at tables pair.remote.address) pair plan.from (plan.to - plan.from) (time - plan.from) (omega (arith, low, high)) unchanged)
