-- The newest row is preferred, and it is the one with its SendID.
use Rattle.std.proofs.Common.{◌≡◌, ℕ, ◌+◌, ◌<◌, ◌==◌, nat_lt, Bool, true, false, ◌&&◌, List, [], ◌∷◌, ◌++◌, length, Option, Some, None, if◌then◌else◌, refl, ap, ◌∙◌, arith}
use Rattle.std.proofs.lemmas.Bool.Decides.{nat_tests}
use Rattle.std.specs.List.{AllByRecursion}
use Rattle.std.specs.Option.{option_or}
use Rattle.std.specs.Prelude.{⊤}
use Rattle.book_base.specs.declared.address.Pair.{Pair}
use Rattle.book_base.specs.declared.end.End.{End}
use Rattle.book_keys.specs.Choices.{Numbered, accept_start, later, latest, lowest, named_send, next_row, sendable_as}
use Rattle.book_keys.specs.Rows.{Row, acceptable, matches, receives, sendable, sends}
use Rattle.book_keys.specs.Lifetimes.{contains}
use Rattle.book_link.specs.Worlds.{Setup, World, other, pair_of, side}
use Rattle.book_segments.proofs.Fields.{and_tells}
use Rattle.law_seen.specs.Newest.{IsAskedFor, IsOlder}

less_is : (a b : ℕ) → a < b → nat_lt a b ≡ true
less_is a b h = grind (arith, nat_tests)

not_less : (a b : ℕ) → a < b → nat_lt b a ≡ false
not_less a b h = grind (arith, nat_tests)

eqb_refl : (x : ℕ) → (x == x) ≡ true
eqb_refl x = grind (arith, nat_tests)

-- ---- the latest row

-- there is none, or it begins before this time
abbrev EndsBefore : ℕ → Option Numbered → Type 0
EndsBefore s None = ⊤
EndsBefore s (Some x) = x.row.accepting.first < s

before_if : (b : Bool) (s k : ℕ) (r : Row) (o : Option Numbered) → (b ≡ true → r.accepting.first < s) → EndsBefore s o → EndsBefore s (later accept_start (if b then Some (record { number = k; row = r }) else None) o)
before_if false s k r o h more = more
before_if true s k r None h more = h refl
before_if true s k r (Some y) h more = by_test (nat_lt r.accepting.first y.row.accepting.first)
  where
    by_test : (t : Bool) → EndsBefore s (if t then Some y else Some (record { number = k; row = r }))
    by_test true = more
    by_test false = h refl

module _ (pair : Pair) (now : ℕ) (new : Row) where
  latest_before : (k : ℕ) (rows : List Row) → AllByRecursion (IsOlder pair new) rows → EndsBefore new.accepting.first (latest (acceptable pair now) accept_start k rows)
  latest_before k [] h = tt
  latest_before k (r ∷ rs) h =
      before_if (acceptable pair now r) new.accepting.first k r (latest (acceptable pair now) accept_start (k + 1) rs) (λ good. (h.0 (and_tells (matches r pair) (receives r.direction && contains r.accepting now) good).0).0) (latest_before (k + 1) rs h.1)

  here_first : (b : Bool) (k : ℕ) (o : Option Numbered) → b ≡ true → EndsBefore new.accepting.first o → later accept_start (if b then Some (record { number = k; row = new }) else None) o ≡ Some (record { number = k; row = new })
  here_first false k o t h = absurd (cc)
  here_first true k None t h = refl
  here_first true k (Some y) t h = ap (λ b. if b then Some y else Some (record { number = k; row = new })) (not_less y.row.accepting.first new.accepting.first h)

  behind_first : (b : Bool) (k j : ℕ) (r : Row) (o : Option Numbered) → (b ≡ true → r.accepting.first < new.accepting.first) → o ≡ Some (record { number = j; row = new })
      → later accept_start (if b then Some (record { number = k; row = r }) else None) o ≡ Some (record { number = j; row = new })
  behind_first false k j r o h is = is
  behind_first true k j r o h is =
      ap (later accept_start (Some (record { number = k; row = r }))) is ∙ ap (λ b. if b then Some (record { number = j; row = new }) else Some (record { number = k; row = r })) (less_is r.accepting.first new.accepting.first (h refl))

  latest_is : (front rest : List Row) (k : ℕ) → acceptable pair now new ≡ true → AllByRecursion (IsOlder pair new) front → AllByRecursion (IsOlder pair new) rest
      → latest (acceptable pair now) accept_start k (front ++ new ∷ rest) ≡ Some (record { number = k + length front; row = new })
  latest_is [] rest k good one two =
      let zero : k ≡ k + 0 = omega arith in
      here_first (acceptable pair now new) k (latest (acceptable pair now) accept_start (k + 1) rest) good (latest_before (k + 1) rest two) ∙ ap (λ n. Some (record { number = n; row = new })) zero
  latest_is (r ∷ front) rest k good one two =
      let far : k + 1 + length front ≡ k + length (r ∷ front) = omega arith in
      behind_first (acceptable pair now r) k (k + length (r ∷ front)) r (latest (acceptable pair now) accept_start (k + 1) (front ++ new ∷ rest))
      (λ t. (one.0 (and_tells (matches r pair) (receives r.direction && contains r.accepting now) t).0).0)
      (latest_is front rest (k + 1) good one.1 two ∙ ap (λ n. Some (record { number = n; row = new })) far)

  -- ---- the row with its SendID

  other_id : (r : Row) → IsOlder pair new r → sendable_as pair new.send_id now r ≡ false
  other_id r older = by_test (sendable_as pair new.send_id now r) refl
    where
      by_test : (b : Bool) → sendable_as pair new.send_id now r ≡ b → b ≡ false
      by_test false e = refl
      by_test true e =
          let one = and_tells (sendable pair now r) (r.send_id == new.send_id) e in
          let two = and_tells (matches r pair) (sends r.direction && contains r.sending now) one.0 in
          let no = (older two.0).1 in
          absurd (cc)

  passed_over : (b : Bool) (k : ℕ) (r : Row) (o : Option Numbered) → b ≡ false → option_or (if b then Some (record { number = k; row = r }) else None) o ≡ o
  passed_over true k r o e = absurd (cc)
  passed_over false k r o e = refl

  first_here : (b : Bool) (k : ℕ) (o : Option Numbered) → b ≡ true → option_or (if b then Some (record { number = k; row = new }) else None) o ≡ Some (record { number = k; row = new })
  first_here true k o e = refl
  first_here false k o e = absurd (cc)

  both_true : (a b : Bool) → a ≡ true → b ≡ true → (a && b) ≡ true
  both_true true true e f = refl
  both_true true false e f = absurd (cc)
  both_true false b e f = absurd (cc)

  named_is : (front rest : List Row) (k : ℕ) → sendable pair now new ≡ true → AllByRecursion (IsOlder pair new) front
      → lowest (sendable_as pair new.send_id now) k (front ++ new ∷ rest) ≡ Some (record { number = k + length front; row = new })
  named_is [] rest k good one =
      let zero : k ≡ k + 0 = omega arith in
      first_here (sendable_as pair new.send_id now new) k (lowest (sendable_as pair new.send_id now) (k + 1) rest) (both_true (sendable pair now new) (new.send_id == new.send_id) good (eqb_refl new.send_id)) ∙ ap (λ n. Some (record { number = n; row = new })) zero
  named_is (r ∷ front) rest k good one =
      let far : k + 1 + length front ≡ k + length (r ∷ front) = omega arith in
      passed_over (sendable_as pair new.send_id now r) k r (lowest (sendable_as pair new.send_id now) (k + 1) (front ++ new ∷ rest)) (other_id r one.0)
      ∙ (named_is front rest (k + 1) good one.1 ∙ ap (λ n. Some (record { number = n; row = new })) far)

number_is : (n : Numbered) (k : ℕ) → n.number ≡ k + 1 → Some (record { number = 1 + k; row = n.row }) ≡ Some n
number_is n k is = let same : 1 + k ≡ n.number = omega arith in ap (λ i. Some (record { number = i; row = n.row })) same

pub asked_for : (setup : Setup) (w : World) (e : End) → IsAskedFor setup w e
asked_for setup w e own others h =
    let there = h.others_newest in
    let here = h.own_newest in
    let now = (side w (other e)).clock in
    let time = (side w e).clock in
    record {
      preferred = others;
      prefers =
          ap (λ rows. next_row rows (pair_of setup (other e)) now) there.stands
          ∙ (latest_is (pair_of setup (other e)) now others.row there.front there.rest 1 h.accepts there.older_in_front there.older_behind ∙ number_is others (length there.front) there.number);
      may =
          ap (λ id. named_send (side w e).rows (pair_of setup e) id time) h.meet
          ∙ (ap (λ rows. named_send rows (pair_of setup e) own.row.send_id time) here.stands ∙ (named_is (pair_of setup e) time own.row here.front here.rest 1 h.sends here.older_in_front ∙ number_is own (length here.front) here.number));
    }
