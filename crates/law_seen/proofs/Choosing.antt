-- Which row is chosen once an RNextKeyID named it.
use Rattle.std.proofs.Common.{◌≡◌, ℕ, ◌+◌, ◌≤◌, ◌==◌, Bool, true, false, List, [], ◌∷◌, Option, Some, None, if◌then◌else◌, refl, sym, ap, ◌∙◌, arith}
use Rattle.std.specs.Option.{option_or}
use Rattle.std.specs.Prelude.{option_map}
use Rattle.std.proofs.lemmas.Bool.Decides.{nat_tests}
use Rattle.book_base.specs.declared.address.Pair.{Pair}
use Rattle.book_keys.specs.Choices.{Numbered, lowest, named_send, next_row, send_row, sendable_as}
use Rattle.book_keys.specs.Coordination.{Sending, choose as choose_row, numbered, rnext_key_id_of, row_to_send, sending_by, still_current}
use Rattle.book_keys.specs.Rows.{Row, sendable}
use Rattle.book_segments.proofs.Fields.{and_tells, some_is}

eqb_refl : (x : ℕ) → (x == x) ≡ true
eqb_refl x = grind (arith, nat_tests)

below : (n m : ℕ) → n + 1 ≤ m → (n == m) ≡ false
below n m h = grind (arith, nat_tests)

-- ---- the lowest row is the one with its number

high_if : (b : Bool) (n : ℕ) (r : Row) (more : Option Numbered) (q : Numbered) → (more ≡ Some q → n + 1 ≤ q.number) → option_or (if b then Some (record { number = n; row = r }) else None) more ≡ Some q → n ≤ q.number
high_if true n r more q h e = let same : n ≡ q.number = ap (λ (x : Numbered). x.number) (some_is (record { number = n; row = r }) q e) in omega arith
high_if false n r more q h e = let one = h e in omega arith

lowest_high : (good : Row → Bool) (n : ℕ) (rows : List Row) (q : Numbered) → lowest good n rows ≡ Some q → n ≤ q.number
lowest_high good n [] q e = absurd (cc)
lowest_high good n (r ∷ rs) q e = high_if (good r) n r (lowest good (n + 1) rs) q (λ f. lowest_high good (n + 1) rs q f) e

this_one : (b : Bool) (n number : ℕ) (r : Row) (more : Option Numbered) (q : Numbered) → n ≡ number → b ≡ true → record { number = n; row = r } ≡ q → (if n == number then (if b then Some (record { number = n; row = r }) else None) else more) ≡ Some q
this_one b n number r more q same good is =
    let one : (if n == number then (if b then Some (record { number = n; row = r }) else None) else more) ≡ (if b then Some (record { number = n; row = r }) else None) =
    ap (λ t. if t then (if b then Some (record { number = n; row = r }) else None) else more) (ap (λ k. k == number) same ∙ eqb_refl number) in
    one ∙ (ap (λ t. if t then Some (record { number = n; row = r }) else None) good ∙ ap (λ x. Some x) is)

later_one : (b : Bool) (n number : ℕ) (here more : Option Numbered) (q : Numbered) → n + 1 ≤ number → more ≡ Some q → (if n == number then here else more) ≡ Some q
later_one b n number here more q high is = ap (λ t. if t then here else more) (below n number high) ∙ is

numbered_if : (strong weak : Bool) (n : ℕ) (r : Row) (low more : Option Numbered) (q : Numbered) → (strong ≡ true → weak ≡ true) → (low ≡ Some q → n + 1 ≤ q.number) → (low ≡ Some q → more ≡ Some q)
    → option_or (if strong then Some (record { number = n; row = r }) else None) low ≡ Some q → (if n == q.number then (if weak then Some (record { number = n; row = r }) else None) else more) ≡ Some q
numbered_if true weak n r low more q good high onward e =
    let is = some_is (record { number = n; row = r }) q e in
    this_one weak n q.number r more q (ap (λ (x : Numbered). x.number) is) (good refl) is
numbered_if false weak n r low more q good high onward e = later_one weak n q.number _ more q (high e) (onward e)

lowest_numbered : (strong weak : Row → Bool) → ((r : Row) → strong r ≡ true → weak r ≡ true) → (n : ℕ) (rows : List Row) (q : Numbered) → lowest strong n rows ≡ Some q → numbered weak n q.number rows ≡ Some q
lowest_numbered strong weak good n [] q e = absurd (cc)
lowest_numbered strong weak good n (r ∷ rs) q e =
    numbered_if (strong r) (weak r) n r (lowest strong (n + 1) rs) (numbered weak (n + 1) q.number rs) q (good r) (λ f. lowest_high strong (n + 1) rs q f) (λ f. lowest_numbered strong weak good (n + 1) rs q f) e

-- a row that is named may be sent with, under its number
pub named_may : (rows : List Row) (pair : Pair) (id now : ℕ) (q : Numbered) → named_send rows pair id now ≡ Some q → numbered (sendable pair now) 1 q.number rows ≡ Some q
named_may rows pair id now q e = lowest_numbered (sendable_as pair id now) (sendable pair now) (λ r t. (and_tells (sendable pair now r) (r.send_id == id) t).0) 1 rows q e

-- ---- the choice

-- the current row, while it may be sent with, is the one that is sent with
pub choice : (rows : List Row) (pair : Pair) (now : ℕ) (current : Option ℕ) (q : Numbered) → current ≡ Some q.number → numbered (sendable pair now) 1 q.number rows ≡ Some q
    → choose_row current rows pair now ≡ Some (sending_by (next_row rows pair now) q)
unfolding choose_row
choice rows pair now current q is may =
    let still : still_current current rows pair now ≡ Some q = ap (λ o. still_current o rows pair now) is ∙ may in
    ap (option_map (sending_by (next_row rows pair now))) (ap (λ o. option_or o (send_row rows pair now)) still)

sending_is : (s t : Sending) → Some s ≡ Some t → s ≡ t
sending_is s t e = cc

asked_by : (o : Option Numbered) (preferred : Option Numbered) (p : Numbered) (s : Sending) → preferred ≡ Some p → option_map (sending_by preferred) o ≡ Some s → s.rnext_key_id ≡ p.row.recv_id
asked_by None preferred p s is e = absurd (cc)
asked_by (Some n) preferred p s is e =
    sym (ap (λ (x : Sending). x.rnext_key_id) (sending_is (sending_by preferred n) s e)) ∙ ap (λ o. rnext_key_id_of o n.row) is

-- what is sent asks for the row that is preferred
pub asks : (rows : List Row) (pair : Pair) (now : ℕ) (current : Option ℕ) (p : Numbered) (s : Sending) → next_row rows pair now ≡ Some p → choose_row current rows pair now ≡ Some s → s.rnext_key_id ≡ p.row.recv_id
unfolding choose_row
asks rows pair now current p s is e = asked_by (row_to_send current rows pair now) (next_row rows pair now) p s is e
