-- What is chosen to send with.
use Rattle.std.proofs.Common.{◌≡◌, ℕ, ◌+◌, ◌==◌, Bool, true, false, ◌||◌, List, [], ◌∷◌, Option, Some, None, ◌⊎◌, inl, inr, ⊎_elim, ◌↔◌, refl, ap, subst, nat_lt, if◌then◌else◌}
use Rattle.std.specs.Prelude.{option_map}
use Rattle.std.specs.List.{list_any, AllByRecursion}
use Rattle.std.specs.Option.{option_or}
use Rattle.book_base.specs.declared.address.Pair.{Pair}
use Rattle.book_segments.proofs.Fields.{some_is}
use Rattle.book_keys.specs.Rows.{Row, sendable, acceptable}
use Rattle.book_keys.specs.Choices.{Numbered, later, qualified, latest, send_start, accept_start, send_row, next_row}
use Rattle.book_keys.specs.Coordination.{Sending, numbered, still_current, sending_by, choose}
use Rattle.book_keys.specs.Plans.{has_sendable}

-- ---- nothing to send with

later_none : (start : Row → ℕ) (one two : Option Numbered) → later start one two ≡ None → (one ≡ None) × (two ≡ None)
later_none start None two e = (refl, e)
later_none start (Some one) None e = absurd (cc)
later_none start (Some one) (Some two) e = by_test (nat_lt (start one.row) (start two.row)) e
  where
    by_test : (b : Bool) → (if b then Some two else Some one) ≡ None → (Some one ≡ None) × (Some two ≡ None)
    by_test true e = absurd (cc)
    by_test false e = absurd (cc)

if_none : (b : Bool) (x : Numbered) → (if b then Some x else None) ≡ None → b ≡ false
if_none true x e = absurd (cc)
if_none false x e = refl

or_false : (a b : Bool) → a ≡ false → b ≡ false → (a || b) ≡ false
or_false true b e f = absurd (cc)
or_false false b e f = f

latest_none : (good : Row → Bool) (start : Row → ℕ) (n : ℕ) (rows : List Row) → latest good start n rows ≡ None → list_any good rows ≡ false
latest_none good start n [] e = refl
latest_none good start n (r ∷ rs) e =
    let t = later_none start (qualified good n r) (latest good start (n + 1) rs) e in
    or_false (good r) (list_any good rs) (if_none (good r) (record { number = n; row = r }) t.0) (latest_none good start (n + 1) rs t.1)

none_chosen : (preferred a : Option Numbered) (b : Option Numbered) → option_map (sending_by preferred) (option_or a b) ≡ None → b ≡ None
none_chosen preferred None None e = refl
none_chosen preferred None (Some b) e = absurd (cc)
none_chosen preferred (Some a) b e = absurd (cc)

-- where no row is chosen, none is sendable
pub choose_none : (current : Option ℕ) (rows : List Row) (pair : Pair) (now : ℕ) → choose current rows pair now ≡ None → has_sendable rows pair now ≡ false
unfolding choose
choose_none current rows pair now e =
    latest_none (sendable pair now) send_start 1 rows (none_chosen (next_row rows pair now) (still_current current rows pair now) (send_row rows pair now) e)

-- ---- what is chosen

-- a row that was chosen is one of the table, and qualifies
abbrev IsOf : (Row → Type 0) → (Row → Bool) → Numbered → Type 0
IsOf P good x = P x.row × (good x.row ≡ true)

qualified_some : (P : Row → Type 0) (good : Row → Bool) (n : ℕ) (r : Row) (x : Numbered) → P r → qualified good n r ≡ Some x → IsOf P good x
qualified_some P good n r x p e = by_test (good r) refl e
  where
    by_test : (b : Bool) → good r ≡ b → (if b then Some (record { number = n; row = r }) else None) ≡ Some x → IsOf P good x
    by_test true is e = subst (λ (y : Numbered). IsOf P good y) (some_is (record { number = n; row = r }) x e) (p, is)
    by_test false is e = absurd (cc)

later_some : (start : Row → ℕ) (one two : Option Numbered) (x : Numbered) → later start one two ≡ Some x → (one ≡ Some x) ⊎ (two ≡ Some x)
later_some start None two x e = inr e
later_some start (Some one) None x e = inl e
later_some start (Some one) (Some two) x e = by_test (nat_lt (start one.row) (start two.row)) e
  where
    by_test : (b : Bool) → (if b then Some two else Some one) ≡ Some x → (Some one ≡ Some x) ⊎ (Some two ≡ Some x)
    by_test true e = inr e
    by_test false e = inl e

latest_some : (P : Row → Type 0) (good : Row → Bool) (start : Row → ℕ) (n : ℕ) (rows : List Row) (x : Numbered) → AllByRecursion P rows → latest good start n rows ≡ Some x → IsOf P good x
latest_some P good start n [] x h e = absurd (cc)
latest_some P good start n (r ∷ rs) x h e =
    ⊎_elim (λ (a : qualified good n r ≡ Some x). qualified_some P good n r x h.0 a)
    (λ (a : latest good start (n + 1) rs ≡ Some x). latest_some P good start (n + 1) rs x h.1 a)
    (later_some start (qualified good n r) (latest good start (n + 1) rs) x e)

numbered_some : (P : Row → Type 0) (good : Row → Bool) (n k : ℕ) (rows : List Row) (x : Numbered) → AllByRecursion P rows → numbered good n k rows ≡ Some x → IsOf P good x
numbered_some P good n k [] x h e = absurd (cc)
numbered_some P good n k (r ∷ rs) x h e = by_test (n == k) (λ f. numbered_some P good (n + 1) k rs x h.1 f) e
  where
    by_test : (b : Bool) → (numbered good (n + 1) k rs ≡ Some x → IsOf P good x) → (if b then qualified good n r else numbered good (n + 1) k rs) ≡ Some x → IsOf P good x
    by_test true more e = qualified_some P good n r x h.0 e
    by_test false more e = more e

still_some : (P : Row → Type 0) (current : Option ℕ) (rows : List Row) (pair : Pair) (now : ℕ) (x : Numbered) → AllByRecursion P rows → still_current current rows pair now ≡ Some x → IsOf P (sendable pair now) x
still_some P None rows pair now x h e = absurd (cc)
still_some P (Some k) rows pair now x h e = numbered_some P (sendable pair now) 1 k rows x h e

-- what is chosen to send with: a sendable row of the table, its SendID, and the RecvID of a row of the table
pub record Chosen (P : Row → Type 0) (pair : Pair) (now : ℕ) (s : Sending) : Type 0 where
  pub of : P s.row
  pub may : sendable pair now s.row ≡ true
  pub key_id : s.key_id ≡ s.row.send_id
  pub preferred : Row
  pub preferred_of : P preferred
  pub rnext_key_id : s.rnext_key_id ≡ preferred.recv_id

chosen_one : (P : Row → Type 0) (pair : Pair) (now : ℕ) (next : Option Numbered) (x : Numbered) → ((y : Numbered) → next ≡ Some y → P y.row) → IsOf P (sendable pair now) x
    → Chosen P pair now (sending_by next x)
chosen_one P pair now None x each h = record { of = h.0; may = h.1; key_id = refl; preferred = x.row; preferred_of = h.0; rnext_key_id = refl }
chosen_one P pair now (Some y) x each h = record { of = h.0; may = h.1; key_id = refl; preferred = y.row; preferred_of = each y refl; rnext_key_id = refl }

chosen_by : (P : Row → Type 0) (pair : Pair) (now : ℕ) (next a b : Option Numbered) (s : Sending) → ((y : Numbered) → next ≡ Some y → P y.row)
    → ((y : Numbered) → a ≡ Some y → IsOf P (sendable pair now) y) → ((y : Numbered) → b ≡ Some y → IsOf P (sendable pair now) y)
    → option_map (sending_by next) (option_or a b) ≡ Some s → Chosen P pair now s
chosen_by P pair now next (Some x) b s each one two e =
    subst (λ (t : Sending). Chosen P pair now t) (some_is (sending_by next x) s e) (chosen_one P pair now next x each (one x refl))
chosen_by P pair now next None (Some x) s each one two e =
    subst (λ (t : Sending). Chosen P pair now t) (some_is (sending_by next x) s e) (chosen_one P pair now next x each (two x refl))
chosen_by P pair now next None None s each one two e = absurd (cc)

pub chosen : (P : Row → Type 0) (current : Option ℕ) (rows : List Row) (pair : Pair) (now : ℕ) (s : Sending) → AllByRecursion P rows → choose current rows pair now ≡ Some s → Chosen P pair now s
unfolding choose
chosen P current rows pair now s h e =
    chosen_by P pair now (next_row rows pair now) (still_current current rows pair now) (send_row rows pair now) s
    (λ y is. (latest_some P (acceptable pair now) accept_start 1 rows y h is).0)
    (λ y is. still_some P current rows pair now y h is)
    (λ y is. latest_some P (sendable pair now) send_start 1 rows y h is) e

-- ---- none is chosen exactly where none is without a current row

all_fail : (good : Row → Bool) (rows : List Row) → list_any good rows ≡ false → AllByRecursion (λ r. good r ≡ false) rows
all_fail good [] e = tt
all_fail good (r ∷ rs) e = by_test (good r) refl (λ f. all_fail good rs f) e
  where
    by_test : (b : Bool) → good r ≡ b → (list_any good rs ≡ false → AllByRecursion (λ r. good r ≡ false) rs) → (b || list_any good rs) ≡ false
        → (good r ≡ false) × AllByRecursion (λ r. good r ≡ false) rs
    by_test true is more e = absurd (cc)
    by_test false is more e = (is, more e)

none_current : (current : Option ℕ) (rows : List Row) (pair : Pair) (now : ℕ) → AllByRecursion (λ r. sendable pair now r ≡ false) rows → (o : Option Numbered) → still_current current rows pair now ≡ o → o ≡ None
none_current current rows pair now h None e = refl
none_current current rows pair now h (Some x) e =
    let is = still_some (λ r. sendable pair now r ≡ false) current rows pair now x h e in
    let fails = is.0 in
    let holds = is.1 in
    absurd (cc)

both_none : (preferred a b : Option Numbered) → a ≡ None → b ≡ None → option_map (sending_by preferred) (option_or a b) ≡ None
both_none preferred None b e f = ap (option_map (sending_by preferred)) f
both_none preferred (Some a) b e f = absurd (cc)

none_left : (current : Option ℕ) (rows : List Row) (pair : Pair) (now : ℕ) → send_row rows pair now ≡ None → choose current rows pair now ≡ None
unfolding choose
none_left current rows pair now e =
    let none = all_fail (sendable pair now) rows (latest_none (sendable pair now) send_start 1 rows e) in
    both_none (next_row rows pair now) (still_current current rows pair now) (send_row rows pair now) (none_current current rows pair now none (still_current current rows pair now) refl) e

none_to_send : (current : Option ℕ) (rows : List Row) (pair : Pair) (now : ℕ) → choose current rows pair now ≡ None → send_row rows pair now ≡ None
unfolding choose
none_to_send current rows pair now e = none_chosen (next_row rows pair now) (still_current current rows pair now) (send_row rows pair now) e

pub choose_exactly : (current : Option ℕ) (rows : List Row) (pair : Pair) (now : ℕ) → (choose current rows pair now ≡ None) ↔ (send_row rows pair now ≡ None)
choose_exactly current rows pair now = (none_to_send current rows pair now, none_left current rows pair now)
