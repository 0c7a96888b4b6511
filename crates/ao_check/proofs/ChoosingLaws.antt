-- The row that is chosen is a row of the table.
use Rattle.std.proofs.Common.{◌≡◌, ◌<◌, ◌≤◌, ℕ, suc, ◌+◌, ◌-◌, ◌==◌, Bool, true, false, List, [], ◌∷◌, length, Option, Some, None, if◌then◌else◌, refl, sym, ap, ◌∙◌, arith, get_or}
use Rattle.std.specs.Prelude.{is_some, option_map, IfSome}
use Rattle.std.proofs.lemmas.Bool.Decides.{nat_tests}
use Rattle.book_base.specs.declared.address.Pair.{Pair}
use Rattle.book_keys.specs.Rows.{Row, sendable, acceptable}
use Rattle.std.specs.Option.{option_or}
use Rattle.book_keys.specs.Choices.{Numbered, qualified, send_start, accept_start, send_row, next_row, sendable_as, named_send}
use Rattle.book_keys.specs.Coordination.{Sending, numbered, still_current, rnext_key_id_of, sending_by, row_to_send, choose, current_after, IsRowOf, follow}
use Rattle.book_keys.proofs.ChoiceLaws.{latest-IsLatest, lowest-IsLowest}
use Rattle.book_keys.specs.Lookups.{number_of}
use Rattle.ao_check.specs.declared.choice.Sending.{Sending as Answer}
use Rattle.ao_check.specs.Sendings.{told}

-- a row of the table with its number
pub record InTable (rows : List Row) (n : Numbered) : Type 0 where
  pub low : 1 ≤ n.number
  pub high : n.number ≤ length rows
  pub here : (d : Row) → get_or rows (n.number - 1) d ≡ n.row

-- the same, where there is one
abbrev pub MayBeIn : List Row → Option Numbered → Type 0
MayBeIn rows o = (n : Numbered) → o ≡ Some n → InTable rows n

some_is : (a b : Numbered) → Some a ≡ Some b → a ≡ b
some_is a b e = cc

qualified_is : (b : Bool) (n m : Numbered) → (if b then Some n else None) ≡ Some m → n ≡ m
qualified_is true n m e = some_is n m e
qualified_is false n m e = absurd (cc)

-- where the row of a number qualifies, that is its place
record Placed (start : ℕ) (rows : List Row) (n : Numbered) (number : ℕ) : Type 0 where
  index : ℕ
  counted : n.number ≡ start + index
  same : n.number ≡ number
  within : index < length rows
  here : (d : Row) → get_or rows index d ≡ n.row

placed_head : (start number : ℕ) (r : Row) (rs : List Row) (m n : Numbered) → m ≡ record { number = start; row = r } → start ≡ number → m ≡ n → Placed start (r ∷ rs) n number
placed_head start number r rs m n e s f =
    let g : n ≡ record { number = start; row = r } = sym f ∙ e in
    let num : n.number ≡ start = ap (λ (x : Numbered). x.number) g in
    let row : n.row ≡ r = ap (λ (x : Numbered). x.row) g in
    record { index = 0; counted = omega arith; same = num ∙ s; within = omega arith; here = λ d. sym row }

placed_tail : (start number : ℕ) (r : Row) (rs : List Row) (n : Numbered) → Placed (start + 1) rs n number → Placed start (r ∷ rs) n number
placed_tail start number r rs n p = record { index = suc p.index; counted = omega (arith, p.counted); same = p.same; within = omega (arith, p.within); here = p.here }

eqb_tells : (x y : ℕ) → (x == y) ≡ true → x ≡ y
eqb_tells x y e = grind (arith, nat_tests)

placed_by : (b : Bool) (good : Row → Bool) (start number : ℕ) (r : Row) (rs : List Row) (n : Numbered) → (start == number) ≡ b
    → ((m : Numbered) → numbered good (start + 1) number rs ≡ Some m → Placed (start + 1) rs m number)
    → (if b then qualified good start r else numbered good (start + 1) number rs) ≡ Some n → Placed start (r ∷ rs) n number
placed_by true good start number r rs n t more e =
    placed_head start number r rs (record { number = start; row = r }) n refl (eqb_tells start number t) (qualified_is (good r) (record { number = start; row = r }) n e)
placed_by false good start number r rs n t more e = placed_tail start number r rs n (more n e)

placed : (good : Row → Bool) (start number : ℕ) (rows : List Row) (n : Numbered) → numbered good start number rows ≡ Some n → Placed start rows n number
placed good start number [] n e = absurd (cc)
placed good start number (r ∷ rs) n e = placed_by (start == number) good start number r rs n refl (λ m f. placed good (start + 1) number rs m f) e

current_in : (current : Option ℕ) (rows : List Row) (pair : Pair) (now : ℕ) → MayBeIn rows (still_current current rows pair now)
current_in None rows pair now n e = absurd (cc)
current_in (Some number) rows pair now n e =
    let p = placed (sendable pair now) 1 number rows n e in
    let i : n.number - 1 ≡ p.index = omega (arith, p.counted) in
    record { low = omega (arith, p.counted); high = omega (arith, p.counted, p.within); here = λ d. rw i (p.here d) }

pub sent_in : (rows : List Row) (pair : Pair) (now : ℕ) → MayBeIn rows (send_row rows pair now)
sent_in rows pair now n e =
    let l = latest-IsLatest (sendable pair now) send_start rows n e in record { low = l.low; high = l.high; here = l.here }

pub next_in : (rows : List Row) (pair : Pair) (now : ℕ) → MayBeIn rows (next_row rows pair now)
next_in rows pair now n e =
    let l = latest-IsLatest (acceptable pair now) accept_start rows n e in record { low = l.low; high = l.high; here = l.here }

pub named_in : (rows : List Row) (pair : Pair) (id now : ℕ) → MayBeIn rows (named_send rows pair id now)
named_in rows pair id now n e =
    let l = lowest-IsLowest (sendable_as pair id now) rows n e in record { low = l.low; high = l.high; here = l.here }

either_in : (rows : List Row) (a b : Option Numbered) → MayBeIn rows a → MayBeIn rows b → MayBeIn rows (option_or a b)
either_in rows None b ha hb n e = hb n e
either_in rows (Some m) b ha hb n e = ha n e

-- the row that is chosen
pub chosen_in : (current : Option ℕ) (rows : List Row) (pair : Pair) (now : ℕ) → MayBeIn rows (row_to_send current rows pair now)
chosen_in current rows pair now = either_in rows (still_current current rows pair now) (send_row rows pair now) (current_in current rows pair now) (sent_in rows pair now)

-- a number that was told is that of a row
pub record Told (o : Option Numbered) (number : ℕ) : Type 0 where
  pub row : Numbered
  pub is : o ≡ Some row
  pub same : row.number ≡ number

pub told_row : (o : Option Numbered) (number : ℕ) → Some number ≡ number_of o → Told o number
told_row None number e = absurd (cc)
told_row (Some n) number e = record { row = n; is = refl; same = (let f : number ≡ n.number = cc in sym f) }

pub none_told : (o : Option Numbered) → None ≡ number_of o → o ≡ None
none_told None e = refl
none_told (Some n) e = absurd (cc)

sending_in : (rows : List Row) (next o : Option Numbered) (s : Sending) → MayBeIn rows o → option_map (sending_by next) o ≡ Some s → InTable rows (record { number = s.number; row = s.row })
sending_in rows next None s h e = absurd (cc)
sending_in rows next (Some n) s h e =
    let num : n.number ≡ s.number = ap (λ (x : Option Sending). number_at x) e in
    let row : n.row ≡ s.row = ap (λ (x : Option Sending). row_at n.row x) e in
    let i = h n refl in
    record { low = rw (← num) i.low; high = rw (← num) i.high; here = λ d. rw (← num, ← row) (i.here d) }
  where
    number_at : Option Sending → ℕ
    number_at None = 0
    number_at (Some x) = x.number

    row_at : Row → Option Sending → Row
    row_at d None = d
    row_at d (Some x) = x.row

-- the row to send with is a row of the table
pub choose_in : (current : Option ℕ) (rows : List Row) (pair : Pair) (now : ℕ) (s : Sending) → choose current rows pair now ≡ Some s → InTable rows (record { number = s.number; row = s.row })
unfolding choose
choose_in current rows pair now s e = sending_in rows (next_row rows pair now) (row_to_send current rows pair now) s (chosen_in current rows pair now) e

after_in : (rows : List Row) (before : Option ℕ) (o : Option Sending) → ((s : Sending) → o ≡ Some s → InTable rows (record { number = s.number; row = s.row })) → IsRowOf rows before → IsRowOf rows (current_after before o)
after_in rows before None h old = old
after_in rows before (Some s) h old = λ n e. let i = h s refl in let f : s.number ≡ n = cc in (rw (← f) i.low, rw (← f) i.high)

-- the current row stays one of the table
pub choose_keeps : (rows : List Row) (current : Option ℕ) (pair : Pair) (now : ℕ) → IsRowOf rows current → IsRowOf rows (current_after current (choose current rows pair now))
choose_keeps rows current pair now old = after_in rows current (choose current rows pair now) (λ s e. choose_in current rows pair now s e) old

number_in : (rows : List Row) (o : Option Numbered) (before : Option ℕ) → MayBeIn rows o → IsRowOf rows before → IsRowOf rows (option_or (number_of o) before)
number_in rows None before h old = old
number_in rows (Some m) before h old = λ n e. let i = h m refl in let f : m.number ≡ n = cc in (rw (← f) i.low, rw (← f) i.high)

pub follow_keeps : (rows : List Row) (current : Option ℕ) (pair : Pair) (id now : ℕ) → IsRowOf rows current → IsRowOf rows (follow current rows pair id now)
unfolding follow
follow_keeps rows current pair id now old = number_in rows (named_send rows pair id now) current (named_in rows pair id now) old

-- ---- what the code answers

is_there : (o : Option Numbered) → is_some o ≡ true → (n : Numbered) × (o ≡ Some n)
is_there None e = absurd (cc)
is_there (Some n) e = (n, refl)

-- the current row is sendable, and stays
pub stays_current : (rows : List Row) (pair : Pair) (now number : ℕ) → is_some (numbered (sendable pair now) 1 number rows) ≡ true
    → Some number ≡ number_of (option_or (numbered (sendable pair now) 1 number rows) (send_row rows pair now))
stays_current rows pair now number e =
    let i = is_there (numbered (sendable pair now) 1 number rows) e in
    let p = placed (sendable pair now) 1 number rows i.0 i.1 in
    ap Some (sym p.same) ∙ ap (λ (o : Option Numbered). number_of (option_or o (send_row rows pair now))) (sym i.1)

-- the number of a row that was found, and the row at its place
pub record IsFound (rows : List Row) (o : Option Numbered) (number : ℕ) : Type 0 where
  pub row : Numbered
  pub is : o ≡ Some row
  pub same : row.number ≡ number
  pub low : 1 ≤ number
  pub high : number ≤ length rows
  pub here : (d : Row) → get_or rows (number - 1) d ≡ row.row

found_as : (rows : List Row) (o : Option Numbered) (number : ℕ) (n : Numbered) → o ≡ Some n → n.number ≡ number → InTable rows n → IsFound rows o number
found_as rows o number n is same i =
    let k : number - 1 ≡ n.number - 1 = omega arith in
    record { row = n; is = is; same = same; low = omega (arith, i.low); high = omega (arith, i.high); here = λ d. ap (λ (j : ℕ). get_or rows j d) k ∙ i.here d }

pub found : (rows : List Row) (o : Option Numbered) (number : ℕ) → MayBeIn rows o → Some number ≡ number_of o → IsFound rows o number
found rows o number h e =
    let t = told_row o number e in found_as rows o number t.row t.is t.same (h t.row t.is)

pub asks : (rows : List Row) (pair : Pair) (now number id : ℕ) (r own : Row) → Some number ≡ number_of (next_row rows pair now) → ((d : Row) → r ≡ get_or rows (number - 1) d) → id ≡ r.recv_id
    → id ≡ rnext_key_id_of (next_row rows pair now) own
asks rows pair now number id r own e at i =
    let f = found rows (next_row rows pair now) number (next_in rows pair now) e in
    let row : r ≡ f.row.row = at r ∙ f.here r in
    i ∙ (ap (λ (x : Row). x.recv_id) row ∙ ap (λ (o : Option Numbered). rnext_key_id_of o own) (sym f.is))

pub asks_own : (o : Option Numbered) (id : ℕ) (own : Row) → None ≡ number_of o → id ≡ own.recv_id → id ≡ rnext_key_id_of o own
asks_own o id own e i = i ∙ ap (λ (x : Option Numbered). rnext_key_id_of x own) (sym (none_told o e))

-- what the definition chooses where this row is found
pub record Chooses (current : Option ℕ) (rows : List Row) (pair : Pair) (now number key_id rnext : ℕ) : Type 0 where
  pub sending : Some (record { row = number; key_id = key_id; rnext = rnext }) ≡ option_map told (choose current rows pair now)
  pub current_is : Some number ≡ current_after current (choose current rows pair now)

chooses_by : (current : Option ℕ) (o : Option Sending) (s : Sending) (number key_id rnext : ℕ) → o ≡ Some s → s.number ≡ number → key_id ≡ s.key_id → rnext ≡ s.rnext_key_id
    → (Some (record { row = number; key_id = key_id; rnext = rnext }) ≡ option_map told o) × (Some number ≡ current_after current o)
chooses_by current o s number key_id rnext e n k r = (rw (e, ← n, k, r) refl, rw (e, ← n) refl)

pub chooses : (current : Option ℕ) (rows : List Row) (pair : Pair) (now number key_id rnext : ℕ) (r : Row)
    → Some number ≡ number_of (row_to_send current rows pair now) → ((d : Row) → r ≡ get_or rows (number - 1) d)
    → key_id ≡ r.send_id → rnext ≡ rnext_key_id_of (next_row rows pair now) r → Chooses current rows pair now number key_id rnext
unfolding choose
chooses current rows pair now number key_id rnext r e at k n =
    let o : Option Numbered = row_to_send current rows pair now in
    let f = found rows o number (chosen_in current rows pair now) e in
    let row : r ≡ f.row.row = at r ∙ f.here r in
    let c = chooses_by current (option_map (sending_by (next_row rows pair now)) o) (sending_by (next_row rows pair now) f.row)
    number key_id rnext (ap (option_map (sending_by (next_row rows pair now))) f.is) f.same (k ∙ ap (λ (x : Row). x.send_id) row) (n ∙ ap (rnext_key_id_of (next_row rows pair now)) row) in
    record { sending = c.0; current_is = c.1 }

-- nothing is chosen
pub record Refrains (current : Option ℕ) (rows : List Row) (pair : Pair) (now : ℕ) : Type 0 where
  pub sending : None ≡ option_map told (choose current rows pair now)
  pub current_is : current ≡ current_after current (choose current rows pair now)

pub refrains : (current : Option ℕ) (rows : List Row) (pair : Pair) (now : ℕ) → None ≡ number_of (row_to_send current rows pair now) → Refrains current rows pair now
unfolding choose
refrains current rows pair now e =
    let o : Option Numbered = row_to_send current rows pair now in
    let none : o ≡ None = none_told o e in
    let s : option_map (sending_by (next_row rows pair now)) o ≡ None = ap (option_map (sending_by (next_row rows pair now))) none in
    record { sending = ap (option_map told) (sym s); current_is = ap (current_after current) (sym s) }

low_of : (rows : List Row) (o : Option Sending) → ((s : Sending) → o ≡ Some s → InTable rows (record { number = s.number; row = s.row })) → IfSome (option_map told o) (λ s. 1 ≤ s.row)
low_of rows None h = tt
low_of rows (Some s) h = (h s refl).low

high_of : (rows : List Row) (o : Option Sending) → ((s : Sending) → o ≡ Some s → InTable rows (record { number = s.number; row = s.row })) → IfSome (option_map told o) (λ s. s.row ≤ length rows)
high_of rows None h = tt
high_of rows (Some s) h = (h s refl).high

-- the number that is told is that of a row
pub choose_low : (current : Option ℕ) (rows : List Row) (pair : Pair) (now : ℕ) → IfSome (option_map told (choose current rows pair now)) (λ s. 1 ≤ s.row)
choose_low current rows pair now = low_of rows (choose current rows pair now) (λ s e. choose_in current rows pair now s e)

pub choose_high : (current : Option ℕ) (rows : List Row) (pair : Pair) (now : ℕ) → IfSome (option_map told (choose current rows pair now)) (λ s. s.row ≤ length rows)
choose_high current rows pair now = high_of rows (choose current rows pair now) (λ s e. choose_in current rows pair now s e)

-- what was told is of a row that was chosen
pub record IsTold (rows : List Row) (current : Option ℕ) (pair : Pair) (now row key_id rnext : ℕ) : Type 0 where
  pub sending : Sending
  pub is : choose current rows pair now ≡ Some sending
  pub number : sending.number ≡ row
  pub key : sending.key_id ≡ key_id
  pub next : sending.rnext_key_id ≡ rnext
  pub here : (d : Row) → get_or rows (row - 1) d ≡ sending.row

same_told : (a b : Answer) → Some a ≡ Some b → a ≡ b
same_told a b e = cc

told_by : (o : Option Sending) (row key_id rnext : ℕ) → Some (record { row = row; key_id = key_id; rnext = rnext }) ≡ option_map told o
    → (s : Sending) × (o ≡ Some s) × (s.number ≡ row) × (s.key_id ≡ key_id) × (s.rnext_key_id ≡ rnext)
told_by None row key_id rnext e = absurd (cc)
told_by (Some s) row key_id rnext e =
    let t = same_told (record { row = row; key_id = key_id; rnext = rnext }) (told s) e in
    (s, refl, sym (ap (λ (x : Answer). x.row) t), sym (ap (λ (x : Answer). x.key_id) t), sym (ap (λ (x : Answer). x.rnext) t))

pub is_told : (rows : List Row) (current : Option ℕ) (pair : Pair) (now row key_id rnext : ℕ) → Some (record { row = row; key_id = key_id; rnext = rnext }) ≡ option_map told (choose current rows pair now)
    → IsTold rows current pair now row key_id rnext
is_told rows current pair now row key_id rnext e =
    let t = told_by (choose current rows pair now) row key_id rnext e in
    let i = choose_in current rows pair now t.0 t.1 in
    let k : row - 1 ≡ t.0.number - 1 = (let n = t.2 in omega arith) in
    record { sending = t.0; is = t.1; number = t.2; key = t.3; next = t.4; here = λ d. ap (λ (j : ℕ). get_or rows j d) k ∙ i.here d }
