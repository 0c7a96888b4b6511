-- What the calls of the lists do to a list and its table.
use Rattle.std.proofs.Common.{◌≡◌, ℕ, ◌<◌, ◌≤◌, Bool, true, false, List, [], ◌∷◌, length, get_or, Option, Some, None, refl, sym, ap, subst, ◌∙◌, arith}
use Rattle.std.specs.Prelude.{cond, ⊤, option_map, ◌++◌, nat_le, is_some, if◌then◌else◌}
use Rattle.std.specs.List.{insert, position_from, remove}
use Rattle.std.specs.List.Sorted.{IsNonDecreasingBy}
use Rattle.std.specs.BTreeMap.{is_at, insert_entry}
use Rattle.std.specs.Map.{remove_entry}
use Rattle.book_base.specs.declared.address.Pair.{Pair}
use Rattle.book_base.specs.Orders.{by_pair}
use Rattle.book_base.proofs.OrderLaws.{pair_tied}
use Rattle.book_stack.specs.declared.alarm.Alarm.{Alarm}
use Rattle.book_stack.specs.Alarms.{earliest, lined, placed, put_alarm, stands_in, without_alarm, without_pair}
use Rattle.pair_table.specs.Listings.{IsListing, Listing, of_entries}
use Rattle.stack_timers.specs.Indexes.{IsKept, alarm_entries, pair_entries}
use Rattle.stack_timers.specs.Places.{is_of, is_pair}
use Rattle.stack_timers.proofs.ListLaws.{alarm_kept, pair_kept}
use Rattle.stack_timers.proofs.PlaceLaws.{rising_without}
use Rattle.stack_timers.proofs.IndexLaws.{alarm_entries_gone, alarm_entries_put, found, found_gone, kept_gone, kept_put, length_alarm_entries, length_pair_entries, no_alarm, no_pair, pair_entries_gone, pair_entries_put, stands}

-- a table once the entry of a pair was taken out, and put in
abbrev pub table_without : {V : Type 0} → Pair → Listing V → Listing V
table_without p t = of_entries t (remove_entry (is_at (by_pair p)) t.entries)

abbrev pub table_with : {V : Type 0} → Pair → V → Listing V → Listing V
table_with p v t = of_entries t (insert_entry by_pair t.entries p v)

module _ {V : Type 0} where
  -- the first is taken out
  pub kept_first : (room : ℕ) (t : Listing V) (es : List (Pair × V)) (p : Pair) (v : V) → IsListing t → IsKept room t ((p, v) ∷ es) → IsKept room (table_without p t) es
  kept_first room t es p v sound kept =
      let there : found p t.entries ≡ Some v = kept.finds p ∙ ap (λ (b : Bool). cond b (Some v) (found p es)) (pair_tied p) in
      subst (λ (b : Bool). IsKept room (table_without p t) (cond b es ((p, v) ∷ remove_entry (is_at (by_pair p)) es))) (pair_tied p) (kept_gone room t ((p, v) ∷ es) p v sound kept there)

  -- nothing of the pair is there any more, where there was nothing, or once it was taken out
  pub gone_from : (room : ℕ) (t : Listing V) (es : List (Pair × V)) (p : Pair) → IsKept room t es → found p (remove_entry (is_at (by_pair p)) es) ≡ None
  gone_from room t es p kept = found_gone p p es kept.once ∙ ap (λ (b : Bool). cond b None (found p es)) (pair_tied p)

pub alarm_first : (room : ℕ) (t : Listing ℕ) (xs ys : List Alarm) (a : Alarm) (d : ℕ) → IsListing t → IsKept room t (alarm_entries xs)
    → earliest xs ≡ Some d → a ≡ get_or xs 0 a → ys ≡ remove xs 0 → IsKept room (table_without a.pair t) (alarm_entries ys)
alarm_first room t [] ys a d sound kept some is rest = absurd (cc)
alarm_first room t (x ∷ xs) ys a d sound kept some is rest = rw (is, rest) (kept_first room t (alarm_entries xs) x.pair x.deadline sound kept)

pub pair_first : (room : ℕ) (t : Listing ⊤) (xs ys : List Pair) (p : Pair) → IsListing t → IsKept room t (pair_entries xs) → xs ≡ p ∷ ys → IsKept room (table_without p t) (pair_entries ys)
pair_first room t xs ys p sound kept is = kept_first room t (pair_entries ys) p tt sound (rw is at kept)

pub first_goes : (xs ys : List Alarm) (d : ℕ) → earliest xs ≡ Some d → ys ≡ remove xs 0 → IsNonDecreasingBy (λ (b : Alarm). b.deadline) xs → IsNonDecreasingBy (λ (b : Alarm). b.deadline) ys
first_goes [] ys d some rest up = absurd (cc)
first_goes (x ∷ xs) ys d some rest up = rw rest (rising_without 0 (x ∷ xs) (omega arith) up)

-- what a value and none are
pub none_of : {A : Type 0} (o : Option A) → is_some o ≡ false → o ≡ None
none_of None e = refl
none_of (Some x) e = absurd (cc)

pub seen_some : {A B : Type 0} (f : A → B) (o : Option A) → is_some (option_map f o) ≡ is_some o
seen_some f None = refl
seen_some f (Some x) = refl

pub some_of : {A : Type 0} (o : Option A) → is_some o ≡ true → (x : A) × (o ≡ Some x)
some_of None e = absurd (cc)
some_of (Some x) e = (x, refl)

module _ (room : ℕ) (t : Listing ⊤) (xs : List Pair) (p : Pair) (kept : IsKept room t (pair_entries xs)) where
  -- who stands in line, stays
  pub line_stays : is_some (found p t.entries) ≡ true → xs ≡ lined t.most p xs
  line_stays e = rw (stands p xs ∙ ap is_some (sym (kept.finds p)) ∙ e) refl

  -- a line that is full, stays
  pub line_full : t.most ≤ length t.entries → xs ≡ lined t.most p xs
  line_full le = at (stands_in p xs) (nat_le t.most (length xs)) refl
    where
      long : length t.entries ≡ length xs
      long = kept.same ∙ length_pair_entries xs

      at : (a b : Bool) → nat_le t.most (length xs) ≡ b → xs ≡ (if a then xs else (if b then xs else xs ++ p ∷ []))
      at true b e = refl
      at false true e = refl
      at false false e = absurd (grind (arith, e, le, long))

  -- another stands at the end of one that isn't
  pub line_grows : is_some (found p t.entries) ≡ false → length t.entries < t.most → xs ++ p ∷ [] ≡ lined t.most p xs
  line_grows e lt = rw (stands p xs ∙ ap is_some (sym (kept.finds p)) ∙ e) (at (nat_le t.most (length xs)) refl)
    where
      long : length t.entries ≡ length xs
      long = kept.same ∙ length_pair_entries xs

      at : (b : Bool) → nat_le t.most (length xs) ≡ b → xs ++ p ∷ [] ≡ (if b then xs else xs ++ p ∷ [])
      at true e = absurd (grind (arith, e, lt, long))
      at false e = refl

  pub line_kept : found p t.entries ≡ None → IsKept room (table_with p tt t) (pair_entries (xs ++ p ∷ []))
  line_kept none = rw (pair_entries_put p xs) (kept_put room t (pair_entries xs) p tt (length xs) kept none (let l = length_pair_entries xs in omega (arith, l)))

  -- the pair isn't in line any more
  pub line_left : (u : ⊤) → IsListing t → found p t.entries ≡ Some u → IsKept room (table_without p t) (pair_entries (without_pair p xs))
  line_left u sound e = rw (pair_entries_gone p xs) (kept_gone room t (pair_entries xs) p u sound kept e)

  pub line_has : (u : ⊤) → found p t.entries ≡ Some u → position_from (is_pair p) 0 xs ≡ None → ⊥
  line_has u e none =
      let gone : found p (pair_entries (without_pair p xs)) ≡ None = rw (pair_entries_gone p xs) (gone_from room t (pair_entries xs) p kept) in
      let same : found p (pair_entries xs) ≡ None = rw (← pair_kept p xs none) at gone in
      let some = sym (kept.finds p) ∙ e in absurd (cc)

  pub line_missed : found p t.entries ≡ None → without_pair p xs ≡ xs
  line_missed none = no_pair p xs (sym (kept.finds p) ∙ none)

module _ (room : ℕ) (t : Listing ℕ) (xs : List Alarm) (p : Pair) (kept : IsKept room t (alarm_entries xs)) where
  pub alarms_full : (d : ℕ) → t.most ≤ length t.entries → xs ≡ put_alarm t.most (record { pair = p; deadline = d }) xs
  alarms_full d le = at (nat_le t.most (length xs)) refl
    where
      long : length t.entries ≡ length xs
      long = kept.same ∙ length_alarm_entries xs

      at : (b : Bool) → nat_le t.most (length xs) ≡ b → xs ≡ (if b then xs else placed (record { pair = p; deadline = d }) xs)
      at true e = refl
      at false e = absurd (grind (arith, e, le, long))

  pub alarms_grow : (d : ℕ) → length t.entries < t.most → placed (record { pair = p; deadline = d }) xs ≡ put_alarm t.most (record { pair = p; deadline = d }) xs
  alarms_grow d lt = at (nat_le t.most (length xs)) refl
    where
      long : length t.entries ≡ length xs
      long = kept.same ∙ length_alarm_entries xs

      at : (b : Bool) → nat_le t.most (length xs) ≡ b → placed (record { pair = p; deadline = d }) xs ≡ (if b then xs else placed (record { pair = p; deadline = d }) xs)
      at true e = absurd (grind (arith, e, lt, long))
      at false e = refl

  pub alarms_kept : (d i : ℕ) → i ≤ length xs → found p t.entries ≡ None → IsKept room (table_with p d t) (alarm_entries (insert xs i (record { pair = p; deadline = d })))
  alarms_kept d i le none = rw (alarm_entries_put i (record { pair = p; deadline = d }) xs) (kept_put room t (alarm_entries xs) p d i kept none (let l = length_alarm_entries xs in omega (arith, l, le)))

  pub alarms_left : (d : ℕ) → IsListing t → found p t.entries ≡ Some d → IsKept room (table_without p t) (alarm_entries (without_alarm p xs))
  alarms_left d sound e = rw (alarm_entries_gone p xs) (kept_gone room t (alarm_entries xs) p d sound kept e)

  pub alarm_gone : found p (alarm_entries (without_alarm p xs)) ≡ None
  alarm_gone = rw (alarm_entries_gone p xs) (gone_from room t (alarm_entries xs) p kept)

  pub alarms_have : (d : ℕ) → found p t.entries ≡ Some d → position_from (is_of p) 0 xs ≡ None → ⊥
  alarms_have d e none =
      let same : found p (alarm_entries xs) ≡ None = rw (← alarm_kept p xs none) at alarm_gone in
      let some = sym (kept.finds p) ∙ e in absurd (cc)

  pub alarm_missed : found p t.entries ≡ None → without_alarm p xs ≡ xs
  alarm_missed none = no_alarm p xs (sym (kept.finds p) ∙ none)
