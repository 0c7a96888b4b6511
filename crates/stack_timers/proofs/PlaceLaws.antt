-- Places in a list of deadlines in order.
use Rattle.std.proofs.Common.{◌≡◌, ℕ, suc, zero, ◌+◌, ◌<◌, ◌≤◌, Bool, true, false, List, [], ◌∷◌, length, get_or, drop, Some, refl, ap, ltb, arith}
use Rattle.std.specs.Prelude.{cond, nat_lt, if◌then◌else◌}
use Rattle.std.specs.List.{insert, position_from, remove}
use Rattle.std.specs.List.Sorted.{IsNonDecreasingBy}
use Rattle.std.specs.BTreeMap.{is_at}
use Rattle.std.proofs.lemmas.List.Edits.{get_or-remove_above, get_or-remove_below, length-remove}
use Rattle.book_base.specs.declared.address.Pair.{Pair}
use Rattle.book_base.specs.Orders.{by_pair}
use Rattle.book_stack.specs.declared.alarm.Alarm.{Alarm}
use Rattle.book_stack.specs.Alarms.{placed}
use Rattle.law_node.proofs.PairMaps.{pair_finds}
use Rattle.stack_timers.specs.Indexes.{alarm_entries}
use Rattle.stack_timers.specs.Places.{is_of}
use Rattle.stack_timers.proofs.IndexLaws.{found, turned}

-- an alarm behind all that aren't later, and in front of all that are
pub placed_between : (a : Alarm) (i : ℕ) (xs : List Alarm) → i ≤ length xs
    → ((k : ℕ) (d : Alarm) → k < i → (get_or xs k d).deadline ≤ a.deadline)
    → ((k : ℕ) (d : Alarm) → i ≤ k → k < length xs → a.deadline < (get_or xs k d).deadline) → insert xs i a ≡ placed a xs
placed_between a zero [] le low high = refl
placed_between a zero (x ∷ xs) le low high = at (nat_lt a.deadline x.deadline) refl
  where
    at : (b : Bool) → nat_lt a.deadline x.deadline ≡ b → a ∷ x ∷ xs ≡ (if b then a ∷ x ∷ xs else x ∷ placed a xs)
    at true e = refl
    at false e = let h = high 0 x (omega arith) (omega arith) in absurd (grind (arith, e, h))
placed_between a (suc i) [] le low high = absurd (omega (arith, le))
placed_between a (suc i) (x ∷ xs) le low high = at (nat_lt a.deadline x.deadline) refl
    (placed_between a i xs (omega (arith, le)) (λ k d lt. low (suc k) d (omega (arith, lt))) (λ k d ge lt. high (suc k) d (omega (arith, ge)) (omega (arith, lt))))
  where
    at : (b : Bool) → nat_lt a.deadline x.deadline ≡ b → insert xs i a ≡ placed a xs → x ∷ insert xs i a ≡ (if b then a ∷ x ∷ xs else x ∷ placed a xs)
    at true e h = let l = low 0 x (omega arith) in absurd (grind (arith, e, l))
    at false e h = ap (λ (l : List Alarm). x ∷ l) h

-- the deadline of a pair isn't among those that are earlier
pub skipped : (p : Pair) (t n i j : ℕ) (xs : List Alarm) → n ≤ length xs → j ≡ i + n → ((k : ℕ) (d : Alarm) → k < n → (get_or xs k d).deadline < t) → found p (alarm_entries xs) ≡ Some t
    → position_from (is_of p) j (drop n xs) ≡ position_from (is_of p) i xs
skipped p t zero i j xs le is low e = let s : j ≡ i = omega (arith, is) in rw s refl
skipped p t (suc n) i j [] le is low e = absurd (omega (arith, le))
skipped p t (suc n) i j (x ∷ xs) le is low e = rw (← pair_finds x.pair p, turned x.pair p) (at (is_at (by_pair p) x.pair) e (skipped p t n (i + 1) j xs (omega (arith, le)) (omega (arith, is)) (λ k d lt. low (suc k) d (omega (arith, lt)))))
  where
    at : (b : Bool) → cond b (Some x.deadline) (found p (alarm_entries xs)) ≡ Some t
        → (found p (alarm_entries xs) ≡ Some t → position_from (is_of p) j (drop n xs) ≡ position_from (is_of p) (i + 1) xs)
        → position_from (is_of p) j (drop n xs) ≡ (if b then Some i else position_from (is_of p) (i + 1) xs)
    at true k next = let l = low 0 x (omega arith) in let s : x.deadline ≡ t = cc in absurd (omega (arith, l, s))
    at false k next = next k

-- deadlines in order, without one of them
pub rising_without : (i : ℕ) (xs : List Alarm) → i < length xs → IsNonDecreasingBy (λ (b : Alarm). b.deadline) xs → IsNonDecreasingBy (λ (b : Alarm). b.deadline) (remove xs i)
rising_without i xs lt up j k d le within = at (ltb j i) (ltb k i) refl refl
  where
    long : length (remove xs i) + 1 ≡ length xs
    long = length-remove xs i lt

    at : (b c : Bool) → ltb j i ≡ b → ltb k i ≡ c → (get_or (remove xs i) j d).deadline ≤ (get_or (remove xs i) k d).deadline
    at true true f g = rw (get_or-remove_below xs i d j (grind (arith, f)) lt, get_or-remove_below xs i d k (grind (arith, g)) lt) (up j k d le (omega (arith, long, within)))
    at true false f g = rw (get_or-remove_below xs i d j (grind (arith, f)) lt, get_or-remove_above xs i d k (grind (arith, g)) lt) (up j (k + 1) d (omega (arith, le)) (omega (arith, long, within)))
    at false true f g = absurd (grind (arith, f, g, le))
    at false false f g = rw (get_or-remove_above xs i d j (grind (arith, f)) lt, get_or-remove_above xs i d k (grind (arith, g)) lt) (up (j + 1) (k + 1) d (omega (arith, le)) (omega (arith, long, within)))
