-- The alarms of a stack are the deadlines of its timers, the earliest first, and there is room for each.
use Rattle.std.proofs.Common.{◌≡◌, ℕ, suc, ◌+◌, ◌<◌, ◌≤◌, Bool, true, false, ◌||◌, nat_lt, nat_le, List, [], ◌∷◌, length, Option, Some, None, refl, sym, ap, ◌∙◌, subst, if◌then◌else◌, arith}
use Rattle.std.proofs.lemmas.Bool.Decides.{nat_tests}
use Rattle.std.specs.Prelude.{is_some}
use Rattle.book_base.specs.declared.address.Pair.{Pair}
use Rattle.book_segments.proofs.Fields.{lt_is, lt_not, some_is}
use Rattle.book_cmd_node.specs.NodeRuns.{Held, same_pair, held_end}
use Rattle.law_node.proofs.Pairs.{same_pair_is, same_pair-refl}
use Rattle.book_stack.specs.declared.alarm.Alarm.{Alarm}
use Rattle.book_stack.specs.Alarms.{earliest, placed, put_alarm, stands_in, with_alarm, without_alarm, without_pair}
use Rattle.law_stack.proofs.Lines.{IsApart, Queue, drop_line, gone, or_false, shorter, stands_without}

-- the pairs of alarms
abbrev pub pairs_of : List Alarm → List Pair
pairs_of [] = []
pairs_of (a ∷ xs) = a.pair ∷ pairs_of xs

-- the deadline of a pair's alarm
abbrev pub alarm_of : Pair → List Alarm → Option ℕ
alarm_of p [] = None
alarm_of p (a ∷ xs) = if same_pair a.pair p then Some a.deadline else alarm_of p xs

-- no alarm is before this deadline
abbrev pub IsLeast : ℕ → List Alarm → Type 0
IsLeast d [] = Unit {0}
IsLeast d (a ∷ xs) = (d ≤ a.deadline) × IsLeast d xs

-- the earliest first
abbrev pub IsSorted : List Alarm → Type 0
IsSorted [] = Unit {0}
IsSorted (a ∷ xs) = IsLeast a.deadline xs × IsSorted xs

-- how many deadlines are reached
abbrev pub due : ℕ → List Alarm → ℕ
due now [] = 0
due now (a ∷ xs) = (if nat_le a.deadline now then 1 else 0) + due now xs

pub alarm_stands : (p : Pair) (xs : List Alarm) → is_some (alarm_of p xs) ≡ stands_in p (pairs_of xs)
alarm_stands p [] = refl
alarm_stands p (a ∷ xs) = at (same_pair a.pair p) (alarm_stands p xs)
  where
    at : (v : Bool) → is_some (alarm_of p xs) ≡ stands_in p (pairs_of xs) → is_some (if v then Some a.deadline else alarm_of p xs) ≡ (v || stands_in p (pairs_of xs))
    at true e = refl
    at false e = e

pub no_alarm : (p : Pair) (xs : List Alarm) → stands_in p (pairs_of xs) ≡ false → alarm_of p xs ≡ None
no_alarm p xs e = at (alarm_of p xs) (alarm_stands p xs ∙ e)
  where
    at : (o : Option ℕ) → is_some o ≡ false → o ≡ None
    at None s = refl
    at (Some d) s = absurd (cc)

-- ---- an alarm is taken out

pub pairs_without : (p : Pair) (xs : List Alarm) → pairs_of (without_alarm p xs) ≡ without_pair p (pairs_of xs)
pairs_without p [] = refl
pairs_without p (a ∷ xs) = at (same_pair a.pair p) (pairs_without p xs)
  where
    at : (v : Bool) → pairs_of (without_alarm p xs) ≡ without_pair p (pairs_of xs) → pairs_of (if v then xs else a ∷ without_alarm p xs) ≡ (if v then pairs_of xs else a.pair ∷ without_pair p (pairs_of xs))
    at true e = refl
    at false e = ap (λ (ps : List Pair). a.pair ∷ ps) e

pub alarm_without : (p q : Pair) (xs : List Alarm) → same_pair p q ≡ false → alarm_of q (without_alarm p xs) ≡ alarm_of q xs
alarm_without p q [] e = refl
alarm_without p q (a ∷ xs) e = at (same_pair a.pair p) refl (alarm_without p q xs e)
  where
    at : (v : Bool) → same_pair a.pair p ≡ v → alarm_of q (without_alarm p xs) ≡ alarm_of q xs → alarm_of q (if v then xs else a ∷ without_alarm p xs) ≡ (if same_pair a.pair q then Some a.deadline else alarm_of q xs)
    at true s next = let other : same_pair a.pair q ≡ false = rw (same_pair_is a.pair p s) e in rw other refl
    at false s next = ap (λ (o : Option ℕ). if same_pair a.pair q then Some a.deadline else o) next

least_without : (d : ℕ) (p : Pair) (xs : List Alarm) → IsLeast d xs → IsLeast d (without_alarm p xs)
least_without d p [] h = tt
least_without d p (a ∷ xs) h = at (same_pair a.pair p) (least_without d p xs h.1)
  where
    at : (v : Bool) → IsLeast d (without_alarm p xs) → IsLeast d (if v then xs else a ∷ without_alarm p xs)
    at true next = h.1
    at false next = (h.0, next)

pub sorted_without : (p : Pair) (xs : List Alarm) → IsSorted xs → IsSorted (without_alarm p xs)
sorted_without p [] h = tt
sorted_without p (a ∷ xs) h = at (same_pair a.pair p) (sorted_without p xs h.1)
  where
    at : (v : Bool) → IsSorted (without_alarm p xs) → IsSorted (if v then xs else a ∷ without_alarm p xs)
    at true next = h.1
    at false next = (least_without a.deadline p xs h.0, next)

pub due_without : (now : ℕ) (p : Pair) (xs : List Alarm) → due now (without_alarm p xs) ≤ due now xs
due_without now p [] = omega arith
due_without now p (a ∷ xs) = at (same_pair a.pair p) (due_without now p xs)
  where
    at : (v : Bool) → due now (without_alarm p xs) ≤ due now xs → due now (if v then xs else a ∷ without_alarm p xs) ≤ (if nat_le a.deadline now then 1 else 0) + due now xs
    at true next = omega arith
    at false next = omega (arith, next)

-- ---- an alarm is put in

pub stands_placed : (a : Alarm) (xs : List Alarm) (r : Pair) → stands_in r (pairs_of (placed a xs)) ≡ (same_pair a.pair r || stands_in r (pairs_of xs))
stands_placed a [] r = refl
stands_placed a (b ∷ bs) r = at (nat_lt a.deadline b.deadline) (stands_placed a bs r)
  where
    swap : (v w x : Bool) → (v || (w || x)) ≡ (w || (v || x))
    swap true true x = refl
    swap true false x = refl
    swap false true x = refl
    swap false false x = refl

    at : (v : Bool) → stands_in r (pairs_of (placed a bs)) ≡ (same_pair a.pair r || stands_in r (pairs_of bs))
        → stands_in r (pairs_of (if v then a ∷ b ∷ bs else b ∷ placed a bs)) ≡ (same_pair a.pair r || (same_pair b.pair r || stands_in r (pairs_of bs)))
    at true next = refl
    at false next = ap (λ (w : Bool). same_pair b.pair r || w) next ∙ swap (same_pair b.pair r) (same_pair a.pair r) (stands_in r (pairs_of bs))

flip : (p q : Pair) → same_pair p q ≡ false → same_pair q p ≡ false
flip p q e = at (same_pair q p) refl
  where
    at : (v : Bool) → same_pair q p ≡ v → v ≡ false
    at false s = refl
    at true s = let same : same_pair p p ≡ false = rw (same_pair_is q p s) at e in let yes = same_pair-refl p in absurd (cc)

apart_placed : (a : Alarm) (xs : List Alarm) → stands_in a.pair (pairs_of xs) ≡ false → IsApart (pairs_of xs) → IsApart (pairs_of (placed a xs))
apart_placed a [] out h = (refl, tt)
apart_placed a (b ∷ bs) out h =
    let other = or_false (same_pair b.pair a.pair) (stands_in a.pair (pairs_of bs)) out in
    at (nat_lt a.deadline b.deadline) (apart_placed a bs other.1 h.1) (stands_placed a bs b.pair ∙ rw (flip b.pair a.pair other.0, h.0) refl)
  where
    at : (v : Bool) → IsApart (pairs_of (placed a bs)) → stands_in b.pair (pairs_of (placed a bs)) ≡ false → IsApart (pairs_of (if v then a ∷ b ∷ bs else b ∷ placed a bs))
    at true next here = (out, h)
    at false next here = (here, next)

pub alarm_placed : (a : Alarm) (xs : List Alarm) (p : Pair) → stands_in a.pair (pairs_of xs) ≡ false → alarm_of p (placed a xs) ≡ (if same_pair a.pair p then Some a.deadline else alarm_of p xs)
alarm_placed a [] p out = refl
alarm_placed a (b ∷ bs) p out =
    let other = or_false (same_pair b.pair a.pair) (stands_in a.pair (pairs_of bs)) out in
    at (nat_lt a.deadline b.deadline) (alarm_placed a bs p other.1) (λ s t. clash other.0 s t)
  where
    clash : same_pair b.pair a.pair ≡ false → same_pair b.pair p ≡ true → same_pair a.pair p ≡ false
    clash e s = flip p a.pair (rw (← same_pair_is b.pair p s) e)

    swap : (v w : Bool) (x : Option ℕ) → (v ≡ true → w ≡ false) → (if v then Some b.deadline else (if w then Some a.deadline else x)) ≡ (if w then Some a.deadline else (if v then Some b.deadline else x))
    swap true true x e = let no_both = e refl in absurd (cc)
    swap true false x e = refl
    swap false w x e = refl

    at : (v : Bool) → alarm_of p (placed a bs) ≡ (if same_pair a.pair p then Some a.deadline else alarm_of p bs) → (same_pair b.pair p ≡ true → same_pair a.pair p ≡ false)
        → alarm_of p (if v then a ∷ b ∷ bs else b ∷ placed a bs) ≡ (if same_pair a.pair p then Some a.deadline else (if same_pair b.pair p then Some b.deadline else alarm_of p bs))
    at true next e = refl
    at false next e = ap (λ (o : Option ℕ). if same_pair b.pair p then Some b.deadline else o) next ∙ swap (same_pair b.pair p) (same_pair a.pair p) (alarm_of p bs) e

least_placed : (d : ℕ) (a : Alarm) (xs : List Alarm) → d ≤ a.deadline → IsLeast d xs → IsLeast d (placed a xs)
least_placed d a [] le h = (le, tt)
least_placed d a (b ∷ bs) le h = at (nat_lt a.deadline b.deadline) (least_placed d a bs le h.1)
  where
    at : (v : Bool) → IsLeast d (placed a bs) → IsLeast d (if v then a ∷ b ∷ bs else b ∷ placed a bs)
    at true next = (le, h)
    at false next = (h.0, next)

least_down : (d e : ℕ) (xs : List Alarm) → d ≤ e → IsLeast e xs → IsLeast d xs
least_down d e [] le h = tt
least_down d e (a ∷ xs) le h = (omega (arith, le, h.0), least_down d e xs le h.1)

pub sorted_placed : (a : Alarm) (xs : List Alarm) → IsSorted xs → IsSorted (placed a xs)
sorted_placed a [] h = (tt, tt)
sorted_placed a (b ∷ bs) h = at (nat_lt a.deadline b.deadline) refl (sorted_placed a bs h.1)
  where
    at : (v : Bool) → nat_lt a.deadline b.deadline ≡ v → IsSorted (placed a bs) → IsSorted (if v then a ∷ b ∷ bs else b ∷ placed a bs)
    at true e next = let less = lt_is a.deadline b.deadline e in let le : a.deadline ≤ b.deadline = omega (arith, less) in ((le, least_down a.deadline b.deadline bs le h.0), h)
    at false e next = (least_placed b.deadline a bs (lt_not a.deadline b.deadline e) h.0, next)

pub due_placed : (now : ℕ) (a : Alarm) (xs : List Alarm) → due now (placed a xs) ≡ (if nat_le a.deadline now then 1 else 0) + due now xs
due_placed now a [] = refl
due_placed now a (b ∷ bs) = at (nat_lt a.deadline b.deadline) (due_placed now a bs)
  where
    at : (v : Bool) → due now (placed a bs) ≡ (if nat_le a.deadline now then 1 else 0) + due now bs
        → due now (if v then a ∷ b ∷ bs else b ∷ placed a bs) ≡ (if nat_le a.deadline now then 1 else 0) + ((if nat_le b.deadline now then 1 else 0) + due now bs)
    at true next = refl
    at false next = omega (arith, next)

-- ---- the alarm of a pair becomes another

-- what becomes of alarms where that of a pair becomes another
pub record Rung (p : Pair) (o : Option ℕ) (hs : List Held) (old new : List Alarm) : Type 0 where
  pub sorted : IsSorted new
  pub queue : Queue (pairs_of new) hs
  pub here : alarm_of p new ≡ o
  pub others : (q : Pair) → same_pair p q ≡ false → alarm_of q new ≡ alarm_of q old
  pub reached : (now : ℕ) → ((d : ℕ) → o ≡ Some d → now < d) → due now new ≤ due now old

or_parts : (a b : Bool) (X : Type 0) → (a || b) ≡ true → (a ≡ true → X) → (b ≡ true → X) → X
or_parts true b X e f g = f refl
or_parts false b X e f g = g e

-- the queue of the alarms without this one, over the ends that are held still
left_queue : (p : Pair) (hs : List Held) (xs : List Alarm) → Queue (pairs_of xs) hs → (Queue (pairs_of (without_alarm p xs)) hs) × (stands_in p (pairs_of (without_alarm p xs)) ≡ false)
left_queue p hs xs q =
    let same = pairs_without p xs in (
      record {
        held = λ r e. at r (same_pair p r) refl (sym (ap (stands_in r) same) ∙ e);
        apart = subst IsApart (sym same) (drop_line p (pairs_of xs) hs q).apart;
      },
      ap (stands_in p) same ∙ gone p (pairs_of xs) q.apart,
    )
  where
    at : (r : Pair) (v : Bool) → same_pair p r ≡ v → stands_in r (without_pair p (pairs_of xs)) ≡ true → is_some (held_end r hs) ≡ true
    at r true s e = let none : stands_in r (without_pair p (pairs_of xs)) ≡ false = rw (← same_pair_is p r s) (gone p (pairs_of xs) q.apart) in absurd (cc)
    at r false s e = q.held r (sym (stands_without p r (pairs_of xs) s) ∙ e)

pub ring : (most : ℕ) (p : Pair) (o : Option ℕ) (hs : List Held) (xs : List Alarm) → length hs ≤ most → is_some (held_end p hs) ≡ true → IsSorted xs → Queue (pairs_of xs) hs → Rung p o hs xs (with_alarm most p o xs)
ring most p None hs xs few held sorted q =
    let left = left_queue p hs xs q in record {
      sorted = sorted_without p xs sorted;
      queue = left.0;
      here = no_alarm p (without_alarm p xs) left.1;
      others = λ r other. alarm_without p r xs other;
      reached = λ now later. due_without now p xs;
    }
ring most p (Some d) hs xs few held sorted q =
    let rest = without_alarm p xs in
    let left = left_queue p hs xs q in
    let a : Alarm = record { pair = p; deadline = d } in
    let room : nat_le most (length rest) ≡ false = (let less = shorter (pairs_of rest) hs p left.0 left.1 held in let same = length_pairs rest in fits (length rest) (omega (arith, same, less, few))) in
    subst (Rung p (Some d) hs xs) (sym (put a rest room)) (record {
      sorted = sorted_placed a rest (sorted_without p xs sorted);
      queue = record {
        held = λ r e. or_parts (same_pair p r) (stands_in r (pairs_of rest)) (is_some (held_end r hs) ≡ true) (sym (stands_placed a rest r) ∙ e)
            (λ same. ap (λ (x : Pair). is_some (held_end x hs)) (sym (same_pair_is p r same)) ∙ held) (λ old. left.0.held r old);
        apart = apart_placed a rest left.1 left.0.apart;
      };
      here = alarm_placed a rest p left.1 ∙ rw (same_pair-refl p) refl;
      others = λ r other. alarm_placed a rest r left.1 ∙ rw other (alarm_without p r xs other);
      reached = λ now later. due_later now (later d refl) (due_placed now a rest) (due_without now p xs);
    })
  where
    length_pairs : (xs : List Alarm) → length (pairs_of xs) ≡ length xs
    length_pairs [] = refl
    length_pairs (x ∷ xs) = ap suc (length_pairs xs)

    fits : (n : ℕ) → n < most → nat_le most n ≡ false
    fits n less = grind (arith, nat_tests, less)

    put : (a : Alarm) (rest : List Alarm) → nat_le most (length rest) ≡ false → put_alarm most a rest ≡ placed a rest
    put a rest room = rw room refl

    due_later : (now : ℕ) → now < d → due now (placed (record { pair = p; deadline = d }) (without_alarm p xs)) ≡ (if nat_le d now then 1 else 0) + due now (without_alarm p xs)
        → due now (without_alarm p xs) ≤ due now xs → due now (placed (record { pair = p; deadline = d }) (without_alarm p xs)) ≤ due now xs
    due_later now less is le =
        let no_more : nat_le d now ≡ false = grind (arith, nat_tests, less) in
        let plain : due now (placed (record { pair = p; deadline = d }) (without_alarm p xs)) ≡ 0 + due now (without_alarm p xs) = is ∙ rw no_more refl in omega (arith, plain, le)

-- ---- nothing is reached

-- where the first isn't reached, none is
pub none_due : (now d : ℕ) (xs : List Alarm) → now < d → IsLeast d xs → due now xs ≡ 0
none_due now d [] less h = refl
none_due now d (a ∷ xs) less h =
    let no_more : nat_le a.deadline now ≡ false = (let le = h.0 in later a.deadline (omega (arith, less, le))) in
    rw no_more (omega (arith, none_due now d xs less h.1))
  where
    later : (e : ℕ) → now < e → nat_le e now ≡ false
    later e less = grind (arith, nat_tests, less)

-- where no deadline is reached, each is later
pub all_later : (now : ℕ) (xs : List Alarm) (p : Pair) (d : ℕ) → due now xs ≡ 0 → alarm_of p xs ≡ Some d → now < d
all_later now [] p d none e = absurd (cc)
all_later now (a ∷ xs) p d none e = at (nat_le a.deadline now) refl none (same_pair a.pair p) e (λ rest later. all_later now xs p d rest later)
  where
    at : (v : Bool) → nat_le a.deadline now ≡ v → (if v then 1 else 0) + due now xs ≡ 0 → (w : Bool) → (if w then Some a.deadline else alarm_of p xs) ≡ Some d → (due now xs ≡ 0 → alarm_of p xs ≡ Some d → now < d) → now < d
    at true r none w e next = absurd (omega (arith, none))
    at false r none true e next = let same = some_is a.deadline d e in let less : now < a.deadline = grind (arith, nat_tests, r) in omega (arith, same, less)
    at false r none false e next = next (omega (arith, none)) e

least_of : (l : ℕ) (bs : List Alarm) (p : Pair) (d : ℕ) → IsLeast l bs → alarm_of p bs ≡ Some d → l ≤ d
least_of l [] p d h e = absurd (cc)
least_of l (b ∷ bs) p d h e = at (same_pair b.pair p) e (least_of l bs p d h.1)
  where
    at : (w : Bool) → (if w then Some b.deadline else alarm_of p bs) ≡ Some d → (alarm_of p bs ≡ Some d → l ≤ d) → l ≤ d
    at true e next = omega (arith, some_is b.deadline d e, h.0)
    at false e next = next e

-- the first is the earliest
pub first_earliest : (xs : List Alarm) (p : Pair) (d : ℕ) → IsSorted xs → alarm_of p xs ≡ Some d → (e : ℕ) × (earliest xs ≡ Some e) × (e ≤ d)
first_earliest [] p d sorted e = absurd (cc)
first_earliest (a ∷ xs) p d sorted e = at (same_pair a.pair p) e
  where
    at : (w : Bool) → (if w then Some a.deadline else alarm_of p xs) ≡ Some d → (e : ℕ) × (Some a.deadline ≡ Some e) × (e ≤ d)
    at true e = (a.deadline, refl, omega (arith, some_is a.deadline d e))
    at false e = (a.deadline, refl, least_of a.deadline xs p d sorted.0 e)
