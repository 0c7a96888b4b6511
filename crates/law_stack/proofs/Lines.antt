-- The line of ends: no pair stands in it twice, each is held, and so there is room for another that is held.
use Rattle.std.proofs.Common.{◌≡◌, ℕ, suc, ◌<◌, ◌≤◌, Bool, true, false, ◌||◌, nat_le, List, [], ◌∷◌, ◌++◌, length, Some, refl, sym, ap, ◌∙◌, ◌⊎◌, inl, inr, if◌then◌else◌, arith}
use Rattle.std.specs.Prelude.{is_some}
use Rattle.book_base.specs.declared.address.Pair.{Pair}
use Rattle.book_cmd_node.specs.NodeRuns.{Held, same_pair, held_end, without_end}
use Rattle.book_segments.proofs.Fields.{le_is}
use Rattle.law_node.proofs.Held.{end_without_other}
use Rattle.law_node.proofs.Pairs.{same_pair_is, same_pair-refl}
use Rattle.book_stack.specs.Alarms.{lined, stands_in, without_pair}

-- no pair stands twice in a line
abbrev pub IsApart : List Pair → Type 0
IsApart [] = Unit {0}
IsApart (p ∷ ps) = (stands_in p ps ≡ false) × IsApart ps

-- the pairs of a line are held, and none stands in it twice
pub record Queue (line : List Pair) (hs : List Held) : Type 0 where
  pub held : (p : Pair) → stands_in p line ≡ true → is_some (held_end p hs) ≡ true
  pub apart : IsApart line

or_true : (a b : Bool) → b ≡ true → (a || b) ≡ true
or_true true b e = refl
or_true false b e = e

pub or_false : (a b : Bool) → (a || b) ≡ false → (a ≡ false) × (b ≡ false)
or_false true b e = absurd (cc)
or_false false b e = (refl, e)

length_without : (q : Pair) (hs : List Held) → is_some (held_end q hs) ≡ true → length hs ≡ suc (length (without_end q hs))
length_without q [] e = absurd (cc)
length_without q (h ∷ hs) e = at (same_pair h.pair q) e (length_without q hs)
  where
    at : (v : Bool) → is_some (if v then Some h.state else held_end q hs) ≡ true → (is_some (held_end q hs) ≡ true → length hs ≡ suc (length (without_end q hs)))
        → suc (length hs) ≡ suc (length (if v then hs else h ∷ without_end q hs))
    at true e next = refl
    at false e next = ap suc (next e)

-- a line of pairs that are held, in which one that is held doesn't stand, is shorter than the list of ends
pub shorter : (line : List Pair) (hs : List Held) (p : Pair) → Queue line hs → stands_in p line ≡ false → is_some (held_end p hs) ≡ true → length line < length hs
shorter [] [] p q out held = absurd (cc)
shorter [] (h ∷ hs) p q out held = omega arith
shorter (x ∷ line) hs p q out held =
    let no = or_false (same_pair x p) (stands_in p line) out in
    let here : is_some (held_end x hs) ≡ true = q.held x (or_here x line) in
    let rest : Queue line (without_end x hs) = record {
      held = λ r e. ap is_some (end_without_other r x hs (differs x r line q.apart.0 e)) ∙ q.held r (or_true (same_pair x r) (stands_in r line) e);
      apart = q.apart.1;
    } in
    let less = shorter line (without_end x hs) p rest no.1 (ap is_some (end_without_other p x hs no.0) ∙ held) in
    omega (arith, length_without x hs here, less)
  where
    or_here : (x : Pair) (line : List Pair) → (same_pair x x || stands_in x line) ≡ true
    or_here x line = rw (same_pair-refl x) refl

    differs : (x r : Pair) (line : List Pair) → stands_in x line ≡ false → stands_in r line ≡ true → same_pair x r ≡ false
    differs x r line out e = at (same_pair x r) refl
      where
        at : (v : Bool) → same_pair x r ≡ v → v ≡ false
        at false s = refl
        at true s = let same : stands_in r line ≡ false = rw (← same_pair_is x r s) out in absurd (cc)

-- ---- a pair at the end of the line

pub stands_pushed : (r p : Pair) (line : List Pair) → stands_in r (line ++ p ∷ []) ≡ (stands_in r line || same_pair p r)
stands_pushed r p [] = at (same_pair p r)
  where
    at : (v : Bool) → (v || false) ≡ v
    at true = refl
    at false = refl
stands_pushed r p (x ∷ line) = at (same_pair x r) (stands_pushed r p line)
  where
    at : (v : Bool) → stands_in r (line ++ p ∷ []) ≡ (stands_in r line || same_pair p r) → (v || stands_in r (line ++ p ∷ [])) ≡ ((v || stands_in r line) || same_pair p r)
    at true e = refl
    at false e = e

apart_pushed : (p : Pair) (line : List Pair) → stands_in p line ≡ false → IsApart line → IsApart (line ++ p ∷ [])
apart_pushed p [] out a = (refl, tt)
apart_pushed p (x ∷ line) out a =
    let no = or_false (same_pair x p) (stands_in p line) out in
    let turned : same_pair p x ≡ false = flip x p no.0 in
    (stands_pushed x p line ∙ rw (a.0, turned) refl, apart_pushed p line no.1 a.1)
  where
    flip : (x p : Pair) → same_pair x p ≡ false → same_pair p x ≡ false
    flip x p e = at (same_pair p x) refl
      where
        at : (v : Bool) → same_pair p x ≡ v → v ≡ false
        at false s = refl
        at true s = let same : same_pair x x ≡ false = rw (same_pair_is p x s) at e in let yes = same_pair-refl x in absurd (cc)

-- what becomes of a line when a pair that is held is touched
pub record Lined (most : ℕ) (p : Pair) (line : List Pair) (hs : List Held) : Type 0 where
  pub queue : Queue (lined most p line) hs
  pub here : stands_in p (lined most p line) ≡ true
  pub others : (r : Pair) → stands_in r (lined most p line) ≡ false → stands_in r line ≡ false
  pub pushed : stands_in p line ≡ false → lined most p line ≡ line ++ p ∷ []

or_parts : (a b : Bool) → (a || b) ≡ true → ((a ≡ true) ⊎ (b ≡ true))
or_parts true b e = inl refl
or_parts false b e = inr e

pub touch_line : (most : ℕ) (p : Pair) (line : List Pair) (hs : List Held) → length hs ≤ most → Queue line hs → is_some (held_end p hs) ≡ true → Lined most p line hs
touch_line most p line hs few q held = at (stands_in p line) refl
  where
    full : (v : Bool) → nat_le most (length line) ≡ v → length line < length hs → v ≡ false
    full true e less = absurd (omega (arith, less, few, le_is most (length line) e))
    full false e less = refl

    At : Bool → Bool → Type 0
    At v w = let l : List Pair = if v then line else (if w then line else line ++ p ∷ []) in
        (Queue l hs) × (stands_in p l ≡ true) × ((r : Pair) → stands_in r l ≡ false → stands_in r line ≡ false) × (stands_in p line ≡ false → l ≡ line ++ p ∷ [])

    over : (v w : Bool) → stands_in p line ≡ v → (v ≡ false → w ≡ false) → At v w
    over true w e f = (q, e, λ r o. o, λ o. absurd (cc))
    over false true e f = let no = f refl in absurd (cc)
    over false false e f = (
      record {
        held = λ r s. elim (or_parts (stands_in r line) (same_pair p r) (sym (stands_pushed r p line) ∙ s)) [
          | inl old ↦ q.held r old
          | inr new ↦ ap (λ (x : Pair). is_some (held_end x hs)) (sym (same_pair_is p r new)) ∙ held
        ];
        apart = apart_pushed p line e q.apart;
      },
      stands_pushed p p line ∙ rw (e, same_pair-refl p) refl,
      λ r o. (or_false (stands_in r line) (same_pair p r) (sym (stands_pushed r p line) ∙ o)).0,
      λ o. refl,
    )

    at : (v : Bool) → stands_in p line ≡ v → Lined most p line hs
    at v e =
        let x = over (stands_in p line) (nat_le most (length line)) refl (λ out. full (nat_le most (length line)) refl (shorter line hs p q out held)) in
        record { queue = x.0; here = x.1; others = x.2; pushed = x.3 }

-- ---- a pair leaves the line

pub stands_without : (p r : Pair) (line : List Pair) → same_pair p r ≡ false → stands_in r (without_pair p line) ≡ stands_in r line
stands_without p r [] e = refl
stands_without p r (x ∷ line) e = at (same_pair x p) refl (stands_without p r line e)
  where
    apart_of : (x p r : Pair) → same_pair x p ≡ true → same_pair p r ≡ false → same_pair x r ≡ false
    apart_of x p r s e = rw (same_pair_is x p s) e

    at : (v : Bool) → same_pair x p ≡ v → stands_in r (without_pair p line) ≡ stands_in r line → stands_in r (if v then line else x ∷ without_pair p line) ≡ (same_pair x r || stands_in r line)
    at true s next = let other = apart_of x p r s e in rw other refl
    at false s next = ap (λ (b : Bool). same_pair x r || b) next

pub gone : (p : Pair) (line : List Pair) → IsApart line → stands_in p (without_pair p line) ≡ false
gone p [] a = refl
gone p (x ∷ line) a = at (same_pair x p) refl (gone p line a.1)
  where
    at : (v : Bool) → same_pair x p ≡ v → stands_in p (without_pair p line) ≡ false → stands_in p (if v then line else x ∷ without_pair p line) ≡ false
    at true s next = rw (← same_pair_is x p s) a.0
    at false s next = rw s next

apart_without : (p : Pair) (line : List Pair) → IsApart line → IsApart (without_pair p line)
apart_without p [] a = tt
apart_without p (x ∷ line) a = at (same_pair x p) refl (apart_without p line a.1)
  where
    turned : (x p : Pair) → same_pair x p ≡ false → same_pair p x ≡ false
    turned x p e = flip (same_pair p x) refl
      where
        flip : (v : Bool) → same_pair p x ≡ v → v ≡ false
        flip false s = refl
        flip true s = let same : same_pair x x ≡ false = rw (same_pair_is p x s) at e in let yes = same_pair-refl x in absurd (cc)

    at : (v : Bool) → same_pair x p ≡ v → IsApart (without_pair p line) → IsApart (if v then line else x ∷ without_pair p line)
    at true s next = a.1
    at false s next = (stands_without p x line (turned x p s) ∙ a.0, next)

-- the pair is dropped, and stands in line no more
pub drop_line : (p : Pair) (line : List Pair) (hs : List Held) → Queue line hs → Queue (without_pair p line) (without_end p hs)
drop_line p line hs q = record {
  held = λ r e. at r (same_pair p r) refl e;
  apart = apart_without p line q.apart;
}
  where
    at : (r : Pair) (v : Bool) → same_pair p r ≡ v → stands_in r (without_pair p line) ≡ true → is_some (held_end r (without_end p hs)) ≡ true
    at r true s e = let none : stands_in r (without_pair p line) ≡ false = rw (← same_pair_is p r s) (gone p line q.apart) in absurd (cc)
    at r false s e = ap is_some (end_without_other r p hs s) ∙ q.held r (sym (stands_without p r line s) ∙ e)

-- the first leaves the line
pub tail_line : (p : Pair) (line : List Pair) (hs : List Held) → Queue (p ∷ line) hs → Queue line hs
tail_line p line hs q = record { held = λ r e. q.held r (or_true (same_pair p r) (stands_in r line) e); apart = q.apart.1 }

-- a line over ends that are held as before
pub same_line : (line : List Pair) (hs ks : List Held) → ((p : Pair) → is_some (held_end p hs) ≡ true → is_some (held_end p ks) ≡ true) → Queue line hs → Queue line ks
same_line line hs ks more q = record { held = λ p e. more p (q.held p e); apart = q.apart }
