-- What holds of each stack: who doesn't stand in line has nothing to send, and the timer runs exactly where something is waited for.
use Rattle.std.proofs.Common.{◌≡◌, ℕ, suc, ◌<◌, ◌≤◌, Bool, true, false, List, [], ◌∷◌, ◌++◌, length, Option, Some, None, refl, sym, ap, ◌∙◌, subst, if◌then◌else◌, arith}
use Rattle.std.specs.Prelude.{is_some, option_map}
use Rattle.book_base.specs.declared.address.Pair.{Pair}
use Rattle.book_endpoint.specs.States.{EndState, tick}
use Rattle.book_cmd_node.specs.NodeRuns.{Held, same_pair, held_end, with_end, without_end, ends_ticked}
use Rattle.book_segments.proofs.Fields.{some_is}
use Rattle.law_node.proofs.Held.{held, IsOnce, end_with_same, end_with_other, end_without_other, end_ticked, end_pushed_other, end_pushed_same, once_with, once_without, once_ticked, once_pushed}
use Rattle.law_node.proofs.Pairs.{same_pair_is}
use Rattle.book_stack.specs.Alarms.{lined, stands_in, without_pair}
use Rattle.book_stack.specs.Stacks.{StackState}
use Rattle.book_stack.specs.Watches.{ConnectionWatch}
use Rattle.law_stack.specs.Resting.{Settled}
use Rattle.law_stack.proofs.Lines.{Queue, Lined, drop_line, same_line, stands_without}
use Rattle.law_stack.proofs.Speaking.{Speaks, tick_speaks}
use Rattle.law_stack.proofs.Settling.{tick_settled}

-- no pair is held twice, there is room for each, and each end that may speak knows its peer
pub record Ends (most : ℕ) (hs : List Held) : Type 0 where
  pub few : length hs ≤ most
  pub once : (p : Pair) → IsOnce p hs
  pub speaks : (p : Pair) (e : EndState) → held_end p hs ≡ Some e → Speaks e

-- each end that is held, isn't passed over and doesn't stand in line is settled
pub record Settles (skips : Pair → Bool) (hs : List Held) (line : List Pair) (watches : Pair → ConnectionWatch) : Type 0 where
  pub all : (p : Pair) (e : EndState) → skips p ≡ false → held_end p hs ≡ Some e → stands_in p line ≡ false → Settled e (watches p)

abbrev pub nobody : Pair → Bool
nobody p = false

pub record TidyBut (skips : Pair → Bool) (s : StackState) : Type 0 where
  pub ends : Ends s.most s.node.ends
  pub queue : Queue s.line s.node.ends
  pub settles : Settles skips s.node.ends s.line s.watches

abbrev pub Tidy : StackState → Type 0
Tidy s = TidyBut nobody s

abbrev pub TidyButOne : Pair → StackState → Type 0
TidyButOne p s = TidyBut (same_pair p) s

-- ---- the end of a pair becomes another

pub length_with : (p : Pair) (e : EndState) (hs : List Held) → length (with_end p e hs) ≡ length hs
length_with p e [] = refl
length_with p e (h ∷ hs) = at (same_pair h.pair p) (length_with p e hs)
  where
    at : (v : Bool) → length (with_end p e hs) ≡ length hs → length (if v then held p e ∷ hs else h ∷ with_end p e hs) ≡ suc (length hs)
    at true next = refl
    at false next = ap suc next

-- who is held after the end of a pair became another
pub held_with : (p : Pair) (old new : EndState) (hs : List Held) (X : EndState → Type 0) → held_end p hs ≡ Some old → X new → (q : Pair) (e : EndState) → held_end q (with_end p new hs) ≡ Some e
    → (same_pair p q ≡ false → held_end q hs ≡ Some e → X e) → X e
held_with p old new hs X was x q e now other = at (same_pair p q) refl
  where
    at : (v : Bool) → same_pair p q ≡ v → X e
    at true s =
        let is : held_end p (with_end p new hs) ≡ Some e = ap (λ (r : Pair). held_end r (with_end p new hs)) (same_pair_is p q s) ∙ now in
        let same : new ≡ e = some_is new e (sym (end_with_same p new old hs was) ∙ is) in subst X same x
    at false s = other s (sym (end_with_other q p new hs s) ∙ now)

pub is_held_with : (p q : Pair) (old new : EndState) (hs : List Held) → held_end p hs ≡ Some old → is_some (held_end q (with_end p new hs)) ≡ is_some (held_end q hs)
is_held_with p q old new hs was = at (same_pair p q) refl
  where
    at : (v : Bool) → same_pair p q ≡ v → is_some (held_end q (with_end p new hs)) ≡ is_some (held_end q hs)
    at true s = let is = same_pair_is p q s in rw (← is) (ap is_some (end_with_same p new old hs was) ∙ sym (ap is_some was))
    at false s = ap is_some (end_with_other q p new hs s)

pub ends_with : (most : ℕ) (p : Pair) (old new : EndState) (hs : List Held) → held_end p hs ≡ Some old → Speaks new → Ends most hs → Ends most (with_end p new hs)
ends_with most p old new hs was x h = record {
  few = omega (arith, length_with p new hs, h.few);
  once = λ q. once_with q p new hs (h.once q);
  speaks = λ q e now. held_with p old new hs Speaks was x q e now (λ other before. h.speaks q e before);
}

pub queue_with : (p : Pair) (old new : EndState) (line : List Pair) (hs : List Held) → held_end p hs ≡ Some old → Queue line hs → Queue line (with_end p new hs)
queue_with p old new line hs was q = same_line line hs (with_end p new hs) (λ r e. is_held_with p r old new hs was ∙ e) q

-- a pair whose end became another is passed over
pub settles_with : (p : Pair) (new : EndState) (hs : List Held) (line : List Pair) (ws : Pair → ConnectionWatch) → Settles nobody hs line ws → Settles (same_pair p) (with_end p new hs) line ws
settles_with p new hs line ws h = record { all = λ q e skip now out. h.all q e refl (sym (end_with_other q p new hs skip) ∙ now) out }

pub settles_with_one : (p : Pair) (new : EndState) (hs : List Held) (line : List Pair) (ws : Pair → ConnectionWatch) → Settles (same_pair p) hs line ws → Settles (same_pair p) (with_end p new hs) line ws
settles_with_one p new hs line ws h = record { all = λ q e skip now out. h.all q e skip (sym (end_with_other q p new hs skip) ∙ now) out }

-- the end of a pair stays as it is
pub settles_same : (p : Pair) (old : EndState) (hs : List Held) (line : List Pair) (ws : Pair → ConnectionWatch) → held_end p hs ≡ Some old → Settles nobody hs line ws → Settles nobody (with_end p old hs) line ws
settles_same p old hs line ws was h = record { all = λ q e skip now out. at q e now out (same_pair p q) refl }
  where
    at : (q : Pair) (e : EndState) → held_end q (with_end p old hs) ≡ Some e → stands_in q line ≡ false → (v : Bool) → same_pair p q ≡ v → Settled e (ws q)
    at q e now out true s =
        let is : held_end p (with_end p old hs) ≡ Some e = ap (λ (r : Pair). held_end r (with_end p old hs)) (same_pair_is p q s) ∙ now in
        let same : old ≡ e = some_is old e (sym (end_with_same p old old hs was) ∙ is) in
        h.all q e refl (ap (λ (r : Pair). held_end r hs) (sym (same_pair_is p q s)) ∙ was ∙ ap (λ (x : EndState). Some x) same) out
    at q e now out false s = h.all q e refl (sym (end_with_other q p old hs s) ∙ now) out

-- ---- timers, and the line

-- the timer of the pair that is passed over becomes another
pub settles_watched : (p : Pair) (w : ConnectionWatch) (hs : List Held) (line : List Pair) (ws : Pair → ConnectionWatch) → Settles (same_pair p) hs line ws → Settles (same_pair p) hs line (λ q. if same_pair p q then w else ws q)
settles_watched p w hs line ws h = record { all = λ q e skip now out. rw skip (h.all q e skip now out) }

pub settles_touched : (most : ℕ) (p : Pair) (hs : List Held) (line : List Pair) (ws : Pair → ConnectionWatch) → Lined most p line hs → Settles (same_pair p) hs line ws → Settles nobody hs (lined most p line) ws
settles_touched most p hs line ws l h = record { all = λ q e skip now out. at q e now out (same_pair p q) refl }
  where
    at : (q : Pair) (e : EndState) → held_end q hs ≡ Some e → stands_in q (lined most p line) ≡ false → (v : Bool) → same_pair p q ≡ v → Settled e (ws q)
    at q e now out true s = let here : stands_in q (lined most p line) ≡ true = rw (← same_pair_is p q s) l.here in absurd (cc)
    at q e now out false s = h.all q e s now (l.others q out)

-- the pair that is passed over is settled
pub settles_one : (p : Pair) (hs : List Held) (line : List Pair) (ws : Pair → ConnectionWatch) → ((e : EndState) → held_end p hs ≡ Some e → Settled e (ws p)) → Settles (same_pair p) hs line ws → Settles nobody hs line ws
settles_one p hs line ws one h = record { all = λ q e skip now out. at q e now out (same_pair p q) refl }
  where
    at : (q : Pair) (e : EndState) → held_end q hs ≡ Some e → stands_in q line ≡ false → (v : Bool) → same_pair p q ≡ v → Settled e (ws q)
    at q e now out true s =
        let is = same_pair_is p q s in
        subst (λ (r : Pair). Settled e (ws r)) is (one e (ap (λ (r : Pair). held_end r hs) is ∙ now))
    at q e now out false s = h.all q e s now out

-- the first of the line leaves it, and is passed over
pub settles_tail : (p : Pair) (hs : List Held) (line : List Pair) (ws : Pair → ConnectionWatch) → Settles nobody hs (p ∷ line) ws → Settles (same_pair p) hs line ws
settles_tail p hs line ws h = record { all = λ q e skip now out. h.all q e refl now (rw skip out) }

-- ---- the clock

length_ticked : (now : ℕ) (hs : List Held) → length (ends_ticked now hs) ≡ length hs
length_ticked now [] = refl
length_ticked now (h ∷ hs) = ap suc (length_ticked now hs)

map_some : (f : EndState → EndState) (o : Option EndState) (e : EndState) → option_map f o ≡ Some e → (x : EndState) × (o ≡ Some x) × (f x ≡ e)
map_some f None e s = absurd (cc)
map_some f (Some x) e s = (x, refl, some_is (f x) e s)

map_is : (f : EndState → EndState) (o : Option EndState) → is_some (option_map f o) ≡ is_some o
map_is f None = refl
map_is f (Some x) = refl

pub tidy_ticked : (now : ℕ) (s : StackState) → Tidy s → Tidy (record s { node = record { clock = now; ends = ends_ticked now s.node.ends } })
tidy_ticked now s h = record {
  ends = record {
    few = omega (arith, length_ticked now s.node.ends, h.ends.few);
    once = λ p. once_ticked p now s.node.ends (h.ends.once p);
    speaks = λ p e now_held.
        let m = map_some (tick now) (held_end p s.node.ends) e (sym (end_ticked p now s.node.ends) ∙ now_held) in
        subst Speaks m.2 (tick_speaks now m.0 (h.ends.speaks p m.0 m.1));
  };
  queue = same_line s.line s.node.ends (ends_ticked now s.node.ends) (λ p e. ap is_some (end_ticked p now s.node.ends) ∙ map_is (tick now) (held_end p s.node.ends) ∙ e) h.queue;
  settles = record {
    all = λ p e skip now_held out.
        let m = map_some (tick now) (held_end p s.node.ends) e (sym (end_ticked p now s.node.ends) ∙ now_held) in
        subst (λ (x : EndState). Settled x (s.watches p)) m.2 (tick_settled now m.0 (s.watches p) (h.ends.speaks p m.0 m.1).ahead (h.settles.all p m.0 refl m.1 out));
  };
}

-- ---- an end is dropped, or begins

pub tidy_dropped : (p : Pair) (s : StackState) (ws : Pair → ConnectionWatch) → is_some (held_end p s.node.ends) ≡ true → ((q : Pair) → same_pair p q ≡ false → ws q ≡ s.watches q) → Tidy s
    → TidyBut nobody (record s { node = record { clock = s.node.clock; ends = without_end p s.node.ends }; watches = ws; line = without_pair p s.line })
tidy_dropped p s ws held same h = record {
  ends = record {
    few = (let fewer = length_dropped p s.node.ends in omega (arith, fewer, h.ends.few));
    once = λ q. once_without q p s.node.ends (h.ends.once q);
    speaks = λ q e now. let other = differs q e now in h.ends.speaks q e (sym (end_without_other q p s.node.ends other) ∙ now);
  };
  queue = drop_line p s.line s.node.ends h.queue;
  settles = record {
    all = λ q e skip now out.
        let other = differs q e now in
        let old = h.settles.all q e refl (sym (end_without_other q p s.node.ends other) ∙ now) (sym (stands_without p q s.line other) ∙ out) in
        subst (λ (w : ConnectionWatch). Settled e w) (sym (same q other)) old;
  };
}
  where
    length_dropped : (p : Pair) (hs : List Held) → length (without_end p hs) ≤ length hs
    length_dropped p [] = omega arith
    length_dropped p (h ∷ hs) = elim (same_pair h.pair p) as (λ (v : Bool). length (if v then hs else h ∷ without_end p hs) ≤ suc (length hs)) [
      | true ↦ omega arith
      | false ↦ omega (arith, length_dropped p hs)
    ]

    differs : (q : Pair) (e : EndState) → held_end q (without_end p s.node.ends) ≡ Some e → same_pair p q ≡ false
    differs q e now = at (same_pair p q) refl
      where
        at : (v : Bool) → same_pair p q ≡ v → v ≡ false
        at false t = refl
        at true t =
            let none : held_end p (without_end p s.node.ends) ≡ None = h.ends.once p in
            let some : held_end p (without_end p s.node.ends) ≡ Some e = ap (λ (r : Pair). held_end r (without_end p s.node.ends)) (same_pair_is p q t) ∙ now in absurd (cc)

length_pushed : (h : Held) (hs : List Held) → length (hs ++ h ∷ []) ≡ suc (length hs)
length_pushed h [] = refl
length_pushed h (x ∷ hs) = ap suc (length_pushed h hs)

pub tidy_begun : (p : Pair) (e : EndState) (s : StackState) → held_end p s.node.ends ≡ None → length s.node.ends < s.most → Speaks e → Tidy s
    → TidyButOne p (record s { node = record { clock = s.node.clock; ends = s.node.ends ++ held p e ∷ [] } })
tidy_begun p e s none room x h = record {
  ends = record {
    few = omega (arith, length_pushed (held p e) s.node.ends, room);
    once = λ q. once_pushed q p e s.node.ends none (h.ends.once q);
    speaks = λ q f now. at q f now (same_pair p q) refl;
  };
  queue = same_line s.line s.node.ends (s.node.ends ++ held p e ∷ []) (λ q e. more q e (same_pair p q) refl) h.queue;
  settles = record { all = λ q f skip now out. h.settles.all q f refl (sym (end_pushed_other q p e s.node.ends skip) ∙ now) out };
}
  where
    at : (q : Pair) (f : EndState) → held_end q (s.node.ends ++ held p e ∷ []) ≡ Some f → (v : Bool) → same_pair p q ≡ v → Speaks f
    at q f now true t =
        let is : held_end p (s.node.ends ++ held p e ∷ []) ≡ Some f = ap (λ (r : Pair). held_end r (s.node.ends ++ held p e ∷ [])) (same_pair_is p q t) ∙ now in
        let same : e ≡ f = some_is e f (sym (end_pushed_same p e s.node.ends none) ∙ is) in subst Speaks same x
    at q f now false t = h.ends.speaks q f (sym (end_pushed_other q p e s.node.ends t) ∙ now)

    more : (q : Pair) → is_some (held_end q s.node.ends) ≡ true → (v : Bool) → same_pair p q ≡ v → is_some (held_end q (s.node.ends ++ held p e ∷ [])) ≡ true
    more q y true t = let is = same_pair_is p q t in rw (← is) (ap is_some (end_pushed_same p e s.node.ends none))
    more q y false t = ap is_some (end_pushed_other q p e s.node.ends t) ∙ y
