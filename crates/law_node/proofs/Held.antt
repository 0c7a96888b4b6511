-- The ends of a node, by their pairs.
use Rattle.std.proofs.Common.{◌≡◌, ℕ, Bool, true, false, List, [], ◌∷◌, ◌++◌, Some, None, refl, ◌∙◌}
use Rattle.std.specs.Prelude.{option_map, if◌then◌else◌}
use Rattle.book_base.specs.declared.address.Pair.{Pair}
use Rattle.book_endpoint.specs.States.{EndState, tick}
use Rattle.book_cmd_node.specs.NodeRuns.{Held, same_pair, held_end, with_end, without_end, ends_ticked}
use Rattle.law_node.proofs.Pairs.{same_pair_is, same_pair-refl, apart, apart_from}

-- an end of a pair
abbrev pub held : Pair → EndState → Held
held p s = record { pair = p; state = s }

-- the pair is held at most once
abbrev pub IsOnce : Pair → List Held → Type 0
IsOnce p hs = held_end p (without_end p hs) ≡ None

-- no pair is held twice
abbrev pub IsDistinct : List Held → Type 0
IsDistinct hs = (p : Pair) → IsOnce p hs

-- ---- the end of a pair after a change

pub end_with_same : (p : Pair) (s t : EndState) (hs : List Held) → held_end p hs ≡ Some t → held_end p (with_end p s hs) ≡ Some s
end_with_same p s t [] e = absurd (cc)
end_with_same p s t (h ∷ hs) e = at (same_pair h.pair p) refl (λ f. end_with_same p s t hs f) e
  where
    at : (v : Bool) → same_pair h.pair p ≡ v → (held_end p hs ≡ Some t → held_end p (with_end p s hs) ≡ Some s) → (if v then Some h.state else held_end p hs) ≡ Some t
        → held_end p (if v then held p s ∷ hs else h ∷ with_end p s hs) ≡ Some s
    at true f next e = rw (same_pair-refl p) refl
    at false f next e = rw f (next e)

pub end_with_other : (p q : Pair) (s : EndState) (hs : List Held) → same_pair q p ≡ false → held_end p (with_end q s hs) ≡ held_end p hs
end_with_other p q s [] e = refl
end_with_other p q s (h ∷ hs) e = at (same_pair h.pair q) refl (end_with_other p q s hs e)
  where
    at : (v : Bool) → same_pair h.pair q ≡ v → held_end p (with_end q s hs) ≡ held_end p hs
        → held_end p (if v then held q s ∷ hs else h ∷ with_end q s hs) ≡ held_end p (h ∷ hs)
    at true f i = let here : same_pair h.pair p ≡ false = rw (same_pair_is h.pair q f) e in rw (e, here) refl
    at false f i = rw i refl

pub end_without_other : (p q : Pair) (hs : List Held) → same_pair q p ≡ false → held_end p (without_end q hs) ≡ held_end p hs
end_without_other p q [] e = refl
end_without_other p q (h ∷ hs) e = at (same_pair h.pair q) refl (end_without_other p q hs e)
  where
    at : (v : Bool) → same_pair h.pair q ≡ v → held_end p (without_end q hs) ≡ held_end p hs
        → held_end p (if v then hs else h ∷ without_end q hs) ≡ held_end p (h ∷ hs)
    at true f i = let here : same_pair h.pair p ≡ false = rw (same_pair_is h.pair q f) e in rw here refl
    at false f i = rw i refl

pub end_ticked : (p : Pair) (now : ℕ) (hs : List Held) → held_end p (ends_ticked now hs) ≡ option_map (tick now) (held_end p hs)
end_ticked p now [] = refl
end_ticked p now (h ∷ hs) = at (same_pair h.pair p) (end_ticked p now hs)
  where
    at : (v : Bool) → held_end p (ends_ticked now hs) ≡ option_map (tick now) (held_end p hs)
        → (if v then Some (tick now h.state) else held_end p (ends_ticked now hs)) ≡ option_map (tick now) (if v then Some h.state else held_end p hs)
    at true i = refl
    at false i = i

pub end_pushed_other : (p q : Pair) (s : EndState) (hs : List Held) → same_pair q p ≡ false → held_end p (hs ++ held q s ∷ []) ≡ held_end p hs
end_pushed_other p q s [] e = rw e refl
end_pushed_other p q s (h ∷ hs) e = rw (end_pushed_other p q s hs e) refl

pub end_pushed_same : (p : Pair) (s : EndState) (hs : List Held) → held_end p hs ≡ None → held_end p (hs ++ held p s ∷ []) ≡ Some s
end_pushed_same p s [] e = rw (same_pair-refl p) refl
end_pushed_same p s (h ∷ hs) e = at (same_pair h.pair p) (λ f. end_pushed_same p s hs f) e
  where
    at : (v : Bool) → (held_end p hs ≡ None → held_end p (hs ++ held p s ∷ []) ≡ Some s) → (if v then Some h.state else held_end p hs) ≡ None
        → (if v then Some h.state else held_end p (hs ++ held p s ∷ [])) ≡ Some s
    at true next e = absurd (cc)
    at false next e = next e

-- ---- no end of a pair after a change

pub none_with : (p q : Pair) (s : EndState) (hs : List Held) → held_end p hs ≡ None → held_end p (with_end q s hs) ≡ None
none_with p q s [] e = refl
none_with p q s (h ∷ hs) e = at (same_pair h.pair q) (same_pair h.pair p) refl refl (λ f. none_with p q s hs f) e
  where
    at : (v w : Bool) → same_pair h.pair q ≡ v → same_pair h.pair p ≡ w → (held_end p hs ≡ None → held_end p (with_end q s hs) ≡ None)
        → (if w then Some h.state else held_end p hs) ≡ None → held_end p (if v then held q s ∷ hs else h ∷ with_end q s hs) ≡ None
    at v true f g next e = absurd (cc)
    at true false f g next e = rw (apart h.pair q p f g) e
    at false false f g next e = rw g (next e)

pub none_without : (p q : Pair) (hs : List Held) → held_end p hs ≡ None → held_end p (without_end q hs) ≡ None
none_without p q [] e = refl
none_without p q (h ∷ hs) e = at (same_pair h.pair q) (same_pair h.pair p) refl (λ f. none_without p q hs f) e
  where
    at : (v w : Bool) → same_pair h.pair p ≡ w → (held_end p hs ≡ None → held_end p (without_end q hs) ≡ None)
        → (if w then Some h.state else held_end p hs) ≡ None → held_end p (if v then hs else h ∷ without_end q hs) ≡ None
    at v true g next e = absurd (cc)
    at true false g next e = e
    at false false g next e = rw g (next e)

-- ---- a pair is held at most once after a change

pub once_with : (p q : Pair) (s : EndState) (hs : List Held) → IsOnce p hs → IsOnce p (with_end q s hs)
once_with p q s [] e = refl
once_with p q s (h ∷ hs) e = at (same_pair h.pair q) (same_pair h.pair p) refl refl (λ f. once_with p q s hs f) e
  where
    at : (v w : Bool) → same_pair h.pair q ≡ v → same_pair h.pair p ≡ w → (IsOnce p hs → IsOnce p (with_end q s hs))
        → held_end p (if w then hs else h ∷ without_end p hs) ≡ None
        → held_end p (without_end p (if v then held q s ∷ hs else h ∷ with_end q s hs)) ≡ None
    at true true f g next e = let here : same_pair q p ≡ true = rw (← same_pair_is h.pair q f) g in rw here e
    at true false f g next e = let here = apart h.pair q p f g in let left : IsOnce p hs = rw g at e in rw here (rw here left)
    at false true f g next e = rw g (none_with p q s hs e)
    at false false f g next e = let left : IsOnce p hs = rw g at e in rw g (rw g (next left))

pub once_without : (p q : Pair) (hs : List Held) → IsOnce p hs → IsOnce p (without_end q hs)
once_without p q [] e = refl
once_without p q (h ∷ hs) e = at (same_pair h.pair q) (same_pair h.pair p) refl (λ f. once_without p q hs f) e
  where
    at : (v w : Bool) → same_pair h.pair p ≡ w → (IsOnce p hs → IsOnce p (without_end q hs)) → held_end p (if w then hs else h ∷ without_end p hs) ≡ None
        → held_end p (without_end p (if v then hs else h ∷ without_end q hs)) ≡ None
    at true true g next e = none_without p p hs e
    at true false g next e = rw g at e
    at false true g next e = rw g (none_without p q hs e)
    at false false g next e = let left : IsOnce p hs = rw g at e in rw g (rw g (next left))

pub none_ticked : (p : Pair) (now : ℕ) (hs : List Held) → held_end p hs ≡ None → held_end p (ends_ticked now hs) ≡ None
none_ticked p now hs e = end_ticked p now hs ∙ rw e refl

without_ticked : (p : Pair) (now : ℕ) (hs : List Held) → without_end p (ends_ticked now hs) ≡ ends_ticked now (without_end p hs)
without_ticked p now [] = refl
without_ticked p now (h ∷ hs) = at (same_pair h.pair p) (without_ticked p now hs)
  where
    at : (v : Bool) → without_end p (ends_ticked now hs) ≡ ends_ticked now (without_end p hs)
        → (if v then ends_ticked now hs else held h.pair (tick now h.state) ∷ without_end p (ends_ticked now hs)) ≡ ends_ticked now (if v then hs else h ∷ without_end p hs)
    at true i = refl
    at false i = rw i refl

pub once_ticked : (p : Pair) (now : ℕ) (hs : List Held) → IsOnce p hs → IsOnce p (ends_ticked now hs)
once_ticked p now hs e = rw (without_ticked p now hs) (none_ticked p now (without_end p hs) e)

pub once_pushed : (p q : Pair) (s : EndState) (hs : List Held) → held_end q hs ≡ None → IsOnce p hs → IsOnce p (hs ++ held q s ∷ [])
once_pushed p q s [] n e = at (same_pair q p) refl
  where
    at : (v : Bool) → same_pair q p ≡ v → held_end p (if v then [] else held q s ∷ []) ≡ None
    at true f = refl
    at false f = rw f refl
once_pushed p q s (h ∷ hs) n e = at (same_pair h.pair q) (same_pair h.pair p) refl refl (λ m f. once_pushed p q s hs m f) n e
  where
    at : (v w : Bool) → same_pair h.pair q ≡ v → same_pair h.pair p ≡ w → (held_end q hs ≡ None → IsOnce p hs → IsOnce p (hs ++ held q s ∷ []))
        → (if v then Some h.state else held_end q hs) ≡ None
        → held_end p (if w then hs else h ∷ without_end p hs) ≡ None
        → held_end p (if w then hs ++ held q s ∷ [] else h ∷ without_end p (hs ++ held q s ∷ [])) ≡ None
    at true w f g next n e = absurd (cc)
    at false true f g next n e = end_pushed_other p q s hs (apart_from h.pair p q g f) ∙ e
    at false false f g next n e = let left : IsOnce p hs = rw g at e in rw g (next n left)
