-- A node holds the pairs of the definitions after an end was put, dropped or added, and after a tick.
use Rattle.std.proofs.Common.{◌≡◌, ℕ, ◌+◌, Bool, true, false, List, [], ◌∷◌, ◌++◌, length, Option, Some, None, refl, sym, ap, ◌∙◌, arith}
use Rattle.std.proofs.lemmas.List.{length-append}
use Rattle.std.specs.Prelude.{is_some, option_map, if◌then◌else◌}
use Rattle.book_base.specs.declared.address.Pair.{Pair}
use Rattle.book_keys.specs.Rows.{Row}
use Rattle.book_endpoint.specs.States.{EndState, tick}
use Rattle.book_cmd_node.specs.NodeRuns.{Held, same_pair, held_end, with_end, without_end, ends_ticked}
use Rattle.law_node.proofs.Pairs.{same_pair_is}
use Rattle.law_node.proofs.Held.{held, IsOnce, end_with_same, end_with_other, end_without_other, end_ticked, end_pushed_other, end_pushed_same}
use Rattle.tcp_endpoint.specs.declared.endpoint.Endpoint.{Endpoint}
use Rattle.stack_ends.specs.Held.{Holding, end_at, ends, holds, Adds, Removes, Ticks, TicksAt}
use Rattle.stack_ends.specs.EndsStands.{StandsFor, StandsAt, HoldsAs}

-- ---- how many are held

length_with : (p : Pair) (s : EndState) (hs : List Held) → length (with_end p s hs) ≡ length hs
length_with p s [] = refl
length_with p s (h ∷ hs) = at (same_pair h.pair p) (length_with p s hs)
  where
    at : (v : Bool) → length (with_end p s hs) ≡ length hs → length (if v then held p s ∷ hs else h ∷ with_end p s hs) ≡ length (h ∷ hs)
    at true i = refl
    at false i = omega arith

length_without : (p : Pair) (s : EndState) (hs : List Held) → held_end p hs ≡ Some s → length (without_end p hs) + 1 ≡ length hs
length_without p s [] e = absurd (cc)
length_without p s (h ∷ hs) e = at (same_pair h.pair p) (λ f. length_without p s hs f) e
  where
    at : (v : Bool) → (held_end p hs ≡ Some s → length (without_end p hs) + 1 ≡ length hs) → (if v then Some h.state else held_end p hs) ≡ Some s
        → length (if v then hs else h ∷ without_end p hs) + 1 ≡ length (h ∷ hs)
    at true next e = omega arith
    at false next e = let i = next e in omega arith

length_ticked : (now : ℕ) (hs : List Held) → length (ends_ticked now hs) ≡ length hs
length_ticked now [] = refl
length_ticked now (h ∷ hs) = let i = length_ticked now hs in omega arith

-- ---- what is held for a pair

pub held_alike : (rows : List Row) (p : Pair) (o : Option Endpoint) (m : Option EndState) → StandsAt rows p o m → is_some o ≡ is_some m
held_alike rows p None None h = refl
held_alike rows p (Some e) (Some s) h = refl
held_alike rows p None (Some s) h = absurd h
held_alike rows p (Some e) None h = absurd h

ticks_at : (rows : List Row) (p : Pair) (now : ℕ) (o after : Option Endpoint) (m : Option EndState) → StandsAt rows p o m → TicksAt now o after
    → StandsAt rows p after (option_map (tick now) m)
ticks_at rows p now None after None h t = rw t tt
ticks_at rows p now (Some e) after (Some s) h t = rw t.1 (record { stands = t.2.stands s h.stands; fits = t.2.fits rows h.fits; pair_is = t.2.pair ∙ h.pair_is })
ticks_at rows p now None after (Some s) h t = absurd h
ticks_at rows p now (Some e) after None h t = absurd h

-- ---- what the node holds

pub put_holds : (rows : List Row) (h after : Holding) (p : Pair) (f : Endpoint) (s t : EndState) (hs : List Held) → HoldsAs rows h hs → held_end p hs ≡ Some s
    → ((q : Pair) → end_at after q ≡ (if same_pair p q then Some f else end_at h q)) → ends after ≡ ends h → StandsFor rows p f t → HoldsAs rows after (with_end p t hs)
put_holds rows h after p f s t hs H e finds count S = record { each = λ q. at q (same_pair p q) refl; count = count ∙ H.count ∙ sym (length_with p t hs) }
  where
    at : (q : Pair) (v : Bool) → same_pair p q ≡ v → StandsAt rows q (end_at after q) (held_end q (with_end p t hs))
    at q true g = let is = same_pair_is p q g in let here : StandsAt rows p (Some f) (held_end p (with_end p t hs)) = rw (end_with_same p t s hs e) S in rw (finds q, g) (rw (← is) here)
    at q false g = rw (finds q, g, end_with_other q p t hs g) (H.each q)

pub drop_holds : (rows : List Row) (h after : Holding) (p : Pair) (s : EndState) (hs : List Held) → HoldsAs rows h hs → held_end p hs ≡ Some s → IsOnce p hs
    → Removes h after p → HoldsAs rows after (without_end p hs)
drop_holds rows h after p s hs H e once R = record { each = λ q. at q (same_pair p q) refl; count = count }
  where
    at : (q : Pair) (v : Bool) → same_pair p q ≡ v → StandsAt rows q (end_at after q) (held_end q (without_end p hs))
    at q true g = let is = same_pair_is p q g in let here : StandsAt rows p None (held_end p (without_end p hs)) = rw once tt in rw (R.finds q, g) (rw (← is) here)
    at q false g = rw (R.finds q, g, end_without_other q p hs g) (H.each q)

    count : ends after ≡ length (without_end p hs)
    count =
        let is : holds h p ≡ true = held_alike rows p (end_at h p) (held_end p hs) (H.each p) ∙ rw e refl in
        let less : ends after + 1 ≡ ends h = rw is at R.count in
        let one = length_without p s hs e in
        let all = H.count in
        omega arith

pub add_holds : (rows : List Row) (h after : Holding) (p : Pair) (f : Endpoint) (t : EndState) (hs : List Held) → HoldsAs rows h hs → held_end p hs ≡ None
    → Adds h after p f → StandsFor rows p f t → HoldsAs rows after (hs ++ held p t ∷ [])
add_holds rows h after p f t hs H e A S = record { each = λ q. at q (same_pair p q) refl; count = A.count ∙ ap (λ n. n + 1) H.count ∙ sym (length-append hs (held p t ∷ [])) }
  where
    at : (q : Pair) (v : Bool) → same_pair p q ≡ v → StandsAt rows q (end_at after q) (held_end q (hs ++ held p t ∷ []))
    at q true g = let is = same_pair_is p q g in let here : StandsAt rows p (Some f) (held_end p (hs ++ held p t ∷ [])) = rw (end_pushed_same p t hs e) S in rw (A.finds q, g) (rw (← is) here)
    at q false g = rw (A.finds q, g, end_pushed_other q p t hs g) (H.each q)

pub tick_holds : (rows : List Row) (h after : Holding) (now : ℕ) (hs : List Held) → HoldsAs rows h hs → Ticks now h after → HoldsAs rows after (ends_ticked now hs)
tick_holds rows h after now hs H T = record {
  each = λ q. rw (end_ticked q now hs) (ticks_at rows q now (end_at h q) (end_at after q) (held_end q hs) (H.each q) (T.each q));
  count = T.count ∙ H.count ∙ sym (length_ticked now hs);
}
