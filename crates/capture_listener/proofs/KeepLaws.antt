-- An index is right once a segment is counted.
use Rattle.std.proofs.Common.{◌≡◌, ◌≢◌, ℕ, ◌+◌, ◌-◌, ◌<◌, ◌≤◌, ◌==◌, Bool, true, false, List, [], ◌∷◌, ◌++◌, length, get_or, Option, Some, None, Result, Ok, Err, OnOk, OnErr, refl, sym, ap, ◌∙◌, arith, zero, suc}
use Rattle.std.proofs.lemmas.Bool.Decides.{nat_tests}
use Rattle.std.proofs.lemmas.List.{get_or-set_same, get_or-set_other, get_or_append_left, get_or_push, append-nil, length-append, length-set}
use Rattle.std.specs.Prelude.{cond, slice_set, if◌then◌else◌}
use Rattle.std.specs.BTreeMap.{is_at}
use Rattle.std.specs.Map.{lookup}
use Rattle.std.specs.List.{slice_get, AllByRecursion}
use Rattle.std.specs.declared.vec.Vec.{Vec}
use Rattle.book_base.specs.declared.address.Socket.{Socket}
use Rattle.book_base.specs.declared.address.Pair.{Pair}
use Rattle.book_base.specs.Orders.{by_pair, sorted_pair}
use Rattle.book_base.proofs.OrderLaws.{pair_tied, pair_told}
use Rattle.book_segments.proofs.Fields.{eqb_is}
use Rattle.book_sessions.specs.declared.uses.KeyUse.{KeyUse}
use Rattle.book_sessions.specs.declared.uses.SeenSegment.{SeenSegment}
use Rattle.book_sessions.specs.declared.uses.Signs.{Signs}
use Rattle.book_sessions.specs.Sessions.{first_use, is_flow_of, is_use_of, reached_before, used_again}
use Rattle.book_sessions.specs.SessionTexts.{is_of_session}
use Rattle.capture_listener.specs.Groups.{CountsAgain, CountsNext, CountsSegment, HaveOneSession, IsIndexed, lists_of}
use Rattle.capture_listener.specs.Places.{is_between, is_use_found, number_between, place_among, places_of, reached_among}
use Rattle.capture_listener.proofs.EndsLaws.{ends_joined, joined_ends, joined-refl}
use Rattle.capture_listener.proofs.FindLaws.{IsOnlyFlow, IsOnlyOf, FoundAt, among_from, flow_between, none_in, place_in, reached_from, unreached, use_between, use_found, use_new}
use Rattle.capture_listener.proofs.NumberLaws.{Alike, all_more, all_push, all_set, number_alike, number_push, number_set, or_of}
use Rattle.capture_listener.proofs.PlaceLaws.{if_of, places_none, get_low, places_push, places_set, stands_all}

same_number : (n : ℕ) → (n == n) ≡ true
same_number n = grind (arith, nat_tests)

pub other_number : (m n : ℕ) → m ≢ n → (m == n) ≡ false
other_number m n e = grind (arith, nat_tests)

more_groups : (groups : List (List ℕ)) (g : List ℕ) → length (groups ++ g ∷ []) ≡ length groups + 1
more_groups groups g = length-append groups (g ∷ [])

-- ---- what is known of the segment's session

module _ (uses : List KeyUse) (groups : List (List ℕ)) (numbers : List (Pair × ℕ)) (I : IsIndexed uses groups numbers) (s : SeenSegment) (sg : Signs) where
  -- it is only one of uses of its own session
  only_of : (n : ℕ) (us : List KeyUse) → number_between s.source s.destination uses ≡ Some n
      → AllByRecursion (λ (u : KeyUse). number_between u.source u.destination uses ≡ Some u.session) us → AllByRecursion (IsOnlyOf s n) us
  only_of n us e h = all_more _ _ us (λ u one is.
      let b = use_between s u is in
      let found : number_between u.source u.destination uses ≡ Some n = rw (← b.0, ← b.1) e in
      let number : u.session ≡ n = cc in
      rw number (same_number n)) h

  pub found_in : (n : ℕ) → number_between s.source s.destination uses ≡ Some n → place_among s uses (places_of n uses) ≡ place_in s 0 uses
  found_in n e = among_from s n 0 uses uses (stands_all uses) (only_of n uses e I.one)

  -- only uses of its own session passed in its connection
  only_flow : (n : ℕ) (us : List KeyUse) → number_between s.source s.destination uses ≡ Some n
      → AllByRecursion (λ (u : KeyUse). number_between u.source u.destination uses ≡ Some u.session) us → AllByRecursion (IsOnlyFlow s n) us
  only_flow n us e h = all_more _ _ us (λ u one is.
      let b = flow_between s u is in
      let found : number_between u.source u.destination uses ≡ Some n = rw (← b.0, ← b.1) e in
      let number : u.session ≡ n = cc in
      rw number (same_number n)) h

  -- how far its connection came is told by its own session
  pub reached_in : (n : ℕ) → number_between s.source s.destination uses ≡ Some n → reached_among s uses (places_of n uses) ≡ reached_before s uses
  reached_in n e = reached_from s n 0 uses uses (stands_all uses) (only_flow n uses e I.one)

  -- ---- one more of its kind

  module _ (i : ℕ) (d : KeyUse) (low : i < length uses) where
    again : KeyUse
    again = used_again sg s (get_or uses i d)

    alike : Alike (get_or uses i d) again
    unfolding again
    alike = record { session = refl; source = refl; destination = refl }

    numbers_again : (a b : Socket) → number_between a b (slice_set uses i again) ≡ number_between a b uses
    numbers_again a b = number_set a b uses i again d low alike

    one_again : HaveOneSession (slice_set uses i again)
    one_again =
        all_more _ _ (slice_set uses i again) (λ u h. numbers_again u.source u.destination ∙ h)
        (all_set (λ (u : KeyUse). number_between u.source u.destination uses ≡ Some u.session) uses i again d low I.one
        (λ h. rw (alike.source, alike.destination, alike.session) h))

    pub indexed_again : IsIndexed (slice_set uses i (used_again sg s (get_or uses i d))) groups numbers
    unfolding again
    indexed_again = record {
      numbered = λ a b. I.numbered a b ∙ sym (numbers_again a b);
      counted = λ a b n e. I.counted a b n (sym (numbers_again a b) ∙ e);
      one = one_again;
      placed = λ n few. I.placed n few ∙ sym (places_set (suc n) 0 uses i again d low alike);
    }

  -- ---- the first of its kind, in a session that is known

  module _ (n : ℕ) (e : number_between s.source s.destination uses ≡ Some n) where
    next : List KeyUse
    next = uses ++ first_use n sg s ∷ []

    numbers_next : (a b : Socket) → number_between a b next ≡ number_between a b uses
    unfolding next
    numbers_next a b = number_push a b uses (first_use n sg s) ∙ at (number_between a b uses) refl
      where
        by : (v : Bool) → is_between a b (first_use n sg s) ≡ v → number_between a b uses ≡ None → (if v then Some n else None) ≡ None
        by false j none = refl
        by true j none =
            let same = number_alike a b s.source s.destination uses (joined_ends a b s.source s.destination j) in
            absurd (cc)

        at : (o : Option ℕ) → number_between a b uses ≡ o → or_of a b (first_use n sg s) o ≡ o
        at (Some m) f = refl
        at None f = by (is_between a b (first_use n sg s)) refl f

    one_next : HaveOneSession next
    unfolding next
    one_next =
        all_more _ _ next (λ u h. numbers_next u.source u.destination ∙ h)
        (all_push (λ (u : KeyUse). number_between u.source u.destination uses ≡ Some u.session) uses (first_use n sg s) I.one e)

    places_next : (m : ℕ) → places_of m next ≡ places_of m uses ++ if_of m (length uses) (first_use n sg s)
    unfolding next
    places_next m = places_push m 0 (length uses) uses (first_use n sg s) (omega arith)

    placed_next : (g m : ℕ) → n ≡ suc g → m < length groups → get_or (slice_set groups g (places_of n uses ++ length uses ∷ [])) m [] ≡ places_of (suc m) next
    placed_next g m is low = at (m == g) refl
      where
        at : (v : Bool) → (m == g) ≡ v → get_or (slice_set groups g (places_of n uses ++ length uses ∷ [])) m [] ≡ places_of (suc m) next
        at true h =
            let same : m ≡ g = eqb_is m g h in
            let number : suc m ≡ n = omega arith in
            rw same (get_or-set_same groups g (places_of n uses ++ length uses ∷ []) [] (omega arith))
            ∙ (ap (λ (l : List ℕ). places_of n uses ++ l) (sym (ap (λ (v : Bool). if v then length uses ∷ [] else []) (same_number n))) ∙ (sym (places_next n) ∙ ap (λ (k : ℕ). places_of k next) (sym number)))
        at false h =
            let differ : m ≢ g = grind (arith, nat_tests) in
            let apart : n ≢ suc m = λ x. differ (omega arith) in
            get_or-set_other groups g m (places_of n uses ++ length uses ∷ []) [] differ
            ∙ (I.placed m low ∙ (sym (append-nil (places_of (suc m) uses)) ∙ (ap (λ (v : Bool). places_of (suc m) uses ++ (if v then length uses ∷ [] else [])) (sym (other_number n (suc m) apart)) ∙ sym (places_next (suc m)))))

    pub indexed_next : (g : ℕ) → n ≡ suc g → g < length groups → IsIndexed (uses ++ first_use n sg s ∷ []) (slice_set groups g (places_of n uses ++ length uses ∷ [])) numbers
    unfolding next
    indexed_next g is low = record {
      numbered = λ a b. I.numbered a b ∙ sym (numbers_next a b);
      counted = λ a b m f. rw (length-set groups g (places_of n uses ++ length uses ∷ [])) (I.counted a b m (sym (numbers_next a b) ∙ f));
      one = one_next;
      placed = λ m few. placed_next g m is (rw (length-set groups g (places_of n uses ++ length uses ∷ [])) at few);
    }

  -- ---- the first of another session

  module _ (e : number_between s.source s.destination uses ≡ None) (after : List (Pair × ℕ))
      (puts : (q : Pair) → lookup (is_at (by_pair q)) after ≡ cond (is_at (by_pair (sorted_pair s.source s.destination)) q) (Some (length groups + 1)) (lookup (is_at (by_pair q)) numbers)) where
    count : ℕ
    count = length groups + 1

    begun : List KeyUse
    unfolding count
    begun = uses ++ first_use count sg s ∷ []

    -- a number that is known stays
    known_stays : (a b : Socket) (m : ℕ) → number_between a b uses ≡ Some m → number_between a b begun ≡ Some m
    unfolding begun count
    known_stays a b m f = number_push a b uses (first_use count sg s) ∙ ap (or_of a b (first_use count sg s)) f

    numbered_first : (a b : Socket) → lookup (is_at (by_pair (sorted_pair a b))) after ≡ number_between a b begun
    unfolding begun count
    numbered_first a b = puts (sorted_pair a b) ∙ (at (is_between a b (first_use count sg s)) (is_at (by_pair (sorted_pair s.source s.destination)) (sorted_pair a b)) refl refl ∙ sym (number_push a b uses (first_use count sg s)))
      where
        joins : is_between a b (first_use count sg s) ≡ true → (number_between a b uses ≡ None) × (is_at (by_pair (sorted_pair s.source s.destination)) (sorted_pair a b) ≡ true)
        joins j =
            let ends = joined_ends a b s.source s.destination j in
            (number_alike a b s.source s.destination uses ends ∙ e, rw ends (pair_tied (sorted_pair s.source s.destination)))

        by : (v : Bool) → is_between a b (first_use count sg s) ≡ v → (o : Option ℕ) → v ≡ false → o ≡ or_of a b (first_use count sg s) o
        by true j o x = absurd (cc)
        by false j None x = ap (λ (w : Bool). if w then Some count else None) (sym j)
        by false j (Some m) x = refl

        at : (v w : Bool) → is_between a b (first_use count sg s) ≡ v → is_at (by_pair (sorted_pair s.source s.destination)) (sorted_pair a b) ≡ w
            → cond w (Some count) (lookup (is_at (by_pair (sorted_pair a b))) numbers) ≡ or_of a b (first_use count sg s) (number_between a b uses)
        at true true j k = let h = joins j in rw (h.0) (ap (λ (w : Bool). if w then Some count else None) (sym j))
        at true false j k = let h = joins j in let x = h.1 in absurd (cc)
        at false true j k =
            let ends = pair_told (sorted_pair s.source s.destination) (sorted_pair a b) k in
            let is = ends_joined a b s.source s.destination (sym ends) in
            absurd (cc)
        at false false j k = I.numbered a b ∙ by false j (number_between a b uses) refl

    one_first : HaveOneSession begun
    unfolding begun count
    one_first =
        all_push (λ (u : KeyUse). number_between u.source u.destination begun ≡ Some u.session) uses (first_use count sg s)
        (all_more _ _ uses (λ u h. known_stays u.source u.destination u.session h) I.one)
        (number_push s.source s.destination uses (first_use count sg s) ∙ (ap (or_of s.source s.destination (first_use count sg s)) e ∙ ap (λ (v : Bool). if v then Some count else None) (joined-refl s.source s.destination)))

    counted_first : (a b : Socket) (m : ℕ) → number_between a b begun ≡ Some m → (1 ≤ m) × (m ≤ length groups + 1)
    unfolding begun count
    counted_first a b m f = at (number_between a b uses) refl (sym (number_push a b uses (first_use count sg s)) ∙ f)
      where
        by : (v : Bool) → (if v then Some count else None) ≡ Some m → (1 ≤ m) × (m ≤ length groups + 1)
        by true h = let is : count ≡ m = cc in (omega arith, omega arith)
        by false h = absurd (cc)

        at : (o : Option ℕ) → number_between a b uses ≡ o → or_of a b (first_use count sg s) o ≡ Some m → (1 ≤ m) × (m ≤ length groups + 1)
        at None k h = by (is_between a b (first_use count sg s)) h
        at (Some x) k h = let is : x ≡ m = cc in let r = I.counted a b m (k ∙ h) in let r0 = r.0 in let r1 = r.1 in (omega arith, omega arith)

    none_yet : AllByRecursion (λ (u : KeyUse). is_of_session count u ≡ false) uses
    unfolding count
    none_yet = all_more _ _ uses (λ u h.
        let few = (I.counted u.source u.destination u.session h).1 in
        other_number u.session count (λ x. let big : count ≡ length groups + 1 = refl in absurd (omega arith))) I.one

    placed_first : (m : ℕ) → m < length groups + 1 → get_or (groups ++ (length uses ∷ []) ∷ []) m [] ≡ places_of (suc m) begun
    unfolding begun count
    placed_first m low = at (m == length groups) refl
      where
        at : (v : Bool) → (m == length groups) ≡ v → get_or (groups ++ (length uses ∷ []) ∷ []) m [] ≡ places_of (suc m) begun
        at true h =
            let same : m ≡ length groups = eqb_is m (length groups) h in
            let number : suc m ≡ count = omega arith in
            get_or_push groups (length uses ∷ []) [] m (sym same)
            ∙ (sym (ap (λ (l : List ℕ). l ++ if_of count (length uses) (first_use count sg s)) (places_none count 0 uses none_yet) ∙ ap (λ (v : Bool). if v then length uses ∷ [] else []) (same_number count))
            ∙ (sym (places_push count 0 (length uses) uses (first_use count sg s) (omega arith)) ∙ ap (λ (k : ℕ). places_of k begun) (sym number)))
        at false h =
            let differ : m ≢ length groups = grind (arith, nat_tests) in
            let less : m < length groups = omega arith in
            let apart : count ≢ suc m = λ x. differ (omega arith) in
            get_or_append_left groups ((length uses ∷ []) ∷ []) [] m less
            ∙ (I.placed m less ∙ (sym (append-nil (places_of (suc m) uses)) ∙ (ap (λ (v : Bool). places_of (suc m) uses ++ (if v then length uses ∷ [] else [])) (sym (other_number count (suc m) apart))
            ∙ sym (places_push (suc m) 0 (length uses) uses (first_use count sg s) (omega arith)))))

    pub indexed_first : IsIndexed (uses ++ first_use (length groups + 1) sg s ∷ []) (groups ++ (length uses ∷ []) ∷ []) after
    unfolding begun count
    indexed_first = record {
      numbered = numbered_first;
      counted = λ a b m f. rw (more_groups groups (length uses ∷ [])) (counted_first a b m f);
      one = one_first;
      placed = λ m few. placed_first m (rw (more_groups groups (length uses ∷ [])) at few);
    }

-- ---- vectors of places

lists_set : {Z : Type 0} (vs : List (Vec ℕ Z)) (i : ℕ) (v : Vec ℕ Z) → lists_of (slice_set vs i v) ≡ slice_set (lists_of vs) i v.items
lists_set [] i v = refl
lists_set (w ∷ vs) zero v = refl
lists_set (w ∷ vs) (suc i) v = ap (λ (l : List (List ℕ)). w.items ∷ l) (lists_set vs i v)

pub lists_push : {Z : Type 0} (vs : List (Vec ℕ Z)) (v : Vec ℕ Z) → lists_of (vs ++ v ∷ []) ≡ lists_of vs ++ v.items ∷ []
lists_push [] v = refl
lists_push (w ∷ vs) v = ap (λ (l : List (List ℕ)). w.items ∷ l) (lists_push vs v)

pub lists_length : {Z : Type 0} (vs : List (Vec ℕ Z)) → length (lists_of vs) ≡ length vs
lists_length [] = refl
lists_length (w ∷ vs) = ap suc (lists_length vs)

items_same : {Z : Type 0} (w v : Vec ℕ Z) → w ≡ v → w.items ≡ v.items
items_same w v e = rw e refl

pub lists_get : {Z : Type 0} (vs : List (Vec ℕ Z)) (i : ℕ) (v : Vec ℕ Z) → i < length vs → v ≡ get_or vs i v → get_or (lists_of vs) i [] ≡ v.items
lists_get [] i v low e = absurd (omega arith)
lists_get (w ∷ vs) zero v low e = items_same w v (sym e)
lists_get (w ∷ vs) (suc i) v low e = lists_get vs i v (omega arith) e

-- ---- a segment is counted

module _ {Z : Type 0} (uses : List KeyUse) (groups : List (Vec ℕ Z)) (numbers : List (Pair × ℕ)) (I : IsIndexed uses (lists_of groups) numbers) (s : SeenSegment) (sg : Signs) where
  -- in a session that is known: one more of its kind
  pub counts_again : (n place : ℕ) (now : List KeyUse) → number_between s.source s.destination uses ≡ Some n → place_among s uses (places_of n uses) ≡ Some place
      → CountsAgain sg s place uses now → CountsSegment n sg s uses now (lists_of groups) numbers
  counts_again n place now e p C =
      let F : FoundAt s sg n 0 place uses = use_found s sg n 0 place uses (sym (found_in uses (lists_of groups) numbers I s sg n e) ∙ p) in
      let d = first_use n sg s in
      let at : place ≡ F.k = (let is = F.is in omega arith) in
      let is : now ≡ slice_set uses F.k (used_again sg s (get_or uses F.k d)) = C d ∙ ap (λ (k : ℕ). slice_set uses k (used_again sg s (get_or uses k d))) at in
      record {
        uses = is ∙ F.set d;
        indexed = rw is (indexed_again uses (lists_of groups) numbers I s sg F.k d F.low);
      }

  -- the first of its kind
  pub counts_next : (n g : ℕ) (now : List KeyUse) (next : List (Vec ℕ Z)) (old new : List ℕ) → number_between s.source s.destination uses ≡ Some n → place_among s uses (places_of n uses) ≡ None
      → n ≡ suc g → g < length groups → CountsNext n sg s uses now old new → old ≡ places_of n uses → lists_of next ≡ slice_set (lists_of groups) g new → CountsSegment n sg s uses now (lists_of next) numbers
  counts_next n g now next old new e p is low C o w =
      record {
        uses = C.uses ∙ sym (use_new s sg n 0 uses (sym (found_in uses (lists_of groups) numbers I s sg n e) ∙ p));
        indexed = rw (C.uses, w, C.places, o) (indexed_next uses (lists_of groups) numbers I s sg n e g is (rw (lists_length groups) low));
      }

  -- in another session
  none_of : number_between s.source s.destination uses ≡ None → place_in s 0 uses ≡ None
  none_of e = none_in s 0 uses (all_more _ _ uses (λ u h. at u h (is_use_of s u) refl) I.one)
    where
      at : (u : KeyUse) → number_between u.source u.destination uses ≡ Some u.session → (v : Bool) → is_use_of s u ≡ v → v ≡ false
      at u h false f = refl
      at u h true f =
          let b = use_between s u f in
          let none : number_between u.source u.destination uses ≡ None = rw (← b.0, ← b.1) e in
          absurd (cc)

  pub counts_first : (now : List KeyUse) (v : Vec ℕ Z) (next : List (Vec ℕ Z)) (after : List (Pair × ℕ)) → number_between s.source s.destination uses ≡ None
      → ((q : Pair) → lookup (is_at (by_pair q)) after ≡ cond (is_at (by_pair (sorted_pair s.source s.destination)) q) (Some (length groups + 1)) (lookup (is_at (by_pair q)) numbers))
      → now ≡ uses ++ first_use (length groups + 1) sg s ∷ [] → v.items ≡ length uses ∷ [] → next ≡ groups ++ v ∷ [] → CountsSegment (length groups + 1) sg s uses now (lists_of next) after
  counts_first now v next after e puts is places w =
      let lists : lists_of next ≡ lists_of groups ++ (length uses ∷ []) ∷ [] = rw w (lists_push groups v) ∙ ap (λ (l : List ℕ). lists_of groups ++ l ∷ []) places in
      let size = lists_length groups in
      record {
        uses = is ∙ sym (use_new s sg (length groups + 1) 0 uses (none_of e));
        indexed = rw (is, lists, ← size) (indexed_first uses (lists_of groups) numbers I s sg e after (rw size puts));
      }

-- nothing passed in the connection of a segment whose session isn't known
pub reached_first : (uses : List KeyUse) (s : SeenSegment) → HaveOneSession uses → number_between s.source s.destination uses ≡ None → reached_before s uses ≡ None
reached_first uses s one e = unreached s uses (all_more _ _ uses (λ u h. at u h (is_flow_of s u) refl) one)
  where
    at : (u : KeyUse) → number_between u.source u.destination uses ≡ Some u.session → (v : Bool) → is_flow_of s u ≡ v → v ≡ false
    at u h false f = refl
    at u h true f =
        let b = flow_between s u f in
        let none : number_between u.source u.destination uses ≡ None = rw (← b.0, ← b.1) e in
        absurd (cc)

-- the places that are kept of a session
pub places_here : {Z : Type 0} (uses : List KeyUse) (groups : List (Vec ℕ Z)) (numbers : List (Pair × ℕ)) → IsIndexed uses (lists_of groups) numbers → (n : ℕ) (v : Vec ℕ Z) → 1 ≤ n → n ≤ length groups
    → v ≡ get_or groups (n - 1) v → v.items ≡ places_of n uses
places_here uses groups numbers I n v least most is =
    let low : n - 1 < length groups = omega arith in
    let size = lists_length groups in
    let low' : n - 1 < length (lists_of groups) = omega arith in
    let number : suc (n - 1) ≡ n = omega arith in
    sym (lists_get groups (n - 1) v low is) ∙ (I.placed (n - 1) low' ∙ ap (λ (k : ℕ). places_of k uses) number)

lists_same : {Z : Type 0} (vs : List (Vec ℕ Z)) (i : ℕ) (v w : Vec ℕ Z) → i < length vs → v ≡ get_or vs i v → w.items ≡ v.items → lists_of (slice_set vs i w) ≡ lists_of vs
lists_same [] i v w low e is = absurd (omega arith)
lists_same (x ∷ vs) zero v w low e is = ap (λ (l : List ℕ). l ∷ lists_of vs) (is ∙ items_same v x e)
lists_same (x ∷ vs) (suc i) v w low e is = ap (λ (l : List (List ℕ)). x.items ∷ l) (lists_same vs i v w (omega arith) e is)

-- a segment of a session that is known, unless its counting failed
module _ {Z E : Type 0} (uses now : List KeyUse) (groups : List (Vec ℕ Z)) (s : SeenSegment) (sg : Signs) (n : ℕ) (v : Vec ℕ Z) (least : 1 ≤ n) (most : n ≤ length groups) (is : v ≡ get_or groups (n - 1) v) where
  pub known_again : (result : Result (Unit {0}) E) (place : ℕ) → Some place ≡ place_among s uses v.items → OnOk result (CountsAgain sg s place uses now)
      → (numbers : List (Pair × ℕ)) → IsIndexed uses (lists_of groups) numbers → number_between s.source s.destination uses ≡ Some n → OnOk result (CountsSegment n sg s uses now (lists_of groups) numbers)
  known_again (Ok done) place p C numbers I e =
      counts_again uses groups numbers I s sg n place now e (ap (place_among s uses) (sym (places_here uses groups numbers I n v least most is)) ∙ sym p) C
  known_again (Err error) place p C numbers I e = tt

  pub known_next : (result : Result (Unit {0}) E) (w : Vec ℕ Z) (u : Vec ℕ Z) → None ≡ place_among s uses v.items → u ≡ get_or groups (n - 1) u → OnOk result (CountsNext n sg s uses now u.items w.items)
      → (numbers : List (Pair × ℕ)) → IsIndexed uses (lists_of groups) numbers → number_between s.source s.destination uses ≡ Some n
      → OnOk result (CountsSegment n sg s uses now (lists_of (slice_set groups (n - 1) w)) numbers)
  known_next (Ok done) w u p here C numbers I e =
      let next : n ≡ suc (n - 1) = omega arith in
      counts_next uses groups numbers I s sg n (n - 1) now (slice_set groups (n - 1) w) u.items w.items e
      (ap (place_among s uses) (sym (places_here uses groups numbers I n v least most is)) ∙ sym p) next (omega arith) C (places_here uses groups numbers I n u least most here) (lists_set groups (n - 1) w)
  known_next (Err error) w u p here C numbers I e = tt

  pub known_same : (result : Result (Unit {0}) E) (w u : Vec ℕ Z) → u ≡ get_or groups (n - 1) u → OnErr result ((now ≡ uses) × (w.items ≡ u.items))
      → OnErr result ((now ≡ uses) × (lists_of (slice_set groups (n - 1) w) ≡ lists_of groups))
  known_same (Ok done) w u here C = tt
  known_same (Err error) w u here C = (C.0, lists_same groups (n - 1) u w (omega arith) here C.1)

-- a place that is found is one of the uses
pub place_low : (s : SeenSegment) (uses : List KeyUse) (places : List ℕ) (p : ℕ) → Some p ≡ place_among s uses places → p < length uses
place_low s uses [] p e = absurd (cc)
place_low s uses (q ∷ qs) p e = at (slice_get uses q) refl (place_low s uses qs p) e
  where
    by : (v : Bool) (u : KeyUse) → slice_get uses q ≡ Some u → (Some p ≡ place_among s uses qs → p < length uses) → Some p ≡ cond v (Some q) (place_among s uses qs) → p < length uses
    by true u f next h = let is : p ≡ q = cc in rw is (get_low uses q u f)
    by false u f next h = next h

    at : (o : Option KeyUse) → slice_get uses q ≡ o → (Some p ≡ place_among s uses qs → p < length uses) → Some p ≡ cond (is_use_found s o) (Some q) (place_among s uses qs) → p < length uses
    at None f next h = next h
    at (Some u) f next h = by (is_use_of s u) u f next h
