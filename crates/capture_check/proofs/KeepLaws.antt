-- Which keys are kept once a connection is put among those that a checker knew.
use Rattle.std.proofs.Common.{◌≡◌, ℕ, false, List, Option, Some, None, refl, sym, ap, ◌∙◌}
use Rattle.std.specs.Prelude.{option_map}
use Rattle.book_base.specs.declared.address.Socket.{Socket}
use Rattle.book_base.specs.declared.address.Pair.{Pair}
use Rattle.book_base.specs.Orders.{sorted_pair}
use Rattle.book_base.proofs.OrderLaws.{sorted_turned}
use Rattle.book_segments.specs.Sockets.{same_socket}
use Rattle.ao_kdf.specs.declared.way.Way.TheVariants.{Inbound}
use Rattle.ao_kdf.specs.Cache.{kept}
use Rattle.capture_check.specs.declared.flow.Flow.{Flow}
use Rattle.capture_check.specs.declared.flows.Flows.{Flows}
use Rattle.capture_check.specs.Flows.{flow_from}
use Rattle.capture_check.specs.Checkers.{found, key_in, Isns, isns, KeepsKeys}
use Rattle.capture_check.specs.Judgements.{Puts}
use Rattle.capture_check.proofs.PutLaws.{AtPut, Same, Turned, Other, found_put}

-- the initial sequence numbers of what is found
isns_in : Socket → Socket → Option Flows → Option Isns
isns_in a b o = option_map (λ (h : Flows). record { one = (flow_from a b h).isn; two = (flow_from b a h).isn }) o

pub keys_same : (before after : List (Pair × Flows)) → after ≡ before → KeepsKeys before after
keys_same before after e =
    record {
      stay = λ a b n k differ is here. rw e here;
      drop = λ a b n differ apart. absurd (apart (ap (λ (es : List (Pair × Flows)). isns es a b) e));
    }

-- one way of a connection was heard: the initial sequence numbers stay, and so does each kept key
pub record Stays (s t : Socket) (h next : Flows) : Type 0 where
  pub isn : (flow_from s t next).isn ≡ (flow_from s t h).isn
  pub other : flow_from t s next ≡ flow_from t s h
  pub keys : (n : ℕ) (k : List ℕ) → kept (flow_from s t h).receiver.keys n Inbound ≡ Some k → kept (flow_from s t next).receiver.keys n Inbound ≡ Some k

pub keys_heard : (before after : List (Pair × Flows)) (s t : Socket) (h next : Flows) → Puts before after (sorted_pair s t) next → same_socket s t ≡ false
    → found before (sorted_pair s t) ≡ Some h → Stays s t h next → KeepsKeys before after
unfolding isns_in
keys_heard before after s t h next P ne f S =
    record {
      stay = λ a b n k m is e. stay a b n k m e (found_put before after s t next P ne a b m);
      drop = λ a b n m apart. absurd (apart (same a b m (found_put before after s t next P ne a b m)));
    }
  where
    turned : (a b : Socket) → same_socket a b ≡ false → s ≡ b → t ≡ a → found before (sorted_pair a b) ≡ Some h
    turned a b m x y = ap (found before) (sorted_turned b a) ∙ rw (← x, ← y) f

    same_found : (a b : Socket) → s ≡ a → t ≡ b → found before (sorted_pair a b) ≡ Some h
    same_found a b x y = rw (← x, ← y) f

    keys_at : (a b : Socket) → s ≡ a → t ≡ b → (n : ℕ) (k : List ℕ) → kept (flow_from a b h).receiver.keys n Inbound ≡ Some k → kept (flow_from a b next).receiver.keys n Inbound ≡ Some k
    keys_at a b x y = rw (← x, ← y) S.keys

    other_at : (a b : Socket) → s ≡ b → t ≡ a → flow_from a b next ≡ flow_from a b h
    other_at a b x y = rw (← x, ← y) S.other

    isn_at : (a b : Socket) → s ≡ a → t ≡ b → (flow_from a b next).isn ≡ (flow_from a b h).isn
    isn_at a b x y = rw (← x, ← y) S.isn

    stay : (a b : Socket) (n : ℕ) (k : List ℕ) → same_socket a b ≡ false → key_in a b n (found before (sorted_pair a b)) ≡ Some k → AtPut before after s t a b next
        → key_in a b n (found after (sorted_pair a b)) ≡ Some k
    stay a b n k m e (Same x y g) =
        let old : key_in a b n (Some h) ≡ Some k = ap (key_in a b n) (sym (same_found a b x y)) ∙ e in
        ap (key_in a b n) g ∙ keys_at a b x y n k old
    stay a b n k m e (Turned x y g) =
        let old : key_in a b n (Some h) ≡ Some k = ap (key_in a b n) (sym (turned a b m x y)) ∙ e in
        ap (key_in a b n) g ∙ (ap (λ (f : Flow). kept f.receiver.keys n Inbound) (other_at a b x y) ∙ old)
    stay a b n k m e (Other j g) = ap (key_in a b n) g ∙ e

    numbers : (a b : Socket) → (flow_from a b next).isn ≡ (flow_from a b h).isn → (flow_from b a next).isn ≡ (flow_from b a h).isn → isns_in a b (Some next) ≡ isns_in a b (Some h)
    numbers a b p q = rw (p, q) refl

    same : (a b : Socket) → same_socket a b ≡ false → AtPut before after s t a b next → isns_in a b (found after (sorted_pair a b)) ≡ isns_in a b (found before (sorted_pair a b))
    same a b m (Same x y g) =
        ap (isns_in a b) g ∙ (numbers a b (isn_at a b x y) (ap (λ (f : Flow). f.isn) (other_at b a x y)) ∙ ap (isns_in a b) (sym (same_found a b x y)))
    same a b m (Turned x y g) =
        ap (isns_in a b) g ∙ (numbers a b (ap (λ (f : Flow). f.isn) (other_at a b x y)) (isn_at b a x y) ∙ ap (isns_in a b) (sym (turned a b m x y)))
    same a b m (Other j g) = ap (isns_in a b) g

-- a connection's initial sequence numbers are fixed anew: they differ, and no key is kept
pub record Renews (before : List (Pair × Flows)) (s t : Socket) (h : Flows) : Type 0 where
  pub differ : isns before s t ≡ Some (record { one = (flow_from s t h).isn; two = (flow_from t s h).isn }) → ⊥
  pub keys : (n : ℕ) → kept (flow_from s t h).receiver.keys n Inbound ≡ None
  pub other : (n : ℕ) → kept (flow_from t s h).receiver.keys n Inbound ≡ None

abbrev swapped : Isns → Isns
swapped i = record { one = i.two; two = i.one }

turned_in : (a b : Socket) (o : Option Flows) → isns_in b a o ≡ option_map swapped (isns_in a b o)
unfolding isns_in
turned_in a b None = refl
turned_in a b (Some h) = refl

pub keys_renewed : (before after : List (Pair × Flows)) (s t : Socket) (h : Flows) → Puts before after (sorted_pair s t) h → same_socket s t ≡ false
    → Renews before s t h → KeepsKeys before after
unfolding isns_in
keys_renewed before after s t h P ne R =
    record {
      stay = λ a b n k m is e. stay a b n k m is e (found_put before after s t h P ne a b m);
      drop = λ a b n m apart. drop a b n apart (found_put before after s t h P ne a b m);
    }
  where
    none_at : (a b : Socket) → s ≡ a → t ≡ b → (n : ℕ) → key_in a b n (Some h) ≡ None
    none_at a b x y n = rw (← x, ← y) (R.keys n)

    none_turned : (a b : Socket) → s ≡ b → t ≡ a → (n : ℕ) → key_in a b n (Some h) ≡ None
    none_turned a b x y n = rw (← x, ← y) (R.other n)

    differ_at : (a b : Socket) → s ≡ a → t ≡ b → isns_in a b (found before (sorted_pair a b)) ≡ isns_in a b (Some h) → ⊥
    differ_at a b x y = rw (← x, ← y) R.differ

    stay : (a b : Socket) (n : ℕ) (k : List ℕ) → same_socket a b ≡ false → isns_in a b (found after (sorted_pair a b)) ≡ isns_in a b (found before (sorted_pair a b))
        → key_in a b n (found before (sorted_pair a b)) ≡ Some k → AtPut before after s t a b h → key_in a b n (found after (sorted_pair a b)) ≡ Some k
    stay a b n k m is e (Same x y g) = absurd (differ_at a b x y (sym is ∙ ap (isns_in a b) g))
    stay a b n k m is e (Turned x y g) =
        let here = sym is ∙ ap (isns_in a b) g in
        let back = turned_in a b (found before (sorted_pair a b)) ∙ (ap (option_map swapped) here ∙ sym (turned_in a b (Some h))) in
        absurd (differ_at b a x y (ap (λ (k : Pair). isns_in b a (found before k)) (sorted_turned a b) ∙ back))
    stay a b n k m is e (Other j g) = ap (key_in a b n) g ∙ e

    drop : (a b : Socket) (n : ℕ) → (isns_in a b (found after (sorted_pair a b)) ≡ isns_in a b (found before (sorted_pair a b)) → ⊥) → AtPut before after s t a b h
        → key_in a b n (found after (sorted_pair a b)) ≡ None
    drop a b n apart (Same x y g) = ap (key_in a b n) g ∙ none_at a b x y n
    drop a b n apart (Turned x y g) = ap (key_in a b n) g ∙ none_turned a b x y n
    drop a b n apart (Other j g) = absurd (apart (ap (isns_in a b) g))
