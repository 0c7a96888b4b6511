-- An opening that is kept in the place of the one that goes the same way.
use Rattle.std.proofs.Common.{◌≡◌, ℕ, Bool, true, false, not, List, [], ◌∷◌, Option, Some, None, refl, sym, ap, ◌∙◌}
use Rattle.std.specs.Prelude.{cond, option_map, if◌then◌else◌}
use Rattle.std.specs.BTreeMap.{is_at}
use Rattle.std.specs.List.{find}
use Rattle.book_base.specs.declared.address.Socket.{Socket}
use Rattle.book_base.specs.declared.address.Pair.{Pair}
use Rattle.book_base.specs.Orders.{by_pair}
use Rattle.book_base.proofs.OrderLaws.{pair_tied, pair_told}
use Rattle.book_segments.specs.Sockets.{same_socket}
use Rattle.book_segments.proofs.Fields.{and_tells}
use Rattle.book_segments.proofs.SocketLaws.{same_socket_is, same_socket-refl}
use Rattle.book_sessions.specs.Glimpses.{Opening, is_opening_from, with_opening, without_opening}
use Rattle.capture_listener.specs.declared.openings.KeptOpening.{KeptOpening}
use Rattle.capture_listener.specs.Openings.{kept_of, kept_opening, opened_between, PutsOpening, KeepsOpenings, way_between}

-- an opening goes this way: its sockets are these
from_told : (a b : Socket) (o : Opening) → is_opening_from a b o ≡ true → (o.source ≡ a) × (o.destination ≡ b)
from_told a b o e = let t = and_tells (same_socket o.source a) (same_socket o.destination b) e in (same_socket_is o.source a t.0, same_socket_is o.destination b t.1)

from_is : (a b : Socket) (o : Opening) → o.source ≡ a → o.destination ≡ b → is_opening_from a b o ≡ true
from_is a b o e f = rw (e, f, same_socket-refl a, same_socket-refl b) refl

-- what is found once an opening was put among others
pub find_opening : (a b : Socket) (o : Opening) (os : List Opening)
    → find (is_opening_from a b) (with_opening o os) ≡ (if is_opening_from a b o then Some o else find (is_opening_from a b) os)
find_opening a b o [] = refl
find_opening a b o (p ∷ ps) = at (find_opening a b o ps) (is_opening_from o.source o.destination p) (is_opening_from a b p) (is_opening_from a b o) refl refl refl
  where
    at : find (is_opening_from a b) (with_opening o ps) ≡ (if is_opening_from a b o then Some o else find (is_opening_from a b) ps)
        → (u v w : Bool) → is_opening_from o.source o.destination p ≡ u → is_opening_from a b p ≡ v → is_opening_from a b o ≡ w
        → find (is_opening_from a b) (if u then o ∷ ps else p ∷ with_opening o ps) ≡ (if w then Some o else if v then Some p else find (is_opening_from a b) ps)
    at i true v true e f g = rw g refl
    at i true true false e f g =
        let t = from_told o.source o.destination p e in
        let s = from_told a b p f in
        let is = from_is a b o (sym t.0 ∙ s.0) (sym t.1 ∙ s.1) in
        absurd (cc)
    at i true false false e f g = rw g refl
    at i false true true e f g =
        let t = from_told a b p f in
        let s = from_told a b o g in
        let is = from_is o.source o.destination p (t.0 ∙ sym s.0) (t.1 ∙ sym s.1) in
        absurd (cc)
    at i false true false e f g = rw f refl
    at i false false true e f g = rw f (i ∙ rw g refl)
    at i false false false e f g = rw f (i ∙ rw g refl)

-- two ways are two keys
apart : (a b c d : Socket) (v : Bool) → is_at (by_pair (way_between a b)) (way_between c d) ≡ v → v ≡ true → (c ≡ a) × (d ≡ b)
apart a b c d false e n = absurd (cc)
apart a b c d true e n =
    let same = pair_told (way_between a b) (way_between c d) e in (sym (ap (λ (k : Pair). k.local) same), sym (ap (λ (k : Pair). k.remote) same))

-- an opening that is kept stands for that among the others
pub keeps_put : (before after : List (Pair × KeptOpening)) (os : List Opening) (o : Opening) → KeepsOpenings before os → PutsOpening before after (way_between o.source o.destination) (Some (kept_of o))
    → KeepsOpenings after (with_opening o os)
keeps_put before after os o K P = record { same = λ a b. at a b (is_opening_from a b o) refl }
  where
    other : (a b : Socket) → is_opening_from a b o ≡ false → (v : Bool) → is_at (by_pair (way_between o.source o.destination)) (way_between a b) ≡ v → v ≡ false
    other a b n false e = refl
    other a b n true e =
        let same = pair_told (way_between o.source o.destination) (way_between a b) e in
        let is = from_is a b o (ap (λ (k : Pair). k.local) same) (ap (λ (k : Pair). k.remote) same) in
        absurd (cc)

    at : (a b : Socket) (v : Bool) → is_opening_from a b o ≡ v → kept_opening after (way_between a b) ≡ opened_between a b (with_opening o os)
    at a b true e =
        let t = from_told a b o e in
        let same : is_at (by_pair (way_between o.source o.destination)) (way_between a b) ≡ true = rw (t.0, t.1) (pair_tied (way_between a b)) in
        let found : find (is_opening_from a b) (with_opening o os) ≡ Some o = find_opening a b o os ∙ rw e refl in
        P.finds (way_between a b) ∙ (ap (λ (v : Bool). cond v (Some (kept_of o)) (kept_opening before (way_between a b))) same ∙ sym (ap (option_map kept_of) found))
    at a b false e =
        let apart = other a b e (is_at (by_pair (way_between o.source o.destination)) (way_between a b)) refl in
        let found : find (is_opening_from a b) (with_opening o os) ≡ find (is_opening_from a b) os = find_opening a b o os ∙ rw e refl in
        P.finds (way_between a b) ∙ (ap (λ (v : Bool). cond v (Some (kept_of o)) (kept_opening before (way_between a b))) apart ∙ (K.same a b ∙ sym (ap (option_map kept_of) found)))

-- nothing that was taken out is found
drop_none : (test : Opening → Bool) (o : Opening) (rest : List Opening) → find test rest ≡ None → find test (cond (not (test o)) (o ∷ rest) rest) ≡ None
drop_none test o rest is = at (test o) refl
  where
    at : (v : Bool) → test o ≡ v → find test (cond (not v) (o ∷ rest) rest) ≡ None
    at true e = is
    at false e = rw e is

none_left : (a b : Socket) (os : List Opening) → find (is_opening_from a b) (without_opening a b os) ≡ None
none_left a b [] = refl
none_left a b (o ∷ os) = drop_none (is_opening_from a b) o (without_opening a b os) (none_left a b os)

-- an opening that goes another way is found as before
drop_other : (gone test : Opening → Bool) (o : Opening) (rest os : List Opening) → (test o ≡ true → gone o ≡ false) → find test rest ≡ find test os → find test (cond (not (gone o)) (o ∷ rest) rest) ≡ cond (test o) (Some o) (find test os)
drop_other gone test o rest os other is = at (gone o) (test o) refl refl
  where
    at : (u v : Bool) → gone o ≡ u → test o ≡ v → find test (cond (not u) (o ∷ rest) rest) ≡ cond v (Some o) (find test os)
    at true true e f = let no = other f in absurd (cc)
    at true false e f = is
    at false true e f = rw f refl
    at false false e f = rw f is

others_left : (a b c d : Socket) (os : List Opening) → ((o : Opening) → is_opening_from c d o ≡ true → is_opening_from a b o ≡ false) → find (is_opening_from c d) (without_opening a b os) ≡ find (is_opening_from c d) os
others_left a b c d [] other = refl
others_left a b c d (o ∷ os) other = drop_other (is_opening_from a b) (is_opening_from c d) o (without_opening a b os) os (other o) (others_left a b c d os other)

-- where there is none to take out, all stay
keep_all : (test : Opening → Bool) (o : Opening) (rest os : List Opening) → cond (test o) (Some o) (find test os) ≡ None → (find test os ≡ None → rest ≡ os) → cond (not (test o)) (o ∷ rest) rest ≡ o ∷ os
keep_all test o rest os none is = at (test o) none
  where
    at : (v : Bool) → cond v (Some o) (find test os) ≡ None → cond (not v) (o ∷ rest) rest ≡ o ∷ os
    at true e = absurd (cc)
    at false e = ap (λ (x : List Opening). o ∷ x) (is e)

pub none_taken : (a b : Socket) (os : List Opening) → find (is_opening_from a b) os ≡ None → without_opening a b os ≡ os
none_taken a b [] e = refl
none_taken a b (o ∷ os) e = keep_all (is_opening_from a b) o (without_opening a b os) os e (none_taken a b os)

-- an opening that isn't kept any more is none of the others
pub keeps_dropped : (before after : List (Pair × KeptOpening)) (os : List Opening) (a b : Socket) → KeepsOpenings before os → PutsOpening before after (way_between a b) None → KeepsOpenings after (without_opening a b os)
keeps_dropped before after os a b K P = record { same = λ c d. at c d (is_at (by_pair (way_between a b)) (way_between c d)) refl }
  where
    differs : (c d : Socket) → is_at (by_pair (way_between a b)) (way_between c d) ≡ false → (o : Opening) → is_opening_from c d o ≡ true → (v : Bool) → is_opening_from a b o ≡ v → v ≡ false
    differs c d n o e false f = refl
    differs c d n o e true f =
        let t = from_told c d o e in
        let s = from_told a b o f in
        let one : c ≡ a = sym t.0 ∙ s.0 in
        let two : d ≡ b = sym t.1 ∙ s.1 in
        let same : is_at (by_pair (way_between a b)) (way_between c d) ≡ true = rw (one, two) (pair_tied (way_between a b)) in
        absurd (cc)

    at : (c d : Socket) (v : Bool) → is_at (by_pair (way_between a b)) (way_between c d) ≡ v → kept_opening after (way_between c d) ≡ opened_between c d (without_opening a b os)
    at c d true e =
        let t = apart a b c d true e refl in
        let found : find (is_opening_from c d) (without_opening a b os) ≡ None = rw (t.0, t.1) (none_left a b os) in
        P.finds (way_between c d) ∙ (ap (λ (v : Bool). cond v None (kept_opening before (way_between c d))) e ∙ sym (ap (option_map kept_of) found))
    at c d false e =
        let found = others_left a b c d os (λ o f. differs c d e o f (is_opening_from a b o) refl) in
        P.finds (way_between c d) ∙ (ap (λ (v : Bool). cond v None (kept_opening before (way_between c d))) e ∙ (K.same c d ∙ sym (ap (option_map kept_of) found)))
