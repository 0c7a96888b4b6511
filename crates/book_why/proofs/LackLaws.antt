-- A row lacks nothing exactly where it takes a segment.
use Rattle.std.proofs.Common.{◌≡◌, ◌≢◌, ℕ, zero, suc, ◌+◌, ◌<◌, Bool, true, false, List, [], ◌∷◌, ◌++◌, length, Option, Some, None, refl, sym, ap, subst, ◌∙◌, arith}
use Rattle.std.specs.Prelude.{◌↔◌, ◌&&◌, ◌==◌, nat_le, slice_index_or}
use Rattle.std.specs.List.{All, list_any}
use Rattle.book_base.specs.declared.address.Pair.{Pair}
use Rattle.book_keys.specs.Rows.{Row, fits_port, names, receives}
use Rattle.book_keys.specs.Choices.{accept_row, acceptable_as, lowest}
use Rattle.book_keys.proofs.ChoiceLaws.{lowest-none}
use Rattle.book_why.specs.Lacks.{lack, lacks}

lack_none : (b : Bool) (text : List ℕ) → lack b text ≡ [] → b ≡ true
lack_none true text e = refl
lack_none false text e = absurd (cc)

front_empty : (xs ys : List ℕ) → xs ++ ys ≡ [] → xs ≡ []
front_empty [] ys e = refl
front_empty (x ∷ xs) ys e = absurd (cc)

rest_empty : (xs ys : List ℕ) → xs ++ ys ≡ [] → ys ≡ []
rest_empty [] ys e = e
rest_empty (x ∷ xs) ys e = absurd (cc)

both_true : (a b : Bool) → a ≡ true → b ≡ true → (a && b) ≡ true
both_true a b one two = rw (one, two) refl

right_true : (a b : Bool) → (a && b) ≡ true → b ≡ true
right_true true b e = e
right_true false b e = absurd (cc)

-- seven texts, each of which is there where its test doesn't hold, in the order of `lacks`
lacking_all : (a b c d e f g : Bool) (one two three four five six seven : List ℕ) → List ℕ
lacking_all a b c d e f g one two three four five six seven =
    (lack a one ++ (lack b two ++ lack c three)) ++ (lack d four ++ (lack e five ++ (lack f six ++ lack g seven)))

holding_all : (a b c d e f g : Bool) → Bool
holding_all a b c d e f g = ((a && (b && c)) && (d && (f && g))) && e

nothing_lacks : (a b c d e f g : Bool) (one two three four five six seven : List ℕ) → holding_all a b c d e f g ≡ true → lacking_all a b c d e f g one two three four five six seven ≡ []
unfolding lacking_all holding_all
nothing_lacks true true true true true true true one two three four five six seven h = refl
nothing_lacks false b c d e f g one two three four five six seven h = absurd (cc)
nothing_lacks true false c d e f g one two three four five six seven h = absurd (cc)
nothing_lacks true true false d e f g one two three four five six seven h = absurd (cc)
nothing_lacks true true true false e f g one two three four five six seven h = absurd (cc)
nothing_lacks true true true true false f g one two three four five six seven h = absurd (let t = right_true (f && g) false h in cc)
nothing_lacks true true true true true false g one two three four five six seven h = absurd (cc)
nothing_lacks true true true true true true false one two three four five six seven h = absurd (cc)

all_hold : (a b c d e f g : Bool) (one two three four five six seven : List ℕ) → lacking_all a b c d e f g one two three four five six seven ≡ [] → holding_all a b c d e f g ≡ true
unfolding lacking_all holding_all
all_hold a b c d e f g one two three four five six seven h =
    let pair = front_empty (lack a one ++ (lack b two ++ lack c three)) (lack d four ++ (lack e five ++ (lack f six ++ lack g seven))) h in
    let ports = rest_empty (lack a one) (lack b two ++ lack c three) pair in
    let rest = rest_empty (lack a one ++ (lack b two ++ lack c three)) (lack d four ++ (lack e five ++ (lack f six ++ lack g seven))) h in
    let behind = rest_empty (lack d four) (lack e five ++ (lack f six ++ lack g seven)) rest in
    let times = rest_empty (lack e five) (lack f six ++ lack g seven) behind in
    both_true ((a && (b && c)) && (d && (f && g))) e
    (both_true (a && (b && c)) (d && (f && g))
    (both_true a (b && c) (lack_none a one (front_empty (lack a one) (lack b two ++ lack c three) pair))
    (both_true b c (lack_none b two (front_empty (lack b two) (lack c three) ports)) (lack_none c three (rest_empty (lack b two) (lack c three) ports))))
    (both_true d (f && g) (lack_none d four (front_empty (lack d four) (lack e five ++ (lack f six ++ lack g seven)) rest))
    (both_true f g (lack_none f six (front_empty (lack f six) (lack g seven) times)) (lack_none g seven (rest_empty (lack f six) (lack g seven) times)))))
    (lack_none e five (front_empty (lack e five) (lack f six ++ lack g seven) behind))

pub row_lacks : (pair : Pair) (id now : ℕ) (r : Row) → (lacks pair id now r ≡ []) ↔ (acceptable_as pair id now r ≡ true)
unfolding lacks lacking_all holding_all
row_lacks pair id now r = (
  all_hold (list_any (λ peer. names peer pair.remote.address) r.peers) (fits_port r.local_port pair.local.port) (fits_port r.peer_port pair.remote.port)
      (receives r.direction) (r.recv_id == id) (nat_le r.accepting.first now) (nat_le now r.accepting.last) _ _ _ _ _ _ _,
  nothing_lacks (list_any (λ peer. names peer pair.remote.address) r.peers) (fits_port r.local_port pair.local.port) (fits_port r.peer_port pair.remote.port)
      (receives r.direction) (r.recv_id == id) (nat_le r.accepting.first now) (nat_le now r.accepting.last) _ _ _ _ _ _ _,
)

none_lowest : (good : Row → Bool) (n : ℕ) (rows : List Row) → All (λ r. good r ≡ false) rows → lowest good n rows ≡ None
none_lowest good n [] h = refl
none_lowest good n (r ∷ rs) h =
    let head : good r ≡ false = h zero r (omega arith) in
    let tail : All (λ r. good r ≡ false) rs = λ k d low. h (suc k) d (omega (arith, low)) in
    rw (head, none_lowest good (n + 1) rs tail) refl

not_taken : (pair : Pair) (id now : ℕ) (r : Row) → lacks pair id now r ≢ [] → acceptable_as pair id now r ≡ false
not_taken pair id now r some = at (acceptable_as pair id now r) refl
  where
    at : (b : Bool) → acceptable_as pair id now r ≡ b → b ≡ false
    at true e = absurd (some ((row_lacks pair id now r).1 e))
    at false e = refl

pub rows_lack : (pair : Pair) (id now : ℕ) (rows : List Row) → (accept_row rows pair id now ≡ None) ↔ All (λ r. lacks pair id now r ≢ []) rows
rows_lack pair id now rows = (to, from)
  where
    to : accept_row rows pair id now ≡ None → All (λ r. lacks pair id now r ≢ []) rows
    to none k d low nothing =
        let no_row : acceptable_as pair id now (slice_index_or rows k d) ≡ false = lowest-none (acceptable_as pair id now) 1 rows none k d low in
        let takes : acceptable_as pair id now (slice_index_or rows k d) ≡ true = (row_lacks pair id now (slice_index_or rows k d)).0 nothing in
        absurd (let same = sym no_row ∙ takes in cc)

    from : All (λ r. lacks pair id now r ≢ []) rows → accept_row rows pair id now ≡ None
    from each = none_lowest (acceptable_as pair id now) 1 rows (λ k d low. not_taken pair id now (slice_index_or rows k d) (each k d low))
