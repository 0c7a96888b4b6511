-- What the receiver of an aligned table finds for what is sent.
use Rattle.std.proofs.Common.{◌≡◌, ℕ, zero, suc, ◌+◌, ◌-◌, ◌<◌, ◌≤◌, ◌==◌, min, Bool, true, false, ◌&&◌, ◌||◌, List, [], ◌∷◌, length, get_or, Option, Some, None, refl, sym, ap, ◌∙◌, subst, arith, nat_le}
use Rattle.std.specs.Prelude.{IsSomeAnd}
use Rattle.std.proofs.lemmas.Bool.Decides.{nat_tests}
use Rattle.std.specs.List.{list_any, AllByRecursion}
use Rattle.std.specs.Option.{option_or}
use Rattle.book_base.specs.declared.address.Pair.{Pair}
use Rattle.book_base.specs.declared.algorithm.Algorithm.{Algorithm}
use Rattle.book_base.specs.declared.algorithm.Algorithm.TheVariants.{HmacSha1, AesCmac, HmacSha256}
use Rattle.book_segments.specs.Bytes.{same_bytes}
use Rattle.book_segments.proofs.Fields.{and_tells, eqb_is, le_is, same_bytes_tells}
use Rattle.book_keys.specs.Lifetimes.{greatest_time, contains}
use Rattle.book_keys.specs.declared.lifetime.Lifetime.{Lifetime}
use Rattle.book_keys.specs.Rows.{Row, matches, receives, sends, sendable, acceptable}
use Rattle.book_keys.specs.Overlaps.{IsValid}
use Rattle.book_keys.specs.Choices.{Numbered, IsLowest, qualified, lowest, acceptable_as, accept_row}
use Rattle.book_keys.specs.Plans.{mirrored, same_flag, same_key, accepts_from, outlasts, accepts_throughout, IsMet, AlignedFrom, IsFoundAt}
use Rattle.book_base.specs.Algorithms.{same_algorithm}
use Rattle.book_keys.proofs.OverlapLaws.{one_accepts}
use Rattle.book_keys.proofs.ChoiceLaws.{lowest-IsLowest}

pub found_at : (t : Row → Bool) (rows : List Row) (d : Row) → list_any t rows ≡ true → (k : ℕ) × (k < length rows) × (t (get_or rows k d) ≡ true)
found_at t [] d e = absurd (cc)
found_at t (r ∷ rs) d e = by_test (t r) refl (λ f. found_at t rs d f) e
  where
    by_test : (b : Bool) → t r ≡ b → (list_any t rs ≡ true → (k : ℕ) × (k < length rs) × (t (get_or rs k d) ≡ true)) → (b || list_any t rs) ≡ true
        → (k : ℕ) × (k < length (r ∷ rs)) × (t (get_or (r ∷ rs) k d) ≡ true)
    by_test true is more e = (0, omega arith, is)
    by_test false is more e = let f = more e in let low = f.1 in (suc f.0, omega arith, f.2)

or_some : (a b : Option Numbered) (x : Numbered) → a ≡ Some x → (y : Numbered) × (option_or a b ≡ Some y)
or_some (Some a) b x e = (a, refl)
or_some None b x e = absurd (cc)

or_later : (a b : Option Numbered) (x : Numbered) → b ≡ Some x → (y : Numbered) × (option_or a b ≡ Some y)
or_later (Some a) b x e = (a, refl)
or_later None b x e = (x, e)

qualified_is : (good : Row → Bool) (n : ℕ) (r : Row) → good r ≡ true → qualified good n r ≡ Some (record { number = n; row = r })
qualified_is good n r e = rw e refl

-- where a row qualifies, one is found
lowest_some : (good : Row → Bool) (n : ℕ) (rows : List Row) (k : ℕ) (d : Row) → k < length rows → good (get_or rows k d) ≡ true → (x : Numbered) × (lowest good n rows ≡ Some x)
lowest_some good n [] k d low e = absurd (omega arith)
lowest_some good n (r ∷ rs) zero d low e = or_some (qualified good n r) (lowest good (n + 1) rs) (record { number = n; row = r }) (qualified_is good n r e)
lowest_some good n (r ∷ rs) (suc k) d low e =
    let more = lowest_some good (n + 1) rs k d (omega arith) e in or_later (qualified good n r) (lowest good (n + 1) rs) more.0 more.1

and_true : (a b : Bool) → a ≡ true → b ≡ true → (a && b) ≡ true
and_true true b e f = f
and_true false b e f = absurd (cc)

-- in a valid table the row that is accepted is the one that is acceptable
pub accepted : (rows : List Row) (pair : Pair) (id now : ℕ) (k : ℕ) (d : Row) → IsValid rows → k < length rows → acceptable_as pair id now (get_or rows k d) ≡ true
    → (x : Numbered) × (accept_row rows pair id now ≡ Some x) × (x.row ≡ get_or rows k d)
accepted rows pair id now k d valid low e =
    let good = acceptable_as pair id now in
    let found = lowest_some good 1 rows k d low e in
    let x = found.0 in
    let is : IsLowest good rows x = lowest-IsLowest good rows x found.1 in
    let here = is.here d in
    let one = is.low in
    let high = is.high in
    let theirs = and_tells (acceptable pair now (get_or rows k d)) ((get_or rows k d).recv_id == id) e in
    let at : good (get_or rows (x.number - 1) d) ≡ true = subst (λ (r : Row). good r ≡ true) (sym here) is.qualifies in
    let ours = and_tells (acceptable pair now (get_or rows (x.number - 1) d)) ((get_or rows (x.number - 1) d).recv_id == id) at in
    let same : x.number - 1 ≡ k = one_accepts rows pair now (x.number - 1) k d valid (omega arith) low ours.0 theirs.0 (eqb_is _ _ ours.1 ∙ sym (eqb_is _ _ theirs.1)) in
    (x, found.1, sym here ∙ ap (λ i. get_or rows i d) same)

pub same_algorithm_tells : (a b : Algorithm) → same_algorithm a b ≡ true → a ≡ b
same_algorithm_tells HmacSha1 HmacSha1 e = refl
same_algorithm_tells AesCmac AesCmac e = refl
same_algorithm_tells HmacSha256 HmacSha256 e = refl
same_algorithm_tells HmacSha1 AesCmac e = absurd (cc)
same_algorithm_tells HmacSha1 HmacSha256 e = absurd (cc)
same_algorithm_tells AesCmac HmacSha1 e = absurd (cc)
same_algorithm_tells AesCmac HmacSha256 e = absurd (cc)
same_algorithm_tells HmacSha256 HmacSha1 e = absurd (cc)
same_algorithm_tells HmacSha256 AesCmac e = absurd (cc)

same_flag_tells : (a b : Bool) → same_flag a b ≡ true → a ≡ b
same_flag_tells true b e = sym e
same_flag_tells false true e = absurd (cc)
same_flag_tells false false e = refl

-- two rows have one key
pub record OneKey (one two : Row) : Type 0 where
  pub algorithm : one.algorithm ≡ two.algorithm
  pub master : one.master ≡ two.master
  pub flag : one.with_options ≡ two.with_options

pub same_key_tells : (one two : Row) → same_key one two ≡ true → OneKey one two
same_key_tells one two e =
    let a = and_tells (same_bytes one.master two.master) (same_algorithm one.algorithm two.algorithm && same_flag one.with_options two.with_options) e in
    let b = and_tells (same_algorithm one.algorithm two.algorithm) (same_flag one.with_options two.with_options) a.1 in
    record {
      algorithm = same_algorithm_tells one.algorithm two.algorithm b.0;
      master = same_bytes_tells one.master two.master a.0;
      flag = same_flag_tells one.with_options two.with_options b.1;
    }

pub from_contains : (l : Lifetime) (t : ℕ) → contains l t ≡ true → (l.first ≤ t) × (t ≤ l.last)
from_contains l t e = let b = and_tells (nat_le l.first t) (nat_le t l.last) e in (le_is l.first t b.0, le_is t l.last b.1)

pub to_contains : (l : Lifetime) (t : ℕ) → l.first ≤ t → t ≤ l.last → contains l t ≡ true
to_contains l t a b = and_true (nat_le l.first t) (nat_le t l.last) (grind (arith, nat_tests)) (grind (arith, nat_tests))

-- the times of a rollover
in_time : (o r : Lifetime) (lead lag t now : ℕ) → contains o (r.first - lead) ≡ true → contains o (min greatest_time (r.last + lag)) ≡ true → contains r t ≡ true
    → t ≤ now + lead → now ≤ t + lag → now ≤ greatest_time → contains o now ≡ true
in_time o r lead lag t now one two sent early late low =
    let a = from_contains o (r.first - lead) one in
    let b = from_contains o (min greatest_time (r.last + lag)) two in
    let c = from_contains r t sent in
    let a0 = a.0 in
    let b1 = b.1 in
    let c0 = c.0 in
    let c1 = c.1 in
    to_contains o now (omega arith) (omega arith)

-- the row at which an aligned receiver accepts what a sender's row sends
pub record Meets (others : List Row) (pair : Pair) (id now : ℕ) (r : Row) : Type 0 where
  pub numbered : Numbered
  pub accepts : accept_row others pair id now ≡ Some numbered
  pub key : same_key numbered.row r ≡ true

key_of : (x o r : Row) → x ≡ o → same_key o r ≡ true → same_key x r ≡ true
key_of x o r e h = rw e h

-- a row that was sendable when a segment was made is met at the receiver's time
pub meets : (others : List Row) (pair : Pair) (lead lag : ℕ) (r : Row) (t now : ℕ) → IsMet others pair lead lag r → sendable pair t r ≡ true → IsValid others
    → t ≤ now + lead → now ≤ t + lag → now ≤ greatest_time → Meets others (mirrored pair) r.send_id now r
meets others pair lead lag r t now met may valid early late low =
    let sent = and_tells (matches r pair) (sends r.direction && contains r.sending t) may in
    let way = and_tells (sends r.direction) (contains r.sending t) sent.1 in
    let found = found_at (accepts_throughout pair lead lag r) others r (met (and_true (matches r pair) (sends r.direction) sent.0 way.0)) in
    let k = found.0 in
    let o = get_or others k r in
    let both = and_tells (accepts_from pair r o) (outlasts lead lag r o) found.2 in
    let one = and_tells (matches o (mirrored pair)) (receives o.direction && ((o.recv_id == r.send_id) && same_key o r)) both.0 in
    let two = and_tells (receives o.direction) ((o.recv_id == r.send_id) && same_key o r) one.1 in
    let three = and_tells (o.recv_id == r.send_id) (same_key o r) two.1 in
    let span = and_tells (contains o.accepting (r.sending.first - lead)) (contains o.accepting (min greatest_time (r.sending.last + lag))) both.1 in
    let time = in_time o.accepting r.sending lead lag t now span.0 span.1 way.1 early late low in
    let may_accept : acceptable (mirrored pair) now o ≡ true =
    and_true (matches o (mirrored pair)) (receives o.direction && contains o.accepting now) one.0 (and_true (receives o.direction) (contains o.accepting now) two.0 time) in
    let good : acceptable_as (mirrored pair) r.send_id now o ≡ true = and_true (acceptable (mirrored pair) now o) (o.recv_id == r.send_id) may_accept three.0 in
    let a = accepted others (mirrored pair) r.send_id now k r valid found.1 good in
    record { numbered = a.0; accepts = a.1; key = key_of a.0.row o r a.2 three.1 }

is_found : (others : List Row) (pair : Pair) (now : ℕ) (r : Row) → Meets others (mirrored pair) r.send_id now r → IsFoundAt others pair now r
is_found others pair now r m =
    subst (λ (o : Option Numbered). IsSomeAnd o (λ found. same_key found.row r ≡ true)) (sym m.accepts) m.key

-- each row that may send is met at the receiver's time
pub all_found : (rows others : List Row) (pair : Pair) (lead lag t now : ℕ) → AlignedFrom rows others pair lead lag → IsValid others
    → t ≤ now + lead → now ≤ t + lag → now ≤ greatest_time → AllByRecursion (λ r. sendable pair t r ≡ true → IsFoundAt others pair now r) rows
all_found [] others pair lead lag t now aligned valid early late low = tt
all_found (r ∷ rs) others pair lead lag t now aligned valid early late low = (
  λ may. is_found others pair now r (meets others pair lead lag r t now aligned.0 may valid early late low),
  all_found rs others pair lead lag t now aligned.1 valid early late low,
)
