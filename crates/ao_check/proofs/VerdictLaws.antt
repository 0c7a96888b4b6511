-- The verdict, test by test.
use Rattle.std.proofs.Common.{◌≡◌, ◌<◌, ◌≤◌, ℕ, ◌+◌, ◌-◌, ◌==◌, ◌&&◌, ◌||◌, not, Bool, true, false, List, [], ◌∷◌, length, Option, Some, None, if◌then◌else◌, refl, sym, ap, ◌∙◌, subst, arith, nat_lt, get_or, Ok, Err}
use Rattle.std.specs.Prelude.{is_some, option_map}
use Rattle.std.specs.List.{list_any}
use Rattle.std.proofs.lemmas.Bool.Decides.{nat_tests}
use Rattle.book_base.specs.declared.address.Pair.{Pair}
use Rattle.book_segments.specs.Bytes.{same_bytes}
use Rattle.book_segments.specs.Options.{Ao, AoFound, One, find_ao}
use Rattle.book_segments.specs.Segments.{Segment, has, segment_length, SYN}
use Rattle.book_macs.specs.Contexts.{context_of}
use Rattle.book_keys.specs.Rows.{Row, matches, receives, acceptable}
use Rattle.book_keys.specs.Lifetimes.{contains}
use Rattle.book_keys.specs.Choices.{Numbered, qualified, lowest, acceptable_as, accept_row, accepts_as, has_id}
use Rattle.std.specs.Option.{option_or}
use Rattle.book_base.specs.Algorithms.{mac_length_of}
use Rattle.book_endpoint.specs.Verdicts.{Finding, Judgement, judge, segment_number, found_with, mac_of}
use Rattle.book_endpoint.proofs.JudgeSteps.{judge_by_steps, judge_ao, judge_row, judge_context, judge_number, judge_mac}
use Rattle.book_endpoint.specs.declared.refusal.Refusal.TheVariants.{NoTuple, Expired, MacLength, NoContext, Range, BadMac}
use Rattle.ao_check.proofs.KeyLaws.{accepted_at, same_row}
use Rattle.book_keys.specs.Lookups.{accept_answer, accept_of}
use Rattle.book_keys.specs.declared.accept.Accept.{Accept}
use Rattle.book_keys.specs.declared.accept.Accept.TheVariants as found

pub by_found : (rows : List Row) (pair : Pair) (own : ℕ) (peer expected : Option ℕ) (now : ℕ) (d : Segment) (f : AoFound) → f ≡ find_ao d.area
    → judge rows pair (record { own_isn = own; peer_isn = peer; expected = expected }) now d ≡ judge_ao rows pair now expected d (context_of d peer (Some own)) f
by_found rows pair own peer expected now d f e = rw e (judge_by_steps rows pair (record { own_isn = own; peer_isn = peer; expected = expected }) now d)

-- ---- the row

or_is : (a b : Bool) → (a || b) ≡ false → (a ≡ false) × (b ≡ false)
or_is true b e = absurd (cc)
or_is false b e = (refl, e)

fails : (m r c i : Bool) → (m && (r && i)) ≡ false → ((m && (r && c)) && i) ≡ false
fails true true true i h = h
fails true true false i h = refl
fails true false c i h = refl
fails false r c i h = refl

none_else : (o : Option Numbered) (b : Bool) (n : Numbered) → b ≡ false → o ≡ None → option_or (if b then Some n else None) o ≡ None
none_else o true n e f = absurd (cc)
none_else o false n e f = f

pub no_row : (pair : Pair) (id now n : ℕ) (rows : List Row) → list_any (accepts_as pair id) rows ≡ false → lowest (acceptable_as pair id now) n rows ≡ None
no_row pair id now n [] e = refl
no_row pair id now n (r ∷ rs) e =
    let both = or_is (accepts_as pair id r) (list_any (accepts_as pair id) rs) e in
    none_else (lowest (acceptable_as pair id now) (n + 1) rs) (acceptable_as pair id now r) (record { number = n; row = r })
    (fails (matches r pair) (receives r.direction) (contains r.accepting now) (r.recv_id == id) both.0) (no_row pair id now (n + 1) rs both.1)

pub absent_is : (b : Bool) (o : Option Numbered) → found.Absent ≡ accept_answer b o → b ≡ false
absent_is false o e = refl
absent_is true None e = absurd (cc)
absent_is true (Some n) e = absurd (cc)

pub expired_is : (b : Bool) (o : Option Numbered) → found.Expired ≡ accept_answer b o → (b ≡ true) × (o ≡ None)
expired_is false o e = absurd (cc)
expired_is true None e = (refl, refl)
expired_is true (Some n) e = absurd (cc)

row_is : (b : Bool) (o : Option Numbered) (n : ℕ) → found.Row n ≡ accept_answer b o → (r : Row) × (o ≡ Some (record { number = n; row = r }))
row_is false o n e = absurd (cc)
row_is true None n e = absurd (cc)
row_is true (Some m) n e = let f : n ≡ m.number = cc in (m.row, rw f refl)

-- the row that was found
pub record Accepted (rows : List Row) (pair : Pair) (id now n : ℕ) : Type 0 where
  pub row : Row
  pub is : accept_row rows pair id now ≡ Some (record { number = n; row = row })

pub accepted : (rows : List Row) (pair : Pair) (id now n : ℕ) → found.Row n ≡ accept_of rows pair id now → Accepted rows pair id now n
accepted rows pair id now n e = let r = row_is (has_id rows pair id) (accept_row rows pair id now) n e in record { row = r.0; is = r.1 }

tuple_of : (b : Bool) → b ≡ false → ◌≡◌ {A = Judgement} (if b then Err Expired else Err NoTuple) (Err NoTuple)
tuple_of b e = rw e refl

expired_of : (b : Bool) → b ≡ true → ◌≡◌ {A = Judgement} (if b then Err Expired else Err NoTuple) (Err Expired)
expired_of b e = rw e refl

pub no_tuple : (rows : List Row) (pair : Pair) (now : ℕ) (expected : Option ℕ) (d : Segment) (ctx : Option (List ℕ)) (ao : Ao) → found.Absent ≡ accept_of rows pair ao.key_id now
    → judge_ao rows pair now expected d ctx (One ao) ≡ Err NoTuple
no_tuple rows pair now expected d ctx ao e =
    let none = absent_is (has_id rows pair ao.key_id) (accept_row rows pair ao.key_id now) e in
    let o : accept_row rows pair ao.key_id now ≡ None = no_row pair ao.key_id now 1 rows none in
    ap (judge_row rows pair d ao expected ctx) o ∙ tuple_of (has_id rows pair ao.key_id) none

pub expired : (rows : List Row) (pair : Pair) (now : ℕ) (expected : Option ℕ) (d : Segment) (ctx : Option (List ℕ)) (ao : Ao) → found.Expired ≡ accept_of rows pair ao.key_id now
    → judge_ao rows pair now expected d ctx (One ao) ≡ Err Expired
expired rows pair now expected d ctx ao e =
    let x = expired_is (has_id rows pair ao.key_id) (accept_row rows pair ao.key_id now) e in
    ap (judge_row rows pair d ao expected ctx) x.1 ∙ expired_of (has_id rows pair ao.key_id) x.0

-- ---- behind the row

test_holds : (x y : ℕ) → x ≡ y → (x == y) ≡ true
test_holds x y e = grind (arith, nat_tests)

test_tells : (x y : ℕ) → (x == y) ≡ true → x ≡ y
test_tells x y e = grind (arith, nat_tests)

-- the row that was found, and whether the MAC has the length of its algorithm
pub record Measured (rows : List Row) (pair : Pair) (id now n : ℕ) (mac : List ℕ) (b : Bool) : Type 0 where
  pub row : Row
  pub is : accept_row rows pair id now ≡ Some (record { number = n; row = row })
  pub test : b ≡ (length mac == mac_length_of row.algorithm)
  pub long : b ≡ true → length mac ≡ mac_length_of row.algorithm

pub measured : (rows : List Row) (pair : Pair) (id now n : ℕ) (x : Row) (mac : List ℕ) (b : Bool) → found.Row n ≡ accept_of rows pair id now → ((e : Row) → x ≡ get_or rows (n - 1) e)
    → b ≡ (length mac == mac_length_of x.algorithm) → Measured rows pair id now n mac b
measured rows pair id now n x mac b e at t =
    let a = accepted rows pair id now n e in
    let same = same_row rows n a.row x (accepted_at rows pair id now n a.row a.is) at in
    let u : b ≡ (length mac == mac_length_of a.row.algorithm) = t ∙ ap (λ (r : Row). length mac == mac_length_of r.algorithm) same in
    record { row = a.row; is = a.is; test = u; long = λ h. test_tells (length mac) (mac_length_of a.row.algorithm) (sym u ∙ h) }

pub mac_length : (rows : List Row) (pair : Pair) (expected : Option ℕ) (d : Segment) (ctx : Option (List ℕ)) (ao : Ao) (o : Option Numbered) (r : Numbered) → o ≡ Some r → (length ao.mac == mac_length_of r.row.algorithm) ≡ false
    → judge_row rows pair d ao expected ctx o ≡ Err MacLength
mac_length rows pair expected d ctx ao o r e t = rw (e, t) refl

pub at_context : (rows : List Row) (pair : Pair) (expected : Option ℕ) (d : Segment) (ctx : Option (List ℕ)) (ao : Ao) (o : Option Numbered) (r : Numbered) → o ≡ Some r → length ao.mac ≡ mac_length_of r.row.algorithm
    → judge_row rows pair d ao expected ctx o ≡ judge_context r d ao expected ctx
at_context rows pair expected d ctx ao o r e l = let t : (length ao.mac == mac_length_of r.row.algorithm) ≡ true = test_holds (length ao.mac) (mac_length_of r.row.algorithm) l in rw (e, t) refl

pub no_context : (expected : Option ℕ) (d : Segment) (ctx : Option (List ℕ)) (ao : Ao) (r : Numbered) → ctx ≡ None → judge_context r d ao expected ctx ≡ Err NoContext
no_context expected d ctx ao r e = rw e refl

pub silent : (expected : Option ℕ) (d : Segment) (ctx : Option (List ℕ)) (c : List ℕ) (ao : Ao) (r : Numbered) → ctx ≡ Some c → (not (has SYN d) && not (is_some expected)) ≡ true
    → judge_context r d ao expected ctx ≡ Err NoContext
silent expected d ctx c ao r e t = rw (e, t) refl

pub at_number : (expected : Option ℕ) (d : Segment) (ctx : Option (List ℕ)) (c : List ℕ) (ao : Ao) (r : Numbered) → ctx ≡ Some c → (not (has SYN d) && not (is_some expected)) ≡ false
    → judge_context r d ao expected ctx ≡ judge_number r d ao c (segment_number d expected)
at_number expected d ctx c ao r e t = rw (e, t) refl

pub no_number : (d : Segment) (c : List ℕ) (ao : Ao) (r : Numbered) (o : Option ℕ) → None ≡ o → judge_number r d ao c o ≡ Err Range
no_number d c ao r o e = ap (judge_number r d ao c) (sym e)

pub late : (d : Segment) (c : List ℕ) (ao : Ao) (r : Numbered) (o : Option ℕ) (n : ℕ) → Some n ≡ o → nat_lt 9223372036854775808 (n + segment_length d) ≡ true → judge_number r d ao c o ≡ Err Range
late d c ao r o n e t = ap (judge_number r d ao c) (sym e) ∙ rw t refl

pub at_mac : (d : Segment) (c : List ℕ) (ao : Ao) (r : Numbered) (o : Option ℕ) (n : ℕ) → Some n ≡ o → nat_lt 9223372036854775808 (n + segment_length d) ≡ false
    → judge_number r d ao c o ≡ judge_mac ao (found_with r d ao c n)
at_mac d c ao r o n e t = ap (judge_number r d ao c) (sym e) ∙ rw t refl

-- ---- from the verdict to each of its tests

-- only context, number and MAC are left to judge
pub to_context : (rows : List Row) (pair : Pair) (own : ℕ) (peer expected : Option ℕ) (now : ℕ) (d : Segment) (ao : Ao) (r : Numbered) → One ao ≡ find_ao d.area
    → accept_row rows pair ao.key_id now ≡ Some r → length ao.mac ≡ mac_length_of r.row.algorithm → judge rows pair (record { own_isn = own; peer_isn = peer; expected = expected }) now d ≡ judge_context r d ao expected (context_of d peer (Some own))
to_context rows pair own peer expected now d ao r f a l =
    by_found rows pair own peer expected now d (One ao) f ∙ at_context rows pair expected d (context_of d peer (Some own)) ao (accept_row rows pair ao.key_id now) r a l

-- only number and MAC are left to judge
pub to_number : (rows : List Row) (pair : Pair) (own : ℕ) (peer expected : Option ℕ) (now : ℕ) (d : Segment) (ao : Ao) (r : Numbered) (c : List ℕ) → One ao ≡ find_ao d.area
    → accept_row rows pair ao.key_id now ≡ Some r → length ao.mac ≡ mac_length_of r.row.algorithm → context_of d peer (Some own) ≡ Some c → (not (has SYN d) && not (is_some expected)) ≡ false
    → judge rows pair (record { own_isn = own; peer_isn = peer; expected = expected }) now d ≡ judge_number r d ao c (segment_number d expected)
to_number rows pair own peer expected now d ao r c f a l e t =
    to_context rows pair own peer expected now d ao r f a l ∙ at_number expected d (context_of d peer (Some own)) c ao r e t

-- only the MAC is left to judge
pub to_mac : (rows : List Row) (pair : Pair) (own : ℕ) (peer expected : Option ℕ) (now : ℕ) (d : Segment) (ao : Ao) (r : Numbered) (c : List ℕ) (n : ℕ) → One ao ≡ find_ao d.area
    → accept_row rows pair ao.key_id now ≡ Some r → length ao.mac ≡ mac_length_of r.row.algorithm → context_of d peer (Some own) ≡ Some c → (not (has SYN d) && not (is_some expected)) ≡ false
    → Some n ≡ segment_number d expected → nat_lt 9223372036854775808 (n + segment_length d) ≡ false → judge rows pair (record { own_isn = own; peer_isn = peer; expected = expected }) now d ≡ judge_mac ao (found_with r d ao c n)
to_mac rows pair own peer expected now d ao r c n f a l e t m u =
    to_number rows pair own peer expected now d ao r c f a l e t ∙ at_mac d c ao r (segment_number d expected) n m u

pub wrong : (ao : Ao) (p : Finding) → same_bytes ao.mac (mac_of p) ≡ false → judge_mac ao p ≡ Err BadMac
wrong ao p e = rw e refl

pub right : (ao : Ao) (p : Finding) → same_bytes ao.mac (mac_of p) ≡ true → judge_mac ao p ≡ Ok p
right ao p e = rw e refl
