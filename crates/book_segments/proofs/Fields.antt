-- Numbers as bytes in front of a list tell the numbers.
use Rattle.std.proofs.Common.{◌≡◌, ℕ, ◌+◌, ◌*◌, ◌/◌, ◌%◌, ◌<◌, ◌≤◌, ◌==◌, nat_lt, nat_le, Bool, true, false, ◌&&◌, List, [], ◌∷◌, ◌++◌, length, Some, refl, arith}
use Rattle.std.proofs.lemmas.Bool.Decides.{nat_tests}
use Rattle.book_segments.specs.Bytes.{put2, put4, same_bytes}
use Rattle.book_segments.specs.Segments.{Segment, header}

pub put2_law : (n m : ℕ) (r t : List ℕ) → put2 n r ≡ put2 m t → (n % 65536 ≡ m % 65536) × (r ≡ t)
unfolding put2
put2_law n m r t e =
    let e1 : n / 256 % 256 ≡ m / 256 % 256 = cc in
    let e2 : n % 256 ≡ m % 256 = cc in
    (omega arith, cc)

pub put4_law : (n m : ℕ) (r t : List ℕ) → put4 n r ≡ put4 m t → (n % 4294967296 ≡ m % 4294967296) × (r ≡ t)
unfolding put4
put4_law n m r t e =
    let e1 : n / 16777216 % 256 ≡ m / 16777216 % 256 = cc in
    let e2 : n / 65536 % 256 ≡ m / 65536 % 256 = cc in
    let e3 : n / 256 % 256 ≡ m / 256 % 256 = cc in
    let e4 : n % 256 ≡ m % 256 = cc in
    (omega arith, cc)

pub append_split : (a b c d : List ℕ) → length a ≡ length b → a ++ c ≡ b ++ d → (a ≡ b) × (c ≡ d)
append_split [] [] c d l e = (refl, e)
append_split [] (y ∷ b) c d l e = absurd (cc)
append_split (x ∷ a) [] c d l e = absurd (cc)
append_split (x ∷ a) (y ∷ b) c d l e =
    let h : x ≡ y = cc in
    let t : a ++ c ≡ b ++ d = cc in
    let k : length a ≡ length b = omega arith in
    let r = append_split a b c d k t in
    let s : a ≡ b = r.0 in
    (cc, r.1)

pub two_law : (a b c d : ℕ) (r t : List ℕ) → a ∷ b ∷ r ≡ c ∷ d ∷ t → (a ≡ c) × (b ≡ d) × (r ≡ t)
two_law a b c d r t e = (cc, cc, cc)

-- what two TCP headers that are spelled alike have in common
pub record SameHeader (d e : Segment) (r t : List ℕ) : Type 0 where
  pub sequence : d.sequence % 4294967296 ≡ e.sequence % 4294967296
  pub acknowledgement : d.acknowledgement % 4294967296 ≡ e.acknowledgement % 4294967296
  pub offset : 80 + 4 * length d.area + d.reserved ≡ 80 + 4 * length e.area + e.reserved
  pub flags : d.flags ≡ e.flags
  pub window : d.window % 65536 ≡ e.window % 65536
  pub rest : r ≡ t

pub header_law : (d e : Segment) (sum : ℕ) (r t : List ℕ) → header d sum r ≡ header e sum t → SameHeader d e r t
unfolding header
header_law d e sum r t h =
    let source = put2_law _ _ _ _ h in
    let destination = put2_law _ _ _ _ source.1 in
    let sequence = put4_law _ _ _ _ destination.1 in
    let acknowledgement = put4_law _ _ _ _ sequence.1 in
    let bytes = two_law _ _ _ _ _ _ acknowledgement.1 in
    let window = put2_law _ _ _ _ bytes.2 in
    let sums = put2_law _ _ _ _ window.1 in
    let urgent = put2_law _ _ _ _ sums.1 in
    record { sequence = sequence.0; acknowledgement = acknowledgement.0; offset = bytes.0; flags = bytes.1; window = window.0; rest = urgent.1 }

pub and_tells : (a b : Bool) → (a && b) ≡ true → (a ≡ true) × (b ≡ true)
and_tells true true e = (refl, refl)
and_tells true false e = absurd (cc)
and_tells false b e = absurd (cc)

pub eqb_is : (x y : ℕ) → (x == y) ≡ true → x ≡ y
eqb_is x y e = grind (arith, nat_tests)

pub lt_is : (x y : ℕ) → nat_lt x y ≡ true → x < y
lt_is x y e = grind (arith, nat_tests)

pub le_is : (x y : ℕ) → nat_le x y ≡ true → x ≤ y
le_is x y e = grind (arith, nat_tests)

pub lt_not : (x y : ℕ) → nat_lt x y ≡ false → y ≤ x
lt_not x y e = grind (arith, nat_tests)

pub some_is : {X : Type 0} (s d : X) → Some s ≡ Some d → s ≡ d
some_is s d e = cc

pub same_bytes_tells : (xs ys : List ℕ) → same_bytes xs ys ≡ true → xs ≡ ys
same_bytes_tells [] [] e = refl
same_bytes_tells [] (y ∷ ys) e = absurd (cc)
same_bytes_tells (x ∷ xs) [] e = absurd (cc)
same_bytes_tells (x ∷ xs) (y ∷ ys) e =
    let h = and_tells (x == y) (same_bytes xs ys) e in
    let head : x ≡ y = eqb_is x y h.0 in
    let tail : xs ≡ ys = same_bytes_tells xs ys h.1 in
    cc
