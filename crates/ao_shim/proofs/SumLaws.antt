-- A checksum of 0000 among the bytes of a datagram is replaced.
use Rattle.std.proofs.Common.{◌≡◌, ℕ, zero, suc, ◌+◌, ◌*◌, ◌/◌, ◌%◌, ◌<◌, Bool, true, false, List, [], ◌∷◌, ◌++◌, length, set, get_or, refl, sym, ap, ◌∙◌, arith, length-append, append_assoc}
use Rattle.std.proofs.lemmas.Bool.Decides.{nat_tests}
use Rattle.std.specs.Prelude.{◌==◌, if◌then◌else◌}
use Rattle.book_segments.specs.Bytes.{put2, put4}
use Rattle.book_segments.specs.Segments.{Segment, header, tcp_bytes, spell_as, spell, checksum_of, complement_of}
use Rattle.book_segments.specs.Spelling.{Fits, with_sum}
use Rattle.book_shim.specs.Relaying.{with_area, summed, relaid}
use Rattle.book_shim.specs.Leaving.{as_sent}
use Rattle.ao_shim.specs.Laying.{laid, sum_sent}
use Rattle.ao_shim.proofs.LaidLaws.{ip_long, spell_laid, laid_long, tcp_long}

at_place : (i : ℕ) (front : List ℕ) (a b : ℕ) (back : List ℕ) → length front ≡ i → (get_or (front ++ a ∷ b ∷ back) i 0 ≡ a) × (get_or (front ++ a ∷ b ∷ back) (suc i) 0 ≡ b)
at_place zero [] a b back l = (refl, refl)
at_place zero (x ∷ front) a b back l = absurd (cc)
at_place (suc i) [] a b back l = absurd (cc)
at_place (suc i) (x ∷ front) a b back l = at_place i front a b back (omega (arith, l))

put_place : (i : ℕ) (front : List ℕ) (a b u v : ℕ) (back : List ℕ) → length front ≡ i → set (set (front ++ a ∷ b ∷ back) i u) (suc i) v ≡ front ++ u ∷ v ∷ back
put_place zero [] a b u v back l = refl
put_place zero (x ∷ front) a b u v back l = absurd (cc)
put_place (suc i) [] a b u v back l = absurd (cc)
put_place (suc i) (x ∷ front) a b u v back l = ap (λ (ys : List ℕ). x ∷ ys) (put_place i front a b u v back (omega (arith, l)))

after : (n : ℕ) → n + 1 ≡ suc n
after n = omega arith

-- ---- the bytes of a checksum

is_zero : (c : ℕ) → c < 65536 → c / 256 % 256 ≡ 0 → c % 256 ≡ 0 → (c == 0) ≡ true
is_zero c most high low = grind (arith, nat_tests)

first_some : (c : ℕ) → (c / 256 % 256 ≡ 0 → ⊥) → (c == 0) ≡ false
first_some c high = grind (arith, nat_tests)

second_some : (c : ℕ) → (c % 256 ≡ 0 → ⊥) → (c == 0) ≡ false
second_some c low = grind (arith, nat_tests)

module _ (place : ℕ) (room front back : List ℕ) (c : ℕ) (l : length front ≡ place) (most : c < 65536) (e : room ≡ front ++ put2 c back) where
  first_is : get_or room place 0 ≡ c / 256 % 256
  unfolding put2
  first_is = ap (λ (r : List ℕ). get_or r place 0) e ∙ (at_place place front (c / 256 % 256) (c % 256) back l).0

  second_is : get_or room (place + 1) 0 ≡ c % 256
  unfolding put2
  second_is = ap (λ (i : ℕ). get_or room i 0) (after place) ∙ (ap (λ (r : List ℕ). get_or r (suc place) 0) e ∙ (at_place place front (c / 256 % 256) (c % 256) back l).1)

  -- both bytes were zero
  pub both_replaced : get_or room place 0 ≡ 0 → get_or room (place + 1) 0 ≡ 0 → set (set room place 255) (place + 1) 255 ≡ front ++ put2 (sum_sent c) back
  unfolding put2
  both_replaced one two =
      ap (λ (i : ℕ). set (set room place 255) i 255) (after place) ∙ (ap (λ (r : List ℕ). set (set r place 255) (suc place) 255) e
      ∙ (put_place place front (c / 256 % 256) (c % 256) 255 255 back l
      ∙ sym (ap (λ (x : ℕ). front ++ put2 x back) (ap (λ (b : Bool). if b then 65535 else c) (is_zero c most (sym first_is ∙ one) (sym second_is ∙ two))))))

  pub first_kept : (get_or room place 0 ≡ 0 → ⊥) → room ≡ front ++ put2 (sum_sent c) back
  first_kept one = e ∙ sym (ap (λ (x : ℕ). front ++ put2 x back) (ap (λ (b : Bool). if b then 65535 else c) (first_some c (λ z. one (first_is ∙ z)))))

  pub second_kept : (get_or room (place + 1) 0 ≡ 0 → ⊥) → room ≡ front ++ put2 (sum_sent c) back
  second_kept two = e ∙ sym (ap (λ (x : ℕ). front ++ put2 x back) (ap (λ (b : Bool). if b then 65535 else c) (second_some c (λ z. two (second_is ∙ z)))))

-- ---- a datagram that is sent

-- the bytes of TCP in front of the checksum
tcp_front : Segment → List ℕ
tcp_front d = put2 d.source.port (put2 d.destination.port (put4 d.sequence (put4 d.acknowledgement ((0x50 + 4 * length d.area + d.reserved) ∷ d.flags ∷ put2 d.window []))))

-- those behind it
tcp_back : Segment → List ℕ
tcp_back d = put2 d.urgent (d.area ++ d.payload)

tcp_split : (d : Segment) (c : ℕ) → tcp_bytes d c ≡ tcp_front d ++ put2 c (tcp_back d)
unfolding tcp_bytes header put2 put4 tcp_front tcp_back
tcp_split d c = refl

front_long : (d : Segment) → length (tcp_front d) ≡ 16
unfolding tcp_front put2 put4
front_long d = refl

put_then : (c : ℕ) (back rest : List ℕ) → put2 c back ++ rest ≡ put2 c (back ++ rest)
unfolding put2
put_then c back rest = refl

sum_fits : (d : Segment) → checksum_of d < 65536
unfolding checksum_of complement_of
sum_fits d = omega arith

-- the bytes around the checksum of a datagram that is laid out
around : (d : Segment) (area rest : List ℕ) (c : ℕ)
    → spell (with_sum (laid d area) c) ++ rest ≡ (spell_as (summed d.ip (with_area d area)) (with_area d area) [] ++ tcp_front (laid d area)) ++ put2 c (tcp_back (laid d area) ++ rest)
around d area rest c =
    let I : List ℕ = spell_as (summed d.ip (with_area d area)) (with_area d area) [] in
    let F : List ℕ = tcp_front (laid d area) in
    let B : List ℕ = tcp_back (laid d area) in
    ap (λ (l : List ℕ). l ++ rest) (spell_laid d area c ∙ (ap (λ (l : List ℕ). I ++ l) (tcp_split (laid d area) c) ∙ sym (append_assoc I F (put2 c B))))
    ∙ (append_assoc (I ++ F) (put2 c B) rest ∙ ap (λ (l : List ℕ). (I ++ F) ++ l) (put_then c B rest))

pub sent_long : (d : Segment) (area : List ℕ) → Fits d → length (spell (as_sent (relaid d area))) ≡ ip_long d.ip + (20 + length area + length d.payload)
unfolding relaid
sent_long d area f = laid_long d area (sum_sent (checksum_of (laid d area))) f

-- where its checksum is replaced, it is as it is sent
pub replaces : (d : Segment) (area out rest after : List ℕ) (place : ℕ) → Fits d → out ≡ spell (relaid d area) ++ rest → place ≡ ip_long d.ip + 16
    → ((front back : List ℕ) (c : ℕ) → length front ≡ place → c < 65536 → out ≡ front ++ put2 c back → after ≡ front ++ put2 (sum_sent c) back)
    → after ≡ spell (as_sent (relaid d area)) ++ rest
unfolding relaid
replaces d area out rest after place f is at change =
    let x = laid d area in
    let n : ℕ = checksum_of x in
    let I : List ℕ = spell_as (summed d.ip (with_area d area)) (with_area d area) [] in
    let long : length (I ++ tcp_front x) ≡ place =
    omega (arith, length-append I (tcp_front x), front_long x, ap length (spell_laid d area n), length-append I (tcp_bytes x n), laid_long d area n f, tcp_long x n, at) in
    change (I ++ tcp_front x) (tcp_back x ++ rest) n long (sum_fits x) (is ∙ around d area rest n) ∙ sym (around d area rest (sum_sent n))
