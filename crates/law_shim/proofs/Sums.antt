-- A checksum of ffff in the place of 0000 is as right, and isn't under the MAC.
use Rattle.std.proofs.Common.{◌≡◌, ℕ, ◌+◌, ◌%◌, ◌<◌, ◌≤◌, Bool, true, false, ◌&&◌, nat_lt, List, ◌++◌, refl, sym, ap, ◌∙◌, arith, if◌then◌else◌}
use Rattle.std.specs.Prelude.{◌/◌, ◌==◌}
use Rattle.std.proofs.lemmas.Bool.Decides.{nat_tests}
use Rattle.book_segments.specs.Bytes.{put4, ring}
use Rattle.book_segments.specs.Options.{Ao}
use Rattle.book_segments.specs.Segments.{Segment, words_sum, sums, pseudo, header, tcp_bytes, checksum_of, good}
use Rattle.book_segments.specs.Spelling.{FitsIp, with_sum}
use Rattle.book_segments.proofs.Fields.{eqb_is}
use Rattle.book_segments.proofs.Folding.{sums_by}
use Rattle.book_segments.proofs.SumLaws.{words_pseudo, words_tcp, same_pseudo, same_tcp}
use Rattle.book_macs.specs.MacInput.{mac_input, covered}
use Rattle.book_shim.specs.Relaying.{relaid, with_area, summed, length_in_header}
use Rattle.book_shim.specs.Leaving.{as_sent}
use Rattle.law_shim.proofs.Opening.{laid_fits, relaid_good}

-- a plain sum above 0 is divisible by ffff with ffff more exactly where it is without
divides_alike : (s t : ℕ) → 0 < s → t ≡ s + 65535 → (nat_lt 0 t && (t % 65535 == 0)) ≡ (nat_lt 0 s && (s % 65535 == 0))
divides_alike s t p e =
    let m : t % 65535 ≡ s % 65535 = omega (arith, e) in
    let one : nat_lt 0 t ≡ true = grind (arith, nat_tests, e) in
    let two : nat_lt 0 s ≡ true = grind (arith, nat_tests) in
    rw (one, two, m) refl

good_with : (y : Segment) (c : ℕ) → good (with_sum y c) ≡ sums (pseudo y (tcp_bytes y c))
unfolding good
good_with y c = ap sums (ap (pseudo (with_sum y c)) (same_tcp y c c) ∙ same_pseudo y c (tcp_bytes y c))

good_full : (y : Segment) → FitsIp y.ip y → good (with_sum y 65535) ≡ good (with_sum y 0)
good_full y f =
    let none = words_pseudo y (tcp_bytes y 0) f in
    let full = words_pseudo y (tcp_bytes y 65535) f in
    let t = words_tcp y 65535 (omega arith) in
    good_with y 65535 ∙ sums_by (pseudo y (tcp_bytes y 65535))
    ∙ divides_alike (words_sum (pseudo y (tcp_bytes y 0))) (words_sum (pseudo y (tcp_bytes y 65535))) (omega (arith, none)) (omega (arith, none, full, t))
    ∙ sym (sums_by (pseudo y (tcp_bytes y 0))) ∙ sym (good_with y 0)

filled_good : (y : Segment) (c : ℕ) → FitsIp y.ip y → good (with_sum y c) ≡ true → good (with_sum y (if c == 0 then 65535 else c)) ≡ true
filled_good y c f right = by_test (c == 0) refl
  where
    by_test : (b : Bool) → (c == 0) ≡ b → good (with_sum y (if b then 65535 else c)) ≡ true
    by_test true e = good_full y f ∙ ap (λ (n : ℕ). good (with_sum y n)) (sym (eqb_is c 0 e)) ∙ right
    by_test false e = right

-- the checksum of what is sent is right
pub sent_good : (d : Segment) (area : List ℕ) → FitsIp d.ip d → length_in_header d.ip (with_area d area) ≤ 65535 → good (as_sent (relaid d area)) ≡ true
unfolding relaid
sent_good d area f h =
    let y : Segment = record (with_area d area) { ip = summed d.ip (with_area d area) } in
    filled_good y (checksum_of y) (laid_fits d.ip d area f h) (relaid_good d area f h)

-- the checksum isn't under the MAC
input_with : (n : ℕ) (d : Segment) (c : ℕ) (ao : Ao) (flag : Bool) → mac_input n (with_sum d c) ao flag ≡ mac_input n d ao flag
unfolding mac_input header
input_with n d c ao flag = ap (λ (l : List ℕ). put4 (n / ring) l) (same_pseudo d c (header d 0 (covered flag d.area ao ++ d.payload)))

pub input_sent : (n : ℕ) (d : Segment) (ao : Ao) (flag : Bool) → mac_input n (as_sent d) ao flag ≡ mac_input n d ao flag
input_sent n d ao flag = input_with n d (if d.checksum == 0 then 65535 else d.checksum) ao flag
