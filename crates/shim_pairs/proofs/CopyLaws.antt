-- A datagram in front of a copy reads as it did.
use Rattle.std.proofs.Common.{◌≡◌, ◌≤◌, ℕ, List, [], ◌∷◌, ◌++◌, length, take, refl, sym, ap, subst, ◌∙◌, arith}
use Rattle.std.specs.Prelude.{min}
use Rattle.std.proofs.lemmas.List.{length-append, length-take}
use Rattle.std.proofs.Math.Seq.{take-append_seam}
use Rattle.std.proofs.lemmas.Bool.Decides.{nat_tests}
use Rattle.book_base.specs.declared.address.Address.{Address}
use Rattle.book_base.specs.declared.address.Address.TheVariants.{V4, V6}
use Rattle.book_segments.specs.Segments.{IpHeader, Ipv4, Ipv6, Segment, Read, header, reading, spell, spell_as, tcp_bytes, tcp_length}
use Rattle.book_segments.specs.Bytes.{put2, put4}
use Rattle.book_segments.specs.Sockets.{octets}
use Rattle.book_segments.specs.Spelling.{Fits, FitsIp, IsV4, IsV6, Spells}
use Rattle.book_segments.proofs.SpellLaws.{read_front}

-- what a datagram's own bytes read as
pub read_own : (d : Segment) (bs : List ℕ) → Spells d bs → reading bs ≡ Read d
read_own d bs s = read_front bs [] d s.fits (s.spelled ∙ sym (append_nil (spell d)))
  where
    append_nil : (xs : List ℕ) → xs ++ [] ≡ xs
    append_nil [] = refl
    append_nil (x ∷ xs) = ap (λ (l : List ℕ). x ∷ l) (append_nil xs)

length_v4 : (a : Address) → IsV4 a → length (octets a) ≡ 4
length_v4 (V4 bs) h = h.0
length_v4 (V6 bs) h = absurd h

length_v6 : (a : Address) → IsV6 a → length (octets a) ≡ 16
length_v6 (V4 bs) h = absurd h
length_v6 (V6 bs) h = h.0

length_tcp : (d : Segment) (sum : ℕ) → length (tcp_bytes d sum) ≡ tcp_length d
unfolding tcp_bytes header put2 put4
length_tcp d sum = omega (arith, length-append d.area d.payload)

sized : (ip : IpHeader) (d : Segment) (tcp : List ℕ) → FitsIp ip d → length tcp ≡ tcp_length d → length (spell_as ip d tcp) ≤ 65575
unfolding put2 put4
sized (Ipv4 service identification flags ttl checksum options) d tcp h n =
    let s = length_v4 d.source.address h.source in let t = length_v4 d.destination.address h.destination in let m = h.total in
    omega (arith, s, t, m, n, length-append (octets d.source.address) (octets d.destination.address ++ (options ++ tcp)), length-append (octets d.destination.address) (options ++ tcp), length-append options tcp)
sized (Ipv6 class_flow hops) d tcp h n =
    let s = length_v6 d.source.address h.source in let t = length_v6 d.destination.address h.destination in let m = h.total in
    omega (arith, s, t, m, n, length-append (octets d.source.address) (octets d.destination.address ++ tcp), length-append (octets d.destination.address) tcp)

-- a datagram has no more bytes than an IPv6 header and 65,535
pub most_bytes : (d : Segment) → Fits d → length (spell d) ≤ 65575
unfolding spell
most_bytes d f = sized d.ip d (tcp_bytes d d.checksum) f.ip (length_tcp d d.checksum)

-- a datagram that a prefix of the bytes spells has no more bytes than they are
pub whole_within : (d : Segment) (bs : List ℕ) (n : ℕ) → n ≡ length (spell d) → Spells d (take (length (spell d)) bs) → n ≤ length bs
whole_within d bs n is s = let e = ap (λ (l : List ℕ). length l) s.spelled in let t = length-take (length (spell d)) bs in least n (length (spell d)) (length bs) is (sym e ∙ t)
  where
    least : (n m k : ℕ) → n ≡ m → m ≡ min m k → n ≤ k
    least n m k e f = grind (arith, nat_tests)

-- what stands in front of a list
pub copied : (n : ℕ) (xs ys : List ℕ) → length xs ≡ n → take n (xs ++ ys) ≡ xs
copied n xs ys e = subst (λ (k : ℕ). take k (xs ++ ys) ≡ xs) e (take-append_seam xs ys)
