-- What a datagram that was read is like.
use Rattle.std.proofs.Common.{◌≡◌, ℕ, ◌+◌, ◌-◌, ◌*◌, ◌/◌, ◌%◌, ◌<◌, ◌≤◌, ◌==◌, nat_lt, Bool, true, false, not, ◌||◌, Option, List, [], ◌∷◌, length, take, drop, slice_index, slice_range, if◌then◌else◌, refl, arith, length-take, length-drop}
use Rattle.std.proofs.lemmas.Bool.Decides.{nat_tests}
use Rattle.book_base.specs.declared.address.Address.{Address}
use Rattle.book_base.specs.declared.address.Address.TheVariants.{V4, V6}
use Rattle.book_segments.specs.Options.{Options, Listed, Faulty, options_of}
use Rattle.book_segments.specs.declared.fault.DatagramFault.{DatagramFault}
use Rattle.book_segments.specs.declared.fault.DatagramFault.TheVariants.{Truncated, Version, HeaderLength, HeaderChecksum, Fragment, NotTcp, ExtensionHeader, DataOffset}
use Rattle.book_segments.specs.Segments.{IpHeader, Ipv4, Ipv6, Segment, Reading, Bad, Read, sums, two_octets_at, four_octets_at, refuse, option_fault, tcp_fault, v4_fault, v6_fault, is_extension, first_fault, tcp_fields, v4_fields, v6_fields, fields, read_unless, reading}

-- a header and an address of one family
abbrev pub SameKind : IpHeader → Address → Type 0
SameKind (Ipv4 service identification flags ttl checksum options) (V4 bytes) = Unit {0}
SameKind (Ipv6 class_flow hops) (V6 bytes) = Unit {0}
SameKind _ _ = ⊥

-- what holds of each datagram that was read
pub record Shaped (d : Segment) : Type 0 where
  pub kind : SameKind d.ip d.source.address
  pub reserved : d.reserved < 16
  pub words : length d.area % 4 ≡ 0

-- what was read, if anything was, is so
abbrev pub ShapedIf : Reading → Type 0
ShapedIf (Bad fault) = Unit {0}
ShapedIf (Read d) = Shaped d

-- by cases on a test that refuses
unless : (b : Bool) (f : DatagramFault) (later : Option DatagramFault) (d : Segment) → (b ≡ false → ShapedIf (read_unless later d)) → ShapedIf (read_unless (refuse b f later) d)
unless true f later d go = tt
unless false f later d go = go refl

optioned : (d : Segment) (os : Options) → Shaped d → ShapedIf (read_unless (option_fault os) d)
optioned d (Listed list) h = h
optioned d (Faulty f) h = tt

not_lt : (x y : ℕ) → nat_lt x y ≡ false → y ≤ x
not_lt x y e = grind (arith, nat_tests)

fours : (t : List ℕ) (k size : ℕ) → size ≡ 4 * k → 20 ≤ size → size ≤ length t → length (slice_range t 20 size) % 4 ≡ 0
fours t k size is low high =
    let taken = length-take (size - 20) (drop 20 t) in
    let dropped = length-drop 20 t in
    let same : length (slice_range t 20 size) ≡ size - 20 = omega arith in
    rw same (omega arith)

tcp_shaped : (ip : IpHeader) (source destination : Address) (t : List ℕ) → SameKind ip source
    → ShapedIf (read_unless (tcp_fault t) (tcp_fields ip source destination t))
tcp_shaped ip source destination t kind =
    let size = 4 * (slice_index t 12 / 16) in
    unless (nat_lt (length t) 20) DataOffset _ _ (λ one.
    unless (nat_lt size 20) DataOffset _ _ (λ low.
    unless (nat_lt (length t) size) DataOffset _ _ (λ high.
    optioned _ (options_of (slice_range t 20 size))
    (record {
      kind = kind;
      reserved = omega arith;
      words = fours t (slice_index t 12 / 16) size refl (not_lt size 20 low) (not_lt (length t) size high);
    }))))

v4_shaped : (b : List ℕ) → ShapedIf (read_unless (v4_fault b) (v4_fields b))
v4_shaped b =
    let size = 4 * (slice_index b 0 % 16) in
    let total = two_octets_at b 2 in
    unless (nat_lt (length b) 20) Truncated _ _ (λ one.
    unless (nat_lt (length b) total) Truncated _ _ (λ two.
    unless (nat_lt size 20) HeaderLength _ _ (λ three.
    unless (nat_lt total size) HeaderLength _ _ (λ four.
    unless (not (sums (take size b))) HeaderChecksum _ _ (λ five.
    unless (not (two_octets_at b 6 % 16384 == 0)) Fragment _ _ (λ six.
    unless (not (slice_index b 9 == 6)) NotTcp _ _ (λ seven.
    tcp_shaped (Ipv4 (slice_index b 1) (two_octets_at b 4) (slice_index b 6 / 64) (slice_index b 8) (two_octets_at b 10) (slice_range b 20 size))
    (V4 (slice_range b 12 16)) (V4 (slice_range b 16 20)) (slice_range b size total) tt)))))))

v6_shaped : (b : List ℕ) → ShapedIf (read_unless (v6_fault b) (v6_fields b))
v6_shaped b =
    let size = two_octets_at b 4 in
    let next = slice_index b 6 in
    unless (nat_lt (length b) 40) Truncated _ _ (λ one.
    unless (nat_lt (length b) (40 + size)) Truncated _ _ (λ two.
    unless (not ((next == 6) || is_extension next)) NotTcp _ _ (λ three.
    unless (is_extension next) ExtensionHeader _ _ (λ four.
    tcp_shaped (Ipv6 (four_octets_at b 0 % 268435456) (slice_index b 7)) (V6 (slice_range b 8 24)) (V6 (slice_range b 24 40)) (slice_range b 40 (40 + size)) tt))))

version_shaped : (b : List ℕ) (four six : Bool)
    → ShapedIf (read_unless (refuse (not (four || six)) Version (if four then v4_fault b else v6_fault b)) (if four then v4_fields b else v6_fields b))
version_shaped b true six = v4_shaped b
version_shaped b false true = v6_shaped b
version_shaped b false false = tt

-- each datagram that was read is so
pub reading_shaped : (b : List ℕ) → ShapedIf (reading b)
unfolding reading first_fault fields
reading_shaped [] = tt
reading_shaped (x ∷ rest) = version_shaped (x ∷ rest) (x / 16 == 4) (x / 16 == 6)
