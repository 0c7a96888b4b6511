-- What is read without a fault is spelled so.
use Rattle.std.proofs.Common.{◌≡◌, ℕ, ◌+◌, ◌-◌, ◌*◌, ◌/◌, ◌%◌, ◌<◌, ◌≤◌, Bool, true, false, cond, nat_lt, List, [], ◌∷◌, ◌++◌, length, take, drop, Option, None, refl, sym, ap, ◌∙◌, arith, append_assoc, inl, inr}
use Rattle.std.specs.Prelude.{slice_index, slice_range, ◌==◌, not, ◌||◌, if◌then◌else◌}
use Rattle.std.proofs.lemmas.Bool.{ltb-false, not-false, eqb-true, or_cases}
use Rattle.std.proofs.lemmas.List.{length-append, length-drop, take_at}
use Rattle.book_base.specs.declared.address.Address.{Address}
use Rattle.book_base.specs.declared.address.Address.TheVariants.{V4, V6}
use Rattle.book_segments.specs.Sockets.{octets}
use Rattle.book_segments.specs.Options.{Options, Listed, Faulty, AreListed, options_of}
use Rattle.book_segments.specs.declared.fault.DatagramFault.{DatagramFault}
use Rattle.book_segments.specs.declared.fault.DatagramFault.TheVariants.{Truncated, Version, HeaderLength, HeaderChecksum, Fragment, NotTcp, ExtensionHeader, DataOffset}
use Rattle.book_segments.specs.Segments.{IpHeader, Ipv4, Ipv6, Segment, two_octets_at, four_octets_at, refuse, option_fault, tcp_fault, v4_fault, v6_fault, is_extension, first_fault, tcp_fields, v4_fields, v6_fields, fields, tcp_length, header, tcp_bytes, spell_as, spell, sums}
use Rattle.book_segments.specs.Spelling.{AreBytes, IsArea, Fits}
use Rattle.book_segments.proofs.ByteLaws.{put_two, put_four, front_list, in_front, split_at, length_part, bytes_drop, bytes_part}

-- a test that did not refuse
pub refuse_none : (b : Bool) (f : DatagramFault) (others : Option DatagramFault) → refuse b f others ≡ None → (b ≡ false) × (others ≡ None)
refuse_none true f others e = absurd (cc)
refuse_none false f others e = (refl, e)

listed_none : (o : Options) → option_fault o ≡ None → AreListed o
listed_none (Listed list) e = tt
listed_none (Faulty f) e = absurd (cc)

pub record TcpRead (t : List ℕ) : Type 0 where
  pub long : 20 ≤ length t
  pub least : 20 ≤ 4 * (slice_index t 12 / 16)
  pub within : 4 * (slice_index t 12 / 16) ≤ length t
  pub listed : AreListed (options_of (slice_range t 20 (4 * (slice_index t 12 / 16))))

pub tcp_read : (t : List ℕ) → tcp_fault t ≡ None → TcpRead t
tcp_read t e =
    let size : ℕ = 4 * (slice_index t 12 / 16) in
    let l3 : Option DatagramFault = option_fault (options_of (slice_range t 20 size)) in
    let l2 : Option DatagramFault = refuse (nat_lt (length t) size) DataOffset l3 in
    let l1 : Option DatagramFault = refuse (nat_lt size 20) DataOffset l2 in
    let a = refuse_none (nat_lt (length t) 20) DataOffset l1 e in
    let b = refuse_none (nat_lt size 20) DataOffset l2 a.1 in
    let c = refuse_none (nat_lt (length t) size) DataOffset l3 b.1 in
    record { long = ltb-false _ _ a.0; least = ltb-false _ _ b.0; within = ltb-false _ _ c.0; listed = listed_none _ c.1 }

-- what the fields of TCP bytes are
pub record TcpFits (d : Segment) (t : List ℕ) : Type 0 where
  pub bytes : t ≡ tcp_bytes d d.checksum
  pub long : tcp_length d ≡ length t
  pub source_port : d.source.port < 65536
  pub destination_port : d.destination.port < 65536
  pub sequence : d.sequence < 4294967296
  pub acknowledgement : d.acknowledgement < 4294967296
  pub reserved : d.reserved < 16
  pub flags : d.flags < 256
  pub window : d.window < 65536
  pub checksum : d.checksum < 65536
  pub urgent : d.urgent < 65536
  pub area : IsArea d.area
  pub listed : AreListed (options_of d.area)
  pub payload : AreBytes d.payload

pub tcp_fits : (ip : IpHeader) (s a : Address) (t : List ℕ) → AreBytes t → tcp_fault t ≡ None → TcpFits (tcp_fields ip s a t) t
unfolding header tcp_bytes
tcp_fits ip s a t h e =
    let r : TcpRead t = tcp_read t e in
    let size : ℕ = 4 * (slice_index t 12 / 16) in
    let d : Segment = tcp_fields ip s a t in
    let near = r.least in let far = r.within in let long = r.long in
    let n : length d.area ≡ size - 20 = length_part t 20 size near far in
    let p : length d.payload ≡ length t - size = length-drop size t in
    let b0 = h 0 in let b1 = h 1 in let b2 = h 2 in let b3 = h 3 in let b4 = h 4 in let b5 = h 5 in let b6 = h 6 in let b7 = h 7 in let b8 = h 8 in let b9 = h 9 in
    let b10 = h 10 in let b11 = h 11 in let b12 = h 12 in let b13 = h 13 in let b14 = h 14 in let b15 = h 15 in let b16 = h 16 in let b17 = h 17 in let b18 = h 18 in let b19 = h 19 in
    let off : 80 + 4 * length d.area + slice_index t 12 % 16 ≡ slice_index t 12 = omega arith in
    let rest : List ℕ = drop 20 t in
    let parts : d.area ++ d.payload ≡ rest = sym (split_at t 20 size near) in
    let t18 = put_two (slice_index t 18) (slice_index t 19) rest b18 b19 in
    let t16 = put_two (slice_index t 16) (slice_index t 17) (slice_index t 18 ∷ slice_index t 19 ∷ rest) b16 b17 in
    let t14 = put_two (slice_index t 14) (slice_index t 15) (slice_index t 16 ∷ slice_index t 17 ∷ slice_index t 18 ∷ slice_index t 19 ∷ rest) b14 b15 in
    let from12 : List ℕ = slice_index t 12 ∷ slice_index t 13 ∷ slice_index t 14 ∷ slice_index t 15 ∷ slice_index t 16 ∷ slice_index t 17 ∷ slice_index t 18 ∷ slice_index t 19 ∷ rest in
    let t8 = put_four (slice_index t 8) (slice_index t 9) (slice_index t 10) (slice_index t 11) from12 b8 b9 b10 b11 in
    let from8 : List ℕ = slice_index t 8 ∷ slice_index t 9 ∷ slice_index t 10 ∷ slice_index t 11 ∷ from12 in
    let t4 = put_four (slice_index t 4) (slice_index t 5) (slice_index t 6) (slice_index t 7) from8 b4 b5 b6 b7 in
    let from4 : List ℕ = slice_index t 4 ∷ slice_index t 5 ∷ slice_index t 6 ∷ slice_index t 7 ∷ from8 in
    let t2 = put_two (slice_index t 2) (slice_index t 3) from4 b2 b3 in
    let t0 = put_two (slice_index t 0) (slice_index t 1) (slice_index t 2 ∷ slice_index t 3 ∷ from4) b0 b1 in
    let front : t ≡ front_list 20 0 t = in_front 20 0 t long in
    record {
      bytes = front ∙ sym (rw (parts, t18, t16, t14, off, t8, t4, t2, t0) refl);
      long = omega arith;
      source_port = omega arith;
      destination_port = omega arith;
      sequence = omega arith;
      acknowledgement = omega arith;
      reserved = omega arith;
      flags = omega arith;
      window = omega arith;
      checksum = omega arith;
      urgent = omega arith;
      area = record { words = omega arith; most = omega arith; bytes = bytes_part t 20 size h };
      listed = r.listed;
      payload = bytes_drop t size h;
    }

-- ---- IPv4

pub record V4Read (b : List ℕ) : Type 0 where
  pub long : 20 ≤ length b
  pub whole : two_octets_at b 2 ≤ length b
  pub least : 20 ≤ 4 * (slice_index b 0 % 16)
  pub within : 4 * (slice_index b 0 % 16) ≤ two_octets_at b 2
  pub right : sums (take (4 * (slice_index b 0 % 16)) b) ≡ true
  pub fragment : two_octets_at b 6 % 16384 ≡ 0
  pub protocol : slice_index b 9 ≡ 6
  pub tcp : tcp_fault (slice_range b (4 * (slice_index b 0 % 16)) (two_octets_at b 2)) ≡ None

pub v4_read : (b : List ℕ) → v4_fault b ≡ None → V4Read b
v4_read b e =
    let size : ℕ = 4 * (slice_index b 0 % 16) in
    let total : ℕ = two_octets_at b 2 in
    let l7 : Option DatagramFault = tcp_fault (slice_range b size total) in
    let l6 : Option DatagramFault = refuse (not (slice_index b 9 == 6)) NotTcp l7 in
    let l5 : Option DatagramFault = refuse (not (two_octets_at b 6 % 16384 == 0)) Fragment l6 in
    let l4 : Option DatagramFault = refuse (not (sums (take size b))) HeaderChecksum l5 in
    let l3 : Option DatagramFault = refuse (nat_lt total size) HeaderLength l4 in
    let l2 : Option DatagramFault = refuse (nat_lt size 20) HeaderLength l3 in
    let l1 : Option DatagramFault = refuse (nat_lt (length b) total) Truncated l2 in
    let a = refuse_none (nat_lt (length b) 20) Truncated l1 e in
    let c = refuse_none (nat_lt (length b) total) Truncated l2 a.1 in
    let d = refuse_none (nat_lt size 20) HeaderLength l3 c.1 in
    let f = refuse_none (nat_lt total size) HeaderLength l4 d.1 in
    let g = refuse_none (not (sums (take size b))) HeaderChecksum l5 f.1 in
    let h = refuse_none (not (two_octets_at b 6 % 16384 == 0)) Fragment l6 g.1 in
    let i = refuse_none (not (slice_index b 9 == 6)) NotTcp l7 h.1 in
    record {
      long = ltb-false _ _ a.0;
      whole = ltb-false _ _ c.0;
      least = ltb-false _ _ d.0;
      within = ltb-false _ _ f.0;
      right = not-false _ g.0;
      fragment = eqb-true _ _ (not-false _ h.0);
      protocol = eqb-true _ _ (not-false _ i.0);
      tcp = i.1;
    }

-- a prefix of the bytes spells this datagram
pub record SpelledBy (b : List ℕ) (d : Segment) (head end : ℕ) : Type 0 where
  pub fits : Fits d
  pub bytes : b ≡ spell d ++ drop end b
  pub header_bytes : take head b ≡ spell_as d.ip d []
  pub tcp : slice_range b head end ≡ tcp_bytes d d.checksum
  pub long : tcp_length d ≡ end - head
  pub least : 20 ≤ head
  pub order : head + 20 ≤ end
  pub room : end ≤ length b

-- the fields of the first twelve bytes, and what follows
v4_bytes : (b : List ℕ) (d : Segment) (o t : List ℕ) → AreBytes b → 69 + length o / 4 ≡ slice_index b 0 → 20 + length o + tcp_length d ≡ two_octets_at b 2 → two_octets_at b 6 % 16384 ≡ 0 → slice_index b 9 ≡ 6
    → spell_as (Ipv4 (slice_index b 1) (two_octets_at b 4) (slice_index b 6 / 64) (slice_index b 8) (two_octets_at b 10) o) d t
    ≡ slice_index b 0 ∷ slice_index b 1 ∷ slice_index b 2 ∷ slice_index b 3 ∷ slice_index b 4 ∷ slice_index b 5 ∷ slice_index b 6 ∷ slice_index b 7 ∷ slice_index b 8 ∷ slice_index b 9 ∷ slice_index b 10 ∷ slice_index b 11
    ∷ (octets d.source.address ++ (octets d.destination.address ++ (o ++ t)))
v4_bytes b d o t h first total fragment protocol =
    let b6 = h 6 in let b7 = h 7 in
    let rest : List ℕ = octets d.source.address ++ (octets d.destination.address ++ (o ++ t)) in
    let f6 : 64 * (slice_index b 6 / 64) ≡ slice_index b 6 = omega arith in
    let f7 : slice_index b 7 ≡ 0 = omega arith in
    let p10 = put_two (slice_index b 10) (slice_index b 11) rest (h 10) (h 11) in
    let from6 : List ℕ = slice_index b 6 ∷ 0 ∷ slice_index b 8 ∷ 6 ∷ slice_index b 10 ∷ slice_index b 11 ∷ rest in
    let p4 = put_two (slice_index b 4) (slice_index b 5) from6 (h 4) (h 5) in
    let p2 = put_two (slice_index b 2) (slice_index b 3) (slice_index b 4 ∷ slice_index b 5 ∷ from6) (h 2) (h 3) in
    rw (first, total, p10, f6, p4, p2, f7, protocol) refl

v4_tail : (b : List ℕ) (size total : ℕ) → 20 ≤ size → size ≤ total
    → drop 12 b ≡ (slice_range b 12 16 ++ (slice_range b 16 20 ++ (slice_range b 20 size ++ slice_range b size total))) ++ drop total b
v4_tail b size total h k =
    let a = split_at b 12 16 (omega arith) in
    let c = split_at b 16 20 (omega arith) in
    let d = split_at b 20 size h in
    let e = split_at b size total k in
    let A : List ℕ = slice_range b 12 16 in
    let C : List ℕ = slice_range b 16 20 in
    let D : List ℕ = slice_range b 20 size in
    let E : List ℕ = slice_range b size total in
    a ∙ ap (λ (l : List ℕ). A ++ l) (c ∙ ap (λ (l : List ℕ). C ++ l) (d ∙ ap (λ (l : List ℕ). D ++ l) e)) ∙ simp append_assoc

pub v4_fits : (b : List ℕ) → AreBytes b → slice_index b 0 / 16 ≡ 4 → v4_fault b ≡ None → SpelledBy b (v4_fields b) (4 * (slice_index b 0 % 16)) (two_octets_at b 2)
unfolding spell
v4_fits b h version e =
    let r : V4Read b = v4_read b e in
    let size : ℕ = 4 * (slice_index b 0 % 16) in
    let total : ℕ = two_octets_at b 2 in
    let t : List ℕ = slice_range b size total in
    let o : List ℕ = slice_range b 20 size in
    let A : List ℕ = slice_range b 12 16 in
    let C : List ℕ = slice_range b 16 20 in
    let ip : IpHeader = Ipv4 (slice_index b 1) (two_octets_at b 4) (slice_index b 6 / 64) (slice_index b 8) (two_octets_at b 10) o in
    let d : Segment = v4_fields b in
    let near = r.least in let far = r.within in let whole = r.whole in let long = r.long in
    let f : TcpFits d t = tcp_fits ip (V4 A) (V4 C) t (bytes_part b size total h) r.tcp in
    let lo : length o ≡ size - 20 = length_part b 20 size near (omega arith) in
    let lt : length t ≡ total - size = length_part b size total far whole in
    let tl = f.long in
    let tr : 20 ≤ length t = (tcp_read t r.tcp).long in
    let first : 69 + length o / 4 ≡ slice_index b 0 = omega arith in
    let sum : 20 + length o + tcp_length d ≡ total = omega arith in
    let front : b ≡ front_list 12 0 b = in_front 12 0 b (omega arith) in
    let tail = v4_tail b size total near far in
    let bytes : (x : List ℕ) → spell_as ip d x
    ≡ slice_index b 0 ∷ slice_index b 1 ∷ slice_index b 2 ∷ slice_index b 3 ∷ slice_index b 4 ∷ slice_index b 5 ∷ slice_index b 6 ∷ slice_index b 7 ∷ slice_index b 8 ∷ slice_index b 9 ∷ slice_index b 10 ∷ slice_index b 11
    ∷ (A ++ (C ++ (o ++ x))) = λ x. v4_bytes b d o x h first sum r.fragment r.protocol in
    let first12 : List ℕ → List ℕ = λ l. slice_index b 0 ∷ slice_index b 1 ∷ slice_index b 2 ∷ slice_index b 3 ∷ slice_index b 4 ∷ slice_index b 5 ∷ slice_index b 6 ∷ slice_index b 7 ∷ slice_index b 8 ∷ slice_index b 9 ∷ slice_index b 10 ∷ slice_index b 11 ∷ l in
    let spelled : spell d ≡ first12 (A ++ (C ++ (o ++ t))) = ap (spell_as ip d) (sym f.bytes) ∙ bytes t in
    let head : spell_as ip d [] ≡ first12 (A ++ (C ++ (o ++ []))) = bytes [] in
    let regroup : b ≡ spell_as ip d [] ++ (t ++ drop total b) = front ∙ (ap first12 tail ∙ (simp append_assoc) ∙ ap (λ (l : List ℕ). l ++ (t ++ drop total b)) (sym head)) in
    let lA : length A ≡ 4 = length_part b 12 16 (omega arith) (omega arith) in
    let lC : length C ≡ 4 = length_part b 16 20 (omega arith) (omega arith) in
    let hl : length (spell_as ip d []) ≡ size = ap length head ∙ omega (arith, length-append A (C ++ (o ++ [])), length-append C (o ++ []), length-append o [], lA, lC, lo) in
    let header_is : take size b ≡ spell_as ip d [] = ap (take size) regroup ∙ take_at (spell_as ip d []) (t ++ drop total b) size hl in
    let b1 = h 1 in let b2 = h 2 in let b3 = h 3 in let b4 = h 4 in let b5 = h 5 in let b6 = h 6 in let b8 = h 8 in let b10 = h 10 in let b11 = h 11 in
    record {
      fits = record {
        ip = record {
          service_fits = h 1;
          identification_fits = omega arith;
          flags_fit = omega arith;
          ttl_fits = h 8;
          checksum_fits = omega arith;
          options_fit = record { words = omega arith; most = omega arith; bytes = bytes_part b 20 size h };
          source = (lA, bytes_part b 12 16 h);
          destination = (lC, bytes_part b 16 20 h);
          total = omega arith;
          right = ap sums (sym header_is) ∙ r.right;
        };
        source_port = f.source_port;
        destination_port = f.destination_port;
        sequence = f.sequence;
        acknowledgement = f.acknowledgement;
        reserved = f.reserved;
        flags = f.flags;
        window = f.window;
        checksum = f.checksum;
        urgent = f.urgent;
        area = f.area;
        listed = f.listed;
        payload = f.payload;
      };
      bytes = front ∙ (ap first12 tail ∙ ap (λ (l : List ℕ). l ++ drop total b) (sym spelled));
      header_bytes = header_is;
      tcp = f.bytes;
      long = omega arith;
      least = omega arith;
      order = omega arith;
      room = whole;
    }

-- ---- IPv6

pub record V6Read (b : List ℕ) : Type 0 where
  pub long : 40 ≤ length b
  pub whole : 40 + two_octets_at b 4 ≤ length b
  pub next : slice_index b 6 ≡ 6
  pub tcp : tcp_fault (slice_range b 40 (40 + two_octets_at b 4)) ≡ None

is_next : (n : ℕ) → not ((n == 6) || is_extension n) ≡ false → is_extension n ≡ false → n ≡ 6
is_next n a b = elim (or_cases (n == 6) (is_extension n) (not-false _ a)) [
  | inl e ↦ eqb-true n 6 e
  | inr e ↦ absurd (cc)
]

pub v6_read : (b : List ℕ) → v6_fault b ≡ None → V6Read b
v6_read b e =
    let size : ℕ = two_octets_at b 4 in
    let next : ℕ = slice_index b 6 in
    let l4 : Option DatagramFault = tcp_fault (slice_range b 40 (40 + size)) in
    let l3 : Option DatagramFault = refuse (is_extension next) ExtensionHeader l4 in
    let l2 : Option DatagramFault = refuse (not ((next == 6) || is_extension next)) NotTcp l3 in
    let l1 : Option DatagramFault = refuse (nat_lt (length b) (40 + size)) Truncated l2 in
    let a = refuse_none (nat_lt (length b) 40) Truncated l1 e in
    let c = refuse_none (nat_lt (length b) (40 + size)) Truncated l2 a.1 in
    let d = refuse_none (not ((next == 6) || is_extension next)) NotTcp l3 c.1 in
    let f = refuse_none (is_extension next) ExtensionHeader l4 d.1 in
    record { long = ltb-false _ _ a.0; whole = ltb-false _ _ c.0; next = is_next next d.0 f.0; tcp = f.1 }

abbrev v6_first : List ℕ → List ℕ → List ℕ
v6_first b l = slice_index b 0 ∷ slice_index b 1 ∷ slice_index b 2 ∷ slice_index b 3 ∷ slice_index b 4 ∷ slice_index b 5 ∷ slice_index b 6 ∷ slice_index b 7 ∷ l

v6_bytes : (b : List ℕ) (d : Segment) (t : List ℕ) → AreBytes b → slice_index b 0 / 16 ≡ 6 → tcp_length d ≡ two_octets_at b 4 → slice_index b 6 ≡ 6
    → spell_as (Ipv6 (four_octets_at b 0 % 268435456) (slice_index b 7)) d t ≡ v6_first b (octets d.source.address ++ (octets d.destination.address ++ t))
v6_bytes b d t h version total next =
    let b0 = h 0 in let b1 = h 1 in let b2 = h 2 in let b3 = h 3 in
    let rest : List ℕ = octets d.source.address ++ (octets d.destination.address ++ t) in
    let word : 1610612736 + four_octets_at b 0 % 268435456 ≡ four_octets_at b 0 = omega arith in
    let from6 : List ℕ = 6 ∷ slice_index b 7 ∷ rest in
    let p4 = put_two (slice_index b 4) (slice_index b 5) from6 (h 4) (h 5) in
    let p0 = put_four (slice_index b 0) (slice_index b 1) (slice_index b 2) (slice_index b 3) (slice_index b 4 ∷ slice_index b 5 ∷ from6) b0 b1 b2 b3 in
    rw (total, word, p4, p0, next) refl

v6_tail : (b : List ℕ) (total : ℕ) → 40 ≤ total → drop 8 b ≡ (slice_range b 8 24 ++ (slice_range b 24 40 ++ slice_range b 40 total)) ++ drop total b
v6_tail b total h =
    let a = split_at b 8 24 (omega arith) in
    let c = split_at b 24 40 (omega arith) in
    let e = split_at b 40 total h in
    let A : List ℕ = slice_range b 8 24 in
    let C : List ℕ = slice_range b 24 40 in
    let E : List ℕ = slice_range b 40 total in
    a ∙ ap (λ (l : List ℕ). A ++ l) (c ∙ ap (λ (l : List ℕ). C ++ l) e) ∙ simp append_assoc

pub v6_fits : (b : List ℕ) → AreBytes b → slice_index b 0 / 16 ≡ 6 → v6_fault b ≡ None → SpelledBy b (v6_fields b) 40 (40 + two_octets_at b 4)
unfolding spell
v6_fits b h version e =
    let r : V6Read b = v6_read b e in
    let total : ℕ = 40 + two_octets_at b 4 in
    let t : List ℕ = slice_range b 40 total in
    let A : List ℕ = slice_range b 8 24 in
    let C : List ℕ = slice_range b 24 40 in
    let ip : IpHeader = Ipv6 (four_octets_at b 0 % 268435456) (slice_index b 7) in
    let d : Segment = v6_fields b in
    let whole = r.whole in let long = r.long in
    let f : TcpFits d t = tcp_fits ip (V6 A) (V6 C) t (bytes_part b 40 total h) r.tcp in
    let lt : length t ≡ total - 40 = length_part b 40 total (omega arith) whole in
    let tl = f.long in
    let tr : 20 ≤ length t = (tcp_read t r.tcp).long in
    let sum : tcp_length d ≡ two_octets_at b 4 = omega arith in
    let front : b ≡ front_list 8 0 b = in_front 8 0 b (omega arith) in
    let tail = v6_tail b total (omega arith) in
    let bytes : (x : List ℕ) → spell_as ip d x ≡ v6_first b (A ++ (C ++ x)) = λ x. v6_bytes b d x h version sum r.next in
    let spelled : spell d ≡ v6_first b (A ++ (C ++ t)) = ap (spell_as ip d) (sym f.bytes) ∙ bytes t in
    let head : spell_as ip d [] ≡ v6_first b (A ++ (C ++ [])) = bytes [] in
    let regroup : b ≡ spell_as ip d [] ++ (t ++ drop total b) = front ∙ (ap (v6_first b) tail ∙ (simp append_assoc) ∙ ap (λ (l : List ℕ). l ++ (t ++ drop total b)) (sym head)) in
    let lA : length A ≡ 16 = length_part b 8 24 (omega arith) (omega arith) in
    let lC : length C ≡ 16 = length_part b 24 40 (omega arith) (omega arith) in
    let hl : length (spell_as ip d []) ≡ 40 = ap length head ∙ omega (arith, length-append A (C ++ []), length-append C [], lA, lC) in
    let header_is : take 40 b ≡ spell_as ip d [] = ap (take 40) regroup ∙ take_at (spell_as ip d []) (t ++ drop total b) 40 hl in
    let b4 = h 4 in let b5 = h 5 in
    record {
      fits = record {
        ip = record {
          class_flow_fits = omega arith;
          hops_fit = h 7;
          source = (lA, bytes_part b 8 24 h);
          destination = (lC, bytes_part b 24 40 h);
          total = omega arith;
        };
        source_port = f.source_port;
        destination_port = f.destination_port;
        sequence = f.sequence;
        acknowledgement = f.acknowledgement;
        reserved = f.reserved;
        flags = f.flags;
        window = f.window;
        checksum = f.checksum;
        urgent = f.urgent;
        area = f.area;
        listed = f.listed;
        payload = f.payload;
      };
      bytes = front ∙ (ap (v6_first b) tail ∙ ap (λ (l : List ℕ). l ++ drop total b) (sym spelled));
      header_bytes = header_is;
      tcp = f.bytes;
      long = omega arith;
      least = omega arith;
      order = omega arith;
      room = whole;
    }

-- ---- both

-- the IP header's length, and the datagram's, as its fields say
abbrev pub header_end : List ℕ → ℕ
header_end b = cond (slice_index b 0 / 16 == 4) (4 * (slice_index b 0 % 16)) 40

abbrev pub whole_end : List ℕ → ℕ
whole_end b = cond (slice_index b 0 / 16 == 4) (two_octets_at b 2) (40 + two_octets_at b 4)

by_family : (four : Bool) (b : List ℕ) → (four ≡ true → SpelledBy b (v4_fields b) (4 * (slice_index b 0 % 16)) (two_octets_at b 2)) → (four ≡ false → SpelledBy b (v6_fields b) 40 (40 + two_octets_at b 4))
    → SpelledBy b (cond four (v4_fields b) (v6_fields b)) (cond four (4 * (slice_index b 0 % 16)) 40) (cond four (two_octets_at b 2) (40 + two_octets_at b 4))
by_family true b v4 v6 = v4 refl
by_family false b v4 v6 = v6 refl

v4_tests : (four : Bool) (x y : Option DatagramFault) → four ≡ true → (if four then x else y) ≡ None → x ≡ None
v4_tests true x y a e = e
v4_tests false x y a e = absurd (cc)

v6_tests : (four : Bool) (x y : Option DatagramFault) → four ≡ false → (if four then x else y) ≡ None → y ≡ None
v6_tests true x y a e = absurd (cc)
v6_tests false x y a e = e

pub record Tests (b : List ℕ) : Type 0 where
  pub version : ((slice_index b 0 / 16 == 4) || (slice_index b 0 / 16 == 6)) ≡ true
  pub family : (if slice_index b 0 / 16 == 4 then v4_fault b else v6_fault b) ≡ None

pub tests : (b : List ℕ) → first_fault b ≡ None → Tests b
unfolding first_fault
tests [] e = absurd (cc)
tests (x ∷ b) e =
    let r = refuse_none (not ((x / 16 == 4) || (x / 16 == 6))) Version (if x / 16 == 4 then v4_fault (x ∷ b) else v6_fault (x ∷ b)) e in
    record { version = not-false _ r.0; family = r.1 }

is_six : (n : ℕ) → ((n == 4) || (n == 6)) ≡ true → (n == 4) ≡ false → n ≡ 6
is_six n a b = elim (or_cases (n == 4) (n == 6) a) [ inl e ↦ absurd (cc) | inr e ↦ eqb-true n 6 e ]

-- what is read without a fault is spelled so
pub spelled_by : (b : List ℕ) → AreBytes b → first_fault b ≡ None → SpelledBy b (fields b) (header_end b) (whole_end b)
unfolding fields
spelled_by b h e =
    let t = tests b e in
    by_family (slice_index b 0 / 16 == 4) b (λ four. v4_fits b h (eqb-true _ _ four) (v4_tests (slice_index b 0 / 16 == 4) (v4_fault b) (v6_fault b) four t.family))
    (λ six. v6_fits b h (is_six _ t.version six) (v6_tests (slice_index b 0 / 16 == 4) (v4_fault b) (v6_fault b) six t.family))
