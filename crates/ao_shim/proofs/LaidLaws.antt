-- A datagram that is laid out again, part by part.
use Rattle.std.proofs.Common.{◌≡◌, ℕ, zero, suc, ◌+◌, ◌-◌, ◌*◌, ◌/◌, ◌%◌, ◌<◌, ◌≤◌, Bool, true, false, List, [], ◌∷◌, ◌++◌, length, take, drop, refl, sym, ap, ◌∙◌, arith, append_assoc, eq-eqb}
use Rattle.std.specs.Prelude.{slice_index, slice_set, ◌==◌, if◌then◌else◌}
use Rattle.std.proofs.lemmas.List.{length-append, length-drop, take_at, take-append-drop, take_all}
use Rattle.std.proofs.lemmas.Bool.{ne_eqb}
use Rattle.book_base.specs.declared.address.Address.{Address}
use Rattle.book_base.specs.declared.address.Address.TheVariants.{V4, V6}
use Rattle.book_base.specs.declared.address.Socket.{Socket}
use Rattle.book_segments.specs.Bytes.{put2, put4}
use Rattle.book_segments.specs.Sockets.{octets}
use Rattle.book_segments.specs.Segments.{IpHeader, Ipv4, Ipv6, Segment, words_sum, sums, complement_of, checksum_of, tcp_length, pseudo, header, tcp_bytes, spell_as, spell, reading, Read}
use Rattle.book_segments.specs.Spelling.{AreBytes, IsV4, IsV6, FitsIp, Fits, with_sum, with_checksum, addresses_in}
use Rattle.book_segments.proofs.Folding.{complement_by}
use Rattle.book_segments.proofs.SumLaws.{words_append, words_pseudo, complement_fits, complement_completes, is_right, spell_with}
use Rattle.book_segments.proofs.SpellLaws.{read_stands}
use Rattle.tcp_segment.specs.Places.{header_end}
use Rattle.tcp_segment.specs.Sums.{complement_at, checksum_over, IsSet}
use Rattle.book_shim.specs.Relaying.{with_area, summed, relaid, length_in_header, headers_length}
use Rattle.ao_shim.specs.Starts.{v4_start, v6_start, v4_again, ip_again, offset_of}
use Rattle.ao_shim.specs.Laying.{laid}

-- ---- sizes

-- the length of an IP header
abbrev pub ip_long : IpHeader → ℕ
ip_long (Ipv4 service identification flags ttl checksum options) = 20 + length options
ip_long (Ipv6 class_flow hops) = 40

v4_octets : (a : Address) → IsV4 a → length (octets a) ≡ 4
v4_octets (V4 bytes) h = h.0
v4_octets (V6 bytes) h = absurd h

v6_octets : (a : Address) → IsV6 a → length (octets a) ≡ 16
v6_octets (V4 bytes) h = absurd h
v6_octets (V6 bytes) h = h.0

-- ---- a spelling is its IP header, and then the TCP bytes

pub spell_split : (i : IpHeader) (d : Segment) (t : List ℕ) → spell_as i d t ≡ spell_as i d [] ++ t
unfolding put2 put4
spell_split (Ipv4 service identification flags ttl checksum options) d t = simp append_assoc
spell_split (Ipv6 class_flow hops) d t = simp append_assoc

pub ip_part_long : (i : IpHeader) (d e : Segment) → FitsIp i d → e.source ≡ d.source → e.destination ≡ d.destination → length (spell_as i e []) ≡ ip_long i
unfolding put2 put4
ip_part_long (Ipv4 service identification flags ttl checksum options) d e f es ed =
    let A : List ℕ = octets e.source.address in
    let C : List ℕ = octets e.destination.address in
    let a : length A ≡ 4 = ap (λ (x : Socket). length (octets x.address)) es ∙ v4_octets d.source.address f.source in
    let c : length C ≡ 4 = ap (λ (x : Socket). length (octets x.address)) ed ∙ v4_octets d.destination.address f.destination in
    omega (arith, a, c, length-append A (C ++ (options ++ [])), length-append C (options ++ []), length-append options [])
ip_part_long (Ipv6 class_flow hops) d e f es ed =
    let A : List ℕ = octets e.source.address in
    let C : List ℕ = octets e.destination.address in
    let a : length A ≡ 16 = ap (λ (x : Socket). length (octets x.address)) es ∙ v6_octets d.source.address f.source in
    let c : length C ≡ 16 = ap (λ (x : Socket). length (octets x.address)) ed ∙ v6_octets d.destination.address f.destination in
    omega (arith, a, c, length-append A (C ++ []), length-append C [])

four_by : (n : ℕ) → n ≤ 40 → ((69 + n / 4) / 16 == 4) ≡ true
four_by n h = eq-eqb ((69 + n / 4) / 16) 4 (omega arith)

six_by : (n : ℕ) → n < 268435456 → (((1610612736 + n) / 16777216 % 256) / 16 == 4) ≡ false
six_by n h = ne_eqb (((1610612736 + n) / 16777216 % 256) / 16) 4 (λ e. absurd (omega arith))

-- the length of the IP header, as its fields say
pub header_end_is : (i : IpHeader) (d : Segment) (t : List ℕ) → FitsIp i d → header_end (spell_as i d t) ≡ ip_long i
unfolding put2 put4
header_end_is (Ipv4 service identification flags ttl checksum options) d t f =
    let m = f.options_fit.most in
    let w = f.options_fit.words in
    let n : 4 * ((69 + length options / 4) % 16) ≡ 20 + length options = omega arith in
    ap (λ (b : Bool). if b then 4 * ((69 + length options / 4) % 16) else 40) (four_by (length options) m) ∙ n
header_end_is (Ipv6 class_flow hops) d t f =
    ap (λ (b : Bool). if b then 4 * (((1610612736 + class_flow) / 16777216 % 256) % 16) else 40) (six_by class_flow f.class_flow_fits)

-- ---- the IP header is made anew

v4_again_is : (service identification flags ttl checksum size : ℕ) (options : List ℕ) (d e : Segment) → e.source ≡ d.source → e.destination ≡ d.destination → size ≡ tcp_length e
    → length (spell_as (Ipv4 service identification flags ttl checksum options) d []) ≡ 20 + length options
    → v4_again (spell_as (Ipv4 service identification flags ttl checksum options) d []) size ≡ spell_as (summed (Ipv4 service identification flags ttl checksum options) e) e []
unfolding put2
v4_again_is service identification flags ttl checksum size options d e es ed n long =
    let h : List ℕ = spell_as (Ipv4 service identification flags ttl checksum options) d [] in
    let total : length h + size ≡ 20 + length options + tcp_length e = omega arith in
    let blank : List ℕ = spell_as (Ipv4 service identification flags ttl 0 options) e [] in
    let tail : List ℕ = drop 12 h in
    let start : v4_start h (length h + size) 0 ++ tail ≡ blank = rw (total, es, ed) refl in
    let sum : words_sum (v4_start h (length h + size) 0) + words_sum tail ≡ words_sum blank =
    sym (words_append 6 (v4_start h (length h + size) 0) tail refl) ∙ ap words_sum start in
    let c : complement_at (words_sum (v4_start h (length h + size) 0) + words_sum tail) ≡ complement_of blank = ap complement_at sum ∙ sym (complement_by blank) in
    ap (λ (x : ℕ). v4_start h (length h + size) x ++ tail) c ∙ (ap (λ (x : ℕ). v4_start h x (complement_of blank) ++ tail) total ∙ rw (es, ed) refl)

v6_again_is : (class_flow hops size : ℕ) (d e : Segment) → e.source ≡ d.source → e.destination ≡ d.destination → size ≡ tcp_length e
    → v6_start (spell_as (Ipv6 class_flow hops) d []) size ++ drop 8 (spell_as (Ipv6 class_flow hops) d []) ≡ spell_as (Ipv6 class_flow hops) e []
unfolding put2 put4
v6_again_is class_flow hops size d e es ed n = rw (n, es, ed) refl

pub again_is : (i : IpHeader) (size : ℕ) (d e : Segment) → FitsIp i d → e.source ≡ d.source → e.destination ≡ d.destination → size ≡ tcp_length e
    → ip_again (spell_as i d []) size ≡ spell_as (summed i e) e []
unfolding put4
again_is (Ipv4 service identification flags ttl checksum options) size d e f es ed n =
    let h : List ℕ = spell_as (Ipv4 service identification flags ttl checksum options) d [] in
    ap (λ (b : Bool). if b then v4_again h size else v6_start h size ++ drop 8 h) (four_by (length options) f.options_fit.most)
    ∙ v4_again_is service identification flags ttl checksum size options d e es ed n (ip_part_long (Ipv4 service identification flags ttl checksum options) d d f refl refl)
again_is (Ipv6 class_flow hops) size d e f es ed n =
    let h : List ℕ = spell_as (Ipv6 class_flow hops) d [] in
    ap (λ (b : Bool). if b then v4_again h size else v6_start h size ++ drop 8 h) (six_by class_flow f.class_flow_fits)
    ∙ v6_again_is class_flow hops size d e es ed n

-- ---- the TCP header is made anew

pub tcp_start_is : (d : Segment) (area : List ℕ) → Fits d → slice_set (header d d.checksum []) 12 (offset_of (header d d.checksum []) (length area)) ≡ header (laid d area) d.checksum []
unfolding header put2 put4
tcp_start_is d area f =
    let w = f.area.words in
    let r = f.reserved in
    let n : 80 + 4 * length area + (80 + 4 * length d.area + d.reserved) % 16 ≡ 80 + 4 * length area + d.reserved = omega arith in
    rw n refl

-- ---- the whole datagram

summed_same : (i : IpHeader) (x : Segment) (ip : IpHeader) (t : List ℕ) → spell_as i (record x { ip = ip }) t ≡ spell_as i x t
summed_same (Ipv4 service identification flags ttl checksum options) x ip t = refl
summed_same (Ipv6 class_flow hops) x ip t = refl

tcp_laid : (d : Segment) (area : List ℕ) (c : ℕ) → tcp_bytes (laid d area) c ≡ header (laid d area) c [] ++ (area ++ d.payload)
unfolding tcp_bytes header put2 put4
tcp_laid d area c = refl

pub spell_laid : (d : Segment) (area : List ℕ) (c : ℕ)
    → spell (with_sum (laid d area) c) ≡ spell_as (summed d.ip (with_area d area)) (with_area d area) [] ++ tcp_bytes (laid d area) c
spell_laid d area c =
    let i = summed d.ip (with_area d area) in
    let t = tcp_bytes (laid d area) c in
    spell_with (laid d area) c ∙ (summed_same i (with_area d area) i t ∙ spell_split i (with_area d area) t)

summed_long : (i : IpHeader) (d : Segment) → ip_long (summed i d) ≡ ip_long i
summed_long (Ipv4 service identification flags ttl checksum options) d = refl
summed_long (Ipv6 class_flow hops) d = refl

pub tcp_long : (d : Segment) (c : ℕ) → length (tcp_bytes d c) ≡ tcp_length d
unfolding tcp_bytes header put2 put4
tcp_long d c = omega (arith, length-append d.area d.payload)

pub spell_long : (d : Segment) → Fits d → length (spell d) ≡ ip_long d.ip + tcp_length d
unfolding spell
spell_long d f =
    omega (arith, ap length (spell_split d.ip d (tcp_bytes d d.checksum)), length-append (spell_as d.ip d []) (tcp_bytes d d.checksum), ip_part_long d.ip d d f.ip refl refl, tcp_long d d.checksum)

header_sum : (a b t i x l c : ℕ) (rest : List ℕ) → c < 65536
    → words_sum (a ∷ b ∷ put2 t (put2 i (x ∷ 0 ∷ l ∷ 6 ∷ put2 c rest))) ≡ words_sum (a ∷ b ∷ put2 t (put2 i (x ∷ 0 ∷ l ∷ 6 ∷ put2 0 rest))) + c
unfolding put2
header_sum a b t i x l c rest h = omega arith

header_some : (a b : ℕ) (rest : List ℕ) → 0 < a → 0 < words_sum (a ∷ b ∷ rest)
header_some a b rest h = omega arith

-- the header sums with its checksum
summed_right : (service identification flags ttl : ℕ) (options : List ℕ) (d : Segment)
    → sums (spell_as (Ipv4 service identification flags ttl (complement_of (spell_as (Ipv4 service identification flags ttl 0 options) d [])) options) d []) ≡ true
summed_right service identification flags ttl options d =
    let blank = spell_as (Ipv4 service identification flags ttl 0 options) d [] in
    let c = complement_of blank in
    let rest = octets d.source.address ++ (octets d.destination.address ++ (options ++ [])) in
    let full = spell_as (Ipv4 service identification flags ttl c options) d [] in
    let more : words_sum full ≡ words_sum blank + c =
    header_sum (69 + length options / 4) service (20 + length options + tcp_length d) identification (64 * flags) ttl c rest (complement_fits blank) in
    let some : 0 < words_sum blank = header_some (69 + length options / 4) service (put2 (20 + length options + tcp_length d) (put2 identification (64 * flags ∷ 0 ∷ ttl ∷ 6 ∷ put2 0 rest))) (omega arith) in
    is_right full (omega arith) (rw more (complement_completes blank some))

ip_fits : (i : IpHeader) (d : Segment) (area : List ℕ) → FitsIp i d → length_in_header i (with_area d area) ≤ 65535
    → FitsIp (summed i (with_area d area)) (record (with_area d area) { ip = summed i (with_area d area) })
ip_fits (Ipv4 service identification flags ttl checksum options) d area f h = record {
  service_fits = f.service_fits;
  identification_fits = f.identification_fits;
  flags_fit = f.flags_fit;
  ttl_fits = f.ttl_fits;
  checksum_fits = complement_fits (spell_as (Ipv4 service identification flags ttl 0 options) (with_area d area) []);
  options_fit = f.options_fit;
  source = f.source;
  destination = f.destination;
  total = omega arith;
  right = summed_right service identification flags ttl options (with_area d area);
}
ip_fits (Ipv6 class_flow hops) d area f h = record {
  class_flow_fits = f.class_flow_fits;
  hops_fit = f.hops_fit;
  source = f.source;
  destination = f.destination;
  total = omega arith;
}

pub laid_ip_fits : (d : Segment) (area : List ℕ) → Fits d → length_in_header d.ip (with_area d area) ≤ 65535 → FitsIp (laid d area).ip (laid d area)
laid_ip_fits d area f h = ip_fits d.ip d area f.ip h

-- ---- what was read stands in front of the bytes

pub record Stands (b : List ℕ) (d : Segment) : Type 0 where
  pub fits : Fits d
  pub header : header_end b ≡ ip_long d.ip
  pub front : take (header_end b) b ≡ spell_as d.ip d []
  pub front_long : length (spell_as d.ip d []) ≡ ip_long d.ip
  pub least : 20 ≤ ip_long d.ip
  pub most : ip_long d.ip ≤ 60
  pub room : ip_long d.ip + 20 ≤ length b

ip_least : (i : IpHeader) → 20 ≤ ip_long i
ip_least (Ipv4 service identification flags ttl checksum options) = omega arith
ip_least (Ipv6 class_flow hops) = omega arith

ip_most : (i : IpHeader) (d : Segment) → FitsIp i d → ip_long i ≤ 60
ip_most (Ipv4 service identification flags ttl checksum options) d f = let m = f.options_fit.most in omega arith
ip_most (Ipv6 class_flow hops) d f = omega arith

spell_rest : (d : Segment) (rest : List ℕ) → spell d ++ rest ≡ spell_as d.ip d [] ++ (tcp_bytes d d.checksum ++ rest)
unfolding spell
spell_rest d rest = ap (λ (l : List ℕ). l ++ rest) (spell_split d.ip d (tcp_bytes d d.checksum)) ∙ append_assoc (spell_as d.ip d []) (tcp_bytes d d.checksum) rest

pub stands : (b : List ℕ) (d : Segment) → AreBytes b → reading b ≡ Read d → Stands b d
stands b d bytes read =
    let s = read_stands b d bytes read in
    let f : Fits d = s.1 in
    let I : List ℕ = spell_as d.ip d [] in
    let T : List ℕ = tcp_bytes d d.checksum in
    let whole : b ≡ I ++ (T ++ s.0) = s.2 ∙ spell_rest d s.0 in
    let as_one : b ≡ spell_as d.ip d (T ++ s.0) = whole ∙ sym (spell_split d.ip d (T ++ s.0)) in
    let header : header_end b ≡ ip_long d.ip = ap header_end as_one ∙ header_end_is d.ip d (T ++ s.0) f.ip in
    let long : length I ≡ ip_long d.ip = ip_part_long d.ip d d f.ip refl refl in
    record {
      fits = f;
      header = header;
      front = ap (λ (n : ℕ). take n b) header ∙ (ap (take (ip_long d.ip)) whole ∙ take_at I (T ++ s.0) (ip_long d.ip) long);
      front_long = long;
      least = ip_least d.ip;
      most = ip_most d.ip d f.ip;
      room = omega (arith, ap length whole, length-append I (T ++ s.0), length-append T s.0, long, tcp_long d d.checksum);
    }

-- of what an IP header says of the length
pub six_long : (i : IpHeader) (d : Segment) → FitsIp i d → (slice_index (spell_as i d []) 0 / 16 == 4) ≡ false → ip_long i ≡ 40
unfolding put2 put4
six_long (Ipv4 service identification flags ttl checksum options) d f e = let t = four_by (length options) f.options_fit.most in absurd (cc)
six_long (Ipv6 class_flow hops) d f e = refl

pub four_told : (i : IpHeader) (d e : Segment) → FitsIp i d → (slice_index (spell_as i d []) 0 / 16 == 4) ≡ true → length_in_header i e ≤ 65535 → ip_long i + tcp_length e < 65536
unfolding put2 put4
four_told (Ipv4 service identification flags ttl checksum options) d e f t h = omega arith
four_told (Ipv6 class_flow hops) d e f t h = let s = six_by class_flow f.class_flow_fits in absurd (cc)

pub any_told : (i : IpHeader) (e : Segment) → length_in_header i e ≤ 65535 → ip_long i + tcp_length e < 65576
any_told (Ipv4 service identification flags ttl checksum options) e h = omega arith
any_told (Ipv6 class_flow hops) e h = omega arith

pub tcp_told : (i : IpHeader) (e : Segment) → length_in_header i e ≤ 65535 → tcp_length e < 65536
tcp_told (Ipv4 service identification flags ttl checksum options) e h = omega arith
tcp_told (Ipv6 class_flow hops) e h = omega arith

-- ---- four parts are put in

regroup : (i t a p r : List ℕ) → ((((i ++ t) ++ a) ++ p) ++ r) ≡ (i ++ (t ++ (a ++ p))) ++ r
regroup i t a p r = simp append_assoc

pub laid_out : (d : Segment) (area : List ℕ) (out0 out1 out2 out3 out4 : List ℕ) (r1 r2 r3 r4 : ℕ)
    → take r1 out1 ≡ spell_as (summed d.ip (with_area d area)) (with_area d area) [] → take r2 out2 ≡ take r1 out1 ++ header (laid d area) d.checksum []
    → take r3 out3 ≡ take r2 out2 ++ area → take r4 out4 ≡ take r3 out3 ++ d.payload
    → drop r4 out1 ≡ drop r4 out0 → drop r4 out2 ≡ drop r4 out1 → drop r4 out3 ≡ drop r4 out2 → drop r4 out4 ≡ drop r4 out3
    → out4 ≡ spell (laid d area) ++ drop r4 out0
laid_out d area out0 out1 out2 out3 out4 r1 r2 r3 r4 t1 t2 t3 t4 d1 d2 d3 d4 =
    let i : List ℕ = spell_as (summed d.ip (with_area d area)) (with_area d area) [] in
    let t : List ℕ = header (laid d area) d.checksum [] in
    let front : take r4 out4 ≡ ((i ++ t) ++ area) ++ d.payload = rw (t4, t3, t2, t1) refl in
    let back : drop r4 out4 ≡ drop r4 out0 = d4 ∙ (d3 ∙ (d2 ∙ d1)) in
    let whole : spell (laid d area) ≡ i ++ (t ++ (area ++ d.payload)) = spell_laid d area d.checksum ∙ ap (λ (l : List ℕ). i ++ l) (tcp_laid d area d.checksum) in
    sym (take-append-drop r4 out4) ∙ (rw (front, back) (regroup i t area d.payload (drop r4 out0)) ∙ ap (λ (l : List ℕ). l ++ drop r4 out0) (sym whole))

-- an IP header made anew is as long as before
again_long : (i : IpHeader) (d e : Segment) → FitsIp i d → e.source ≡ d.source → e.destination ≡ d.destination → length (spell_as (summed i e) e []) ≡ ip_long i
unfolding put2 put4
again_long (Ipv4 service identification flags ttl checksum options) d e f es ed =
    let A : List ℕ = octets e.source.address in
    let C : List ℕ = octets e.destination.address in
    let a : length A ≡ 4 = ap (λ (x : Socket). length (octets x.address)) es ∙ v4_octets d.source.address f.source in
    let c : length C ≡ 4 = ap (λ (x : Socket). length (octets x.address)) ed ∙ v4_octets d.destination.address f.destination in
    omega (arith, a, c, length-append A (C ++ (options ++ [])), length-append C (options ++ []), length-append options [])
again_long (Ipv6 class_flow hops) d e f es ed = ip_part_long (Ipv6 class_flow hops) d e f es ed

-- how long what is laid out is, with any checksum
pub laid_long : (d : Segment) (area : List ℕ) (c : ℕ) → Fits d → length (spell (with_sum (laid d area) c)) ≡ ip_long d.ip + (20 + length area + length d.payload)
laid_long d area c f =
    let e = with_area d area in
    let i = summed d.ip e in
    let I : List ℕ = spell_as i e [] in
    let T : List ℕ = tcp_bytes (laid d area) c in
    omega (arith, ap length (spell_laid d area c), length-append I T, again_long d.ip d e f.ip refl refl, tcp_long (laid d area) c)

pub relaid_long : (d : Segment) (area : List ℕ) → Fits d → length (spell (relaid d area)) ≡ ip_long d.ip + (20 + length area + length d.payload)
unfolding relaid
relaid_long d area f = laid_long d area (checksum_of (laid d area)) f

-- ---- the TCP checksum is set

addresses_four : (b : List ℕ) (A C r : List ℕ) → (slice_index b 0 / 16 == 4) ≡ true → drop 12 b ≡ A ++ (C ++ r) → length A ≡ 4 → length C ≡ 4 → addresses_in b ≡ A ++ C
addresses_four b A C r four e a c =
    let g : A ++ (C ++ r) ≡ (A ++ C) ++ r = sym (append_assoc A C r) in
    ap (λ (x : Bool). if x then take 8 (drop 12 b) else take 32 (drop 8 b)) four ∙ (ap (take 8) (e ∙ g) ∙ take_at (A ++ C) r 8 (omega (arith, length-append A C)))

addresses_six : (b : List ℕ) (A C r : List ℕ) → (slice_index b 0 / 16 == 4) ≡ false → drop 8 b ≡ A ++ (C ++ r) → length A ≡ 16 → length C ≡ 16 → addresses_in b ≡ A ++ C
addresses_six b A C r six e a c =
    let g : A ++ (C ++ r) ≡ (A ++ C) ++ r = sym (append_assoc A C r) in
    ap (λ (x : Bool). if x then take 8 (drop 12 b) else take 32 (drop 8 b)) six ∙ (ap (take 32) (e ∙ g) ∙ take_at (A ++ C) r 32 (omega (arith, length-append A C)))

addresses_by : (i : IpHeader) (e : Segment) (rest : List ℕ) → FitsIp i e → addresses_in (spell_as i e rest) ≡ octets e.source.address ++ octets e.destination.address
unfolding put2 put4
addresses_by (Ipv4 service identification flags ttl checksum options) e rest f =
    addresses_four (spell_as (Ipv4 service identification flags ttl checksum options) e rest) (octets e.source.address) (octets e.destination.address) (options ++ rest)
    (four_by (length options) f.options_fit.most) refl (v4_octets e.source.address f.source) (v4_octets e.destination.address f.destination)
addresses_by (Ipv6 class_flow hops) e rest f =
    addresses_six (spell_as (Ipv6 class_flow hops) e rest) (octets e.source.address) (octets e.destination.address) rest
    (six_by class_flow f.class_flow_fits) refl (v6_octets e.source.address f.source) (v6_octets e.destination.address f.destination)

checksum_in : (d : Segment) (c n : ℕ) → with_checksum (tcp_bytes d c) n ≡ tcp_bytes d n
unfolding tcp_bytes header put2 put4
checksum_in d c n = refl

checksum_over_is : (d : Segment) (c : ℕ) → FitsIp d.ip d → checksum_over (octets d.source.address ++ octets d.destination.address) (tcp_bytes d c) ≡ checksum_of d
unfolding checksum_of
checksum_over_is d c f =
    let w = words_pseudo d (tcp_bytes d 0) f in
    let same : words_sum (octets d.source.address ++ octets d.destination.address) + 6 + length (tcp_bytes d c) + words_sum (with_checksum (tcp_bytes d c) 0) ≡ words_sum (pseudo d (tcp_bytes d 0)) =
    omega (arith, w, tcp_long d c, ap words_sum (checksum_in d c 0)) in
    ap complement_at same ∙ sym (complement_by (pseudo d (tcp_bytes d 0)))

pub finishes : (d : Segment) (area out rest after : List ℕ) (header end : ℕ) → Fits d → length_in_header d.ip (with_area d area) ≤ 65535 → out ≡ spell (laid d area) ++ rest
    → header ≡ ip_long d.ip → end ≡ length (spell (laid d area)) → IsSet out after header end → after ≡ spell (relaid d area) ++ rest
unfolding relaid
finishes d area out rest after header end f told is eh ee set =
    let x = laid d area in
    let e = with_area d area in
    let I : List ℕ = spell_as (summed d.ip e) e [] in
    let T : List ℕ = tcp_bytes x d.checksum in
    let n : ℕ = checksum_of x in
    let g = laid_ip_fits d area f told in
    let whole : out ≡ I ++ (T ++ rest) = is ∙ (ap (λ (l : List ℕ). l ++ rest) (spell_laid d area d.checksum) ∙ append_assoc I T rest) in
    let lt : length T ≡ tcp_length x = tcp_long x d.checksum in
    let le = laid_long d area d.checksum f in
    let li : length I ≡ header = omega (arith, ap length (spell_laid d area d.checksum), length-append I T, lt, le, eh) in
    let as_one : out ≡ spell_as x.ip x (T ++ rest) = whole ∙ (sym (spell_split (summed d.ip e) e (T ++ rest)) ∙ sym (summed_same (summed d.ip e) e (summed d.ip e) (T ++ rest))) in
    let addresses : addresses_in out ≡ octets x.source.address ++ octets x.destination.address = ap addresses_in as_one ∙ addresses_by x.ip x (T ++ rest) g in
    let sum : checksum_over (addresses_in out) T ≡ n = ap (λ (a : List ℕ). checksum_over a T) addresses ∙ checksum_over_is x d.checksum g in
    let put : after ≡ I ++ (with_checksum T (checksum_over (addresses_in out) T) ++ rest) = set I T rest li whole (omega (arith, le, lt, ee, eh)) (omega (arith, lt)) in
    put ∙ (ap (λ (k : ℕ). I ++ (with_checksum T k ++ rest)) sum ∙ (ap (λ (l : List ℕ). I ++ (l ++ rest)) (checksum_in x d.checksum n)
    ∙ (sym (append_assoc I (tcp_bytes x n) rest) ∙ ap (λ (l : List ℕ). l ++ rest) (sym (spell_laid d area n)))))

-- ---- the IP header is put in

all_behind : (k : ℕ) (h : List ℕ) → take (length h - k) (drop k h) ≡ drop k h
all_behind k h = take_all (length h - k) (drop k h) (omega (arith, length-drop k h))

pub four_put : (h start behind front whole : List ℕ) (size checksum : ℕ) → (slice_index h 0 / 16 == 4) ≡ true → behind ≡ take (length h - 12) (drop 12 h)
    → checksum ≡ complement_at (words_sum (v4_start h (length h + size) 0) + words_sum behind) → start ≡ v4_start h (length h + size) checksum
    → front ≡ start → whole ≡ front ++ behind → whole ≡ ip_again h size
four_put h start behind front whole size checksum four eb ec es ef ew =
    let b : behind ≡ drop 12 h = eb ∙ all_behind 12 h in
    let c : checksum ≡ complement_at (words_sum (v4_start h (length h + size) 0) + words_sum (drop 12 h)) = ec ∙ ap (λ (l : List ℕ). complement_at (words_sum (v4_start h (length h + size) 0) + words_sum l)) b in
    ew ∙ (ap (λ (l : List ℕ). l ++ behind) (ef ∙ es) ∙ (ap (λ (l : List ℕ). v4_start h (length h + size) checksum ++ l) b ∙ (ap (λ (n : ℕ). v4_start h (length h + size) n ++ drop 12 h) c
    ∙ ap (λ (x : Bool). if x then v4_again h size else v6_start h size ++ drop 8 h) (sym four))))

pub six_put : (h start behind front whole : List ℕ) (size : ℕ) → (slice_index h 0 / 16 == 4) ≡ false → behind ≡ take (length h - 8) (drop 8 h) → start ≡ v6_start h size
    → front ≡ start → whole ≡ front ++ behind → whole ≡ ip_again h size
six_put h start behind front whole size six eb es ef ew =
    ew ∙ (ap (λ (l : List ℕ). l ++ behind) (ef ∙ es) ∙ (ap (λ (l : List ℕ). v6_start h size ++ l) (eb ∙ all_behind 8 h)
    ∙ ap (λ (x : Bool). if x then v4_again h size else v6_start h size ++ drop 8 h) (sym six)))

-- ---- what an IP header says

pub told_by : (i : IpHeader) (d e : Segment) → FitsIp i d → (if slice_index (spell_as i d []) 0 / 16 == 4 then ip_long i + tcp_length e else tcp_length e) ≡ length_in_header i e
unfolding put2 put4
told_by (Ipv4 service identification flags ttl checksum options) d e f =
    ap (λ (b : Bool). if b then 20 + length options + tcp_length e else tcp_length e) (four_by (length options) f.options_fit.most)
told_by (Ipv6 class_flow hops) d e f = ap (λ (b : Bool). if b then 40 + tcp_length e else tcp_length e) (six_by class_flow f.class_flow_fits)

pub told_four : (i : IpHeader) (d e : Segment) → FitsIp i d → (slice_index (spell_as i d []) 0 / 16 == 4) ≡ true → ip_long i + tcp_length e ≡ length_in_header i e
told_four i d e f t = ap (λ (b : Bool). if b then ip_long i + tcp_length e else tcp_length e) (sym t) ∙ told_by i d e f

pub told_six : (i : IpHeader) (d e : Segment) → FitsIp i d → (slice_index (spell_as i d []) 0 / 16 == 4) ≡ false → tcp_length e ≡ length_in_header i e
told_six i d e f t = ap (λ (b : Bool). if b then ip_long i + tcp_length e else tcp_length e) (sym t) ∙ told_by i d e f

least_by : (i : IpHeader) (d : Segment) → FitsIp i d → (if slice_index (spell_as i d []) 0 / 16 == 4 then 40 else 60) ≡ headers_length i
unfolding put2 put4
least_by (Ipv4 service identification flags ttl checksum options) d f = ap (λ (b : Bool). if b then 40 else 60) (four_by (length options) f.options_fit.most)
least_by (Ipv6 class_flow hops) d f = ap (λ (b : Bool). if b then 40 else 60) (six_by class_flow f.class_flow_fits)

pub least_four : (i : IpHeader) (d : Segment) → FitsIp i d → (slice_index (spell_as i d []) 0 / 16 == 4) ≡ true → 40 ≡ headers_length i
least_four i d f t = ap (λ (b : Bool). if b then 40 else 60) (sym t) ∙ least_by i d f

pub least_six : (i : IpHeader) (d : Segment) → FitsIp i d → (slice_index (spell_as i d []) 0 / 16 == 4) ≡ false → 60 ≡ headers_length i
least_six i d f t = ap (λ (b : Bool). if b then 40 else 60) (sym t) ∙ least_by i d f

take_first : (b front : List ℕ) (r : ℕ) → take r b ≡ front → 0 < r → slice_index b 0 ≡ slice_index front 0
take_first [] front r e h = let n : take r [] ≡ [] = take_all r [] (omega arith) in ap (λ (l : List ℕ). slice_index l 0) (sym n ∙ e)
take_first (x ∷ b) front zero e h = absurd (omega arith)
take_first (x ∷ b) front (suc r) e h = ap (λ (l : List ℕ). slice_index l 0) e

-- the first byte of what was read is that of its IP header
pub first_is : (b : List ℕ) (d : Segment) → AreBytes b → reading b ≡ Read d → slice_index b 0 ≡ slice_index (spell_as d.ip d []) 0
first_is b d bytes read =
    let s = stands b d bytes read in
    let l = s.least in
    let h = s.header in
    take_first b (spell_as d.ip d []) (header_end b) s.front (omega arith)

pub relaid_told : (i : IpHeader) (d : Segment) (area : List ℕ) → length_in_header i (relaid d area) ≡ length_in_header i (with_area d area)
unfolding relaid
relaid_told (Ipv4 service identification flags ttl checksum options) d area = refl
relaid_told (Ipv6 class_flow hops) d area = refl

-- ---- what the code knows

-- the bytes up to a place are the IP header
pub record Fronts (b : List ℕ) (d : Segment) (r : ℕ) : Type 0 where
  pub fits : Fits d
  pub r_is : r ≡ ip_long d.ip
  pub front : take r b ≡ spell_as d.ip d []
  pub long : length (take r b) ≡ ip_long d.ip
  pub least : 20 ≤ ip_long d.ip
  pub most : ip_long d.ip ≤ 60
  pub room : ip_long d.ip + 20 ≤ length b
  pub whole : length (spell d) ≡ ip_long d.ip + tcp_length d

pub fronts : (b : List ℕ) (d : Segment) (r : ℕ) → AreBytes b → reading b ≡ Read d → r ≡ header_end b → Fronts b d r
fronts b d r bytes read e =
    let s = stands b d bytes read in
    let front : take r b ≡ spell_as d.ip d [] = ap (λ (n : ℕ). take n b) e ∙ s.front in
    record {
      fits = s.fits;
      r_is = e ∙ s.header;
      front = front;
      long = ap length front ∙ s.front_long;
      least = s.least;
      most = s.most;
      room = s.room;
      whole = spell_long d s.fits;
    }

pub not_empty : (b : List ℕ) (d : Segment) → AreBytes b → reading b ≡ Read d → 0 < length b
not_empty b d bytes read = let s = stands b d bytes read in let r = s.room in omega arith
