-- What is spelled is read again, whatever follows.
use Rattle.std.proofs.Common.{◌≡◌, ℕ, ◌+◌, ◌-◌, ◌*◌, ◌/◌, ◌%◌, ◌<◌, Bool, true, false, nat_lt, List, [], ◌∷◌, ◌++◌, length, take, drop, Option, None, refl, sym, ap, ◌∙◌, arith, append_assoc, eq-eqb}
use Rattle.std.specs.Prelude.{slice_index, slice_range, ◌==◌, not, ◌||◌, if◌then◌else◌}
use Rattle.std.proofs.lemmas.Bool.{le-ltb, ne_eqb, or_right}
use Rattle.std.proofs.lemmas.List.{length-append, take_at, drop_at, drop-drop}
use Rattle.book_base.specs.declared.address.Address.{Address}
use Rattle.book_base.specs.declared.address.Address.TheVariants.{V4, V6}
use Rattle.book_segments.specs.Bytes.{put2, put4}
use Rattle.book_segments.specs.Sockets.{octets}
use Rattle.book_segments.specs.Options.{Options, Listed, Faulty, AreListed, options_of}
use Rattle.book_segments.specs.declared.fault.DatagramFault.{DatagramFault}
use Rattle.book_segments.specs.declared.fault.DatagramFault.TheVariants.{Truncated, Version, HeaderLength, HeaderChecksum, Fragment, NotTcp, ExtensionHeader, DataOffset}
use Rattle.book_segments.specs.Segments.{IpHeader, Ipv4, Ipv6, Segment, two_octets_at, four_octets_at, refuse, option_fault, tcp_fault, v4_fault, v6_fault, is_extension, first_fault, tcp_fields, v4_fields, v6_fields, fields, tcp_length, header, tcp_bytes, spell_as, spell, sums, reading, Read, read_unless}
use Rattle.book_segments.specs.Spelling.{IsV4, IsV6, FitsV4, FitsV6, FitsIp, Fits}
use Rattle.book_segments.proofs.ByteLaws.{two_back, four_back}

-- a test that doesn't refuse
refuse_false : (b : Bool) (f : DatagramFault) (others : Option DatagramFault) → b ≡ false → others ≡ None → refuse b f others ≡ None
refuse_false true f others e l = absurd (cc)
refuse_false false f others e l = l

not_equal : (a b : ℕ) → a ≡ b → not (a == b) ≡ false
not_equal a b e = ap not (eq-eqb a b e)

option_none : (o : Options) → AreListed o → option_fault o ≡ None
option_none (Listed list) h = refl
option_none (Faulty f) h = absurd h

-- ---- TCP

tcp_long : (d : Segment) (c : ℕ) → length (tcp_bytes d c) ≡ 20 + length d.area + length d.payload
unfolding tcp_bytes header put2 put4
tcp_long d c = omega (arith, length-append d.area d.payload)

abbrev offset : Segment → ℕ
offset d = 4 * ((80 + 4 * length d.area + d.reserved) / 16)

offset_is : (d : Segment) → Fits d → offset d ≡ 20 + length d.area
offset_is d f = let w = f.area.words in let r = f.reserved in omega arith

area_in : (d : Segment) (c : ℕ) → Fits d → slice_range (tcp_bytes d c) 20 (offset d) ≡ d.area
unfolding tcp_bytes header put2 put4
area_in d c f =
    let o = offset_is d f in
    let n : offset d - 20 ≡ length d.area = omega arith in
    ap (λ (k : ℕ). take k (d.area ++ d.payload)) n ∙ take_at d.area d.payload (length d.area) refl

payload_in : (d : Segment) (c : ℕ) → Fits d → drop (offset d) (tcp_bytes d c) ≡ d.payload
unfolding tcp_bytes header put2 put4
payload_in d c f =
    ap (λ (k : ℕ). drop k (tcp_bytes d c)) (offset_is d f) ∙ (sym (drop-drop (length d.area) 20 (tcp_bytes d c)) ∙ drop_at d.area d.payload (length d.area) refl)

tcp_unfaulted : (d : Segment) (c : ℕ) → Fits d → tcp_fault (tcp_bytes d c) ≡ None
unfolding tcp_bytes header put2 put4
tcp_unfaulted d c f =
    let o = offset_is d f in
    let n = tcp_long d c in
    let t : List ℕ = tcp_bytes d c in
    refuse_false (nat_lt (length t) 20) DataOffset _ (le-ltb (length t) 20 (omega arith))
    (refuse_false (nat_lt (offset d) 20) DataOffset _ (le-ltb (offset d) 20 (omega arith))
    (refuse_false (nat_lt (length t) (offset d)) DataOffset _ (le-ltb (length t) (offset d) (omega arith))
    (ap (λ (x : List ℕ). option_fault (options_of x)) (area_in d c f) ∙ option_none (options_of d.area) f.listed)))

tcp_fields_are : (d : Segment) → Fits d → tcp_fields d.ip d.source.address d.destination.address (tcp_bytes d d.checksum) ≡ d
unfolding tcp_bytes header put2 put4
tcp_fields_are d f =
    let area = area_in d d.checksum f in
    let payload = payload_in d d.checksum f in
    let r : (80 + 4 * length d.area + d.reserved) % 16 ≡ d.reserved = let w = f.area.words in let b = f.reserved in omega arith in
    rw (area, payload, two_back d.source.port f.source_port, two_back d.destination.port f.destination_port, four_back d.sequence f.sequence, four_back d.acknowledgement f.acknowledgement, r, two_back d.window f.window, two_back d.checksum f.checksum, two_back d.urgent f.urgent) refl

-- ---- IPv4

v4_address : (a : Address) → IsV4 a → V4 (octets a) ≡ a
v4_address (V4 bytes) h = refl
v4_address (V6 bytes) h = absurd h

v4_octets : (a : Address) → IsV4 a → length (octets a) ≡ 4
v4_octets (V4 bytes) h = h.0
v4_octets (V6 bytes) h = absurd h

v6_address : (a : Address) → IsV6 a → V6 (octets a) ≡ a
v6_address (V4 bytes) h = absurd h
v6_address (V6 bytes) h = refl

v6_octets : (a : Address) → IsV6 a → length (octets a) ≡ 16
v6_octets (V4 bytes) h = absurd h
v6_octets (V6 bytes) h = h.0

-- the parts of five lists in a row
second_of : (a b c : List ℕ) (n m : ℕ) → length a ≡ n → length b ≡ m → take m (drop n ((a ++ (b ++ c)))) ≡ b
second_of a b c n m ha hb = ap (λ (l : List ℕ). take m l) (drop_at a (b ++ c) n ha) ∙ take_at b c m hb

record V4Again (b : List ℕ) (d : Segment) (t : List ℕ) (service identification flags ttl checksum : ℕ) (options : List ℕ) : Type 0 where
  pub size : 4 * (slice_index b 0 % 16) ≡ 20 + length options
  pub total : two_octets_at b 2 ≡ 20 + length options + tcp_length d
  pub head : take (4 * (slice_index b 0 % 16)) b ≡ spell_as (Ipv4 service identification flags ttl checksum options) d []
  pub source : slice_range b 12 16 ≡ octets d.source.address
  pub destination : slice_range b 16 20 ≡ octets d.destination.address
  pub options_are : slice_range b 20 (4 * (slice_index b 0 % 16)) ≡ options
  pub tcp : slice_range b (4 * (slice_index b 0 % 16)) (two_octets_at b 2) ≡ t
  pub long : length b ≡ 20 + length options + tcp_length d + (length b - (20 + length options + tcp_length d))
  pub protocol : slice_index b 9 ≡ 6
  pub version : slice_index b 0 / 16 ≡ 4
  pub fragment : two_octets_at b 6 % 16384 ≡ 0
  pub service_is : slice_index b 1 ≡ service
  pub identification_is : two_octets_at b 4 ≡ identification
  pub flags_are : slice_index b 6 / 64 ≡ flags
  pub ttl_is : slice_index b 8 ≡ ttl
  pub checksum_is : two_octets_at b 10 ≡ checksum

v4_parts : (d : Segment) (t rest : List ℕ) (service identification flags ttl checksum : ℕ) (options : List ℕ) → FitsV4 d service identification flags ttl checksum options → length t ≡ tcp_length d
    → V4Again (spell_as (Ipv4 service identification flags ttl checksum options) d t ++ rest) d t service identification flags ttl checksum options
unfolding put2
v4_parts d t rest service identification flags ttl checksum options f lt =
    let A : List ℕ = octets d.source.address in
    let C : List ℕ = octets d.destination.address in
    let b : List ℕ = spell_as (Ipv4 service identification flags ttl checksum options) d t ++ rest in
    let words = f.options_fit.words in let most = f.options_fit.most in
    let lA : length A ≡ 4 = v4_octets d.source.address f.source in
    let lC : length C ≡ 4 = v4_octets d.destination.address f.destination in
    let whole = f.total in
    let size : 4 * (slice_index b 0 % 16) ≡ 20 + length options = omega arith in
    let total : two_octets_at b 2 ≡ 20 + length options + tcp_length d = two_back (20 + length options + tcp_length d) whole in
    let tail : drop 12 b ≡ A ++ (C ++ (options ++ (t ++ rest))) = simp append_assoc in
    let to16 : drop 16 b ≡ C ++ (options ++ (t ++ rest)) = sym (drop-drop 4 12 b) ∙ ap (λ (l : List ℕ). drop 4 l) tail ∙ drop_at A (C ++ (options ++ (t ++ rest))) 4 lA in
    let to20 : drop 20 b ≡ options ++ (t ++ rest) = sym (drop-drop 4 16 b) ∙ ap (λ (l : List ℕ). drop 4 l) to16 ∙ drop_at C (options ++ (t ++ rest)) 4 lC in
    let head : List ℕ = spell_as (Ipv4 service identification flags ttl checksum options) d [] in
    let hl : length head ≡ 20 + length options = omega (arith, length-append A (C ++ (options ++ [])), length-append C (options ++ []), length-append options [], lA, lC) in
    let cut : b ≡ head ++ (t ++ rest) = simp append_assoc in
    let fl = f.flags_fit in
    record {
      size = size;
      total = total;
      head = ap (λ (k : ℕ). take k b) size ∙ (ap (λ (l : List ℕ). take (20 + length options) l) cut ∙ take_at head (t ++ rest) (20 + length options) hl);
      source = ap (λ (l : List ℕ). take 4 l) tail ∙ take_at A (C ++ (options ++ (t ++ rest))) 4 lA;
      destination = ap (λ (l : List ℕ). take 4 l) to16 ∙ take_at C (options ++ (t ++ rest)) 4 lC;
      options_are = ap (λ (l : List ℕ). take (4 * (slice_index b 0 % 16) - 20) l) to20 ∙ take_at options (t ++ rest) (4 * (slice_index b 0 % 16) - 20) (omega arith);
      tcp = ap (λ (l : List ℕ). take (two_octets_at b 2 - 4 * (slice_index b 0 % 16)) l) (ap (λ (k : ℕ). drop k b) size ∙ ap (λ (l : List ℕ). drop (20 + length options) l) cut ∙ drop_at head (t ++ rest) (20 + length options) hl)
          ∙ take_at t rest (two_octets_at b 2 - 4 * (slice_index b 0 % 16)) (omega (arith, size, total, lt));
      long = omega (arith, ap length cut, length-append head (t ++ rest), length-append t rest, hl, lt);
      protocol = refl;
      version = omega arith;
      fragment = omega arith;
      service_is = refl;
      identification_is = two_back identification f.identification_fits;
      flags_are = omega arith;
      ttl_is = refl;
      checksum_is = two_back checksum f.checksum_fits;
    }

v4_value : (b : List ℕ) (d : Segment) (t : List ℕ) (service identification flags ttl checksum : ℕ) (options : List ℕ) → V4Again b d t service identification flags ttl checksum options → IsV4 d.source.address → IsV4 d.destination.address
    → v4_fields b ≡ tcp_fields (Ipv4 service identification flags ttl checksum options) d.source.address d.destination.address t
v4_value b d t service identification flags ttl checksum options k hs hd =
    rw (k.source, k.destination, k.options_are, k.tcp, k.service_is, k.identification_is, k.flags_are, k.ttl_is, k.checksum_is, v4_address d.source.address hs, v4_address d.destination.address hd) refl

v4_unfaulted : (b : List ℕ) (d : Segment) (t : List ℕ) (service identification flags ttl checksum : ℕ) (options : List ℕ) → V4Again b d t service identification flags ttl checksum options
    → sums (spell_as (Ipv4 service identification flags ttl checksum options) d []) ≡ true → tcp_fault t ≡ None → v4_fault b ≡ None
v4_unfaulted b d t service identification flags ttl checksum options k right none =
    let size : ℕ = 4 * (slice_index b 0 % 16) in
    let total : ℕ = two_octets_at b 2 in
    let s = k.size in let n = k.total in let l = k.long in
    refuse_false (nat_lt (length b) 20) Truncated _ (le-ltb (length b) 20 (omega arith))
    (refuse_false (nat_lt (length b) total) Truncated _ (le-ltb (length b) total (omega arith))
    (refuse_false (nat_lt size 20) HeaderLength _ (le-ltb size 20 (omega arith))
    (refuse_false (nat_lt total size) HeaderLength _ (le-ltb total size (omega arith))
    (refuse_false (not (sums (take size b))) HeaderChecksum _ (ap not (ap sums k.head ∙ right))
    (refuse_false (not (two_octets_at b 6 % 16384 == 0)) Fragment _ (not_equal (two_octets_at b 6 % 16384) 0 k.fragment)
    (refuse_false (not (slice_index b 9 == 6)) NotTcp _ (not_equal (slice_index b 9) 6 k.protocol)
    (ap tcp_fault k.tcp ∙ none)))))))

-- ---- IPv6

record V6Again (b : List ℕ) (d : Segment) (t : List ℕ) (class_flow hops : ℕ) : Type 0 where
  pub total : two_octets_at b 4 ≡ tcp_length d
  pub source : slice_range b 8 24 ≡ octets d.source.address
  pub destination : slice_range b 24 40 ≡ octets d.destination.address
  pub tcp : slice_range b 40 (40 + two_octets_at b 4) ≡ t
  pub long : length b ≡ 40 + tcp_length d + (length b - (40 + tcp_length d))
  pub next : slice_index b 6 ≡ 6
  pub version : slice_index b 0 / 16 ≡ 6
  pub class_flow_is : four_octets_at b 0 % 268435456 ≡ class_flow
  pub hops_are : slice_index b 7 ≡ hops

v6_parts : (d : Segment) (t rest : List ℕ) (class_flow hops : ℕ) → FitsV6 d class_flow hops → length t ≡ tcp_length d → V6Again (spell_as (Ipv6 class_flow hops) d t ++ rest) d t class_flow hops
unfolding put2 put4
v6_parts d t rest class_flow hops f lt =
    let A : List ℕ = octets d.source.address in
    let C : List ℕ = octets d.destination.address in
    let b : List ℕ = spell_as (Ipv6 class_flow hops) d t ++ rest in
    let lA : length A ≡ 16 = v6_octets d.source.address f.source in
    let lC : length C ≡ 16 = v6_octets d.destination.address f.destination in
    let whole = f.total in let cf = f.class_flow_fits in
    let total : two_octets_at b 4 ≡ tcp_length d = two_back (tcp_length d) whole in
    let tail : drop 8 b ≡ A ++ (C ++ (t ++ rest)) = simp append_assoc in
    let to24 : drop 24 b ≡ C ++ (t ++ rest) = sym (drop-drop 16 8 b) ∙ ap (λ (l : List ℕ). drop 16 l) tail ∙ drop_at A (C ++ (t ++ rest)) 16 lA in
    let to40 : drop 40 b ≡ t ++ rest = sym (drop-drop 16 24 b) ∙ ap (λ (l : List ℕ). drop 16 l) to24 ∙ drop_at C (t ++ rest) 16 lC in
    let head : List ℕ = spell_as (Ipv6 class_flow hops) d [] in
    let hl : length head ≡ 40 = omega (arith, length-append A (C ++ []), length-append C [], lA, lC) in
    let cut : b ≡ head ++ (t ++ rest) = simp append_assoc in
    let word : four_octets_at b 0 ≡ 1610612736 + class_flow = four_back (1610612736 + class_flow) (omega arith) in
    record {
      total = total;
      source = ap (λ (l : List ℕ). take 16 l) tail ∙ take_at A (C ++ (t ++ rest)) 16 lA;
      destination = ap (λ (l : List ℕ). take 16 l) to24 ∙ take_at C (t ++ rest) 16 lC;
      tcp = ap (λ (l : List ℕ). take (40 + two_octets_at b 4 - 40) l) to40 ∙ take_at t rest (40 + two_octets_at b 4 - 40) (omega (arith, total, lt));
      long = omega (arith, ap length cut, length-append head (t ++ rest), length-append t rest, hl, lt);
      next = refl;
      version = omega arith;
      class_flow_is = ap (λ (n : ℕ). n % 268435456) word ∙ omega arith;
      hops_are = refl;
    }

v6_value : (b : List ℕ) (d : Segment) (t : List ℕ) (class_flow hops : ℕ) → V6Again b d t class_flow hops → IsV6 d.source.address → IsV6 d.destination.address
    → v6_fields b ≡ tcp_fields (Ipv6 class_flow hops) d.source.address d.destination.address t
v6_value b d t class_flow hops k hs hd =
    rw (k.source, k.destination, k.tcp, k.class_flow_is, k.hops_are, v6_address d.source.address hs, v6_address d.destination.address hd) refl

v6_unfaulted : (b : List ℕ) (d : Segment) (t : List ℕ) (class_flow hops : ℕ) → V6Again b d t class_flow hops → tcp_fault t ≡ None → v6_fault b ≡ None
v6_unfaulted b d t class_flow hops k none =
    let n = k.total in let l = k.long in
    refuse_false (nat_lt (length b) 40) Truncated _ (le-ltb (length b) 40 (omega arith))
    (refuse_false (nat_lt (length b) (40 + two_octets_at b 4)) Truncated _ (le-ltb (length b) (40 + two_octets_at b 4) (omega arith))
    (refuse_false (not ((slice_index b 6 == 6) || is_extension (slice_index b 6))) NotTcp _ (ap (λ (x : ℕ). not ((x == 6) || is_extension x)) k.next)
    (refuse_false (is_extension (slice_index b 6)) ExtensionHeader _ (ap is_extension k.next)
    (ap tcp_fault k.tcp ∙ none))))

-- ---- both

first_is_v4 : (b : List ℕ) → 0 < length b → slice_index b 0 / 16 ≡ 4 → v4_fault b ≡ None → first_fault b ≡ None
unfolding first_fault
first_is_v4 [] l v n = absurd (omega arith)
first_is_v4 (x ∷ b) l v n =
    let t : (x / 16 == 4) ≡ true = eq-eqb (x / 16) 4 v in
    refuse_false (not ((x / 16 == 4) || (x / 16 == 6))) Version _ (ap (λ (a : Bool). not (a || (x / 16 == 6))) t) (ap (λ (a : Bool). if a then v4_fault (x ∷ b) else v6_fault (x ∷ b)) t ∙ n)

first_is_v6 : (b : List ℕ) → 0 < length b → slice_index b 0 / 16 ≡ 6 → v6_fault b ≡ None → first_fault b ≡ None
unfolding first_fault
first_is_v6 [] l v n = absurd (omega arith)
first_is_v6 (x ∷ b) l v n =
    let t : (x / 16 == 6) ≡ true = eq-eqb (x / 16) 6 v in
    let u : (x / 16 == 4) ≡ false = ne_eqb (x / 16) 4 (λ e. absurd (omega arith)) in
    refuse_false (not ((x / 16 == 4) || (x / 16 == 6))) Version _ (ap not (or_right (x / 16 == 4) (x / 16 == 6) t)) (ap (λ (a : Bool). if a then v4_fault (x ∷ b) else v6_fault (x ∷ b)) u ∙ n)

-- what is spelled so is read without a fault, as its fields
pub record IsAgain (b : List ℕ) (d : Segment) : Type 0 where
  pub none : first_fault b ≡ None
  pub value : fields b ≡ d

again_by : (ip : IpHeader) (d : Segment) (rest : List ℕ) → d.ip ≡ ip → FitsIp ip d → Fits d → IsAgain (spell_as ip d (tcp_bytes d d.checksum) ++ rest) d
unfolding fields
again_by (Ipv4 service identification flags ttl checksum options) d rest e g f =
    let t : List ℕ = tcp_bytes d d.checksum in
    let b : List ℕ = spell_as (Ipv4 service identification flags ttl checksum options) d t ++ rest in
    let k = v4_parts d t rest service identification flags ttl checksum options g (tcp_long d d.checksum) in
    let l = k.long in
    let none = v4_unfaulted b d t service identification flags ttl checksum options k (ap (λ (ip : IpHeader). sums (spell_as ip d [])) (sym e) ∙ g.right) (tcp_unfaulted d d.checksum f) in
    let v : (slice_index b 0 / 16 == 4) ≡ true = eq-eqb (slice_index b 0 / 16) 4 k.version in
    record {
      none = first_is_v4 b (omega arith) k.version none;
      value = ap (λ (a : Bool). if a then v4_fields b else v6_fields b) v
          ∙ (v4_value b d t service identification flags ttl checksum options k g.source g.destination
          ∙ (ap (λ (ip : IpHeader). tcp_fields ip d.source.address d.destination.address t) (sym e) ∙ tcp_fields_are d f));
    }
again_by (Ipv6 class_flow hops) d rest e g f =
    let t : List ℕ = tcp_bytes d d.checksum in
    let b : List ℕ = spell_as (Ipv6 class_flow hops) d t ++ rest in
    let k = v6_parts d t rest class_flow hops g (tcp_long d d.checksum) in
    let l = k.long in let w = k.version in
    let none = v6_unfaulted b d t class_flow hops k (tcp_unfaulted d d.checksum f) in
    let v : (slice_index b 0 / 16 == 4) ≡ false = ne_eqb (slice_index b 0 / 16) 4 (λ e. absurd (omega arith)) in
    record {
      none = first_is_v6 b (omega arith) k.version none;
      value = ap (λ (a : Bool). if a then v4_fields b else v6_fields b) v
          ∙ (v6_value b d t class_flow hops k g.source g.destination
          ∙ (ap (λ (ip : IpHeader). tcp_fields ip d.source.address d.destination.address t) (sym e) ∙ tcp_fields_are d f));
    }

-- what is spelled is read without a fault, as its fields, whatever follows
pub again : (d : Segment) (rest : List ℕ) → Fits d → IsAgain (spell d ++ rest) d
unfolding spell
again d rest f = again_by d.ip d rest refl f.ip f

-- what is spelled is read again, whatever follows
pub read_again : (d : Segment) (rest : List ℕ) → Fits d → reading (spell d ++ rest) ≡ Read d
unfolding reading
read_again d rest f =
    let a = again d rest f in
    ap (λ (x : Option DatagramFault). read_unless x (fields (spell d ++ rest))) a.none ∙ ap (λ (x : Segment). Read x) a.value
