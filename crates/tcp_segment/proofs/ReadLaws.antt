-- The parts of a datagram that was read are at their places.
use Rattle.std.proofs.Common.{◌≡◌, ℕ, ◌+◌, ◌-◌, ◌*◌, ◌/◌, ◌%◌, ◌<◌, Bool, true, false, List, [], ◌++◌, length, take, drop, Option, Some, None, refl, sym, ap, ◌∙◌, arith, eq-eqb}
use Rattle.std.specs.Prelude.{slice_index, slice_range, ◌==◌, if◌then◌else◌}
use Rattle.std.proofs.lemmas.Bool.{lt-ltb, ne_eqb}
use Rattle.std.proofs.lemmas.List.{length-drop, length-take, take_at, drop_at, drop-drop, drop-take, take-take}
use Rattle.std.proofs.Math.Seq.{take-add}
use Rattle.book_base.specs.declared.address.Address.{Address}
use Rattle.book_base.specs.declared.address.Address.TheVariants.{V4, V6}
use Rattle.book_base.specs.declared.address.Socket.{Socket}
use Rattle.book_segments.specs.Bytes.{put2, put4}
use Rattle.book_segments.specs.Sockets.{octets}
use Rattle.book_segments.specs.declared.fault.DatagramFault.{DatagramFault}
use Rattle.book_segments.specs.Segments.{Segment, two_octets_at, four_octets_at, first_fault, fields, v4_fields, v6_fields, header, tcp_bytes, tcp_length, pseudo, spell, sums, good, words_sum, reading, Read, Bad, read_unless}
use Rattle.book_segments.specs.Spelling.{AreBytes, Fits, Spells, addresses_in}
use Rattle.book_segments.proofs.ByteLaws.{two_back, four_back, part_at}
use Rattle.book_segments.proofs.Folding.{sums_by}
use Rattle.book_segments.proofs.SumLaws.{words_pseudo}
use Rattle.book_segments.proofs.Read.{spelled_by}
use Rattle.tcp_segment.specs.declared.faults.Places.{Places}
use Rattle.tcp_segment.specs.Places.{header_end, Placed, IsRead}

-- ---- after the nine tests

tcp_twelve : (d : Segment) (c : ℕ) → slice_index (tcp_bytes d c) 12 ≡ 80 + 4 * length d.area + d.reserved
unfolding tcp_bytes header put2 put4
tcp_twelve d c = refl

pub is_read : (b : List ℕ) (p : Places) → AreBytes b → first_fault b ≡ None → Placed b p → IsRead b p
is_read b p h none k =
    let s = spelled_by b h none in
    let d : Segment = fields b in
    let kh = k.header in let ke = k.end in let kp = k.payload in
    let order = s.order in
    let tcp : slice_range b p.header p.end ≡ tcp_bytes d d.checksum =
    ap (λ (i : ℕ). slice_range b i p.end) kh ∙ (ap (λ (j : ℕ). take (j - header_end b) (drop (header_end b) b)) ke ∙ s.tcp) in
    let at : slice_index (slice_range b p.header p.end) 12 ≡ 80 + 4 * length d.area + d.reserved = ap (λ (l : List ℕ). slice_index l 12) tcp ∙ tcp_twelve d d.checksum in
    let w = s.fits.area.words in let r = s.fits.reserved in
    let long = s.long in
    record {
      fits = s.fits;
      spelled = s.bytes ∙ ap (λ (j : ℕ). spell d ++ drop j b) (sym ke);
      tcp = tcp;
      end = omega arith;
      payload = omega arith;
      header = omega (arith, s.least);
      room = omega (arith, s.room);
    }

pub reads : (b : List ℕ) → first_fault b ≡ None → reading b ≡ Read (fields b)
unfolding reading
reads b e = ap (λ (o : Option DatagramFault). read_unless o (fields b)) e

pub refuses : (b : List ℕ) (f : DatagramFault) → first_fault b ≡ Some f → reading b ≡ Bad f
unfolding reading
refuses b f e = ap (λ (o : Option DatagramFault). read_unless o (fields b)) e

pub no_fault : (b : List ℕ) (f : DatagramFault) → first_fault b ≡ None → first_fault b ≡ Some f → ⊥
no_fault b f n s = cc

pub spells : (b : List ℕ) (p : Places) → IsRead b p → Spells (fields b) (take (length (spell (fields b))) b)
spells b p r = record { fits = r.fits; spelled = ap (λ (l : List ℕ). take (length (spell (fields b))) l) r.spelled ∙ take_at (spell (fields b)) (drop p.end b) (length (spell (fields b))) refl }

-- ---- fields at their places

tcp_at : (b : List ℕ) (p : Places) (i : ℕ) → IsRead b p → i < 20 → slice_index b (p.header + i) ≡ slice_index (tcp_bytes (fields b) (fields b).checksum) i
tcp_at b p i r h =
    let e = r.end in
    sym (part_at b p.header p.end i (omega arith)) ∙ ap (λ (l : List ℕ). slice_index l i) r.tcp

two_in : (b : List ℕ) (p : Places) (k at : ℕ) → IsRead b p → k + 1 < 20 → at ≡ p.header + k → two_octets_at b at ≡ two_octets_at (tcp_bytes (fields b) (fields b).checksum) k
two_in b p k at r h e =
    let x = tcp_at b p k r (omega arith) in
    let y = tcp_at b p (k + 1) r h in
    let n : p.header + k + 1 ≡ p.header + (k + 1) = omega arith in
    ap (two_octets_at b) e ∙ omega (arith, x, ap (slice_index b) n ∙ y)

four_in : (b : List ℕ) (p : Places) (k at : ℕ) → IsRead b p → k + 3 < 20 → at ≡ p.header + k → four_octets_at b at ≡ four_octets_at (tcp_bytes (fields b) (fields b).checksum) k
four_in b p k at r h e =
    let x = two_in b p k (p.header + k) r (omega arith) refl in
    let y = two_in b p (k + 2) (p.header + k + 2) r (omega arith) (omega arith) in
    ap (four_octets_at b) e ∙ omega (arith, x, y)

source_port_of : (d : Segment) (c : ℕ) → Fits d → two_octets_at (tcp_bytes d c) 0 ≡ d.source.port
unfolding tcp_bytes header put2 put4
source_port_of d c f = two_back d.source.port f.source_port

destination_port_of : (d : Segment) (c : ℕ) → Fits d → two_octets_at (tcp_bytes d c) 2 ≡ d.destination.port
unfolding tcp_bytes header put2 put4
destination_port_of d c f = two_back d.destination.port f.destination_port

sequence_of : (d : Segment) (c : ℕ) → Fits d → four_octets_at (tcp_bytes d c) 4 ≡ d.sequence
unfolding tcp_bytes header put2 put4
sequence_of d c f = four_back d.sequence f.sequence

acknowledgement_of : (d : Segment) (c : ℕ) → Fits d → four_octets_at (tcp_bytes d c) 8 ≡ d.acknowledgement
unfolding tcp_bytes header put2 put4
acknowledgement_of d c f = four_back d.acknowledgement f.acknowledgement

flags_of : (d : Segment) (c : ℕ) → slice_index (tcp_bytes d c) 13 ≡ d.flags
unfolding tcp_bytes header put2 put4
flags_of d c = refl

window_of : (d : Segment) (c : ℕ) → Fits d → two_octets_at (tcp_bytes d c) 14 ≡ d.window
unfolding tcp_bytes header put2 put4
window_of d c f = two_back d.window f.window

urgent_of : (d : Segment) (c : ℕ) → Fits d → two_octets_at (tcp_bytes d c) 18 ≡ d.urgent
unfolding tcp_bytes header put2 put4
urgent_of d c f = two_back d.urgent f.urgent

pub sequence_in : (b : List ℕ) (p : Places) → IsRead b p → four_octets_at b (p.header + 4) ≡ (fields b).sequence
sequence_in b p r = four_in b p 4 (p.header + 4) r (omega arith) refl ∙ sequence_of (fields b) (fields b).checksum r.fits

pub acknowledgement_in : (b : List ℕ) (p : Places) → IsRead b p → four_octets_at b (p.header + 8) ≡ (fields b).acknowledgement
acknowledgement_in b p r = four_in b p 8 (p.header + 8) r (omega arith) refl ∙ acknowledgement_of (fields b) (fields b).checksum r.fits

pub flags_in : (b : List ℕ) (p : Places) → IsRead b p → slice_index b (p.header + 13) ≡ (fields b).flags
flags_in b p r = tcp_at b p 13 r (omega arith) ∙ flags_of (fields b) (fields b).checksum

pub window_in : (b : List ℕ) (p : Places) → IsRead b p → two_octets_at b (p.header + 14) ≡ (fields b).window
window_in b p r = two_in b p 14 (p.header + 14) r (omega arith) refl ∙ window_of (fields b) (fields b).checksum r.fits

pub urgent_in : (b : List ℕ) (p : Places) → IsRead b p → two_octets_at b (p.header + 18) ≡ (fields b).urgent
urgent_in b p r = two_in b p 18 (p.header + 18) r (omega arith) refl ∙ urgent_of (fields b) (fields b).checksum r.fits

-- ---- sockets

same_socket : (a c : Address) (p q : ℕ) → a ≡ c → p ≡ q → ◌≡◌ {A = Socket} (record { address = a; port = p }) (record { address = c; port = q })
same_socket a c p q e f = rw (e, f) refl

v4_source : (b : List ℕ) → slice_index b 0 / 16 ≡ 4 → (fields b).source.address ≡ V4 (slice_range b 12 16)
unfolding fields
v4_source b e = ap (λ (t : Bool). (if t then v4_fields b else v6_fields b).source.address) (eq-eqb (slice_index b 0 / 16) 4 e)

v6_source : (b : List ℕ) → (slice_index b 0 / 16 ≡ 4 → ⊥) → (fields b).source.address ≡ V6 (slice_range b 8 24)
unfolding fields
v6_source b e = ap (λ (t : Bool). (if t then v4_fields b else v6_fields b).source.address) (ne_eqb (slice_index b 0 / 16) 4 e)

v4_destination : (b : List ℕ) → slice_index b 0 / 16 ≡ 4 → (fields b).destination.address ≡ V4 (slice_range b 16 20)
unfolding fields
v4_destination b e = ap (λ (t : Bool). (if t then v4_fields b else v6_fields b).destination.address) (eq-eqb (slice_index b 0 / 16) 4 e)

v6_destination : (b : List ℕ) → (slice_index b 0 / 16 ≡ 4 → ⊥) → (fields b).destination.address ≡ V6 (slice_range b 24 40)
unfolding fields
v6_destination b e = ap (λ (t : Bool). (if t then v4_fields b else v6_fields b).destination.address) (ne_eqb (slice_index b 0 / 16) 4 e)

source_port_in : (b : List ℕ) (p : Places) → IsRead b p → two_octets_at b p.header ≡ (fields b).source.port
source_port_in b p r = two_in b p 0 p.header r (omega arith) (omega arith) ∙ source_port_of (fields b) (fields b).checksum r.fits

destination_port_in : (b : List ℕ) (p : Places) → IsRead b p → two_octets_at b (p.header + 2) ≡ (fields b).destination.port
destination_port_in b p r = two_in b p 2 (p.header + 2) r (omega arith) refl ∙ destination_port_of (fields b) (fields b).checksum r.fits

-- what the test says isn't 4 isn't
pub not_four : (n : ℕ) → (n == 4) ≡ false → n ≡ 4 → ⊥
not_four n h e = let told : (4 == 4) ≡ false = rw e at h in absurd (cc)

pub source_v4 : (b : List ℕ) (p : Places) (a : Address) (q : ℕ) → IsRead b p → slice_index b 0 / 16 ≡ 4 → a ≡ V4 (slice_range b 12 16) → q ≡ two_octets_at b p.header → ◌≡◌ {A = Socket} (record { address = a; port = q }) (fields b).source
source_v4 b p a q r v e f = same_socket a (fields b).source.address q (fields b).source.port (e ∙ sym (v4_source b v)) (f ∙ source_port_in b p r)

pub source_v6 : (b : List ℕ) (p : Places) (a : Address) (q : ℕ) → IsRead b p → (slice_index b 0 / 16 ≡ 4 → ⊥) → a ≡ V6 (slice_range b 8 24) → q ≡ two_octets_at b p.header → ◌≡◌ {A = Socket} (record { address = a; port = q }) (fields b).source
source_v6 b p a q r v e f = same_socket a (fields b).source.address q (fields b).source.port (e ∙ sym (v6_source b v)) (f ∙ source_port_in b p r)

pub destination_v4 : (b : List ℕ) (p : Places) (a : Address) (q : ℕ) → IsRead b p → slice_index b 0 / 16 ≡ 4 → a ≡ V4 (slice_range b 16 20) → q ≡ two_octets_at b (p.header + 2) → ◌≡◌ {A = Socket} (record { address = a; port = q }) (fields b).destination
destination_v4 b p a q r v e f = same_socket a (fields b).destination.address q (fields b).destination.port (e ∙ sym (v4_destination b v)) (f ∙ destination_port_in b p r)

pub destination_v6 : (b : List ℕ) (p : Places) (a : Address) (q : ℕ) → IsRead b p → (slice_index b 0 / 16 ≡ 4 → ⊥) → a ≡ V6 (slice_range b 24 40) → q ≡ two_octets_at b (p.header + 2) → ◌≡◌ {A = Socket} (record { address = a; port = q }) (fields b).destination
destination_v6 b p a q r v e f = same_socket a (fields b).destination.address q (fields b).destination.port (e ∙ sym (v6_destination b v)) (f ∙ destination_port_in b p r)

-- ---- header, options and payload

header_of : (d : Segment) (c : ℕ) → take 20 (tcp_bytes d c) ≡ header d c []
unfolding tcp_bytes header put2 put4
header_of d c = refl

behind_header : (d : Segment) (c : ℕ) → drop 20 (tcp_bytes d c) ≡ d.area ++ d.payload
unfolding tcp_bytes header put2 put4
behind_header d c = refl

pub header_in : (b : List ℕ) (p : Places) → IsRead b p → take (p.header + 20 - p.header) (drop p.header b) ≡ header (fields b) (fields b).checksum []
header_in b p r =
    let e = r.end in
    let n : p.header + 20 - p.header ≡ 20 = omega arith in
    ap (λ (k : ℕ). take k (drop p.header b)) n ∙ (sym (take-take 20 (p.end - p.header) (drop p.header b) (omega arith)) ∙ (ap (take 20) r.tcp ∙ header_of (fields b) (fields b).checksum))

pub area_in : (b : List ℕ) (p : Places) → IsRead b p → take (p.payload - (p.header + 20)) (drop (p.header + 20) b) ≡ (fields b).area
area_in b p r =
    let d : Segment = fields b in
    let e = r.end in let q = r.payload in
    let n : p.payload - (p.header + 20) ≡ length d.area = omega arith in
    let m : p.end - p.header ≡ 20 + (p.end - p.header - 20) = omega arith in
    let inner : drop 20 (slice_range b p.header p.end) ≡ take (p.end - p.header - 20) (drop (p.header + 20) b) =
    ap (λ (k : ℕ). drop 20 (take k (drop p.header b))) m ∙ (drop-take 20 (p.end - p.header - 20) (drop p.header b) ∙ ap (λ (l : List ℕ). take (p.end - p.header - 20) l) (drop-drop 20 p.header b)) in
    ap (λ (k : ℕ). take k (drop (p.header + 20) b)) n
    ∙ (sym (take-take (length d.area) (p.end - p.header - 20) (drop (p.header + 20) b) (omega arith))
    ∙ (ap (take (length d.area)) (sym inner ∙ (ap (drop 20) r.tcp ∙ behind_header d d.checksum)) ∙ take_at d.area d.payload (length d.area) refl))

pub payload_in : (b : List ℕ) (p : Places) → IsRead b p → take (p.end - p.payload) (drop p.payload b) ≡ (fields b).payload
payload_in b p r =
    let d : Segment = fields b in
    let e = r.end in let q = r.payload in
    let n : p.end - p.header ≡ (20 + length d.area) + (p.end - p.payload) = omega arith in
    let inner : drop (20 + length d.area) (slice_range b p.header p.end) ≡ take (p.end - p.payload) (drop (p.header + (20 + length d.area)) b) =
    ap (λ (k : ℕ). drop (20 + length d.area) (take k (drop p.header b))) n ∙ (drop-take (20 + length d.area) (p.end - p.payload) (drop p.header b) ∙ ap (λ (l : List ℕ). take (p.end - p.payload) l) (drop-drop (20 + length d.area) p.header b)) in
    ap (λ (k : ℕ). take (p.end - p.payload) (drop k b)) q
    ∙ (sym inner ∙ (ap (drop (20 + length d.area)) r.tcp
    ∙ (sym (drop-drop (length d.area) 20 (tcp_bytes d d.checksum)) ∙ (ap (drop (length d.area)) (behind_header d d.checksum) ∙ drop_at d.area d.payload (length d.area) refl))))

-- ---- the checksum

v4_addresses : (b : List ℕ) → take 8 (drop 12 b) ≡ slice_range b 12 16 ++ slice_range b 16 20
v4_addresses b = take-add 4 4 (drop 12 b) ∙ ap (λ (l : List ℕ). slice_range b 12 16 ++ take 4 l) (drop-drop 4 12 b)

v6_addresses : (b : List ℕ) → take 32 (drop 8 b) ≡ slice_range b 8 24 ++ slice_range b 24 40
v6_addresses b = take-add 16 16 (drop 8 b) ∙ ap (λ (l : List ℕ). slice_range b 8 24 ++ take 16 l) (drop-drop 16 8 b)

addresses_by : (four : Bool) (b : List ℕ)
    → (if four then take 8 (drop 12 b) else take 32 (drop 8 b)) ≡ octets (if four then v4_fields b else v6_fields b).source.address ++ octets (if four then v4_fields b else v6_fields b).destination.address
addresses_by true b = v4_addresses b
addresses_by false b = v6_addresses b

pub addresses_are : (b : List ℕ) → addresses_in b ≡ octets (fields b).source.address ++ octets (fields b).destination.address
unfolding fields
addresses_are b = addresses_by (slice_index b 0 / 16 == 4) b

sums_at : (b : List ℕ) (s : ℕ) → words_sum b ≡ s → 0 < s → (s % 65535 == 0) ≡ sums b
sums_at b s e p = sym (sums_by b ∙ rw (e, lt-ltb 0 s p) refl)

sums_modulo : (b : List ℕ) (s : ℕ) → words_sum b % 65535 ≡ s % 65535 → 0 < words_sum b → (s % 65535 == 0) ≡ sums b
sums_modulo b s e p = ap (λ (n : ℕ). n == 0) (sym e) ∙ sums_at b (words_sum b) refl p

pub good_at : (b : List ℕ) (p : Places) (sum tcp_sum : ℕ) → IsRead b p → sum ≡ words_sum (addresses_in b) → tcp_sum % 65535 ≡ words_sum (take (p.end - p.header) (drop p.header b)) % 65535
    → ((sum + 6 + length (take (p.end - p.header) (drop p.header b)) + tcp_sum) % 65535 == 0) ≡ good (fields b)
unfolding good
good_at b p sum tcp_sum r e f =
    let d : Segment = fields b in
    let t : List ℕ = tcp_bytes d d.checksum in
    let w = words_pseudo d t r.fits.ip in
    let a = ap words_sum (addresses_are b) in
    let s = ap words_sum r.tcp in
    let len : length (take (p.end - p.header) (drop p.header b)) ≡ tcp_length d = omega (arith, length-take (p.end - p.header) (drop p.header b), length-drop p.header b, r.end, r.room) in
    let k : ℕ = sum + 6 + length (take (p.end - p.header) (drop p.header b)) in
    let total : words_sum (pseudo d t) ≡ k + words_sum (take (p.end - p.header) (drop p.header b)) = omega (arith, w, a, s, len, e) in
    let same : words_sum (pseudo d t) % 65535 ≡ (k + tcp_sum) % 65535 = omega (arith, total, f) in
    sums_modulo (pseudo d t) (k + tcp_sum) same (omega (arith, total))
