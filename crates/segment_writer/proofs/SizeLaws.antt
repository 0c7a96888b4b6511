-- How many bytes a segment has, and its parts.
use Rattle.std.proofs.Common.{◌≡◌, ℕ, ◌+◌, ◌-◌, ◌≤◌, List, ◌++◌, length, take, drop, replicate, refl, sym, ap, subst, ◌∙◌, arith, inl, inr}
use Rattle.std.proofs.lemmas.List.{length-append, length-replicate, length-take, length-drop}
use Rattle.book_base.specs.declared.address.Address.{Address}
use Rattle.book_base.specs.declared.address.Address.TheVariants.{V4, V6}
use Rattle.book_base.specs.declared.address.Pair.{Pair}
use Rattle.book_base.specs.Algorithms.{mac_length_of}
use Rattle.book_segments.specs.Bytes.{put2, put4}
use Rattle.book_segments.specs.Segments.{IpHeader, Ipv4, Ipv6, Segment, spell, spell_as, tcp_bytes, header, checksum_of}
use Rattle.book_segments.specs.Spelling.{finished}
use Rattle.book_segments.proofs.SumLaws.{same_ip}
use Rattle.book_macs.proofs.LengthLaws.{twelve_or_sixteen}
use Rattle.book_keys.specs.Rows.{Row}
use Rattle.ao_check.specs.declared.choice.Sending.{Sending as Told}
use Rattle.tcp_segment.specs.declared.spelling.Head.{Head}
use Rattle.tcp_segment.specs.Drafts.{DatagramMut, Drafted}
use Rattle.book_base.specs.Addresses.{IsOneFamily}
use Rattle.tcp_segment.specs.Layout.{drafted, ip_size, header_length, AreSized, IsHead, IsFinished}
use Rattle.tcp_segment.proofs.WriteLaws.{parts, before, before_long}
use Rattle.segment_writer.specs.declared.outgoing.Outgoing.{Outgoing}
use Rattle.segment_writer.specs.Heads.{head_of, size_of}
use Rattle.segment_writer.proofs.HeadLaws.{place_is}

-- ---- the head

least_header : (a : Address) → 20 ≤ ip_size a
least_header (V4 bytes) = omega arith
least_header (V6 bytes) = omega arith

-- headers, options and payload are as long as was said
pub size_is : (pair : Pair) (o : Outgoing) (sending : Told) (r : Row)
    → header_length (head_of pair o sending (mac_length_of r.algorithm)) + o.payload.count ≡ size_of pair o r
size_is pair o sending r = omega (arith, place_is o.flags pair.local.address)

pub is_head : (pair : Pair) (o : Outgoing) (sending : Told) (r : Row) (h : Head) → h ≡ head_of pair o sending (mac_length_of r.algorithm)
    → IsOneFamily pair.local.address pair.remote.address → size_of pair o r ≤ 1500 → IsHead h o.payload.count
is_head pair o sending r h e family most =
    let k : Head = head_of pair o sending (mac_length_of r.algorithm) in
    let size = size_is pair o sending r in
    let least = least_header pair.local.address in
    let mac = twelve_or_sixteen r.algorithm in
    let low : 12 ≤ mac_length_of r.algorithm = elim mac [ inl x ↦ omega arith | inr x ↦ omega arith ] in
    let is : IsHead k o.payload.count = record { family = family; mac = mac; payload = omega arith; most = omega arith } in
    subst (λ (x : Head). IsHead x o.payload.count) (sym e) is

-- ---- the payload

-- the bytes that were copied in place of the payload
pub record IsCopied (p queue : List ℕ) (offset count : ℕ) : Type 0 where
  pub same : p ≡ take count (drop offset queue)
  pub long : length p ≡ length (replicate {A = ℕ} count 0)
  pub count_is : length p ≡ count

pub copied : (d : DatagramMut) (h : Head) (code rest out p queue : List ℕ) (offset count : ℕ) → Drafted d h code (replicate count 0) rest
    → out ≡ take (d.len - d.payload) (drop d.payload d.out.now) → p ≡ take (length out) (drop offset queue)
    → offset + count ≤ length queue → IsCopied p queue offset count
copied d h code rest out p queue offset count D part e within =
    let zeros : length (replicate {A = ℕ} count 0) ≡ count = length-replicate {A = ℕ} count 0 in
    let room : length out ≡ count =
    omega (
      arith,
      D.len_is,
      D.payload_is,
      d.ends,
      d.room,
      zeros,
      ap length part,
      length-take (d.len - d.payload) (drop d.payload d.out.now),
      length-drop d.payload d.out.now,
    ) in
    let same : p ≡ take count (drop offset queue) = e ∙ ap (λ (n : ℕ). take n (drop offset queue)) room in
    let n : length p ≡ count = omega (arith, ap length same, length-take count (drop offset queue), length-drop offset queue) in
    record { same = same; long = omega arith; count_is = n }

-- ---- the whole

tcp_long : (d : Segment) (c : ℕ) → length (tcp_bytes d c) ≡ length (tcp_bytes d 0)
unfolding tcp_bytes header put2 put4
tcp_long d c = refl

spell_as_long : (ip : IpHeader) (d : Segment) (t u : List ℕ) → length t ≡ length u → length (spell_as ip d t) ≡ length (spell_as ip d u)
unfolding put2 put4
spell_as_long (Ipv4 a b c e s o) d t u l = simp length-append (rw l refl)
spell_as_long (Ipv6 c h) d t u l = simp length-append (rw l refl)

spell_long : (d : Segment) → length (spell (finished d)) ≡ length (spell_as d.ip (finished d) (tcp_bytes (finished d) 0))
unfolding spell
spell_long d = spell_as_long d.ip (finished d) _ _ (tcp_long (finished d) (finished d).checksum)

same_zero : (d : Segment) → d.checksum ≡ 0 → spell_as d.ip (finished d) (tcp_bytes (finished d) 0) ≡ spell d
unfolding spell tcp_bytes header
same_zero d z = same_ip d.ip d (checksum_of d) (tcp_bytes d 0) ∙ ap (λ (c : ℕ). spell_as d.ip d (tcp_bytes d c)) (sym z)

-- the bytes of a segment that is finished
pub finished_long : (h : Head) (code payload : List ℕ) → AreSized h.source.address h.destination.address → length code ≡ h.mac_length
    → length (spell (finished (drafted h code payload))) ≡ header_length h + length payload
finished_long h code payload family long =
    let d : Segment = drafted h code payload in
    let b : List ℕ = before h 0 (length code) (length payload) in
    let whole : length (spell (finished d)) ≡ length (spell d) = spell_long d ∙ ap length (same_zero d refl) in
    let front = before_long h 0 (length code) (length payload) family in
    omega (arith, whole, ap length (parts h 0 code payload), length-append b (code ++ payload), length-append code payload, front, long)

-- the length that was told is that of all parts
pub size_told : (pair : Pair) (o : Outgoing) (sending : Told) (r : Row) (h : Head) (n len : ℕ) → h ≡ head_of pair o sending (mac_length_of r.algorithm)
    → n ≡ o.payload.count → len ≡ header_length h + n → len ≡ size_of pair o r
size_told pair o sending r h n len e count long =
    long ∙ (ap (λ (k : ℕ). header_length h + k) count ∙ (ap (λ (x : Head). header_length x + o.payload.count) e ∙ size_is pair o sending r))

-- what stays begins behind the segment
pub rest_is : (h : Head) (code p before after : List ℕ) (n count len : ℕ) → n ≡ count → len ≡ header_length h + n
    → IsFinished h code p (drop (header_length h + count) before) after → IsFinished h code p (drop len before) after
rest_is h code p before after n count len same long f =
    let e : header_length h + count ≡ len = omega (arith, same, long) in subst (λ (k : ℕ). IsFinished h code p (drop k before) after) e f
