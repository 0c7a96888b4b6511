-- How many bytes a datagram has that is laid out again, and one that is sealed.
use Rattle.std.proofs.Common.{◌≡◌, ℕ, ◌+◌, ◌-◌, ◌≤◌, List, ◌++◌, length, Ok, refl, sym, ap, ◌∙◌, arith, length-append, subst, inl, inr}
use Rattle.book_base.specs.declared.address.Pair.{Pair}
use Rattle.book_base.specs.Algorithms.{mac_length_of}
use Rattle.book_segments.specs.Bytes.{put2, put4}
use Rattle.book_segments.specs.Sockets.{octets}
use Rattle.book_segments.specs.Segments.{IpHeader, Ipv4, Ipv6, Segment, header, tcp_bytes, spell_as, spell}
use Rattle.book_segments.specs.Spelling.{Fits}
use Rattle.book_macs.specs.Keys.{traffic_key}
use Rattle.book_macs.proofs.LengthLaws.{length-mac, length-traffic_key, twelve_or_sixteen}
use Rattle.book_endpoint.specs.Emissions.{ao_length, written_ao}
use Rattle.book_shim.specs.declared.kept.Kept.{Kept}
use Rattle.book_shim.specs.Keeping.{Setting}
use Rattle.book_shim.specs.Leaving.{Sealed, send_sealed, as_sent, code_for, input_for}
use Rattle.book_shim.specs.Relaying.{relaid, with_area, summed, going}
use Rattle.law_shim.proofs.LongLaws.{rewritten_long, going_shortens}
use Rattle.law_shim.proofs.Sealing.{sends, is_fitted, sent_keeps}

tcp_long : (d : Segment) (c : ℕ) → length (tcp_bytes d c) ≡ 20 + length d.area + length d.payload
unfolding tcp_bytes header put2 put4
tcp_long d c = omega (arith, length-append d.area d.payload)

-- the bytes of the IP header
abbrev ip_long : IpHeader → Segment → ℕ
ip_long (Ipv4 service identification flags ttl checksum options) d = 12 + (length (octets d.source.address) + (length (octets d.destination.address) + length options))
ip_long (Ipv6 class_flow hops) d = 8 + (length (octets d.source.address) + length (octets d.destination.address))

spelled_long : (i : IpHeader) (d : Segment) (t : List ℕ) → length (spell_as i d t) ≡ ip_long i d + length t
unfolding put2 put4
spelled_long (Ipv4 service identification flags ttl checksum options) d t =
    omega (arith, length-append (octets d.source.address) (octets d.destination.address ++ (options ++ t)), length-append (octets d.destination.address) (options ++ t), length-append options t)
spelled_long (Ipv6 class_flow hops) d t =
    omega (arith, length-append (octets d.source.address) (octets d.destination.address ++ t), length-append (octets d.destination.address) t)

spell_long : (d : Segment) → length (spell d) ≡ ip_long d.ip d + (20 + length d.area + length d.payload)
unfolding spell
spell_long d = spelled_long d.ip d (tcp_bytes d d.checksum) ∙ ap (λ (n : ℕ). ip_long d.ip d + n) (tcp_long d d.checksum)

summed_long : (i : IpHeader) (x y d : Segment) → x.source ≡ d.source → x.destination ≡ d.destination → ip_long (summed i y) x ≡ ip_long i d
summed_long (Ipv4 service identification flags ttl checksum options) x y d s t = rw (s, t) refl
summed_long (Ipv6 class_flow hops) x y d s t = rw (s, t) refl

-- it has as many more bytes as its options have
pub sent_long : (d : Segment) (area : List ℕ) → length (spell (as_sent (relaid d area))) + length d.area ≡ length (spell d) + length area
sent_long d area =
    let k = sent_keeps d area in
    let x = as_sent (relaid d area) in
    let ip : ip_long x.ip x ≡ ip_long d.ip d = ap (λ (i : IpHeader). ip_long i x) k.ip_is ∙ summed_long d.ip x (with_area d area) d k.source k.destination in
    let areas = ap (λ (l : List ℕ). length l) k.area_is in
    let payloads = ap (λ (l : List ℕ). length l) k.payload in
    let one = spell_long x in
    let two = spell_long d in
    omega arith

-- TCP-AO takes at most 20 bytes
pub sealed_long : (here : Setting) (pair : Pair) (g : Kept) (d : Segment) (m : Sealed) → Fits d → send_sealed here pair g d ≡ Ok m → length (spell m.segment) ≤ length (spell d) + 20
sealed_long here pair g d m f h =
    let z = sends here pair g d m h in
    let s = m.sending in
    let input = input_for d z.area s m.number in
    let code = code_for s m.context input in
    let code_long : length code ≡ mac_length_of s.row.algorithm =
    length-mac s.row.algorithm (traffic_key s.row.algorithm s.row.master m.context) input (length-traffic_key s.row.algorithm s.row.master m.context) in
    let fit = is_fitted (40 - ao_length s) d.area z.area z.fits in
    let short : length z.area ≤ length d.area = subst (λ (l : List ℕ). length l ≤ length d.area) (sym fit.is) (rewritten_long (going fit.trim) d.area (going_shortens fit.trim) f.listed f.area.words) in
    let a = z.area ++ written_ao s code in
    let long = length-append z.area (written_ao s code) in
    let more = sent_long d a in
    let is : length (spell m.segment) ≡ length (spell (as_sent (relaid d a))) = ap (λ (x : Sealed). length (spell x.segment)) z.sent_is in
    elim (twelve_or_sixteen s.row.algorithm) [ inl e ↦ omega arith | inr e ↦ omega arith ]
