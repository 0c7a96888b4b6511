-- Sums of words over the parts of a datagram, and the checksum that a sender sets.
use Rattle.std.proofs.Common.{◌≡◌, ℕ, zero, suc, ◌+◌, ◌*◌, ◌/◌, ◌%◌, ◌<◌, ◌≤◌, true, List, [], ◌∷◌, ◌++◌, length, refl, ap, ◌∙◌, arith, append_assoc, eq-eqb, inl, inr}
use Rattle.std.proofs.lemmas.Bool.{lt-ltb, cases_eq, ne_eqb}
use Rattle.std.proofs.lemmas.List.{length-append}
use Rattle.book_base.specs.declared.address.Address.{Address}
use Rattle.book_base.specs.declared.address.Address.TheVariants.{V4, V6}
use Rattle.book_segments.specs.Bytes.{put2, put4}
use Rattle.book_segments.specs.Sockets.{octets}
use Rattle.book_segments.specs.Segments.{IpHeader, Ipv4, Ipv6, Segment, words_sum, sums, complement_of, tcp_length, pseudo_of, pseudo, header, tcp_bytes, checksum_of, good, spell_as, spell}
use Rattle.book_segments.specs.Spelling.{AreBytes, IsV4, IsV6, FitsIp, Fits, with_sum, finished}
use Rattle.book_segments.proofs.ByteLaws.{two_back}
use Rattle.book_segments.proofs.Folding.{complement_at, sums_by, complement_by}

pub words_append : (k : ℕ) (xs ys : List ℕ) → length xs ≡ 2 * k → words_sum (xs ++ ys) ≡ words_sum xs + words_sum ys
words_append k [] ys e = omega arith
words_append k (a ∷ []) ys e = absurd (omega arith)
words_append zero (a ∷ b ∷ xs) ys e = absurd (omega arith)
words_append (suc k) (a ∷ b ∷ xs) ys e = omega (arith, words_append k xs ys (omega arith))

pub words_small : (xs : List ℕ) → AreBytes xs → words_sum xs ≤ 65535 * length xs
words_small [] h = omega arith
words_small (a ∷ []) h = let x = h 0 in omega arith
words_small (a ∷ b ∷ xs) h = let x = h 0 in let y = h 1 in omega (arith, words_small xs (λ i. h (suc (suc i))))

-- the words of the pseudo-header, and of what follows
pub words_pseudo4 : (a c : List ℕ) (n : ℕ) (rest : List ℕ) → length a ≡ 4 → length c ≡ 4 → n < 65536 → words_sum (a ++ (c ++ (0 ∷ 6 ∷ put2 n rest))) ≡ words_sum (a ++ c) + 6 + n + words_sum rest
unfolding put2
words_pseudo4 a c n rest ha hc h =
    let g : a ++ (c ++ (0 ∷ 6 ∷ n / 256 % 256 ∷ n % 256 ∷ rest)) ≡ (a ++ c) ++ (0 ∷ 6 ∷ n / 256 % 256 ∷ n % 256 ∷ rest) = simp append_assoc in
    let w = words_append 4 (a ++ c) (0 ∷ 6 ∷ n / 256 % 256 ∷ n % 256 ∷ rest) (omega (arith, length-append a c)) in
    ap words_sum g ∙ (w ∙ omega (arith, two_back n h))

pub words_pseudo6 : (a c : List ℕ) (n : ℕ) (rest : List ℕ) → length a ≡ 16 → length c ≡ 16 → n < 65536 → words_sum (a ++ (c ++ put4 n (0 ∷ 0 ∷ 0 ∷ 6 ∷ rest))) ≡ words_sum (a ++ c) + 6 + n + words_sum rest
unfolding put4
words_pseudo6 a c n rest ha hc h =
    let tail : List ℕ = n / 16777216 % 256 ∷ n / 65536 % 256 ∷ n / 256 % 256 ∷ n % 256 ∷ 0 ∷ 0 ∷ 0 ∷ 6 ∷ rest in
    let g : a ++ (c ++ tail) ≡ (a ++ c) ++ tail = simp append_assoc in
    let w = words_append 16 (a ++ c) tail (omega (arith, length-append a c)) in
    let high : n / 16777216 % 256 ≡ 0 = omega arith in
    let next : n / 65536 % 256 ≡ 0 = omega arith in
    ap words_sum g ∙ (w ∙ omega (arith, two_back n h, high, next))

v4_octets : (a : Address) → IsV4 a → length (octets a) ≡ 4
v4_octets (V4 bytes) h = h.0
v4_octets (V6 bytes) h = absurd h

v6_octets : (a : Address) → IsV6 a → length (octets a) ≡ 16
v6_octets (V4 bytes) h = absurd h
v6_octets (V6 bytes) h = h.0

pseudo_by : (ip : IpHeader) (d : Segment) (rest : List ℕ) → FitsIp ip d
    → words_sum (pseudo_of ip d rest) ≡ words_sum (octets d.source.address ++ octets d.destination.address) + 6 + tcp_length d + words_sum rest
pseudo_by (Ipv4 service identification flags ttl checksum options) d rest f =
    let n = f.total in
    words_pseudo4 (octets d.source.address) (octets d.destination.address) (tcp_length d) rest (v4_octets d.source.address f.source) (v4_octets d.destination.address f.destination) (omega arith)
pseudo_by (Ipv6 class_flow hops) d rest f =
    words_pseudo6 (octets d.source.address) (octets d.destination.address) (tcp_length d) rest (v6_octets d.source.address f.source) (v6_octets d.destination.address f.destination) f.total

pub words_pseudo : (d : Segment) (rest : List ℕ) → FitsIp d.ip d → words_sum (pseudo d rest) ≡ words_sum (octets d.source.address ++ octets d.destination.address) + 6 + tcp_length d + words_sum rest
unfolding pseudo
words_pseudo d rest f = pseudo_by d.ip d rest f

pub words_tcp : (d : Segment) (c : ℕ) → c < 65536 → words_sum (tcp_bytes d c) ≡ words_sum (tcp_bytes d 0) + c
unfolding tcp_bytes header put2 put4
words_tcp d c h = omega (arith, two_back c h)

abbrev Completes : ℕ → ℕ → Type 0
Completes s c = (c < 65536) × (0 < s → (s + c) % 65535 ≡ 0)

completes : (s : ℕ) → Completes s (complement_at s)
completes s = elim (cases_eq s 0) [
  | inl e ↦ rw (eq-eqb s 0 e) (omega arith, λ p. absurd (omega arith))
  | inr n ↦ elim (cases_eq (s % 65535) 0) [
    | inl e ↦ rw (ne_eqb s 0 n, eq-eqb (s % 65535) 0 e) (omega arith, λ p. omega (arith, e))
    | inr m ↦ rw (ne_eqb s 0 n, ne_eqb (s % 65535) 0 m) (omega arith, λ p. omega arith)
  ]
]

pub complement_fits : (b : List ℕ) → complement_of b < 65536
complement_fits b = rw (complement_by b) (completes (words_sum b)).0

pub complement_completes : (b : List ℕ) → 0 < words_sum b → (words_sum b + complement_of b) % 65535 ≡ 0
complement_completes b p = rw (complement_by b) ((completes (words_sum b)).1 p)

pub is_right : (b : List ℕ) → 0 < words_sum b → words_sum b % 65535 ≡ 0 → sums b ≡ true
is_right b p e = sums_by b ∙ rw (lt-ltb 0 (words_sum b) p, eq-eqb (words_sum b % 65535) 0 e) refl

pub same_tcp : (d : Segment) (c n : ℕ) → tcp_bytes (with_sum d c) n ≡ tcp_bytes d n
unfolding tcp_bytes header
same_tcp d c n = refl

pub same_pseudo_of : (ip : IpHeader) (d : Segment) (c : ℕ) (rest : List ℕ) → pseudo_of ip (with_sum d c) rest ≡ pseudo_of ip d rest
same_pseudo_of (Ipv4 service identification flags ttl checksum options) d c rest = refl
same_pseudo_of (Ipv6 class_flow hops) d c rest = refl

pub same_pseudo : (d : Segment) (c : ℕ) (rest : List ℕ) → pseudo (with_sum d c) rest ≡ pseudo d rest
unfolding pseudo
same_pseudo d c rest = same_pseudo_of d.ip d c rest

-- the IP header doesn't depend on the TCP checksum
pub same_ip : (ip : IpHeader) (d : Segment) (c : ℕ) (rest : List ℕ) → spell_as ip (with_sum d c) rest ≡ spell_as ip d rest
same_ip (Ipv4 service identification flags ttl checksum options) d c rest = refl
same_ip (Ipv6 class_flow hops) d c rest = refl

-- the spelling with another checksum
pub spell_with : (d : Segment) (c : ℕ) → spell (with_sum d c) ≡ spell_as d.ip d (tcp_bytes d c)
unfolding spell
spell_with d c = same_ip d.ip d c (tcp_bytes (with_sum d c) c) ∙ ap (spell_as d.ip d) (same_tcp d c c)

-- a datagram whose checksum was set is good
pub finished_good : (d : Segment) → FitsIp d.ip d → good (finished d) ≡ true
unfolding good checksum_of
finished_good d f =
    let c : ℕ = complement_of (pseudo d (tcp_bytes d 0)) in
    let s = words_pseudo d (tcp_bytes d 0) f in
    let e = words_pseudo d (tcp_bytes d c) f in
    let t = words_tcp d c (complement_fits (pseudo d (tcp_bytes d 0))) in
    let p : 0 < words_sum (pseudo d (tcp_bytes d 0)) = omega (arith, s) in
    let n : words_sum (pseudo d (tcp_bytes d c)) ≡ words_sum (pseudo d (tcp_bytes d 0)) + c = omega (arith, s, e, t) in
    let z = complement_completes (pseudo d (tcp_bytes d 0)) p in
    ap sums (ap (pseudo (with_sum d c)) (same_tcp d c c) ∙ same_pseudo d c (tcp_bytes d c)) ∙ is_right (pseudo d (tcp_bytes d c)) (omega (arith, n, p)) (rw n z)

fits_ip : (ip : IpHeader) (d : Segment) (c : ℕ) → d.ip ≡ ip → FitsIp ip d → FitsIp ip (with_sum d c)
fits_ip (Ipv4 service identification flags ttl checksum options) d c e f = record {
  service_fits = f.service_fits;
  identification_fits = f.identification_fits;
  flags_fit = f.flags_fit;
  ttl_fits = f.ttl_fits;
  checksum_fits = f.checksum_fits;
  options_fit = f.options_fit;
  source = f.source;
  destination = f.destination;
  total = f.total;
  right = ap sums (same_ip d.ip d c []) ∙ f.right;
}
fits_ip (Ipv6 class_flow hops) d c e f = record {
  class_flow_fits = f.class_flow_fits;
  hops_fit = f.hops_fit;
  source = f.source;
  destination = f.destination;
  total = f.total;
}

-- a datagram fits with any checksum
pub fits_with : (d : Segment) (c : ℕ) → c < 65536 → Fits d → Fits (with_sum d c)
fits_with d c h f = record {
  ip = fits_ip d.ip d c refl f.ip;
  source_port = f.source_port;
  destination_port = f.destination_port;
  sequence = f.sequence;
  acknowledgement = f.acknowledgement;
  reserved = f.reserved;
  flags = f.flags;
  window = f.window;
  checksum = h;
  urgent = f.urgent;
  area = f.area;
  listed = f.listed;
  payload = f.payload;
}

pub finished_fits : (d : Segment) → Fits d → Fits (finished d)
unfolding checksum_of
finished_fits d f = fits_with d (complement_of (pseudo d (tcp_bytes d 0))) (complement_fits (pseudo d (tcp_bytes d 0))) f
