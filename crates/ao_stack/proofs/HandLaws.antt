-- Where the checksum of a datagram stands among its bytes, and what is put in its place.
use Rattle.std.proofs.Common.{◌≡◌, ℕ, zero, suc, ◌+◌, ◌*◌, ◌/◌, ◌%◌, ◌≤◌, Bool, true, false, List, [], ◌∷◌, ◌++◌, length, take, set, get_or, refl, sym, ap, subst, ◌∙◌, arith, length-append, append_assoc}
use Rattle.std.proofs.lemmas.Bool.Decides.{nat_tests}
use Rattle.std.specs.Prelude.{◌==◌, if◌then◌else◌}
use Rattle.book_base.specs.declared.address.Address.{Address}
use Rattle.book_base.specs.declared.address.Address.TheVariants.{V4, V6}
use Rattle.book_base.specs.declared.address.Pair.{Pair}
use Rattle.book_base.specs.declared.address.Socket.{Socket}
use Rattle.book_segments.specs.Bytes.{put2, put4}
use Rattle.book_segments.specs.Sockets.{octets}
use Rattle.book_segments.specs.Segments.{IpHeader, Ipv4, Ipv6, Segment, header, spell, spell_as, tcp_bytes, tcp_length}
use Rattle.book_segments.specs.Spelling.{with_sum}
use Rattle.book_endpoint.specs.Emissions.{written_ip}
use Rattle.book_stack.specs.Stacks.{handed}
use Rattle.book_base.specs.Addresses.{IsOneFamily}
use Rattle.tcp_segment.specs.Layout.{IsSized}
use Rattle.ao_stack.specs.Checksums.{IsFrom, sum_handed, sum_place}

-- ---- what stands at a place of a list

at_place : (n i : ℕ) (room front : List ℕ) (a b : ℕ) (back : List ℕ) → length front ≡ i → take n room ≡ front ++ a ∷ b ∷ back → (get_or room i 0 ≡ a) × (get_or room (suc i) 0 ≡ b)
at_place zero i room [] a b back l e = absurd (cc)
at_place zero i room (x ∷ front) a b back l e = absurd (cc)
at_place (suc n) i [] [] a b back l e = absurd (cc)
at_place (suc n) i [] (x ∷ front) a b back l e = absurd (cc)
at_place (suc zero) i (r ∷ room) [] a b back l e = absurd (cc)
at_place (suc (suc n)) i (r ∷ []) [] a b back l e = absurd (cc)
at_place (suc (suc n)) zero (r ∷ q ∷ room) [] a b back l e = (cc, cc)
at_place (suc (suc n)) (suc i) (r ∷ q ∷ room) [] a b back l e = absurd (cc)
at_place (suc n) zero (r ∷ room) (x ∷ front) a b back l e = absurd (cc)
at_place (suc n) (suc i) (r ∷ room) (x ∷ front) a b back l e = at_place n i room front a b back (omega (arith, l)) (cc)

put_place : (n i : ℕ) (room front : List ℕ) (a b u v : ℕ) (back : List ℕ) → length front ≡ i → take n room ≡ front ++ a ∷ b ∷ back
    → take n (set (set room i u) (suc i) v) ≡ front ++ u ∷ v ∷ back
put_place zero i room [] a b u v back l e = absurd (cc)
put_place zero i room (x ∷ front) a b u v back l e = absurd (cc)
put_place (suc n) i [] [] a b u v back l e = absurd (cc)
put_place (suc n) i [] (x ∷ front) a b u v back l e = absurd (cc)
put_place (suc zero) i (r ∷ room) [] a b u v back l e = absurd (cc)
put_place (suc (suc n)) i (r ∷ []) [] a b u v back l e = absurd (cc)
put_place (suc (suc n)) zero (r ∷ q ∷ room) [] a b u v back l e = let rest : take n room ≡ back = cc in ap (λ (x : List ℕ). u ∷ v ∷ x) rest
put_place (suc (suc n)) (suc i) (r ∷ q ∷ room) [] a b u v back l e = absurd (cc)
put_place (suc n) zero (r ∷ room) (x ∷ front) a b u v back l e = absurd (cc)
put_place (suc n) (suc i) (r ∷ room) (x ∷ front) a b u v back l e =
    let first : r ≡ x = cc in
    let rest = put_place n i room front a b u v back (omega (arith, l)) (cc) in
    ap (λ (y : ℕ). y ∷ take n (set (set room i u) (suc i) v)) first ∙ ap (λ (ys : List ℕ). x ∷ ys) rest

after : (n : ℕ) → n + 1 ≡ suc n
after n = omega arith

-- ---- the bytes of a checksum

is_zero : (c : ℕ) → c ≤ 65535 → c / 256 % 256 ≡ 0 → c % 256 ≡ 0 → (c == 0) ≡ true
is_zero c most high low = grind (arith, nat_tests)

first_some : (c : ℕ) → (c / 256 % 256 ≡ 0 → ⊥) → (c == 0) ≡ false
first_some c high = grind (arith, nat_tests)

second_some : (c : ℕ) → (c % 256 ≡ 0 → ⊥) → (c == 0) ≡ false
second_some c low = grind (arith, nat_tests)

module _ (n place : ℕ) (room front back : List ℕ) (c : ℕ) (l : length front ≡ place) (most : c ≤ 65535) (e : take n room ≡ front ++ put2 c back) where
  -- both bytes were zero
  pub both_replaced : get_or room place 0 ≡ 0 → get_or room (place + 1) 0 ≡ 0 → take n (set (set room place 255) (place + 1) 255) ≡ front ++ put2 (sum_handed c) back
  unfolding put2
  both_replaced one two =
      let t = at_place n place room front (c / 256 % 256) (c % 256) back l e in
      let next : get_or room (suc place) 0 ≡ 0 = subst (λ (i : ℕ). get_or room i 0 ≡ 0) (after place) two in
      ap (λ (i : ℕ). take n (set (set room place 255) i 255)) (after place) ∙ put_place n place room front (c / 256 % 256) (c % 256) 255 255 back l e
      ∙ sym (ap (λ (x : ℕ). front ++ put2 x back) (ap (λ (b : Bool). if b then 65535 else c) (is_zero c most (sym t.0 ∙ one) (sym t.1 ∙ next))))

  pub first_kept : (get_or room place 0 ≡ 0 → ⊥) → take n room ≡ front ++ put2 (sum_handed c) back
  unfolding put2
  first_kept one = let t = at_place n place room front (c / 256 % 256) (c % 256) back l e in e ∙ sym (ap (λ (x : ℕ). front ++ put2 x back) (ap (λ (b : Bool). if b then 65535 else c) (first_some c (λ z. one (t.0 ∙ z)))))

  pub second_kept : (get_or room (place + 1) 0 ≡ 0 → ⊥) → take n room ≡ front ++ put2 (sum_handed c) back
  unfolding put2
  second_kept two = let t = at_place n place room front (c / 256 % 256) (c % 256) back l e in e ∙ sym (ap (λ (x : ℕ). front ++ put2 x back) (ap (λ (b : Bool). if b then 65535 else c) (second_some c (λ z. two (ap (λ (i : ℕ). get_or room i 0) (after place) ∙ (t.1 ∙ z))))))

-- ---- the bytes of a datagram, around its checksum

-- the bytes of an IP header in front of TCP
ip_front : IpHeader → Segment → List ℕ
ip_front (Ipv4 service identification flags ttl checksum options) d =
    (0x45 + length options / 4) ∷ service
    ∷ put2 (20 + length options + tcp_length d) (put2 identification
    ((0x40 * flags) ∷ 0 ∷ ttl ∷ 6 ∷ put2 checksum (octets d.source.address ++ (octets d.destination.address ++ options))))
ip_front (Ipv6 class_flow hops) d =
    put4 (0x60000000 + class_flow) (put2 (tcp_length d) (6 ∷ hops ∷ octets d.source.address ++ octets d.destination.address))

joined : (a b c d : List ℕ) → a ++ (b ++ (c ++ d)) ≡ a ++ (b ++ c) ++ d
joined a b c d = ap (λ (x : List ℕ). a ++ x) (sym (append_assoc b c d)) ∙ sym (append_assoc a (b ++ c) d)

spelled_ip : (ip : IpHeader) (d : Segment) (tcp : List ℕ) → spell_as ip d tcp ≡ ip_front ip d ++ tcp
unfolding put2 put4 ip_front
spelled_ip (Ipv4 service identification flags ttl checksum options) d tcp = rw (joined (octets d.source.address) (octets d.destination.address) options tcp) refl
spelled_ip (Ipv6 class_flow hops) d tcp = rw (append_assoc (octets d.source.address) (octets d.destination.address) tcp) refl

-- the bytes of TCP in front of the checksum
tcp_front : Segment → List ℕ
tcp_front d = put2 d.source.port (put2 d.destination.port (put4 d.sequence (put4 d.acknowledgement ((0x50 + 4 * length d.area + d.reserved) ∷ d.flags ∷ put2 d.window []))))

-- those behind it
tcp_back : Segment → List ℕ
tcp_back d = put2 d.urgent (d.area ++ d.payload)

spelled_tcp : (d : Segment) (c : ℕ) → tcp_bytes (with_sum d c) c ≡ tcp_front d ++ put2 c (tcp_back d)
unfolding tcp_bytes header put2 put4 tcp_front tcp_back
spelled_tcp d c = refl

front_same : (ip : IpHeader) (d : Segment) (c : ℕ) → ip_front ip (with_sum d c) ≡ ip_front ip d
unfolding ip_front
front_same (Ipv4 service identification flags ttl checksum options) d c = refl
front_same (Ipv6 class_flow hops) d c = refl

spelled : (d : Segment) (c : ℕ) → spell (with_sum d c) ≡ ip_front d.ip d ++ tcp_front d ++ put2 c (tcp_back d)
unfolding spell ip_front
spelled d c = spelled_ip d.ip (with_sum d c) (tcp_bytes (with_sum d c) c) ∙ ap (λ (x : List ℕ). ip_front d.ip (with_sum d c) ++ x) (spelled_tcp d c) ∙ sym (append_assoc (ip_front d.ip (with_sum d c)) (tcp_front d) (put2 c (tcp_back d))) ∙ ap (λ (x : List ℕ). x ++ tcp_front d ++ put2 c (tcp_back d)) (front_same d.ip d c)

put_long : (a b : ℕ) (xs : List ℕ) → length (put2 a xs) ≡ length (put2 b xs)
unfolding put2
put_long a b xs = refl

-- a datagram is as long as it is handed out
pub handed_long : (d : Segment) → length (spell (handed d)) ≡ length (spell d)
handed_long d =
    let front = ip_front d.ip d ++ tcp_front d in
    let c = sum_handed d.checksum in
    ap length (spelled d c) ∙ length-append front (put2 c (tcp_back d)) ∙ ap (λ (k : ℕ). length front + k) (put_long c d.checksum (tcp_back d))
    ∙ sym (length-append front (put2 d.checksum (tcp_back d))) ∙ sym (ap length (spelled d d.checksum))

front_long : (pair : Pair) (size : ℕ) (d : Segment) (one two : Address) → IsOneFamily one two → IsSized one → IsSized two → d.source.address ≡ one → d.destination.address ≡ two
    → length (ip_front (written_ip pair size one) d) + 16 ≡ sum_place one
unfolding ip_front put2 put4
front_long pair size d (V4 a) (V4 b) f s t p q = rw (p, q) (let k = length-append a (b ++ []) in let m : length (b ++ []) ≡ length b + 0 = length-append b [] in omega arith)
front_long pair size d (V6 a) (V6 b) f s t p q = rw (p, q) (let k = length-append a b in omega arith)
front_long pair size d (V4 a) (V6 b) f s t p q = let apart = f in absurd (cc)
front_long pair size d (V6 a) (V4 b) f s t p q = let apart = f in absurd (cc)

tcp_long : (d : Segment) → length (tcp_front d) ≡ 16
unfolding tcp_front put2 put4
tcp_long d = refl

-- a datagram of an end is handed out
pub handed_so : (pair : Pair) (n : ℕ) (d : Segment) (before after : List ℕ) → IsOneFamily pair.local.address pair.remote.address → IsSized pair.local.address → IsSized pair.remote.address → IsFrom pair d
    → ((m : ℕ) (front back : List ℕ) (c : ℕ) → length front ≡ sum_place pair.local.address → c ≤ 65535 → take m before ≡ front ++ put2 c back → take m after ≡ front ++ put2 (sum_handed c) back)
    → take n before ≡ spell d → take n after ≡ spell (handed d)
handed_so pair n d before after one s t F change e =
    let front = ip_front d.ip d ++ tcp_front d in
    let long : length front ≡ sum_place pair.local.address =
    length-append (ip_front d.ip d) (tcp_front d) ∙ ap (λ (k : ℕ). length (ip_front d.ip d) + k) (tcp_long d)
    ∙ ap (λ (ip : IpHeader). length (ip_front ip d) + 16) F.ip
    ∙ front_long pair F.size d pair.local.address pair.remote.address one s t (ap (λ (k : Socket). k.address) F.source) (ap (λ (k : Socket). k.address) F.destination) in
    change n front (tcp_back d) d.checksum long F.checksum (e ∙ spelled d d.checksum) ∙ sym (spelled d (sum_handed d.checksum))
