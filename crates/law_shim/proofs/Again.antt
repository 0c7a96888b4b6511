-- A datagram that is laid out twice, and one with right checksums that is laid out with its own options.
use Rattle.std.proofs.Common.{◌≡◌, ℕ, ◌+◌, ◌*◌, ◌/◌, ◌%◌, ◌<◌, true, List, [], ◌∷◌, ◌++◌, length, refl, sym, ap, ◌∙◌, arith}
use Rattle.std.proofs.lemmas.Bool.Decides.{nat_tests}
use Rattle.book_segments.specs.Bytes.{put2}
use Rattle.book_segments.specs.Sockets.{octets}
use Rattle.book_segments.specs.Segments.{IpHeader, Ipv4, Ipv6, Segment, words_sum, sums, complement_of, tcp_length, pseudo, tcp_bytes, checksum_of, good, spell_as}
use Rattle.book_segments.specs.Spelling.{Fits, FitsIp, with_sum, finished}
use Rattle.book_segments.proofs.Folding.{complement_at, complement_by, sums_is_right}
use Rattle.book_segments.proofs.SumLaws.{complement_completes, words_pseudo, words_tcp, same_tcp, same_pseudo}
use Rattle.book_shim.specs.Relaying.{relaid, with_area, summed}
use Rattle.book_shim.specs.Leaving.{as_sent}
use Rattle.law_shim.proofs.Opening.{header_sum, header_some}
use Rattle.law_shim.specs.Whole.{ip_checksum}

-- ---- the checksum that is right, and not ffff, is the one that is computed

complement_low : (s : ℕ) → 0 < s → complement_at s < 65535
complement_low s h = grind (arith, nat_tests)

one_sum : (s c k : ℕ) → c < 65535 → k < 65535 → (s + c) % 65535 ≡ 0 → (s + k) % 65535 ≡ 0 → k ≡ c
one_sum s c k a b e f = omega arith

is_the_sum : (blank full : List ℕ) (c : ℕ) → 0 < words_sum blank → words_sum full ≡ words_sum blank + c → c < 65535 → sums full ≡ true → complement_of blank ≡ c
is_the_sum blank full c some more low right =
    let r = sums_is_right full right in
    let k : complement_of blank < 65535 = rw (complement_by blank) (complement_low (words_sum blank) some) in
    one_sum (words_sum blank) c (complement_of blank) low k (ap (λ (n : ℕ). n % 65535) (sym more) ∙ r.1) (complement_completes blank some)

own_summed : (i : IpHeader) (d : Segment) → d.ip ≡ i → FitsIp i d → ip_checksum i < 65535 → summed i d ≡ i
own_summed (Ipv4 service identification flags ttl checksum options) d is f low =
    let blank = spell_as (Ipv4 service identification flags ttl 0 options) d [] in
    let full = spell_as (Ipv4 service identification flags ttl checksum options) d [] in
    let rest = octets d.source.address ++ (octets d.destination.address ++ (options ++ [])) in
    let more : words_sum full ≡ words_sum blank + checksum =
    header_sum (69 + length options / 4) service (20 + length options + tcp_length d) identification (64 * flags) ttl checksum rest f.checksum_fits in
    let some : 0 < words_sum blank = header_some (69 + length options / 4) service (put2 (20 + length options + tcp_length d) (put2 identification (64 * flags ∷ 0 ∷ ttl ∷ 6 ∷ put2 0 rest))) (omega arith) in
    let right : sums full ≡ true = ap (λ (j : IpHeader). sums (spell_as j d [])) (sym is) ∙ f.right in
    ap (λ (c : ℕ). Ipv4 service identification flags ttl c options) (is_the_sum blank full checksum some more low right)
own_summed (Ipv6 class_flow hops) d is f low = refl

own_checksum : (d : Segment) → Fits d → good d ≡ true → d.checksum < 65535 → checksum_of d ≡ d.checksum
unfolding good checksum_of
own_checksum d f right low =
    let blank = pseudo d (tcp_bytes d 0) in
    let full = pseudo d (tcp_bytes d d.checksum) in
    let s = words_pseudo d (tcp_bytes d 0) f.ip in
    let e = words_pseudo d (tcp_bytes d d.checksum) f.ip in
    let t = words_tcp d d.checksum f.checksum in
    is_the_sum blank full d.checksum (omega (arith, s)) (omega (arith, s, e, t)) low right

-- laid out with its own options it is what it was
pub relaid_own : (d : Segment) → Fits d → good d ≡ true → d.checksum < 65535 → ip_checksum d.ip < 65535 → relaid d d.area ≡ d
unfolding relaid
relaid_own d f right low ip_low =
    ap (λ (i : IpHeader). finished (record d { ip = i })) (own_summed d.ip d refl f.ip ip_low)
    ∙ ap (with_sum d) (own_checksum d f right low)

-- ---- laid out twice

checksum_alike : (d : Segment) (c : ℕ) → checksum_of (with_sum d c) ≡ checksum_of d
unfolding checksum_of
checksum_alike d c = ap (λ (l : List ℕ). complement_of (pseudo (with_sum d c) l)) (same_tcp d c 0) ∙ ap complement_of (same_pseudo d c (tcp_bytes d 0))

summed_twice : (i : IpHeader) (x y z : Segment) → x.source ≡ z.source → x.destination ≡ z.destination → tcp_length x ≡ tcp_length z → summed (summed i y) x ≡ summed i z
summed_twice (Ipv4 service identification flags ttl checksum options) x y z s d l = rw (s, d, l) refl
summed_twice (Ipv6 class_flow hops) x y z s d l = refl

-- what is between doesn't count
pub sent_twice : (d : Segment) (a b : List ℕ) → relaid (as_sent (relaid d a)) b ≡ relaid d b
unfolding relaid
sent_twice d a b =
    let y : Segment = record (with_area d a) { ip = summed d.ip (with_area d a) } in
    let e : Segment = as_sent (finished y) in
    let c = e.checksum in
    let x : Segment = record (with_area d b) { ip = summed d.ip (with_area d b) } in
    ap (λ (i : IpHeader). finished (record (with_area e b) { ip = i })) (summed_twice d.ip (with_area e b) (with_area d a) (with_area d b) refl refl refl)
    ∙ ap (with_sum x) (checksum_alike x c)
