-- What was sealed is opened by the other guard.
use Rattle.std.proofs.Common.{◌≡◌, ℕ, ◌+◌, ◌-◌, ◌*◌, ◌/◌, ◌%◌, ◌^◌, ◌<◌, ◌≤◌, ◌==◌, ◌&&◌, ◌||◌, not, Bool, true, false, nat_lt, nat_le, List, [], ◌∷◌, ◌++◌, length, take, drop, replicate, Some, None, Ok, Err, refl, sym, ap, ◌∙◌, arith, length-append, append_assoc, if◌then◌else◌, inl, inr, ◌⊎◌}
use Rattle.std.specs.Prelude.{is_some}
use Rattle.std.specs.Option.{option_or}
use Rattle.std.proofs.lemmas.List.{append-nil}
use Rattle.std.proofs.lemmas.Bool.Decides.{nat_tests}
use Rattle.book_base.specs.declared.address.Pair.{Pair}
use Rattle.book_base.specs.declared.address.Socket.{Socket}
use Rattle.book_base.specs.Algorithms.{mac_length_of}
use Rattle.book_segments.specs.Bytes.{put2, put4, ring, same_bytes}
use Rattle.book_segments.specs.Sockets.{octets}
use Rattle.book_segments.specs.Meant.{meant}
use Rattle.book_segments.specs.Options.{Ao, One, find_ao}
use Rattle.book_segments.specs.Segments.{IpHeader, Ipv4, Ipv6, Segment, tcp_length, pseudo_of, pseudo, header, has, good, SYN, segment_length, spell_as, complement_of, words_sum, sums}
use Rattle.book_segments.specs.Spelling.{FitsIp}
use Rattle.book_segments.proofs.Blanked.{take_exact, drop_exact}
use Rattle.book_segments.proofs.SocketLaws.{same_bytes-refl}
use Rattle.book_segments.proofs.SumLaws.{finished_good, complement_fits, complement_completes, is_right}
use Rattle.book_macs.specs.Contexts.{context_of}
use Rattle.book_macs.specs.MacInput.{covered, mac_input}
use Rattle.book_keys.specs.Lifetimes.{contains}
use Rattle.book_keys.specs.Rows.{Row, matches, receives}
use Rattle.book_keys.specs.Choices.{Numbered, accept_row, acceptable_as, lowest}
use Rattle.book_keys.specs.Coordination.{Sending}
use Rattle.book_endpoint.specs.declared.refusal.Refusal.TheVariants.{MacLength, Range, NoContext}
use Rattle.book_endpoint.specs.States.{number_limit}
use Rattle.book_endpoint.specs.Verdicts.{Finding, Judgement, Known, judge, found_with, mac_of, segment_number}
use Rattle.book_endpoint.proofs.JudgeSteps.{judge_mac, judge_number, judge_context, judge_row, judge_ao, judge_by_steps}
use Rattle.book_shim.specs.Keeping.{is_keyed}
use Rattle.book_shim.specs.Relaying.{relaid, with_area, summed, length_in_header}
use Rattle.book_shim.specs.Leaving.{ao_last}
use Rattle.law_shim.proofs.Sealing.{Keeps, relaid_keeps}
use Rattle.book_endpoint.specs.Emissions.{written_ao}

-- ---- checksums are right

pub header_sum : (a b t i x l c : ℕ) (rest : List ℕ) → c < 65536
    → words_sum (a ∷ b ∷ put2 t (put2 i (x ∷ 0 ∷ l ∷ 6 ∷ put2 c rest))) ≡ words_sum (a ∷ b ∷ put2 t (put2 i (x ∷ 0 ∷ l ∷ 6 ∷ put2 0 rest))) + c
unfolding put2
header_sum a b t i x l c rest h = omega arith

pub header_some : (a b : ℕ) (rest : List ℕ) → 0 < a → 0 < words_sum (a ∷ b ∷ rest)
header_some a b rest h = omega arith

-- the header sums with its checksum
summed_right : (service identification flags ttl : ℕ) (options : List ℕ) (d : Segment)
    → sums (spell_as (Ipv4 service identification flags ttl (complement_of (spell_as (Ipv4 service identification flags ttl 0 options) d [])) options) d []) ≡ true
summed_right service identification flags ttl options d =
    let blank = spell_as (Ipv4 service identification flags ttl 0 options) d [] in
    let c = complement_of blank in
    let rest = octets d.source.address ++ (octets d.destination.address ++ (options ++ [])) in
    let full = spell_as (Ipv4 service identification flags ttl c options) d [] in
    let more : words_sum full ≡ words_sum blank + c =
    header_sum (69 + length options / 4) service (20 + length options + tcp_length d) identification (64 * flags) ttl c rest (complement_fits blank) in
    let some : 0 < words_sum blank = header_some (69 + length options / 4) service (put2 (20 + length options + tcp_length d) (put2 identification (64 * flags ∷ 0 ∷ ttl ∷ 6 ∷ put2 0 rest))) (omega arith) in
    is_right full (omega arith) (rw more (complement_completes blank some))

pub laid_fits : (i : IpHeader) (d : Segment) (area : List ℕ) → FitsIp i d → length_in_header i (with_area d area) ≤ 65535
    → FitsIp (summed i (with_area d area)) (record (with_area d area) { ip = summed i (with_area d area) })
laid_fits (Ipv4 service identification flags ttl checksum options) d area f h = record {
  service_fits = f.service_fits;
  identification_fits = f.identification_fits;
  flags_fit = f.flags_fit;
  ttl_fits = f.ttl_fits;
  checksum_fits = complement_fits (spell_as (Ipv4 service identification flags ttl 0 options) (with_area d area) []);
  options_fit = f.options_fit;
  source = f.source;
  destination = f.destination;
  total = omega arith;
  right = summed_right service identification flags ttl options (with_area d area);
}
laid_fits (Ipv6 class_flow hops) d area f h = record {
  class_flow_fits = f.class_flow_fits;
  hops_fit = f.hops_fit;
  source = f.source;
  destination = f.destination;
  total = omega arith;
}

pub relaid_good : (d : Segment) (area : List ℕ) → FitsIp d.ip d → length_in_header d.ip (with_area d area) ≤ 65535 → good (relaid d area) ≡ true
unfolding relaid
relaid_good d area f h = finished_good (record (with_area d area) { ip = summed d.ip (with_area d area) }) (laid_fits d.ip d area f h)

-- ---- what stands in the MAC field isn't covered

covered_with : (area : List ℕ) (s : Sending) (code : List ℕ)
    → covered true (area ++ written_ao s code) (ao_last area s code) ≡ (area ++ (29 ∷ (4 + length code) ∷ s.key_id ∷ s.rnext_key_id ∷ [])) ++ (replicate (length code) 0 ++ [])
covered_with area s code =
    let h = 29 ∷ (4 + length code) ∷ s.key_id ∷ s.rnext_key_id ∷ [] in
    let whole : area ++ written_ao s code ≡ (area ++ h) ++ code = sym (append_assoc area h code) in
    let long_h = length-append area h in
    let long = length-append (area ++ h) code in
    let front : take (length area + 4) (area ++ written_ao s code) ≡ area ++ h =
    ap (take (length area + 4)) whole ∙ take_exact (area ++ h) code (length area + 4) (omega arith) in
    let after : drop (length area + 4 + length code) (area ++ written_ao s code) ≡ [] =
    ap (drop (length area + 4 + length code)) (whole ∙ sym (append-nil ((area ++ h) ++ code))) ∙ drop_exact ((area ++ h) ++ code) [] (length area + 4 + length code) (omega arith) in
    ap (λ (l : List ℕ). l ++ (replicate (length code) 0 ++ drop (length area + 4 + length code) (area ++ written_ao s code))) front
    ∙ ap (λ (l : List ℕ). (area ++ h) ++ (replicate (length code) 0 ++ l)) after

pub covered_same : (flag : Bool) (area : List ℕ) (s : Sending) (one two : List ℕ) → length one ≡ length two
    → covered flag (area ++ written_ao s one) (ao_last area s one) ≡ covered flag (area ++ written_ao s two) (ao_last area s two)
covered_same true area s one two e =
    covered_with area s one ∙ ap (λ (n : ℕ). (area ++ (29 ∷ (4 + n) ∷ s.key_id ∷ s.rnext_key_id ∷ [])) ++ (replicate n 0 ++ [])) e ∙ sym (covered_with area s two)
covered_same false area s one two e = ap (λ (n : ℕ). 29 ∷ (4 + n) ∷ s.key_id ∷ s.rnext_key_id ∷ replicate n 0) e

pseudo_same : (i : IpHeader) (x y d e : Segment) (rest : List ℕ) → d.source ≡ e.source → d.destination ≡ e.destination → tcp_length d ≡ tcp_length e
    → pseudo_of (summed i x) d rest ≡ pseudo_of (summed i y) e rest
pseudo_same (Ipv4 s t f l c o) x y d e rest one two long =
    ap (λ (k : Socket). octets k.address ++ (octets d.destination.address ++ (0 ∷ 6 ∷ put2 (tcp_length d) rest))) one
    ∙ ap (λ (k : Socket). octets e.source.address ++ (octets k.address ++ (0 ∷ 6 ∷ put2 (tcp_length d) rest))) two
    ∙ ap (λ (n : ℕ). octets e.source.address ++ (octets e.destination.address ++ (0 ∷ 6 ∷ put2 n rest))) long
pseudo_same (Ipv6 c h) x y d e rest one two long =
    ap (λ (k : Socket). octets k.address ++ (octets d.destination.address ++ put4 (tcp_length d) (0 ∷ 0 ∷ 0 ∷ 6 ∷ rest))) one
    ∙ ap (λ (k : Socket). octets e.source.address ++ (octets k.address ++ put4 (tcp_length d) (0 ∷ 0 ∷ 0 ∷ 6 ∷ rest))) two
    ∙ ap (λ (n : ℕ). octets e.source.address ++ (octets e.destination.address ++ put4 n (0 ∷ 0 ∷ 0 ∷ 6 ∷ rest))) long

-- a datagram that is laid out again has the pseudo-header and the header by its length and fields
laid_input : (n : ℕ) (i : IpHeader) (x y d e : Segment) (r t : List ℕ) → d.ip ≡ summed i x → e.ip ≡ summed i y → d.source ≡ e.source → d.destination ≡ e.destination
    → tcp_length d ≡ tcp_length e → header d 0 r ≡ header e 0 t → put4 (n / ring) (pseudo d (header d 0 r)) ≡ put4 (n / ring) (pseudo e (header e 0 t))
unfolding pseudo
laid_input n i x y d e r t one two source destination long h =
    ap (λ (l : List ℕ). put4 (n / ring) l) (
    ap (λ (j : IpHeader). pseudo_of j d (header d 0 r)) one
    ∙ pseudo_same i x y d e (header d 0 r) source destination long
    ∙ ap (λ (l : List ℕ). pseudo_of (summed i y) e l) h
    ∙ ap (λ (j : IpHeader). pseudo_of j e (header e 0 t)) (sym two)
    )

-- the headers of two that keep what one has
header_kept : (d x y : Segment) (a b r t : List ℕ) → Keeps d x a → Keeps d y b → length a ≡ length b → r ≡ t → header x 0 r ≡ header y 0 t
unfolding header
header_kept d x y a b r t k l e same =
    let source = k.source ∙ sym l.source in
    let destination = k.destination ∙ sym l.destination in
    let sequence = k.sequence ∙ sym l.sequence in
    let acknowledgement = k.acknowledgement ∙ sym l.acknowledgement in
    let reserved = k.reserved ∙ sym l.reserved in
    let flags = k.flags ∙ sym l.flags in
    let window = k.window ∙ sym l.window in
    let urgent = k.urgent ∙ sym l.urgent in
    let long : length x.area ≡ length y.area = ap (λ (z : List ℕ). length z) k.area_is ∙ e ∙ sym (ap (λ (z : List ℕ). length z) l.area_is) in
    rw (source, destination, sequence, acknowledgement, reserved, flags, window, urgent, long, same) refl

pub same_input : (n : ℕ) (d : Segment) (a b : List ℕ) (p q : Ao) (flag : Bool) → length a ≡ length b → covered flag a p ≡ covered flag b q
    → mac_input n (relaid d a) p flag ≡ mac_input n (relaid d b) q flag
unfolding mac_input
same_input n d a b p q flag e c =
    let k = relaid_keeps d a in
    let l = relaid_keeps d b in
    let x = relaid d a in
    let y = relaid d b in
    let area_long : length x.area ≡ length y.area = ap (λ (z : List ℕ). length z) k.area_is ∙ e ∙ sym (ap (λ (z : List ℕ). length z) l.area_is) in
    let payload : x.payload ≡ y.payload = k.payload ∙ sym l.payload in
    let payload_long : length x.payload ≡ length y.payload = ap (λ (z : List ℕ). length z) payload in
    let covers : covered flag x.area p ≡ covered flag y.area q = ap (λ (z : List ℕ). covered flag z p) k.area_is ∙ c ∙ sym (ap (λ (z : List ℕ). covered flag z q) l.area_is) in
    let rest : covered flag x.area p ++ x.payload ≡ covered flag y.area q ++ y.payload =
    ap (λ (z : List ℕ). z ++ x.payload) covers ∙ ap (λ (z : List ℕ). covered flag y.area q ++ z) payload in
    laid_input n d.ip (with_area d a) (with_area d b) x y (covered flag x.area p ++ x.payload) (covered flag y.area q ++ y.payload) k.ip_is l.ip_is
    (k.source ∙ sym l.source) (k.destination ∙ sym l.destination) (omega arith) (header_kept d x y a b _ _ k l e rest)

-- ---- the number

pub remainder_of : (seq expected n : ℕ) → seq < ring → meant seq expected ≡ Some n → n % ring ≡ seq
unfolding meant
remainder_of seq expected n h e =
    let ahead = (seq + ring - expected % ring) % ring in
    by_tests (nat_lt ahead (2 ^ 31)) (nat_le (ring - ahead) expected) refl refl e
  where
    by_tests : (b c : Bool) → b ≡ nat_lt ((seq + ring - expected % ring) % ring) (2 ^ 31) → c ≡ nat_le (ring - (seq + ring - expected % ring) % ring) expected
        → (if b then Some (expected + (seq + ring - expected % ring) % ring) else (if c then Some (expected - (ring - (seq + ring - expected % ring) % ring)) else None)) ≡ Some n → n % ring ≡ seq
    by_tests true c tb tc e = let is : expected + (seq + ring - expected % ring) % ring ≡ n = cc in omega arith
    by_tests false true tb tc e =
        let is : expected - (ring - (seq + ring - expected % ring) % ring) ≡ n = cc in
        let le : ring - (seq + ring - expected % ring) % ring ≤ expected = grind (arith, nat_tests) in
        omega arith
    by_tests false false tb tc e = absurd (cc)

pub meant_near : (n x : ℕ) → n < x + 2147483648 → x ≤ n + 2147483648 → meant (n % ring) x ≡ Some n
unfolding meant
meant_near n x a b =
    elim (by_order x n) [
      | inl up ↦
          let is : (n % ring + ring - x % ring) % ring ≡ n - x = omega arith in
          let test : nat_lt (n - x) 2147483648 ≡ true = grind (arith, nat_tests) in
          let sum : x + (n - x) ≡ n = omega arith in
          rw (is, test) (ap (λ k. Some k) sum)
      | inr down ↦
          let is : (n % ring + ring - x % ring) % ring ≡ ring - (x - n) = omega arith in
          let test : nat_lt (ring - (x - n)) 2147483648 ≡ false = grind (arith, nat_tests) in
          let back : ring - (ring - (x - n)) ≡ x - n = omega arith in
          let low : nat_le (x - n) x ≡ true = grind (arith, nat_tests) in
          let left : x - (x - n) ≡ n = omega arith in
          rw (is, test, back, low) (ap (λ k. Some k) left)
    ]
  where
    by_order : (x n : ℕ) → (x ≤ n) ⊎ (n < x)
    by_order x n = grind arith

-- ---- the verdict

skips : (b : Bool) (x y : Judgement) → b ≡ false → (if b then x else y) ≡ y
skips true x y e = absurd (cc)
skips false x y e = refl

same_test : (n m : ℕ) → n ≡ m → not (n == m) ≡ false
same_test n m e = grind (arith, nat_tests)

late_test : (n : ℕ) → n ≤ number_limit → nat_lt 9223372036854775808 n ≡ false
late_test n h = grind (arith, nat_tests)

mac_right : (ao : Ao) (p : Finding) → ao.mac ≡ mac_of p → judge_mac ao p ≡ Ok p
mac_right ao p e = let t : same_bytes ao.mac (mac_of p) ≡ true = ap (λ (l : List ℕ). same_bytes ao.mac l) (sym e) ∙ same_bytes-refl ao.mac in rw t refl

-- a row that accepts for the pair is for it
pub accepted_keyed : (rows : List Row) (pair : Pair) (id now n : ℕ) (r : Numbered) → lowest (acceptable_as pair id now) n rows ≡ Some r → is_keyed rows pair ≡ true
accepted_keyed [] pair id now n r e = absurd (cc)
accepted_keyed (x ∷ xs) pair id now n r e = by_match (matches x pair) (receives x.direction && contains x.accepting now) (x.recv_id == id) (accepted_keyed xs pair id now (n + 1) r) e
  where
    by_match : (m a i : Bool) → (lowest (acceptable_as pair id now) (n + 1) xs ≡ Some r → is_keyed xs pair ≡ true)
        → option_or (if (m && a) && i then Some (record { number = n; row = x }) else None) (lowest (acceptable_as pair id now) (n + 1) xs) ≡ Some r → (m || is_keyed xs pair) ≡ true
    by_match true a i later e = refl
    by_match false a i later e = later e

pub passes_through : (rows : List Row) (pair : Pair) (k : Known) (now : ℕ) (d : Segment) (ao : Ao) (r : Numbered) (c : List ℕ) (n : ℕ)
    → find_ao d.area ≡ One ao → accept_row rows pair ao.key_id now ≡ Some r → length ao.mac ≡ mac_length_of r.row.algorithm → context_of d k.peer_isn (Some k.own_isn) ≡ Some c
    → (not (has SYN d) && not (is_some k.expected)) ≡ false → segment_number d k.expected ≡ Some n → n + segment_length d ≤ number_limit → ao.mac ≡ mac_of (found_with r d ao c n)
    → judge rows pair k now d ≡ Ok (found_with r d ao c n)
passes_through rows pair k now d ao r c n found accepted long context heard number ends right =
    let ctx = context_of d k.peer_isn (Some k.own_isn) in
    judge_by_steps rows pair k now d ∙ ap (judge_ao rows pair now k.expected d ctx) found ∙ ap (judge_row rows pair d ao k.expected ctx) accepted
    ∙ skips (not (length ao.mac == mac_length_of r.row.algorithm)) (Err MacLength) (judge_context r d ao k.expected ctx) (same_test _ _ long)
    ∙ ap (judge_context r d ao k.expected) context
    ∙ skips (not (has SYN d) && not (is_some k.expected)) (Err NoContext) (judge_number r d ao c (segment_number d k.expected)) heard
    ∙ ap (judge_number r d ao c) number
    ∙ skips (nat_lt 9223372036854775808 (n + segment_length d)) (Err Range) (judge_mac ao (found_with r d ao c n)) (late_test _ ends)
    ∙ mac_right ao (found_with r d ao c n) right
