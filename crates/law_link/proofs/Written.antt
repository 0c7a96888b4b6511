-- A segment in the written form fits, is read again, and its MAC is computed over what it is judged by.
use Rattle.std.proofs.Common.{◌≡◌, ℕ, suc, ◌+◌, ◌*◌, ◌/◌, ◌%◌, ◌<◌, ◌≤◌, Bool, true, false, List, [], ◌∷◌, ◌++◌, length, take, drop, replicate, Option, inl, if◌then◌else◌, refl, sym, ap, ◌∙◌, subst, arith, append-nil}
use Rattle.std.proofs.lemmas.List.{drop_all, length-replicate}
use Rattle.book_base.specs.declared.address.Address.{Address}
use Rattle.book_base.specs.declared.address.Address.TheVariants.{V4, V6}
use Rattle.book_base.specs.declared.address.Socket.{Socket}
use Rattle.book_base.specs.declared.address.Pair.{Pair}
use Rattle.book_base.specs.declared.algorithm.Algorithm.{Algorithm}
use Rattle.book_base.specs.declared.algorithm.Algorithm.TheVariants.{HmacSha1, AesCmac, HmacSha256}
use Rattle.book_base.specs.Algorithms.{mac_length_of}
use Rattle.book_segments.specs.Areas.{IsOpen}
use Rattle.book_segments.specs.Bytes.{put2, put4, ring}
use Rattle.book_segments.specs.Sockets.{octets}
use Rattle.book_segments.specs.Options.{Opt, Listed, Ao, One, AreListed, options_of, find_ao}
use Rattle.book_segments.specs.Segments.{IpHeader, Ipv4, Ipv6, Segment, words_sum, sums, complement_of, tcp_length, pseudo_of, pseudo, header, spell_as, SYN, RST, ACK}
use Rattle.book_segments.specs.Spelling.{AreBytes, IsV4, IsV6, FitsIp, Fits, finished}
use Rattle.book_segments.proofs.AreaLaws.{area_is}
use Rattle.book_segments.proofs.ByteLaws.{two_back, nil_bytes}
use Rattle.book_segments.proofs.SumLaws.{complement_fits, complement_completes, is_right}
use Rattle.book_macs.specs.Contexts.{context_of}
use Rattle.book_macs.specs.MacInput.{covered, mac_input}
use Rattle.book_keys.specs.Coordination.{Sending}
use Rattle.book_endpoint.specs.States.{EndState, window, own_mss}
use Rattle.book_endpoint.specs.Emissions.{Draft, sets, ip_words, written_ip, written_area, ao_place, written, no_mac, blank, own_ao}
use Rattle.law_link.specs.Laws.{AddressesFit}
use Rattle.law_link.proofs.ByteLists.{Byted, cons, two, PairFits}
use Rattle.law_link.proofs.Drafts.{DraftOk}

-- ---- the IP header

right_header : (S D : List ℕ) (total : ℕ) → let words = 69 ∷ 0 ∷ put2 total (0 ∷ 0 ∷ 64 ∷ 0 ∷ 64 ∷ 6 ∷ 0 ∷ 0 ∷ S ++ D) in
    sums (69 ∷ 0 ∷ put2 total (put2 0 (64 ∷ 0 ∷ 64 ∷ 6 ∷ put2 (complement_of words) (S ++ (D ++ []))))) ≡ true
unfolding put2
right_header S D total =
    let words : List ℕ = 69 ∷ 0 ∷ total / 256 % 256 ∷ total % 256 ∷ 0 ∷ 0 ∷ 64 ∷ 0 ∷ 64 ∷ 6 ∷ 0 ∷ 0 ∷ S ++ D in
    let c : ℕ = complement_of words in
    let same : S ++ (D ++ []) ≡ S ++ D = ap (λ (l : List ℕ). S ++ l) (append-nil D) in
    let whole : List ℕ = 69 ∷ 0 ∷ total / 256 % 256 ∷ total % 256 ∷ 0 ∷ 0 ∷ 64 ∷ 0 ∷ 64 ∷ 6 ∷ c / 256 % 256 ∷ c % 256 ∷ (S ++ (D ++ [])) in
    let n : words_sum whole ≡ words_sum words + c = omega (arith, ap words_sum same, two_back c (complement_fits words)) in
    let p : 0 < words_sum words = omega arith in
    is_right whole (omega (arith, n, p)) (rw n (complement_completes words p))

v4_right : (pair : Pair) (b : List ℕ) (size : ℕ) (d : Segment) → d.source ≡ pair.local → d.destination ≡ pair.remote → tcp_length d ≡ size → sums (spell_as (written_ip pair size (V4 b)) d []) ≡ true
v4_right pair b size d es ed e =
    let c : ℕ = complement_of (ip_words pair (20 + size)) in
    let shape : (src dst : Socket) (n : ℕ) → List ℕ = λ src dst n. 69 ∷ 0 ∷ put2 (20 + n) (put2 0 (64 ∷ 0 ∷ 64 ∷ 6 ∷ put2 c (octets src.address ++ (octets dst.address ++ [])))) in
    ap (λ (k : Socket). sums (shape k d.destination (tcp_length d))) es
    ∙ ap (λ (k : Socket). sums (shape pair.local k (tcp_length d))) ed
    ∙ ap (λ (n : ℕ). sums (shape pair.local pair.remote n)) e
    ∙ right_header (octets pair.local.address) (octets pair.remote.address) (20 + size)

ip_fits : (a c : Address) (pair : Pair) (size : ℕ) (d : Segment) → pair.local.address ≡ a → pair.remote.address ≡ c → AddressesFit a c → d.source ≡ pair.local → d.destination ≡ pair.remote
    → d.ip ≡ written_ip pair size a → tcp_length d ≡ size → size < 65000 → FitsIp (written_ip pair size a) d
ip_fits (V4 x) (V4 y) pair size d ea ec f es ed ei e small =
    record {
      service_fits = omega arith;
      identification_fits = omega arith;
      flags_fit = omega arith;
      ttl_fits = omega arith;
      checksum_fits = complement_fits (ip_words pair (20 + size));
      options_fit = record { words = refl; most = omega arith; bytes = nil_bytes };
      source = subst IsV4 (sym (ap (λ (k : Socket). k.address) es ∙ ea)) f.0;
      destination = subst IsV4 (sym (ap (λ (k : Socket). k.address) ed ∙ ec)) f.1;
      total = omega arith;
      right = ap (λ (ip : IpHeader). sums (spell_as ip d [])) ei ∙ v4_right pair x size d es ed e;
    }
ip_fits (V6 x) (V6 y) pair size d ea ec f es ed ei e small =
    record {
      class_flow_fits = omega arith;
      hops_fit = omega arith;
      source = subst IsV6 (sym (ap (λ (k : Socket). k.address) es ∙ ea)) f.0;
      destination = subst IsV6 (sym (ap (λ (k : Socket). k.address) ed ∙ ec)) f.1;
      total = omega arith;
    }
ip_fits (V4 x) (V6 y) pair size d ea ec f es ed ei e small = absurd f
ip_fits (V6 x) (V4 y) pair size d ea ec f es ed ei e small = absurd f

-- ---- the option area

abbrev ao_option : ℕ → Sending → List ℕ → Opt
ao_option place sending m = record { kind = 29; body = sending.key_id ∷ sending.rnext_key_id ∷ m; place = place }

-- the options of an area: the maximum segment size with SYN, and TCP-AO
abbrev options_in : Pair → Bool → Sending → List ℕ → List Opt
options_in pair true sending m = record { kind = 2; body = put2 (own_mss pair.local.address) []; place = 0 } ∷ ao_option 4 sending m ∷ []
options_in pair false sending m = ao_option 0 sending m ∷ []

ao_open : (place : ℕ) (sending : Sending) (m : List ℕ) → IsOpen (ao_option place sending m)
ao_open place sending m = record { kind = omega arith; short = λ s. absurd (omega arith); long = λ s. omega arith }

area_options : (pair : Pair) (syn : Bool) (sending : Sending) (m : List ℕ) → options_of (written_area pair syn sending m) ≡ Listed (options_in pair syn sending m)
unfolding put2
area_options pair true sending m =
    let size : 4 + length m ≡ 2 + suc (suc (length m)) = omega arith in
    let mss = own_mss pair.local.address in
    let k = sending.key_id in
    let r = sending.rnext_key_id in
    area_is (options_in pair true sending m) [] (written_area pair true sending m)
    (inl (
      (record { kind = omega arith; short = λ s. absurd (omega arith); long = λ s. omega arith }, refl, (ao_open 4 sending m, refl, tt)),
      refl,
      ap (λ (n : ℕ). 2 ∷ 4 ∷ mss / 256 % 256 ∷ mss % 256 ∷ 29 ∷ n ∷ k ∷ r ∷ m) size
          ∙ ap (λ (l : List ℕ). 2 ∷ 4 ∷ mss / 256 % 256 ∷ mss % 256 ∷ 29 ∷ (2 + suc (suc (length m))) ∷ k ∷ r ∷ l) (sym (append-nil m)),
    ))
area_options pair false sending m =
    let size : 4 + length m ≡ 2 + suc (suc (length m)) = omega arith in
    let k = sending.key_id in
    let r = sending.rnext_key_id in
    area_is (options_in pair false sending m) [] (written_area pair false sending m)
    (inl (
      (ao_open 0 sending m, refl, tt),
      refl,
      ap (λ (n : ℕ). 29 ∷ n ∷ k ∷ r ∷ m) size ∙ ap (λ (l : List ℕ). 29 ∷ (2 + suc (suc (length m))) ∷ k ∷ r ∷ l) (sym (append-nil m)),
    ))

-- the TCP-AO option of the written form is found
pub area_ao : (pair : Pair) (syn : Bool) (sending : Sending) (m : List ℕ)
    → find_ao (written_area pair syn sending m) ≡ One (record { key_id = sending.key_id; rnext_key_id = sending.rnext_key_id; mac = m; place = ao_place syn })
unfolding find_ao put2
area_ao pair true sending m = rw (area_options pair true sending m) refl
area_ao pair false sending m = rw (area_options pair false sending m) refl

area_listed : (pair : Pair) (syn : Bool) (sending : Sending) (m : List ℕ) → AreListed (options_of (written_area pair syn sending m))
area_listed pair syn sending m = subst AreListed (sym (area_options pair syn sending m)) tt

area_long : (pair : Pair) (syn : Bool) (sending : Sending) (m : List ℕ) → length (written_area pair syn sending m) ≡ 4 + length m + ao_place syn
unfolding put2
area_long pair true sending m = omega arith
area_long pair false sending m = omega arith

-- the lengths of MACs: whole words, four at most
pub mac_words : (a : Algorithm) → (mac_length_of a % 4 ≡ 0) × (mac_length_of a ≤ 16)
mac_words HmacSha1 = (refl, omega arith)
mac_words AesCmac = (refl, omega arith)
mac_words HmacSha256 = (refl, omega arith)

area_words : (syn : Bool) (n k : ℕ) → k ≡ 4 + n + ao_place syn → n % 4 ≡ 0 → n ≤ 16 → (k % 4 ≡ 0) × (k ≤ 40)
area_words true n k e words most = (omega arith, omega arith)
area_words false n k e words most = (omega arith, omega arith)

area_bytes : (pair : Pair) (syn : Bool) (sending : Sending) (m : List ℕ) → sending.key_id < 256 → sending.rnext_key_id < 256 → length m ≤ 16 → AreBytes m → Byted (written_area pair syn sending m)
area_bytes pair true sending m key next short h =
    cons _ _ (omega arith) (cons _ _ (omega arith) (two (own_mss pair.local.address) _ (cons _ _ (omega arith) (cons _ _ (omega arith) (cons _ _ key (cons _ m next (record { at = h })))))))
area_bytes pair false sending m key next short h = cons _ _ (omega arith) (cons _ _ (omega arith) (cons _ _ key (cons _ m next (record { at = h }))))

-- ---- the segment

small_if : (b : Bool) (x y k : ℕ) → x < k → y < k → (if b then x else y) < k
small_if true x y k h g = h
small_if false x y k h g = g

place_low : (syn : Bool) → ao_place syn ≤ 4
place_low true = omega arith
place_low false = omega arith

-- a segment in the written form fits
pub written_fits : (pair : Pair) (s t : EndState) (out : Draft) (sending : Sending) (m : List ℕ) → PairFits pair → DraftOk t out → sending.key_id < 256 → sending.rnext_key_id < 256 → length m % 4 ≡ 0 → length m ≤ 16 → AreBytes m
    → Fits (written pair s out sending m)
written_fits pair s t out sending m fits ok key next four_each short bytes =
    let syn = sets out.flags SYN in
    let long = area_long pair syn sending m in
    let words = area_words syn (length m) (length (written_area pair syn sending m)) long four_each short in
    let size : ℕ = 24 + length m + ao_place syn + length out.payload in
    let place = place_low syn in
    let most = ok.long in
    record {
      ip = ip_fits pair.local.address pair.remote.address pair size (written pair s out sending m) refl refl fits.family refl refl refl (omega arith) (omega arith);
      source_port = fits.local_port;
      destination_port = fits.remote_port;
      sequence = omega arith;
      acknowledgement = small_if (sets out.flags ACK) (s.expected % ring) 0 ring (omega arith) (omega arith);
      reserved = omega arith;
      flags = ok.flags;
      window = small_if (sets out.flags RST) 0 _ 65536 (omega arith) (small_if (sets out.flags ACK) (window s) 65535 65536 (omega arith) (omega arith));
      checksum = omega arith;
      urgent = omega arith;
      area = record { words = words.0; most = words.1; bytes = (area_bytes pair syn sending m key next short bytes).at };
      listed = area_listed pair syn sending m;
      payload = ok.bytes;
    }

-- ---- what the MAC is computed over

-- the front of the area, by the length of the MAC alone
abbrev area_front : Pair → Bool → Sending → ℕ → List ℕ
area_front pair true sending k = 2 ∷ 4 ∷ put2 (own_mss pair.local.address) (29 ∷ (4 + k) ∷ sending.key_id ∷ sending.rnext_key_id ∷ [])
area_front pair false sending k = 29 ∷ (4 + k) ∷ sending.key_id ∷ sending.rnext_key_id ∷ []

-- what is covered, by the length of the MAC alone
abbrev covered_by : Pair → Bool → Sending → Bool → ℕ → List ℕ
covered_by pair syn sending true k = area_front pair syn sending k ++ (replicate k 0 ++ [])
covered_by pair syn sending false k = 29 ∷ (4 + k) ∷ sending.key_id ∷ sending.rnext_key_id ∷ replicate k 0

area_front-is : (pair : Pair) (syn : Bool) (sending : Sending) (m : List ℕ) → take (ao_place syn + 4) (written_area pair syn sending m) ≡ area_front pair syn sending (length m)
unfolding put2
area_front-is pair true sending m = refl
area_front-is pair false sending m = refl

area_back : (pair : Pair) (syn : Bool) (sending : Sending) (m : List ℕ) → drop (ao_place syn + 4 + length m) (written_area pair syn sending m) ≡ []
area_back pair syn sending m =
    let long = area_long pair syn sending m in drop_all (ao_place syn + 4 + length m) (written_area pair syn sending m) (omega arith)

cover : (pair : Pair) (syn : Bool) (sending : Sending) (flag : Bool) (m : List ℕ)
    → covered flag (written_area pair syn sending m) (record { key_id = sending.key_id; rnext_key_id = sending.rnext_key_id; mac = m; place = ao_place syn }) ≡ covered_by pair syn sending flag (length m)
cover pair syn sending true m =
    ap (λ (l : List ℕ). take (ao_place syn + 4) (written_area pair syn sending m) ++ (replicate (length m) 0 ++ l)) (area_back pair syn sending m)
    ∙ ap (λ (l : List ℕ). l ++ (replicate (length m) 0 ++ [])) (area_front-is pair syn sending m)
cover pair syn sending false m = refl

pseudo_same : (ip : IpHeader) (d e : Segment) (r t : List ℕ) → d.source ≡ e.source → d.destination ≡ e.destination → tcp_length d ≡ tcp_length e → r ≡ t → pseudo_of ip d r ≡ pseudo_of ip e t
pseudo_same (Ipv4 service identification flags ttl checksum options) d e r t a b n g =
    ap (λ (k : Socket). octets k.address ++ (octets d.destination.address ++ (0 ∷ 6 ∷ put2 (tcp_length d) r))) a
    ∙ ap (λ (k : Socket). octets e.source.address ++ (octets k.address ++ (0 ∷ 6 ∷ put2 (tcp_length d) r))) b
    ∙ ap (λ (k : ℕ). octets e.source.address ++ (octets e.destination.address ++ (0 ∷ 6 ∷ put2 k r))) n
    ∙ ap (λ (l : List ℕ). octets e.source.address ++ (octets e.destination.address ++ (0 ∷ 6 ∷ put2 (tcp_length e) l))) g
pseudo_same (Ipv6 class_flow hops) d e r t a b n g =
    ap (λ (k : Socket). octets k.address ++ (octets d.destination.address ++ put4 (tcp_length d) (0 ∷ 0 ∷ 0 ∷ 6 ∷ r))) a
    ∙ ap (λ (k : Socket). octets e.source.address ++ (octets k.address ++ put4 (tcp_length d) (0 ∷ 0 ∷ 0 ∷ 6 ∷ r))) b
    ∙ ap (λ (k : ℕ). octets e.source.address ++ (octets e.destination.address ++ put4 k (0 ∷ 0 ∷ 0 ∷ 6 ∷ r))) n
    ∙ ap (λ (l : List ℕ). octets e.source.address ++ (octets e.destination.address ++ put4 (tcp_length e) (0 ∷ 0 ∷ 0 ∷ 6 ∷ l))) g

-- the input depends on what of the area is covered, not on the MAC or the checksum
input_same : (n : ℕ) (d : Segment) (sum : ℕ) (one two : List ℕ) (p q : Ao) (flag : Bool) → length one ≡ length two → covered flag one p ≡ covered flag two q
    → mac_input n (record d { checksum = sum; area = one }) p flag ≡ mac_input n (record d { area = two }) q flag
unfolding mac_input pseudo header
input_same n d sum one two p q flag len cov =
    let rest : (k : ℕ) (l : List ℕ) → List ℕ = λ k l. put2 d.source.port (put2 d.destination.port (put4 d.sequence (put4 d.acknowledgement
    ((80 + 4 * k + d.reserved) ∷ d.flags ∷ put2 d.window (put2 0 (put2 d.urgent (l ++ d.payload))))))) in
    ap (λ l. put4 (n / ring) l)
    (pseudo_same d.ip (record d { checksum = sum; area = one }) (record d { area = two }) (rest (length one) (covered flag one p)) (rest (length two) (covered flag two q)) refl refl (omega arith)
    (ap (λ (k : ℕ). rest k (covered flag one p)) len ∙ ap (λ (l : List ℕ). rest (length two) l) cov))

-- what a segment is judged by is what its MAC was computed over
pub same_input : (pair : Pair) (s : EndState) (out : Draft) (sending : Sending) (m : List ℕ) (n : ℕ) (flag : Bool) → length m ≡ mac_length_of sending.row.algorithm
    → mac_input n (finished (written pair s out sending m)) (own_ao out sending m) flag ≡ mac_input n (blank pair s out sending) (own_ao out sending (no_mac sending)) flag
same_input pair s out sending m n flag e =
    let syn = sets out.flags SYN in
    let zero_mac = no_mac sending in
    let same : length m ≡ length zero_mac = e ∙ sym (length-replicate (mac_length_of sending.row.algorithm) 0) in
    let d = blank pair s out sending in
    let sum = (finished (written pair s out sending m)).checksum in
    let one = area_long pair syn sending m in
    let two = area_long pair syn sending zero_mac in
    ap (λ (k : ℕ). mac_input n (record d { ip = written_ip pair (24 + k + ao_place syn + length out.payload) pair.local.address; checksum = sum; area = written_area pair syn sending m }) (own_ao out sending m) flag) same
    ∙ input_same n d sum (written_area pair syn sending m) (written_area pair syn sending zero_mac) (own_ao out sending m) (own_ao out sending zero_mac) flag
    (omega arith) (cover pair syn sending flag m ∙ ap (covered_by pair syn sending flag) same ∙ sym (cover pair syn sending flag zero_mac))

-- the context of a segment doesn't depend on its MAC
pub same_context : (pair : Pair) (s : EndState) (out : Draft) (sending : Sending) (m : List ℕ) (source destination : Option ℕ)
    → context_of (finished (written pair s out sending m)) source destination ≡ context_of (blank pair s out sending) source destination
unfolding context_of
same_context pair s out sending m source destination = refl
