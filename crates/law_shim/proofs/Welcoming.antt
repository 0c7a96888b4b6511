-- What an end made is taken by a shim that is ready for it.
use Rattle.std.proofs.Common.{◌≡◌, ℕ, ◌+◌, ◌*◌, ◌/◌, ◌%◌, ◌<◌, ◌≤◌, ◌^◌, ◌&&◌, not, Bool, true, false, List, [], ◌∷◌, ◌++◌, length, Option, Some, None, is_some, Ok, Err, refl, sym, ap, subst, ◌∙◌, arith, if◌then◌else◌}
use Rattle.std.proofs.lemmas.List.{length-replicate}
use Rattle.book_base.specs.declared.address.Pair.{Pair}
use Rattle.book_base.specs.Algorithms.{mac_length_of}
use Rattle.book_segments.specs.Bytes.{put2, put4, ring}
use Rattle.book_segments.specs.Meant.{meant}
use Rattle.book_segments.specs.Options.{Ao, One, find_ao, Plain}
use Rattle.book_segments.specs.Segments.{IpHeader, Ipv4, Ipv6, Segment, Read, has, good, SYN, ACK, tcp_length, pseudo_of, pseudo, header, sums, spell_as}
use Rattle.book_segments.specs.Spelling.{FitsIp, finished, with_sum}
use Rattle.book_segments.proofs.SumLaws.{finished_good}
use Rattle.book_macs.specs.Keys.{traffic_key, mac}
use Rattle.book_macs.specs.MacInput.{covered, mac_input}
use Rattle.book_macs.proofs.LengthLaws.{length-mac, length-traffic_key}
use Rattle.book_keys.specs.Choices.{Numbered}
use Rattle.book_keys.specs.Coordination.{Sending}
use Rattle.book_keys.specs.Plans.{mirrored}
use Rattle.book_keys.specs.Rows.{Row}
use Rattle.book_endpoint.specs.declared.refusal.Refusal.TheVariants.{NoContext as Nothing}
use Rattle.book_endpoint.specs.Arrivals.{from_peer}
use Rattle.book_endpoint.specs.Emissions.{Draft, Emission, Emits, emit, resend, sets, written, written_area, written_ip, ao_place, blank, no_mac, own_ao, seal_of, input_of, sealed, written_ao}
use Rattle.book_endpoint.specs.States.{EndState, own_mss}
use Rattle.book_endpoint.specs.Verdicts.{Finding, Judgement, judge, segment_number, found_with}
use Rattle.book_shim.specs.declared.kept.Kept.{Kept}
use Rattle.book_shim.specs.Keeping.{Setting, is_keyed}
use Rattle.book_shim.specs.Leaving.{ao_last}
use Rattle.book_shim.specs.Relaying.{coming_area, most_mss}
use Rattle.book_shim.specs.Arriving.{judged_arrival, is_awaited, known_for, handed_on, take_in, take_read}
use Rattle.law_shim.proofs.Areas.{ao_found}
use Rattle.law_shim.proofs.Opening.{accepted_keyed, covered_same, meant_near, passes_through}
use Rattle.law_shim.proofs.Sealing.{relaid_keeps}
use Rattle.law_shim.proofs.Emissions.{IsEmission, emitted_is, resent_is}
use Rattle.law_shim.proofs.Runs.{read_fits}
use Rattle.law_shim.specs.Ready.{IsWelcome, IsHandedOn}

-- ---- the options of what an end makes

-- what stands before TCP-AO
abbrev front : Pair → Bool → List ℕ
front pair true = 2 ∷ 4 ∷ put2 (own_mss pair.local.address) []
front pair false = []

area_is : (pair : Pair) (syn : Bool) (s : Sending) (m : List ℕ) → written_area pair syn s m ≡ front pair syn ++ written_ao s m
unfolding put2
area_is pair true s m = refl
area_is pair false s m = refl

place_is : (pair : Pair) (syn : Bool) → ao_place syn ≡ length (front pair syn)
unfolding put2
place_is pair true = refl
place_is pair false = refl

ao_is : (pair : Pair) (out : Draft) (s : Sending) (m : List ℕ) → own_ao out s m ≡ ao_last (front pair (sets out.flags SYN)) s m
ao_is pair out s m = ap (λ (n : ℕ). let a : Ao = record { key_id = s.key_id; rnext_key_id = s.rnext_key_id; mac = m; place = n } in a) (place_is pair (sets out.flags SYN))

found_last : (pair : Pair) (syn : Bool) (s : Sending) (m : List ℕ) → find_ao (front pair syn ++ written_ao s m) ≡ One (ao_last (front pair syn) s m)
unfolding put2
found_last pair true s m =
    let o : Plain = record { kind = 2; body = put2 (own_mss pair.local.address) [] } in
    ao_found (record { blocks = 4; packed = false; bare = false }) 0 (o ∷ []) s m (record { short = λ e. absurd (cc); long = λ e. omega arith }, tt) refl
found_last pair false s m = ao_found (record { blocks = 4; packed = false; bare = false }) 0 [] s m tt refl

-- ---- what its MAC is computed over

pseudo_same : (ip : IpHeader) (d e : Segment) (r t : List ℕ) → d.source ≡ e.source → d.destination ≡ e.destination → tcp_length d ≡ tcp_length e → r ≡ t → pseudo_of ip d r ≡ pseudo_of ip e t
pseudo_same (Ipv4 service identification flags ttl checksum options) d e r t a b n g = rw (a, b, n, g) refl
pseudo_same (Ipv6 class_flow hops) d e r t a b n g = rw (a, b, n, g) refl

-- the input depends on what of the area is covered, not on the MAC or the checksum
input_same : (n : ℕ) (d : Segment) (sum : ℕ) (one two : List ℕ) (p q : Ao) (flag : Bool) → length one ≡ length two → covered flag one p ≡ covered flag two q
    → mac_input n (record d { checksum = sum; area = one }) p flag ≡ mac_input n (record d { area = two }) q flag
unfolding mac_input pseudo header
input_same n d sum one two p q flag len cov =
    let rest : (k : ℕ) (l : List ℕ) → List ℕ = λ k l. put2 d.source.port (put2 d.destination.port (put4 d.sequence (put4 d.acknowledgement
    ((80 + 4 * k + d.reserved) ∷ d.flags ∷ put2 d.window (put2 0 (put2 d.urgent (l ++ d.payload))))))) in
    ap (λ l. put4 (n / ring) l)
    (pseudo_same d.ip (record d { checksum = sum; area = one }) (record d { area = two }) (rest (length one) (covered flag one p)) (rest (length two) (covered flag two q)) refl refl (omega arith)
    (ap (λ (k : ℕ). rest k (covered flag one p)) len ∙ ap (λ (l : List ℕ). rest (length two) l) cov))

area_long : (pair : Pair) (syn : Bool) (s : Sending) (m : List ℕ) → length (written_area pair syn s m) ≡ ao_place syn + 4 + length m
unfolding put2
area_long pair true s m = omega arith
area_long pair false s m = omega arith

covers_same : (pair : Pair) (out : Draft) (s : Sending) (one two : List ℕ) (flag : Bool) → length one ≡ length two
    → covered flag (written_area pair (sets out.flags SYN) s one) (own_ao out s one) ≡ covered flag (written_area pair (sets out.flags SYN) s two) (own_ao out s two)
covers_same pair out s one two flag e =
    let syn = sets out.flags SYN in
    ap (λ (l : List ℕ). covered flag l (own_ao out s one)) (area_is pair syn s one) ∙ ap (λ (a : Ao). covered flag (front pair syn ++ written_ao s one) a) (ao_is pair out s one)
    ∙ (covered_same flag (front pair syn) s one two e
    ∙ sym (ap (λ (l : List ℕ). covered flag l (own_ao out s two)) (area_is pair syn s two) ∙ ap (λ (a : Ao). covered flag (front pair syn ++ written_ao s two) a) (ao_is pair out s two)))

same_input : (pair : Pair) (s : EndState) (out : Draft) (sending : Sending) (m : List ℕ) (n : ℕ) (flag : Bool) → length m ≡ mac_length_of sending.row.algorithm
    → mac_input n (finished (written pair s out sending m)) (own_ao out sending m) flag ≡ mac_input n (blank pair s out sending) (own_ao out sending (no_mac sending)) flag
same_input pair s out sending m n flag e =
    let syn = sets out.flags SYN in
    let none = no_mac sending in
    let same : length m ≡ length none = e ∙ sym (length-replicate (mac_length_of sending.row.algorithm) 0) in
    let d = blank pair s out sending in
    let sum = (finished (written pair s out sending m)).checksum in
    let one = area_long pair syn sending m in
    let two = area_long pair syn sending none in
    ap (λ (k : ℕ). mac_input n (record d { ip = written_ip pair (24 + k + ao_place syn + length out.payload) pair.local.address; checksum = sum; area = written_area pair syn sending m }) (own_ao out sending m) flag) same
    ∙ input_same n d sum (written_area pair syn sending m) (written_area pair syn sending none) (own_ao out sending m) (own_ao out sending none) flag (omega arith) (covers_same pair out sending m none flag same)

-- ---- its checksum

spelled_same : (i : IpHeader) (d : Segment) (c : ℕ) → spell_as i (with_sum d c) [] ≡ spell_as i d []
spelled_same (Ipv4 service identification flags ttl checksum options) d c = refl
spelled_same (Ipv6 class_flow hops) d c = refl

fits_before : (i : IpHeader) (d : Segment) (c : ℕ) → FitsIp i (with_sum d c) → FitsIp i d
fits_before (Ipv4 service identification flags ttl checksum options) d c f = record {
  service_fits = f.service_fits;
  identification_fits = f.identification_fits;
  flags_fit = f.flags_fit;
  ttl_fits = f.ttl_fits;
  checksum_fits = f.checksum_fits;
  options_fit = f.options_fit;
  source = f.source;
  destination = f.destination;
  total = f.total;
  right = ap sums (sym (spelled_same d.ip d c)) ∙ f.right;
}
fits_before (Ipv6 class_flow hops) d c f = record { class_flow_fits = f.class_flow_fits; hops_fit = f.hops_fit; source = f.source; destination = f.destination; total = f.total }

-- ---- it is taken

judged_so : (b : Bool) (j : Judgement) (p : Finding) → b ≡ false → j ≡ Ok p → ◌≡◌ {A = Judgement} (if b then Err Nothing else j) (Ok p)
judged_so true j p e h = absurd (cc)
judged_so false j p e h = h

arrived_so : (here : Setting) (pair : Pair) (g : Kept) (d : Segment) (p : Finding) → (has SYN d && has ACK d && not (is_awaited g d)) ≡ false → judge here.rows pair (known_for g d) here.now d ≡ Ok p → judged_arrival here pair g d ≡ Ok p
unfolding judged_arrival
arrived_so here pair g d p e h = judged_so (has SYN d && has ACK d && not (is_awaited g d)) (judge here.rows pair (known_for g d) here.now d) p e h

taken_so : (here : Setting) (pair : Pair) (g : Kept) (d : Segment) (p : Finding) → is_keyed here.rows pair ≡ true → good d ≡ true → judged_arrival here pair g d ≡ Ok p → from_peer pair d ≡ true
    → take_read here pair g (Read d) ≡ Ok (handed_on here pair g d p)
unfolding take_in
taken_so here pair g d p keyed right judged from = rw (from, keyed, right, judged) refl

expects : (d : Segment) (o : Option ℕ) → (has SYN d ≡ false → (x : ℕ) × (o ≡ Some x)) → (not (has SYN d) && not (is_some o)) ≡ false
expects d o f = by_test (has SYN d) refl
  where
    by_test : (b : Bool) → has SYN d ≡ b → (not b && not (is_some o)) ≡ false
    by_test true e = refl
    by_test false e = ap (λ (x : Option ℕ). not (is_some x)) (f e).1

syn_number : (d : Segment) (o : Option ℕ) → has SYN d ≡ true → segment_number d o ≡ Some d.sequence
syn_number d None syn = refl
syn_number d (Some x) syn = rw syn refl

later_number : (d : Segment) (x : ℕ) → has SYN d ≡ false → segment_number d (Some x) ≡ meant d.sequence x
later_number d x plain = rw plain refl

numbered_so : (d : Segment) (o : Option ℕ) (n : ℕ) → d.sequence ≡ n % ring → (has SYN d ≡ true → n < ring) → (has SYN d ≡ false → (x : ℕ) × (o ≡ Some x) × (n < x + 2 ^ 31) × (x ≤ n + 2 ^ 31)) → segment_number d o ≡ Some n
numbered_so d o n is begins near = by_test (has SYN d) refl
  where
    by_test : (b : Bool) → has SYN d ≡ b → segment_number d o ≡ Some n
    by_test true e = let low = begins e in let same : n % ring ≡ n = omega arith in syn_number d o e ∙ ap (λ (k : ℕ). Some k) (is ∙ same)
    by_test false e = let r = near e in ap (segment_number d) r.1 ∙ (later_number d r.0 e ∙ (ap (λ k. meant k r.0) is ∙ meant_near n r.0 r.2 r.3))

right_code : (a b : Numbered) (one two : List ℕ) (c : List ℕ) → a.row.algorithm ≡ b.row.algorithm → a.row.master ≡ b.row.master → one ≡ two
    → mac b.row.algorithm (traffic_key b.row.algorithm b.row.master c) two ≡ mac a.row.algorithm (traffic_key a.row.algorithm a.row.master c) one
right_code a b one two c x y z = rw (x, y, z) refl

welcomed : (here : Setting) (pair : Pair) (g : Kept) (far : Pair) (s : EndState) (out : Draft) (sending : Sending) (c : List ℕ) → IsWelcome here pair g (sealed far s out sending c) → IsHandedOn here pair g (sealed far s out sending c)
welcomed here pair g far s out sending c w =
    let e = sealed far s out sending c in
    let d = e.segment in
    let code = seal_of far s out sending c in
    let before = written far s out sending code in
    let syn = sets out.flags SYN in
    let ao = own_ao out sending code in
    let long : length code ≡ mac_length_of sending.row.algorithm =
    length-mac sending.row.algorithm (traffic_key sending.row.algorithm sending.row.master c) (input_of far s out sending) (length-traffic_key sending.row.algorithm sending.row.master c) in
    let p = found_with w.row d ao c out.number in
    let found : find_ao d.area ≡ One ao = ap find_ao (area_is far syn sending code) ∙ (found_last far syn sending code ∙ sym (ap (λ (a : Ao). One a) (ao_is far out sending code))) in
    let own : Numbered = record { number = 0; row = sending.row } in
    let input : mac_input out.number d ao w.row.row.with_options ≡ input_of far s out sending =
    ap (λ (b : Bool). mac_input out.number d ao b) w.with_options ∙ same_input far s out sending code out.number sending.row.with_options long in
    let judged = passes_through here.rows pair (known_for g d) here.now d ao w.row c out.number found w.accepted (long ∙ sym (ap mac_length_of w.algorithm)) w.context
    (expects d (known_for g d).expected (λ plain. let r = w.near plain in (r.0, r.1))) (numbered_so d (known_for g d).expected out.number refl w.begins w.near) w.ends
    (right_code w.row own (mac_input out.number d ao w.row.row.with_options) (input_of far s out sending) c w.algorithm w.master input) in
    let k = relaid_keeps d (coming_area (most_mss here.mtu d) d.area) in
    record {
      taken = handed_on here pair g d p;
      takes = λ bytes small read from.
          let fits = read_fits bytes d small read in
          let right : good d ≡ true = finished_good before (fits_before before.ip before d.checksum fits.ip) in
          ap (take_read here pair g) read ∙ taken_so here pair g d p (accepted_keyed here.rows pair sending.key_id here.now 1 w.row w.accepted) right (arrived_so here pair g d p w.awaited judged) from;
      agrees = record {
        source = sym k.source;
        destination = sym k.destination;
        sequence = sym k.sequence;
        acknowledgement = sym k.acknowledgement;
        reserved = sym k.reserved;
        flags = sym k.flags;
        window = sym k.window;
        urgent = sym k.urgent;
        payload = sym k.payload;
      };
      number = refl;
    }

handed_of : (here : Setting) (pair : Pair) (g : Kept) (far : Pair) (e : Emission) → IsEmission far e → IsWelcome here pair g e → IsHandedOn here pair g e
handed_of here pair g far e o w =
    subst (λ (x : Emission). IsHandedOn here pair g x) (sym o.is) (welcomed here pair g far o.state o.draft o.sending o.context (subst (λ (x : Emission). IsWelcome here pair g x) o.is w))

pub next : (here : Setting) (pair : Pair) (g : Kept) (rows : List Row) (now : ℕ) (s : EndState) (e : Emission) → emit rows (mirrored pair) now s ≡ Emits e → IsWelcome here pair g e → IsHandedOn here pair g e
next here pair g rows now s e is w = handed_of here pair g (mirrored pair) e (emitted_is rows (mirrored pair) now s e is) w

pub again : (here : Setting) (pair : Pair) (g : Kept) (rows : List Row) (now : ℕ) (s : EndState) (e : Emission) → resend rows (mirrored pair) now s ≡ Emits e → IsWelcome here pair g e → IsHandedOn here pair g e
again here pair g rows now s e is w = handed_of here pair g (mirrored pair) e (resent_is rows (mirrored pair) now s e is) w
