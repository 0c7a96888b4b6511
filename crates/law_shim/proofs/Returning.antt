-- What one guard seals comes out of the other.
use Rattle.std.proofs.Common.{◌≡◌, ℕ, ◌+◌, ◌-◌, ◌%◌, ◌<◌, ◌≤◌, ◌&&◌, ◌||◌, not, Bool, true, false, List, [], ◌∷◌, ◌++◌, length, replicate, Option, Some, None, Ok, Err, refl, sym, ap, subst, ◌∙◌, arith, length-append, if◌then◌else◌}
use Rattle.std.specs.Prelude.{is_some, ◌/◌, ◌==◌, flat_map}
use Rattle.std.specs.List.{list_any, AllByRecursion}
use Rattle.std.proofs.lemmas.List.{append-nil}
use Rattle.std.proofs.lemmas.Bool.Decides.{nat_tests}
use Rattle.book_base.specs.declared.address.Pair.{Pair}
use Rattle.book_base.specs.declared.algorithm.Algorithm.{Algorithm}
use Rattle.book_base.specs.Algorithms.{mac_length_of}
use Rattle.book_base.specs.Results.{◌>>=◌}
use Rattle.book_segments.specs.Bytes.{ring}
use Rattle.book_segments.specs.Meant.{meant}
use Rattle.book_segments.specs.Options.{Ao, One, find_ao, AreListed, Options, Plain, plains, listed, options_of}
use Rattle.book_segments.specs.Segments.{IpHeader, Ipv4, Ipv6, Segment, Reading, Read, reading, tcp_length, has, good, SYN, ACK, segment_length}
use Rattle.book_segments.specs.Spelling.{Fits}
use Rattle.book_macs.specs.MacInput.{mac_input}
use Rattle.book_macs.specs.Keys.{traffic_key, mac}
use Rattle.book_macs.proofs.LengthLaws.{length-mac, length-traffic_key}
use Rattle.book_keys.specs.Rows.{Row}
use Rattle.book_keys.specs.Coordination.{Sending}
use Rattle.book_endpoint.specs.declared.refusal.Refusal.TheVariants.{NoContext}
use Rattle.book_endpoint.specs.States.{number_limit}
use Rattle.book_endpoint.specs.Verdicts.{Finding, Judgement, judge, found_with, segment_number}
use Rattle.book_endpoint.specs.Emissions.{ao_length, written_ao, no_mac}
use Rattle.book_endpoint.specs.Arrivals.{from_peer}
use Rattle.book_shim.specs.declared.kept.Kept.{Kept}
use Rattle.book_shim.specs.declared.refusal.Untaken.TheVariants.{Unkeyed, Checksum}
use Rattle.book_shim.specs.Keeping.{Setting, demand, is_keyed}
use Rattle.book_shim.specs.Relaying.{spelled, going, coming, in_words, rewritten, fitted, relaid, with_area, length_in_header, coming_area, most_mss}
use Rattle.book_shim.specs.declared.trim.Trim.{Trim}
use Rattle.book_shim.specs.Leaving.{Sealed, entered, kept_for, signs, send_sealed, as_sent, with_ao, ao_last, input_for, code_for}
use Rattle.book_shim.specs.Arriving.{Opened, as_taken, judged_arrival, is_awaited, known_for, handed_on, take_in, take_read}
use Rattle.law_shim.specs.Origins.{AgreesWith, IsMet, ComesOut}
use Rattle.law_shim.proofs.Areas.{IsOpenPlain, IsNot, written_listed, plains_placed, written_append, unsigned, ao_plain, front, front_written, whole_written, whole_open, front_open, front_not, listed_plain, ao_found}
use Rattle.law_shim.proofs.Sealing.{fitted_words, sends, IsFitted, is_fitted, Keeps, relaid_keeps, sent_keeps, no_code_long}
use Rattle.law_shim.proofs.Sums.{sent_good, input_sent}
use Rattle.law_shim.proofs.Opening.{covered_same, same_input, remainder_of, meant_near, accepted_keyed, passes_through}

rewritten_is : (k : Trim) (area : List ℕ)
    → rewritten (going k) area ≡ flat_map (going k) (plains (listed (options_of area))) ++ replicate ((4 - length (flat_map (going k) (plains (listed (options_of area)))) % 4) % 4) 1
unfolding rewritten
rewritten_is k area = refl

-- the TCP-AO option is found after what fits
pub fitted_found : (d : Segment) (area : List ℕ) (s : Sending) (code : List ℕ) → Fits d → list_any signs (plains (listed (options_of d.area))) ≡ false
    → IsFitted (40 - ao_length s) d.area area → find_ao (area ++ written_ao s code) ≡ One (ao_last area s code)
fitted_found d area s code f none fit =
    let os = plains (listed (options_of d.area)) in
    let w = flat_map (going fit.trim) os in
    let n = (4 - length w % 4) % 4 in
    let is : area ≡ w ++ replicate n 1 = fit.is ∙ rewritten_is fit.trim d.area in
    subst (λ (a : List ℕ). find_ao (a ++ written_ao s code) ≡ One (ao_last a s code)) (sym is) (ao_found fit.trim n os s code (listed_plain d.area f.listed) none)

told_same : (i : IpHeader) (d e : Segment) → tcp_length d ≡ tcp_length e → length_in_header i d ≡ length_in_header i e
told_same (Ipv4 a b c f g o) d e h = ap (λ (n : ℕ). 20 + length o + n) h
told_same (Ipv6 a b) d e h = h

-- with SYN nothing need be expected
heard_by : (b : Bool) (x : Option ℕ) → (b ≡ false → (y : ℕ) × (x ≡ Some y)) → (not b && not (is_some x)) ≡ false
heard_by true x h = refl
heard_by false x h = ap (λ (o : Option ℕ). not (is_some o)) (h refl).1

-- the number by cases on SYN
with_syn : (b : Bool) (d : Segment) (x : Option ℕ) → has SYN d ≡ b → b ≡ true → segment_number d x ≡ Some d.sequence
with_syn b d None h e = refl
with_syn b d (Some y) h e = rw (h ∙ e) refl

without_syn : (d : Segment) (x : Option ℕ) (y : ℕ) → has SYN d ≡ false → x ≡ Some y → segment_number d x ≡ meant d.sequence y
without_syn d x y h e = ap (segment_number d) e ∙ (rw h refl)

some_is : (a b : ℕ) → Some a ≡ Some b → a ≡ b
some_is a b e = cc

number_by : (b : Bool) (d e : Segment) (sent n : ℕ) (x : Option ℕ) → has SYN d ≡ b → has SYN e ≡ b → e.sequence ≡ d.sequence → d.sequence < ring → segment_number d (Some sent) ≡ Some n
    → (b ≡ false → (y : ℕ) × (x ≡ Some y) × (n < y + 2147483648) × (y ≤ n + 2147483648)) → segment_number e x ≡ Some n
number_by true d e sent n x hd he same fits sender near =
    with_syn true e x he refl ∙ ap (λ (k : ℕ). Some k) same ∙ sym (with_syn true d (Some sent) hd refl) ∙ sender
number_by false d e sent n x hd he same fits sender near =
    let r = near refl in
    let m : meant d.sequence sent ≡ Some n = sym (without_syn d (Some sent) sent hd refl) ∙ sender in
    let rem = remainder_of d.sequence sent n fits m in
    without_syn e x r.0 he r.1 ∙ ap (λ (k : ℕ). meant k r.0) (same ∙ sym rem) ∙ meant_near n r.0 r.2 r.3

judged_so : (b : Bool) (j : Judgement) (p : Finding) → b ≡ false → j ≡ Ok p → ◌≡◌ {A = Judgement} (if b then Err NoContext else j) (Ok p)
judged_so true j p e h = absurd (cc)
judged_so false j p e h = h

is_judged : (here : Setting) (pair : Pair) (g : Kept) (d : Segment) (p : Finding) → (has SYN d && has ACK d && not (is_awaited g d)) ≡ false
    → judge here.rows pair (known_for g d) here.now d ≡ Ok p → judged_arrival here pair g d ≡ Ok p
unfolding judged_arrival
is_judged here pair g d p e h = judged_so (has SYN d && has ACK d && not (is_awaited g d)) (judge here.rows pair (known_for g d) here.now d) p e h

taken_so : (k b : Bool) (j : Judgement) (p : Finding) (f : Finding → Opened) → k ≡ true → b ≡ true → j ≡ Ok p
    → (demand k Unkeyed >>= λ keyed. demand b Checksum >>= λ right. as_taken j >>= λ q. Ok (f q)) ≡ Ok (f p)
taken_so k b j p f i e h = rw (i, e, h) refl

is_taken : (here : Setting) (pair : Pair) (g : Kept) (d : Segment) (p : Finding) → is_keyed here.rows pair ≡ true → good d ≡ true → judged_arrival here pair g d ≡ Ok p
    → take_in here pair g d ≡ Ok (handed_on here pair g d p)
unfolding take_in
is_taken here pair g d p k e h = taken_so (is_keyed here.rows pair) (good d) (judged_arrival here pair g d) p (λ q. handed_on here pair g d q) k e h

-- the MAC is right
code_right : (r : Row) (s : Sending) (context : List ℕ) (one two : List ℕ) → r.algorithm ≡ s.row.algorithm → r.master ≡ s.row.master → one ≡ two
    → code_for s context one ≡ mac r.algorithm (traffic_key r.algorithm r.master context) two
code_right r s context one two a m e =
    ap (λ (l : List ℕ). code_for s context l) e
    ∙ ap (λ (x : Algorithm). mac x (traffic_key x s.row.master context) two) (sym a)
    ∙ ap (λ (x : List ℕ). mac r.algorithm (traffic_key r.algorithm x context) two) (sym m)

is_inbound : (here : Setting) (pair : Pair) (g : Kept) (d : Segment) (t : Opened) (b : Bool) (r : Reading) → from_peer pair d ≡ b → b ≡ true → r ≡ Read d → take_in here pair g d ≡ Ok t
    → take_read here pair g r ≡ Ok t
is_inbound here pair g d t b r p q e h = ap (take_read here pair g) e ∙ (rw (p ∙ q) h)

-- ---- the options

whole_words : (xs : List ℕ) → length xs % 4 ≡ 0 → in_words xs ≡ xs
whole_words xs h =
    let none : (4 - length xs % 4) % 4 ≡ 0 = omega arith in
    ap (λ (n : ℕ). xs ++ replicate n 1) none ∙ append-nil xs

rewritten_by : (w : Plain → List ℕ) (area : List ℕ) (ps : List Plain) → plains (listed (options_of area)) ≡ ps → rewritten w area ≡ in_words (flat_map w ps)
unfolding rewritten
rewritten_by w area ps e = ap (λ (l : List Plain). in_words (flat_map w l)) e

written_plains : (qs : List Plain) → AllByRecursion IsOpenPlain qs → plains (listed (options_of (flat_map spelled qs))) ≡ qs
written_plains qs h = ap (λ (o : Options). plains (listed o)) (written_listed qs h) ∙ plains_placed 0 qs

ao_comes : (most : Option ℕ) (s : Sending) (code : List ℕ) → flat_map (coming most) (ao_plain s code ∷ []) ≡ []
ao_comes most s code = refl

-- without TCP-AO the options come in as those in front of it would
front_comes : (most : Option ℕ) (qs : List Plain) (s : Sending) (code : List ℕ) → AllByRecursion IsOpenPlain (qs ++ ao_plain s code ∷ []) → AllByRecursion IsOpenPlain qs
    → rewritten (coming most) (flat_map spelled (qs ++ ao_plain s code ∷ [])) ≡ rewritten (coming most) (flat_map spelled qs)
front_comes most qs s code h k =
    rewritten_by (coming most) (flat_map spelled (qs ++ ao_plain s code ∷ [])) (qs ++ ao_plain s code ∷ []) (written_plains (qs ++ ao_plain s code ∷ []) h)
    ∙ ap in_words (written_append (coming most) qs (ao_plain s code ∷ []) ∙ ap (λ (l : List ℕ). flat_map (coming most) qs ++ l) (ao_comes most s code) ∙ append-nil (flat_map (coming most) qs))
    ∙ sym (rewritten_by (coming most) (flat_map spelled qs) qs (written_plains qs k))

-- a segment without SYN has no maximum segment size to lower
no_most : (mtu : ℕ) (d : Segment) → has SYN d ≡ false → most_mss mtu d ≡ None
no_most mtu d e = rw e refl

comes_by : (a b : Bool) (o : Plain) → a ≡ false → b ≡ false → (if a || b then [] else spelled o) ≡ spelled o
comes_by true b o e f = absurd (cc)
comes_by false true o e f = absurd (cc)
comes_by false false o e f = refl

above_zero : (n : ℕ) → 0 < n → (n == 0) ≡ false
above_zero n h = grind (arith, nat_tests)

-- without SYN each stays
stays : (qs : List Plain) → AllByRecursion IsOpenPlain qs → AllByRecursion (IsNot 29) qs → flat_map (coming None) qs ≡ flat_map spelled qs
stays [] h k = refl
stays (o ∷ os) h k =
    ap (λ (l : List ℕ). l ++ flat_map (coming None) os) (comes_by (o.kind == 0) (o.kind == 29) o (above_zero o.kind h.0.kind) k.0)
    ∙ ap (λ (l : List ℕ). spelled o ++ l) (stays os h.1 k.1)

front_stays : (qs : List Plain) → AllByRecursion IsOpenPlain qs → AllByRecursion (IsNot 29) qs → length (flat_map spelled qs) % 4 ≡ 0
    → rewritten (coming None) (flat_map spelled qs) ≡ flat_map spelled qs
front_stays qs h k w =
    rewritten_by (coming None) (flat_map spelled qs) qs (written_plains qs h) ∙ ap in_words (stays qs h k) ∙ whole_words (flat_map spelled qs) w

pub record Options_ (d : Segment) (area : List ℕ) (s : Sending) (code : List ℕ) : Type 0 where
  pub come : (most : Option ℕ) → coming_area most (area ++ written_ao s code) ≡ coming_area most area
  pub stay : coming_area None area ≡ area

pub fitted_options : (d : Segment) (area : List ℕ) (s : Sending) (code : List ℕ) → Fits d → list_any signs (plains (listed (options_of d.area))) ≡ false
    → IsFitted (40 - ao_length s) d.area area → length area % 4 ≡ 0 → Options_ d area s code
fitted_options d area s code f none fit w =
    let os = plains (listed (options_of d.area)) in
    let k = fit.trim in
    let n = (4 - length (flat_map (going k) os) % 4) % 4 in
    let qs = front k n os in
    let is : area ≡ flat_map spelled qs = fit.is ∙ rewritten_is k d.area ∙ sym (front_written k n os) in
    let plain = listed_plain d.area f.listed in
    let open_all = whole_open k n os s code plain in
    let open_front = front_open k n os plain in
    let u = unsigned os none in
    let not_ao = front_not 29 k n os refl refl u.0 in
    let all_is : area ++ written_ao s code ≡ flat_map spelled (qs ++ ao_plain s code ∷ []) =
    ap (λ (l : List ℕ). l ++ written_ao s code) (is ∙ front_written k n os) ∙ sym (whole_written k n os s code) in
    record {
      come = λ most. ap (λ (l : List ℕ). coming_area most l) all_is ∙ front_comes most qs s code open_all open_front ∙ ap (λ (l : List ℕ). coming_area most l) (sym is);
      stay = ap (λ (l : List ℕ). coming_area None l) is ∙ front_stays qs open_front not_ao (subst (λ (l : List ℕ). length l % 4 ≡ 0) is w) ∙ sym is;
    }

-- the options with TCP-AO after them are listed
pub front_listed : (d : Segment) (area : List ℕ) (s : Sending) (code : List ℕ) → Fits d → list_any signs (plains (listed (options_of d.area))) ≡ false
    → IsFitted (40 - ao_length s) d.area area → AreListed (options_of (area ++ written_ao s code))
front_listed d area s code f none fit =
    let os = plains (listed (options_of d.area)) in
    let k = fit.trim in
    let n = (4 - length (flat_map (going k) os) % 4) % 4 in
    let is : area ≡ flat_map (going k) os ++ replicate n 1 = fit.is ∙ rewritten_is k d.area in
    let qs = front k n os ++ ao_plain s code ∷ [] in
    let all_is : area ++ written_ao s code ≡ flat_map spelled qs = ap (λ (l : List ℕ). l ++ written_ao s code) is ∙ sym (whole_written k n os s code) in
    subst (λ (o : Options). AreListed o) (sym (ap options_of all_is ∙ written_listed qs (whole_open k n os s code (listed_plain d.area f.listed)))) tt

pub comes_out : (sending here : Setting) (pair_there pair : Pair) (there g : Kept) (d : Segment) (m : Sealed) → Fits d
    → send_sealed sending pair_there there d ≡ Ok m → IsMet here pair g m → ComesOut here pair g m
comes_out sending here pair_there pair there g d m f h met =
    let z = sends sending pair_there there d m h in
    let s = m.sending in
    let area = z.area in
    let input = input_for d area s m.number in
    let code = code_for s m.context input in
    let a = area ++ written_ao s code in
    let blank = area ++ written_ao s (no_mac s) in
    let e = m.segment in
    let is : e ≡ as_sent (relaid d a) = ap (λ (x : Sealed). x.segment) z.sent_is in
    let given : m.given ≡ d = ap (λ (x : Sealed). x.given) z.sent_is in
    let k : Keeps d e a = subst (λ (x : Segment). Keeps d x a) (sym is) (sent_keeps d a) in
    let fit = is_fitted (40 - ao_length s) d.area area z.fits in
    let code_long : length code ≡ mac_length_of s.row.algorithm =
    length-mac s.row.algorithm (traffic_key s.row.algorithm s.row.master m.context) input (length-traffic_key s.row.algorithm s.row.master m.context) in
    let same_long : length (no_mac s) ≡ length code = no_code_long s ∙ sym code_long in
    let long_one = length-append area (written_ao s (no_mac s)) in
    let long_two = length-append area (written_ao s code) in
    let areas : length blank ≡ length a = omega arith in
    let ao : Ao = ao_last area s code in
    let p : Finding = found_with met.row e ao m.context m.number in
    let syn : has SYN d ≡ has SYN e = ap (λ (n : ℕ). ((n / 2) % 2 == 1)) (sym k.flags) in
    let sizes : segment_length e ≡ segment_length d = length_same e d k.payload k.flags in
    let inputs : input ≡ mac_input m.number e ao met.row.row.with_options =
    same_input m.number d blank a (ao_last area s (no_mac s)) ao s.row.with_options areas (covered_same s.row.with_options area s (no_mac s) code same_long)
    ∙ sym (input_sent m.number (relaid d a) ao s.row.with_options) ∙ ap (λ (x : Segment). mac_input m.number x ao s.row.with_options) (sym is) ∙ ap (λ (b : Bool). mac_input m.number e ao b) (sym met.with_options) in
    let verdict : judge here.rows pair (known_for g e) here.now e ≡ Ok p =
    passes_through here.rows pair (known_for g e) here.now e ao met.row m.context m.number (ap find_ao k.area_is ∙ fitted_found d area s code f z.plain fit) met.accepted
    (code_long ∙ ap mac_length_of (sym met.algorithm)) met.context (heard_by (has SYN e) (known_for g e).expected (λ no_syn. let r = met.near no_syn in (r.0, r.1)))
    (number_by (has SYN e) d e (kept_for (entered there d) d).sent m.number (known_for g e).expected syn refl k.sequence f.sequence z.number_is met.near)
    (subst (λ (n : ℕ). m.number + n ≤ number_limit) (sym sizes) z.ends)
    (code_right met.row.row s m.context input (mac_input m.number e ao met.row.row.with_options) met.algorithm met.master inputs) in
    let whole : length_in_header d.ip (with_area d a) ≤ 65535 =
    subst (λ (n : ℕ). n ≤ 65535) (told_same d.ip (with_ao d area s (no_mac s)) (with_area d a) (total_same d blank a (relaid_keeps d blank) areas)) z.whole in
    let right : good e ≡ true = ap good is ∙ sent_good d a f.ip whole in
    let l = relaid_keeps e (coming_area (most_mss here.mtu e) e.area) in
    let os = fitted_options d area s code f z.plain fit (fitted_words _ d.area area z.fits) in
    let G : Segment → Type 0 = λ x. AgreesWith x (relaid e (coming_area (most_mss here.mtu e) e.area)) in
    record {
      taken = handed_on here pair g e p;
      takes = λ bytes read from. is_inbound here pair g e (handed_on here pair g e p) (from_peer pair e) (reading bytes) refl from read
          (is_taken here pair g e p (accepted_keyed here.rows pair s.key_id here.now 1 met.row met.accepted) right (is_judged here pair g e p met.awaited verdict));
      agrees = subst G (sym given) (record {
        source = sym k.source ∙ sym l.source;
        destination = sym k.destination ∙ sym l.destination;
        sequence = sym k.sequence ∙ sym l.sequence;
        acknowledgement = sym k.acknowledgement ∙ sym l.acknowledgement;
        reserved = sym k.reserved ∙ sym l.reserved;
        flags = sym k.flags ∙ sym l.flags;
        window = sym k.window ∙ sym l.window;
        urgent = sym k.urgent ∙ sym l.urgent;
        payload = sym k.payload ∙ sym l.payload;
      });
      number = refl;
      options = area;
      fit = ap (λ (x : Segment). fitted (40 - ao_length s) x.area) given ∙ z.fits;
      come = l.area_is ∙ ap (λ (x : List ℕ). coming_area (most_mss here.mtu e) x) k.area_is ∙ os.come (most_mss here.mtu e);
      stay = λ none. l.area_is ∙ ap (λ (x : List ℕ). coming_area (most_mss here.mtu e) x) k.area_is ∙ os.come (most_mss here.mtu e) ∙ ap (λ (o : Option ℕ). coming_area o area) (no_most here.mtu e none) ∙ os.stay;
    }
  where
    length_same : (e d : Segment) → e.payload ≡ d.payload → e.flags ≡ d.flags → segment_length e ≡ segment_length d
    length_same e d p q = rw (p, q) refl

    total_same : (d : Segment) (blank a : List ℕ) → Keeps d (relaid d blank) blank → length blank ≡ length a → tcp_length (relaid d blank) ≡ tcp_length (with_area d a)
    total_same d blank a k e =
        let one = ap (λ (l : List ℕ). length l) k.area_is in
        let two = ap (λ (l : List ℕ). length l) k.payload in
        omega arith
