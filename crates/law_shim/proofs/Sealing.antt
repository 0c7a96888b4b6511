-- What a segment that was sealed, and one that was opened, is made of.
use Rattle.std.proofs.Common.{◌≡◌, ℕ, zero, suc, ◌+◌, ◌-◌, ◌%◌, ◌<◌, ◌≤◌, ◌&&◌, not, Bool, true, false, nat_le, List, ◌++◌, length, replicate, Option, Some, None, Result, Ok, Err, refl, sym, ap, subst, ◌∙◌, arith, length-append, if◌then◌else◌, inl, inr}
use Rattle.std.specs.Prelude.{◌/◌, ◌==◌, flat_map}
use Rattle.std.proofs.lemmas.List.{length-replicate}
use Rattle.std.specs.Option.{option_or}
use Rattle.std.specs.List.{list_any}
use Rattle.book_base.specs.declared.address.Pair.{Pair}
use Rattle.book_base.specs.Algorithms.{mac_length_of}
use Rattle.book_base.specs.Results.{◌>>=◌, or_fault}
use Rattle.book_segments.specs.Options.{Plain, plains, listed, options_of}
use Rattle.book_segments.specs.Segments.{IpHeader, Ipv4, Ipv6, Segment, has, good, SYN, ACK, segment_length, tcp_length}
use Rattle.book_segments.specs.Spelling.{Fits}
use Rattle.book_macs.specs.Meaning.{SameFamily}
use Rattle.book_macs.proofs.LengthLaws.{twelve_or_sixteen}
use Rattle.book_segments.proofs.Fields.{le_is}
use Rattle.book_macs.specs.Contexts.{context_of}
use Rattle.book_keys.specs.Coordination.{Sending, choose}
use Rattle.book_endpoint.specs.declared.refusal.Refusal.TheVariants.{NoContext as Nothing}
use Rattle.book_endpoint.specs.States.{number_limit}
use Rattle.book_endpoint.specs.Verdicts.{Finding, Judgement, judge, segment_number}
use Rattle.book_endpoint.specs.Emissions.{ao_length, written_ao, no_mac}
use Rattle.book_shim.specs.declared.kept.Kept.{Kept}
use Rattle.book_shim.specs.declared.refusal.Unsent.{Unsent}
use Rattle.book_shim.specs.declared.refusal.Unsent.TheVariants.{Unkeyed, Signed, NoContext, Range, NoKey, NoRoom, TooLong}
use Rattle.book_shim.specs.declared.refusal.Untaken.{Untaken}
use Rattle.book_shim.specs.declared.refusal.Untaken.TheVariants.{Unkeyed as Keyless, Checksum}
use Rattle.book_shim.specs.Keeping.{Setting, demand, own_isn, peer_isn, is_keyed}
use Rattle.book_shim.specs.Relaying.{in_words, rewritten, going, if_room, packed_in, fitted_from, fitted, relaid, with_area, summed, length_in_header, headers_length, most_mss}
use Rattle.book_shim.specs.declared.trim.Trim.{Trim}
use Rattle.book_shim.specs.Leaving.{Sealed, signs, entered, kept_for, as_sent, send_within, send_sealed, with_ao}
use Rattle.law_shim.specs.Seals.{sealed_with}
use Rattle.book_shim.specs.Arriving.{Opened, as_taken, judged_arrival, is_awaited, known_for, handed_on, take_in}
use Rattle.law_shim.proofs.Meanings.{Sized}

-- ---- one answer after another

pub bind_ok : {A B F : Type 0} (r : Result A F) (f : A → Result B F) (y : B) → (r >>= f) ≡ Ok y → (x : A) × (r ≡ Ok x) × (f x ≡ Ok y)
bind_ok (Ok x) f y e = (x, refl, e)
bind_ok (Err w) f y e = absurd (cc)

pub demanded : {E : Type 0} (b : Bool) (why : E) (u : Unit {0}) → demand b why ≡ Ok u → b ≡ true
demanded true why u e = refl
demanded false why u e = absurd (cc)

pub given_some : {A F : Type 0} (o : Option A) (why : F) (x : A) → or_fault o why ≡ Ok x → o ≡ Some x
given_some (Some y) why x e = cc
given_some None why x e = absurd (cc)

pub ok_is : {A F : Type 0} (x y : A) → ◌≡◌ {A = Result A F} (Ok x) (Ok y) → x ≡ y
ok_is x y e = cc

not_true : (b : Bool) → not b ≡ true → b ≡ false
not_true true e = absurd (cc)
not_true false e = refl

-- ---- options in whole words

words_fill : (n : ℕ) → (n + (4 - n % 4) % 4) % 4 ≡ 0
words_fill n = omega arith

filled : (xs : List ℕ) → length (in_words xs) % 4 ≡ 0
filled xs =
    let a = length-append xs (replicate {A = ℕ} ((4 - length xs % 4) % 4) 1) in
    let r : length (replicate {A = ℕ} ((4 - length xs % 4) % 4) 1) ≡ (4 - length xs % 4) % 4 = length-replicate ((4 - length xs % 4) % 4) 1 in
    let w = words_fill (length xs) in
    omega arith

pub rewritten_words : (write : Plain → List ℕ) (area : List ℕ) → length (rewritten write area) % 4 ≡ 0
unfolding rewritten
rewritten_words write area = filled (flat_map write (plains (listed (options_of area))))

either : {X : Type 0} (P : X → Type 0) (a b : Option X) (out : X) → (a ≡ Some out → P out) → (b ≡ Some out → P out) → option_or a b ≡ Some out → P out
either P (Some x) b out one two e = one e
either P None b out one two e = two e

-- what fits is what is left of the options with some of them left out, and has room
pub record IsFitted (room : ℕ) (area out : List ℕ) : Type 0 where
  pub trim : Trim
  pub is : out ≡ rewritten (going trim) area
  pub most : length out ≤ room

fitted_by : (b : Bool) (k : Trim) (room : ℕ) (area out : List ℕ) → b ≡ nat_le (length (rewritten (going k) area)) room → (if b then Some (rewritten (going k) area) else None) ≡ Some out → IsFitted room area out
fitted_by true k room area out t e =
    let s : rewritten (going k) area ≡ out = cc in
    record { trim = k; is = sym s; most = subst (λ (l : List ℕ). length l ≤ room) s (le_is _ _ (sym t)) }
fitted_by false k room area out t e = absurd (cc)

fitted_if : (k : Trim) (room : ℕ) (area out : List ℕ) → if_room room (rewritten (going k) area) ≡ Some out → IsFitted room area out
fitted_if k room area out e = fitted_by (nat_le (length (rewritten (going k) area)) room) k room area out refl e

is_packed : (room n : ℕ) (bare : Bool) (area out : List ℕ) → packed_in room n bare area ≡ Some out → IsFitted room area out
is_packed room n bare area out e =
    let loose : Trim = record { blocks = n; packed = false; bare = bare } in
    let tight : Trim = record { blocks = n; packed = true; bare = bare } in
    either (IsFitted room area) (if_room room (rewritten (going loose) area)) (if_room room (rewritten (going tight) area)) out
    (λ h. fitted_if loose room area out h) (λ h. fitted_if tight room area out h) e

is_fitted_from : (room n : ℕ) (bare : Bool) (area out : List ℕ) → fitted_from room n bare area ≡ Some out → IsFitted room area out
unfolding fitted_from
is_fitted_from room zero bare area out e = is_packed room 0 bare area out e
is_fitted_from room (suc n) bare area out e =
    either (IsFitted room area) (packed_in room (suc n) bare area) (fitted_from room n bare area) out
    (λ h. is_packed room (suc n) bare area out h) (λ h. is_fitted_from room n bare area out h) e

pub is_fitted : (room : ℕ) (area out : List ℕ) → fitted room area ≡ Some out → IsFitted room area out
is_fitted room area out e =
    either (IsFitted room area) (fitted_from room 4 false area) (fitted_from room 4 true area) out
    (λ h. is_fitted_from room 4 false area out h) (λ h. is_fitted_from room 4 true area out h) e

pub fitted_words : (room : ℕ) (area out : List ℕ) → fitted room area ≡ Some out → length out % 4 ≡ 0
fitted_words room area out e =
    let f = is_fitted room area out e in
    subst (λ (l : List ℕ). length l % 4 ≡ 0) (sym f.is) (rewritten_words (going f.trim) area)

-- ---- what was sealed

-- how it came to what is sent
pub record IsSealed (here : Setting) (pair : Pair) (g : Kept) (d : Segment) (m : Sealed) : Type 0 where
  pub keyed : is_keyed here.rows pair ≡ true
  pub plain : list_any signs (plains (listed (options_of d.area))) ≡ false
  pub area : List ℕ
  pub context_is : context_of d (own_isn (kept_for (entered g d) d)) (peer_isn (kept_for (entered g d) d)) ≡ Some m.context
  pub number_is : segment_number d (Some (kept_for (entered g d) d).sent) ≡ Some m.number
  pub ends : m.number + segment_length d ≤ number_limit
  pub chosen : choose (entered g d).current here.rows pair here.now ≡ Some m.sending
  pub fits : fitted (40 - ao_length m.sending) d.area ≡ Some area
  pub whole : length_in_header d.ip (with_ao d area m.sending (no_mac m.sending)) ≤ 65535
  pub sent_is : m ≡ sealed_with (entered g d) d area m.sending m.context m.number

pub sends : (here : Setting) (pair : Pair) (g : Kept) (d : Segment) (m : Sealed) → send_sealed here pair g d ≡ Ok m → IsSealed here pair g d m
unfolding send_within
sends here pair g d m h =
    let e = entered g d in
    let k = kept_for e d in
    let b0 = bind_ok (demand (is_keyed here.rows pair) Unkeyed) _ m h in
    let b1 = bind_ok (demand (not (list_any signs (plains (listed (options_of d.area))))) Signed) _ m b0.2 in
    let b3 = bind_ok (or_fault (context_of d (own_isn k) (peer_isn k)) NoContext) _ m b1.2 in
    let b4 = bind_ok (or_fault (segment_number d (Some k.sent)) Range) _ m b3.2 in
    let b5 = bind_ok (demand (nat_le (b4.0 + segment_length d) number_limit) Range) _ m b4.2 in
    let b6 = bind_ok (or_fault (choose e.current here.rows pair here.now) NoKey) _ m b5.2 in
    let b7 = bind_ok (or_fault (fitted (40 - ao_length b6.0) d.area) NoRoom) _ m b6.2 in
    let b8 = bind_ok (demand (nat_le (length_in_header d.ip (with_ao d b7.0 b6.0 (no_mac b6.0))) 65535) TooLong) _ m b7.2 in
    let is : sealed_with e d b7.0 b6.0 b3.0 b4.0 ≡ m = ok_is {F = Unsent} _ m b8.2 in
    let Goal : Sealed → Type 0 = λ x. IsSealed here pair g d x in
    subst Goal is (record {
      keyed = demanded _ Unkeyed b0.0 b0.1;
      plain = not_true _ (demanded _ Signed b1.0 b1.1);
      area = b7.0;
      context_is = given_some _ NoContext _ b3.1;
      number_is = given_some _ Range _ b4.1;
      ends = le_is _ _ (demanded _ Range b5.0 b5.1);
      chosen = given_some _ NoKey _ b6.1;
      fits = given_some _ NoRoom _ b7.1;
      whole = le_is _ _ (demanded _ TooLong b8.0 b8.1);
      sent_is = refl;
    })

-- ---- a datagram that is laid out again

-- it keeps all but its options, lengths and checksums
pub record Keeps (d e : Segment) (area : List ℕ) : Type 0 where
  pub source : e.source ≡ d.source
  pub destination : e.destination ≡ d.destination
  pub sequence : e.sequence ≡ d.sequence
  pub acknowledgement : e.acknowledgement ≡ d.acknowledgement
  pub reserved : e.reserved ≡ d.reserved
  pub flags : e.flags ≡ d.flags
  pub window : e.window ≡ d.window
  pub urgent : e.urgent ≡ d.urgent
  pub payload : e.payload ≡ d.payload
  pub area_is : e.area ≡ area
  pub ip_is : e.ip ≡ summed d.ip (with_area d area)

pub relaid_keeps : (d : Segment) (area : List ℕ) → Keeps d (relaid d area) area
unfolding relaid
relaid_keeps d area = record {
  source = refl;
  destination = refl;
  sequence = refl;
  acknowledgement = refl;
  reserved = refl;
  flags = refl;
  window = refl;
  urgent = refl;
  payload = refl;
  area_is = refl;
  ip_is = refl;
}

-- so does one that is sent
pub sent_keeps : (d : Segment) (area : List ℕ) → Keeps d (as_sent (relaid d area)) area
unfolding relaid
sent_keeps d area = record {
  source = refl;
  destination = refl;
  sequence = refl;
  acknowledgement = refl;
  reserved = refl;
  flags = refl;
  window = refl;
  urgent = refl;
  payload = refl;
  area_is = refl;
  ip_is = refl;
}

summed_family : (i j : IpHeader) (d : Segment) → SameFamily i j → SameFamily (summed i d) j
summed_family (Ipv4 a b c f g o) (Ipv4 a2 b2 c2 f2 g2 o2) d h = tt
summed_family (Ipv6 a b) (Ipv6 a2 b2) d h = tt
summed_family (Ipv4 a b c f g o) (Ipv6 a2 b2) d h = h
summed_family (Ipv6 a b) (Ipv4 a2 b2 c2 f2 g2 o2) d h = h

pub relaid_family : (d e : Segment) (area : List ℕ) → SameFamily d.ip e.ip → SameFamily (relaid d area).ip e.ip
relaid_family d e area h = subst (λ (i : IpHeader). SameFamily i e.ip) (sym (relaid_keeps d area).ip_is) (summed_family d.ip e.ip (with_area d area) h)

summed_headers : (i : IpHeader) (d : Segment) → headers_length (summed i d) ≡ headers_length i
summed_headers (Ipv4 a b c f g o) d = refl
summed_headers (Ipv6 a b) d = refl

most_by : (mtu : ℕ) (a b : Bool) (i j : IpHeader) → a ≡ b → headers_length i ≡ headers_length j → (if a then Some (mtu - headers_length i) else None) ≡ (if b then Some (mtu - headers_length j) else None)
most_by mtu a b i j e h = ap (λ (x : Bool). if x then Some (mtu - headers_length i) else None) e ∙ ap (λ (n : ℕ). if b then Some (mtu - n) else None) h

-- a datagram that is laid out again may tell as much
pub same_most : (mtu : ℕ) (d : Segment) (area : List ℕ) → most_mss mtu (relaid d area) ≡ most_mss mtu d
same_most mtu d area =
    let k = relaid_keeps d area in
    most_by mtu (has SYN (relaid d area)) (has SYN d) (relaid d area).ip d.ip (ap (λ (n : ℕ). ((n / 2) % 2 == 1)) k.flags) (ap headers_length k.ip_is ∙ summed_headers d.ip (with_area d area))

told_total : (i : IpHeader) (d : Segment) → length_in_header i d ≤ 65535 → tcp_length d < 65536
told_total (Ipv4 a b c f g o) d h = omega arith
told_total (Ipv6 a b) d h = omega arith

-- the length of an area with TCP-AO after it
ao_words : (s : Sending) (n : ℕ) → n % 4 ≡ 0 → (n + (4 + mac_length_of s.row.algorithm)) % 4 ≡ 0
ao_words s n h = elim (twelve_or_sixteen s.row.algorithm) [ inl e ↦ omega arith | inr e ↦ omega arith ]

pub no_code_long : (s : Sending) → length (no_mac s) ≡ mac_length_of s.row.algorithm
no_code_long s = length-replicate (mac_length_of s.row.algorithm) 0

pub ao_area_words : (s : Sending) (area : List ℕ) → length area % 4 ≡ 0 → length (area ++ written_ao s (no_mac s)) % 4 ≡ 0
ao_area_words s area h =
    let a = length-append area (written_ao s (no_mac s)) in
    let n = no_code_long s in
    let w = ao_words s (length area) h in
    omega arith

pub blank_sized : (d : Segment) (area : List ℕ) (s : Sending) → Fits d → length area % 4 ≡ 0 → length_in_header d.ip (with_ao d area s (no_mac s)) ≤ 65535 → Sized (with_ao d area s (no_mac s))
blank_sized d area s f w whole =
    let k = relaid_keeps d (area ++ written_ao s (no_mac s)) in record {
      total = told_total d.ip (with_ao d area s (no_mac s)) whole;
      words = ap (λ (l : List ℕ). length l % 4) k.area_is ∙ ao_area_words s area w;
      reserved = subst (λ (n : ℕ). n < 16) (sym k.reserved) f.reserved;
      sequence = subst (λ (n : ℕ). n < 4294967296) (sym k.sequence) f.sequence;
      acknowledgement = subst (λ (n : ℕ). n < 4294967296) (sym k.acknowledgement) f.acknowledgement;
      window = subst (λ (n : ℕ). n < 65536) (sym k.window) f.window;
      urgent = subst (λ (n : ℕ). n < 65536) (sym k.urgent) f.urgent;
    }

-- ---- what was opened

pub record IsOpened (here : Setting) (pair : Pair) (g : Kept) (d : Segment) (t : Opened) : Type 0 where
  pub keyed : is_keyed here.rows pair ≡ true
  pub right : good d ≡ true
  pub judgement : judge here.rows pair (known_for g d) here.now d ≡ Ok t.passed
  pub taken_is : t ≡ handed_on here pair g d t.passed

passed_is : (j : Judgement) (p : Finding) → as_taken j ≡ Ok p → j ≡ Ok p
passed_is (Ok q) p e = let s : q ≡ p = ok_is {F = Untaken} q p e in ap (λ (x : Finding). let r : Judgement = Ok x in r) s
passed_is (Err why) p e = absurd (cc)

judged_by : (b : Bool) (j : Judgement) (p : Finding) → ◌≡◌ {A = Judgement} (if b then Err Nothing else j) (Ok p) → j ≡ Ok p
judged_by true j p e = absurd (cc)
judged_by false j p e = e

judged_ok : (here : Setting) (pair : Pair) (g : Kept) (d : Segment) (p : Finding) → judged_arrival here pair g d ≡ Ok p → judge here.rows pair (known_for g d) here.now d ≡ Ok p
unfolding judged_arrival
judged_ok here pair g d p e = judged_by (has SYN d && has ACK d && not (is_awaited g d)) (judge here.rows pair (known_for g d) here.now d) p e

pub takes : (here : Setting) (pair : Pair) (g : Kept) (d : Segment) (t : Opened) → take_in here pair g d ≡ Ok t → IsOpened here pair g d t
unfolding take_in
takes here pair g d t h =
    let b0 = bind_ok (demand (is_keyed here.rows pair) Keyless) _ t h in
    let b1 = bind_ok (demand (good d) Checksum) _ t b0.2 in
    let b2 = bind_ok (as_taken (judged_arrival here pair g d)) _ t b1.2 in
    let is : handed_on here pair g d b2.0 ≡ t = ok_is {F = Untaken} _ t b2.2 in
    let Goal : Opened → Type 0 = λ x. IsOpened here pair g d x in
    subst Goal is (record {
      keyed = demanded _ Keyless b0.0 b0.1;
      right = demanded _ Checksum b1.0 b1.1;
      judgement = judged_ok here pair g d b2.0 (passed_is (judged_arrival here pair g d) b2.0 b2.1);
      taken_is = refl;
    })
