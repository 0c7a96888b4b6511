-- What a draft is read as, and what stands in the buffer once it is finished.
use Rattle.std.proofs.Common.{◌≡◌, ℕ, suc, ◌+◌, ◌-◌, ◌/◌, ◌%◌, ◌<◌, ◌≤◌, true, List, [], ◌∷◌, ◌++◌, length, take, drop, Option, Some, None, refl, sym, ap, subst, ◌∙◌, arith, append_assoc, inl, inr}
use Rattle.std.specs.Prelude.{slice_range, ◌⊎◌}
use Rattle.std.proofs.lemmas.List.{length-append, take_at, drop_at, append-nil}
use Rattle.book_base.specs.declared.address.Address.{Address}
use Rattle.book_base.specs.declared.address.Address.TheVariants.{V4, V6}
use Rattle.book_segments.specs.Bytes.{put2, put4}
use Rattle.book_segments.specs.Sockets.{octets}
use Rattle.book_segments.specs.Options.{Opt, Listed, AreListed, Ao, One, options_of, find_ao}
use Rattle.book_segments.proofs.AreaLaws.{area_is}
use Rattle.book_segments.specs.Segments.{IpHeader, Segment, words_sum, sums, complement_of, checksum_of, tcp_length, pseudo, header, tcp_bytes, spell_as, spell, first_fault, fields}
use Rattle.book_segments.specs.Spelling.{AreBytes, IsV4, IsV6, FitsIp, Fits, with_sum, with_checksum, addresses_in}
use Rattle.tcp_segment.specs.Written.{mss_option, ip_words}
use Rattle.book_segments.proofs.ByteLaws.{two_back, bytes_take, bytes_drop}
use Rattle.book_segments.proofs.Folding.{complement_by}
use Rattle.book_segments.proofs.SumLaws.{words_pseudo, complement_completes, complement_fits, is_right, spell_with, fits_with, finished_fits, finished_good}
use Rattle.book_segments.proofs.SpellLaws.{finished_again}
use Rattle.book_segments.proofs.Again.{IsAgain, again}
use Rattle.tcp_segment.specs.declared.spelling.Head.{Head}
use Rattle.tcp_segment.specs.Places.{IsRead}
use Rattle.tcp_segment.specs.Sums.{complement_at, checksum_over, IsSet}
use Rattle.tcp_segment.specs.Layout.{written_ip, ip_start, tcp_start, ip_size, mss_length, option_heads, drafted, AreSized, HeadFits, HoldsDraft, IsFinished}
use Rattle.tcp_segment.proofs.ReadLaws.{addresses_are}
use Rattle.tcp_segment.proofs.WriteLaws.{spell_start, start_long, before, parts, heads_long, mss_long, regroup3}

-- ---- the option area

abbrev mss_options : Option ℕ → List Opt
mss_options None = []
mss_options (Some mss) = record { kind = 2; body = put2 mss []; place = 0 } ∷ []

abbrev ao_option : ℕ → ℕ → ℕ → List ℕ → Opt
ao_option place key rnext mac = record { kind = 29; body = key ∷ rnext ∷ mac; place = place }

area_listed : (o : Option ℕ) (key rnext : ℕ) (mac : List ℕ)
    → options_of ((mss_option o ++ (29 ∷ (4 + length mac) ∷ key ∷ rnext ∷ [])) ++ mac) ≡ Listed (mss_options o ++ ao_option (length (mss_option o)) key rnext mac ∷ [])
unfolding put2
area_listed None key rnext mac =
    let k : 4 + length mac ≡ 2 + suc (suc (length mac)) = omega arith in
    area_is (ao_option 0 key rnext mac ∷ []) [] (29 ∷ (4 + length mac) ∷ key ∷ rnext ∷ mac)
    (inl (
      (record { kind = omega arith; short = λ s. absurd (omega arith); long = λ _. omega arith }, refl, tt),
      refl,
      ap (λ (j : ℕ). 29 ∷ j ∷ key ∷ rnext ∷ mac) k ∙ ap (λ (l : List ℕ). 29 ∷ (2 + suc (suc (length mac))) ∷ key ∷ rnext ∷ l) (sym (append-nil mac)),
    ))
area_listed (Some m) key rnext mac =
    let k : 4 + length mac ≡ 2 + suc (suc (length mac)) = omega arith in
    area_is (record { kind = 2; body = put2 m []; place = 0 } ∷ ao_option 4 key rnext mac ∷ []) [] (2 ∷ 4 ∷ m / 256 % 256 ∷ m % 256 ∷ 29 ∷ (4 + length mac) ∷ key ∷ rnext ∷ mac)
    (inl (
      (record { kind = omega arith; short = λ s. absurd (omega arith); long = λ _. omega arith }, refl, (record { kind = omega arith; short = λ s. absurd (omega arith); long = λ _. omega arith }, refl, tt)),
      refl,
      ap (λ (j : ℕ). 2 ∷ 4 ∷ m / 256 % 256 ∷ m % 256 ∷ 29 ∷ j ∷ key ∷ rnext ∷ mac) k ∙ ap (λ (l : List ℕ). 2 ∷ 4 ∷ m / 256 % 256 ∷ m % 256 ∷ 29 ∷ (2 + suc (suc (length mac))) ∷ key ∷ rnext ∷ l) (sym (append-nil mac)),
    ))

area_ao : (o : Option ℕ) (key rnext : ℕ) (mac : List ℕ)
    → find_ao ((mss_option o ++ (29 ∷ (4 + length mac) ∷ key ∷ rnext ∷ [])) ++ mac) ≡ One (record { key_id = key; rnext_key_id = rnext; mac = mac; place = length (mss_option o) })
unfolding find_ao put2
area_ao None key rnext mac = rw (area_listed None key rnext mac) refl
area_ao (Some m) key rnext mac = rw (area_listed (Some m) key rnext mac) refl

-- the TCP-AO option of a draft
pub drafted_ao : (h : Head) (mac payload : List ℕ) → find_ao (drafted h mac payload).area ≡ One (record { key_id = h.key_id; rnext_key_id = h.rnext; mac = mac; place = mss_length h.mss })
drafted_ao h mac payload =
    area_ao h.mss h.key_id h.rnext mac ∙ ap (λ (p : ℕ). One (record { key_id = h.key_id; rnext_key_id = h.rnext; mac = mac; place = p })) (mss_long h.mss)

drafted_listed : (h : Head) (mac payload : List ℕ) → AreListed (options_of (drafted h mac payload).area)
drafted_listed h mac payload = subst AreListed (sym (area_listed h.mss h.key_id h.rnext mac)) tt

-- ---- bytes of a part

bytes_left : (a b : List ℕ) → AreBytes (a ++ b) → AreBytes a
bytes_left a b h = subst AreBytes (take_at a b (length a) refl) (bytes_take (a ++ b) (length a) h)

bytes_right : (a b : List ℕ) → AreBytes (a ++ b) → AreBytes b
bytes_right a b h = subst AreBytes (drop_at a b (length a) refl) (bytes_drop (a ++ b) (length a) h)

-- ---- a draft fits

v4_both : (bytes : List ℕ) (a c : Address) → a ≡ V4 bytes → AreSized a c → AreBytes (octets a) → AreBytes (octets c) → IsV4 a × IsV4 c
v4_both bytes (V4 one) (V4 two) e f h k = ((f.1, h), (f.2, k))
v4_both bytes (V4 one) (V6 two) e f h k = let apart = f.0 in absurd (cc)
v4_both bytes (V6 one) c e f h k = absurd (cc)

v6_both : (bytes : List ℕ) (a c : Address) → a ≡ V6 bytes → AreSized a c → AreBytes (octets a) → AreBytes (octets c) → IsV6 a × IsV6 c
v6_both bytes (V6 one) (V6 two) e f h k = ((f.1, h), (f.2, k))
v6_both bytes (V6 one) (V4 two) e f h k = let apart = f.0 in absurd (cc)
v6_both bytes (V4 one) c e f h k = absurd (cc)

header_right : (bytes : List ℕ) (h : Head) (size : ℕ) (d : Segment) → d.source ≡ h.source → d.destination ≡ h.destination → tcp_length d ≡ size → sums (spell_as (written_ip h size (V4 bytes)) d []) ≡ true
unfolding put2
header_right bytes h size d es ed e =
    let S : List ℕ = octets d.source.address in
    let D : List ℕ = octets d.destination.address in
    let words : List ℕ = ip_words h.source.address h.destination.address (20 + size) in
    let c : ℕ = complement_of words in
    let start = spell_start (V4 bytes) h size d [] e in
    let same : S ++ (D ++ []) ≡ octets h.source.address ++ octets h.destination.address = ap (λ (l : List ℕ). S ++ l) (append-nil D) ∙ rw (es, ed) refl in
    let n : words_sum (ip_start h size (V4 bytes) ++ (S ++ (D ++ []))) ≡ words_sum words + c = omega (arith, ap words_sum same, two_back c (complement_fits words)) in
    let p : 0 < words_sum words = omega arith in
    ap sums start ∙ is_right (ip_start h size (V4 bytes) ++ (S ++ (D ++ []))) (omega (arith, n, p)) (rw n (complement_completes words p))

written_fits : (a : Address) (h : Head) (size : ℕ) (d : Segment) → d.ip ≡ written_ip h size a → d.source ≡ h.source → d.destination ≡ h.destination → d.source.address ≡ a
    → AreSized d.source.address d.destination.address → AreBytes (octets d.source.address) → AreBytes (octets d.destination.address) → tcp_length d ≡ size → size < 65000 → FitsIp (written_ip h size a) d
written_fits (V4 bytes) h size d ei es ed ea f hs hd e small =
    let v = v4_both bytes d.source.address d.destination.address ea f hs hd in
    record {
      service_fits = omega arith;
      identification_fits = omega arith;
      flags_fit = omega arith;
      ttl_fits = omega arith;
      checksum_fits = complement_fits (ip_words h.source.address h.destination.address (20 + size));
      options_fit = record { words = refl; most = omega arith; bytes = λ i. omega arith };
      source = v.0;
      destination = v.1;
      total = omega arith;
      right = ap (λ (ip : IpHeader). sums (spell_as ip d [])) ei ∙ header_right bytes h size d es ed e;
    }
written_fits (V6 bytes) h size d ei es ed ea f hs hd e small =
    let v = v6_both bytes d.source.address d.destination.address ea f hs hd in
    record { class_flow_fits = omega arith; hops_fit = omega arith; source = v.0; destination = v.1; total = omega arith }

heads_words : (o : Option ℕ) (key rnext m : ℕ) → (m ≡ 12) ⊎ (m ≡ 16) → ((length (mss_option o ++ (29 ∷ (4 + m) ∷ key ∷ rnext ∷ [])) + m) % 4 ≡ 0) × (length (mss_option o ++ (29 ∷ (4 + m) ∷ key ∷ rnext ∷ [])) + m ≤ 40)
unfolding put2
heads_words None key rnext m (inl e) = (omega arith, omega arith)
heads_words None key rnext m (inr e) = (omega arith, omega arith)
heads_words (Some x) key rnext m (inl e) = (omega arith, omega arith)
heads_words (Some x) key rnext m (inr e) = (omega arith, omega arith)

parts_of : (s a c t h m p r : List ℕ) → (s ++ (a ++ (c ++ (t ++ h)))) ++ (m ++ (p ++ r)) ≡ s ++ (a ++ (c ++ (t ++ ((h ++ m) ++ (p ++ r)))))
parts_of s a c t h m p r = simp append_assoc

-- the parts of a draft hold bytes
record HasBytes (h : Head) (code text : List ℕ) : Type 0 where
  pub source : AreBytes (octets h.source.address)
  pub destination : AreBytes (octets h.destination.address)
  pub area : AreBytes (option_heads h (length code) ++ code)
  pub payload : AreBytes text

has_bytes : (h : Head) (c : ℕ) (mac payload rest : List ℕ) → AreBytes (spell (with_sum (drafted h mac payload) c) ++ rest) → HasBytes h mac payload
has_bytes h c mac payload rest bytes =
    let heads : List ℕ = option_heads h (length mac) in
    let S : List ℕ = octets h.source.address in
    let D : List ℕ = octets h.destination.address in
    let area : ℕ = length heads + length mac in
    let start : List ℕ = ip_start h (20 + area + length payload) h.source.address in
    let tcp : List ℕ = tcp_start h c area in
    let split : spell (with_sum (drafted h mac payload) c) ++ rest ≡ start ++ (S ++ (D ++ (tcp ++ ((heads ++ mac) ++ (payload ++ rest))))) =
    ap (λ (l : List ℕ). l ++ rest) (parts h c mac payload) ∙ (regroup3 (before h c (length mac) (length payload)) mac payload rest ∙ parts_of start S D tcp heads mac payload rest) in
    let b1 : AreBytes (S ++ (D ++ (tcp ++ ((heads ++ mac) ++ (payload ++ rest))))) = bytes_right start (S ++ (D ++ (tcp ++ ((heads ++ mac) ++ (payload ++ rest))))) (subst AreBytes split bytes) in
    let b2 : AreBytes (D ++ (tcp ++ ((heads ++ mac) ++ (payload ++ rest)))) = bytes_right S (D ++ (tcp ++ ((heads ++ mac) ++ (payload ++ rest)))) b1 in
    let b3 : AreBytes (tcp ++ ((heads ++ mac) ++ (payload ++ rest))) = bytes_right D (tcp ++ ((heads ++ mac) ++ (payload ++ rest))) b2 in
    let b4 : AreBytes ((heads ++ mac) ++ (payload ++ rest)) = bytes_right tcp ((heads ++ mac) ++ (payload ++ rest)) b3 in
    let b5 : AreBytes (payload ++ rest) = bytes_right (heads ++ mac) (payload ++ rest) b4 in
    record {
      source = bytes_left S (D ++ (tcp ++ ((heads ++ mac) ++ (payload ++ rest)))) b1;
      destination = bytes_left D (tcp ++ ((heads ++ mac) ++ (payload ++ rest))) b2;
      area = bytes_left (heads ++ mac) (payload ++ rest) b4;
      payload = bytes_left payload rest b5;
    }

drafted_fits : (h : Head) (mac payload : List ℕ) → HeadFits h → length mac ≡ h.mac_length → length payload ≤ 1500 → HasBytes h mac payload → Fits (drafted h mac payload)
drafted_fits h mac payload f lm lp bytes =
    let d : Segment = drafted h mac payload in
    let heads : List ℕ = option_heads h (length mac) in
    let mw : (length mac ≡ 12) ⊎ (length mac ≡ 16) = elim f.mac [ inl e ↦ inl (lm ∙ e) | inr e ↦ inr (lm ∙ e) ] in
    let words = heads_words h.mss h.key_id h.rnext (length mac) mw in
    let long : length d.area ≡ length heads + length mac = length-append heads mac in
    record {
      ip = written_fits h.source.address h (20 + length d.area + length payload) d refl refl refl refl f.family bytes.source bytes.destination refl (omega (arith, long, words.1));
      source_port = f.numbers.source_port;
      destination_port = f.numbers.destination_port;
      sequence = f.numbers.sequence;
      acknowledgement = f.numbers.acknowledgement;
      reserved = omega arith;
      flags = f.numbers.flags;
      window = f.numbers.window;
      checksum = omega arith;
      urgent = omega arith;
      area = record { words = ap (λ (n : ℕ). n % 4) long ∙ words.0; most = omega (arith, long, words.1); bytes = bytes.area };
      listed = drafted_listed h mac payload;
      payload = bytes.payload;
    }

-- ---- a draft in its buffer

join_ip : (s a c t : List ℕ) → s ++ (a ++ (c ++ t)) ≡ (s ++ (a ++ c)) ++ t
join_ip s a c t = simp append_assoc

abbrev ip_part : Head → List ℕ → List ℕ → List ℕ
ip_part h mac payload =
    ip_start h (20 + length (drafted h mac payload).area + length payload) h.source.address ++ (octets h.source.address ++ octets h.destination.address)

ip_then_tcp : (h : Head) (mac payload : List ℕ) (t : List ℕ) → spell_as (drafted h mac payload).ip (drafted h mac payload) t ≡ ip_part h mac payload ++ t
ip_then_tcp h mac payload t =
    let d : Segment = drafted h mac payload in
    let size : ℕ = 20 + length d.area + length payload in
    spell_start h.source.address h size d t refl ∙ join_ip (ip_start h size h.source.address) (octets h.source.address) (octets h.destination.address) t

ip_part_long : (h : Head) (mac payload : List ℕ) → AreSized h.source.address h.destination.address → length (ip_part h mac payload) ≡ ip_size h.source.address
ip_part_long h mac payload f =
    let size : ℕ = 20 + length (drafted h mac payload).area + length payload in
    let start : List ℕ = ip_start h size h.source.address in
    let S : List ℕ = octets h.source.address in
    let D : List ℕ = octets h.destination.address in
    omega (arith, start_long h.source.address h.destination.address h size f, length-append start (S ++ D), length-append S D)

tcp_long : (d : Segment) (c : ℕ) → length (tcp_bytes d c) ≡ tcp_length d
unfolding tcp_bytes header put2 put4
tcp_long d c = omega (arith, length-append d.area d.payload)

ip_least : (a : Address) → 20 ≤ ip_size a
ip_least (V4 bytes) = omega arith
ip_least (V6 bytes) = omega arith

tcp_with : (d : Segment) (c : ℕ) → tcp_bytes (with_sum d c) c ≡ tcp_bytes d c
unfolding tcp_bytes header
tcp_with d c = refl

-- the sizes of a draft
record Sizes (b : List ℕ) (header payload len : ℕ) (h : Head) (c : ℕ) (code text rest : List ℕ) : Type 0 where
  pub whole : b ≡ ip_part h code text ++ (tcp_bytes (drafted h code text) c ++ rest)
  pub ip : length (ip_part h code text) ≡ header
  pub tcp : length (tcp_bytes (drafted h code text) c) ≡ tcp_length (drafted h code text)
  pub end : len ≡ header + tcp_length (drafted h code text)
  pub payload_place : payload ≡ header + (20 + length (drafted h code text).area)
  pub spell_long : length (spell (with_sum (drafted h code text) c)) ≡ len
  pub short : length text ≤ 1500

sizes : {b : List ℕ} {header mac payload len c : ℕ} {h : Head} {code text rest : List ℕ} → HoldsDraft b header mac payload len h c code text rest → Sizes b header payload len h c code text rest
sizes {c = c} {h = h} {code = code} {text = text} {rest = rest} D =
    let s : Segment = drafted h code text in
    let I : List ℕ = ip_part h code text in
    let T : List ℕ = tcp_bytes s c in
    let heads : List ℕ = option_heads h (length code) in
    let cut : spell (with_sum s c) ≡ I ++ T = spell_with s c ∙ ip_then_tcp h code text T in
    let li : length I ≡ ip_size h.source.address = ip_part_long h code text D.head.family in
    let lt : length T ≡ tcp_length s = tcp_long s c in
    let la : length s.area ≡ length heads + length code = length-append heads code in
    let lh = heads_long h (length code) in
    let lm = D.mac_length in let lp = D.payload_is in let lx = D.header_is in let ll = D.len_is in let most = D.most in
    record {
      whole = D.bytes ∙ (ap (λ (l : List ℕ). l ++ rest) cut ∙ append_assoc I T rest);
      ip = omega arith;
      tcp = lt;
      end = omega arith;
      payload_place = omega arith;
      spell_long = omega (arith, ap length cut, length-append I T);
      short = omega arith;
    }

-- where the parts of a draft lie in its buffer
pub record Lies (b : List ℕ) (header mac payload len : ℕ) : Type 0 where
  pub header_least : 20 ≤ header
  pub mac_behind : header + 24 ≤ mac
  pub payload_behind : mac ≤ payload
  pub end_behind : payload ≤ len
  pub most : len ≤ 1500
  pub room : len ≤ length b

pub lies : {b : List ℕ} {header mac payload len c : ℕ} {h : Head} {code text rest : List ℕ} → HoldsDraft b header mac payload len h c code text rest → Lies b header mac payload len
lies {c = c} {h = h} {code = code} {text = text} {rest = rest} D =
    let least = ip_least h.source.address in
    let lm = D.mac_is in let lp = D.payload_is in let lx = D.header_is in let ll = D.len_is in
    record {
      header_least = omega arith;
      mac_behind = omega arith;
      payload_behind = omega arith;
      end_behind = omega arith;
      most = D.most;
      room = omega (arith, (sizes D).spell_long, ap length D.bytes, length-append (spell (with_sum (drafted h code text) c)) rest);
    }

-- a draft fits, where its buffer has bytes
pub draft_fits : {b : List ℕ} {header mac payload len c : ℕ} {h : Head} {code text rest : List ℕ} → HoldsDraft b header mac payload len h c code text rest → AreBytes b → Fits (drafted h code text)
draft_fits {c = c} {h = h} {code = code} {text = text} {rest = rest} D bytes =
    drafted_fits h code text D.head D.mac_length (sizes D).short (has_bytes h c code text rest (subst AreBytes D.bytes bytes))

-- a draft is read as it was laid out
draft_again : {b : List ℕ} {header mac payload len c : ℕ} {h : Head} {code text rest : List ℕ} → HoldsDraft b header mac payload len h c code text rest → AreBytes b
    → IsAgain b (with_sum (drafted h code text) c)
draft_again {c = c} {h = h} {code = code} {text = text} {rest = rest} D bytes =
    let s : Segment = with_sum (drafted h code text) c in
    subst (λ (l : List ℕ). IsAgain l s) (sym D.bytes) (again s rest (fits_with (drafted h code text) c D.checksum_fits (draft_fits D bytes)))

pub draft_value : {b : List ℕ} {header mac payload len c : ℕ} {h : Head} {code text rest : List ℕ} → HoldsDraft b header mac payload len h c code text rest → AreBytes b
    → fields b ≡ with_sum (drafted h code text) c
draft_value D bytes = (draft_again D bytes).value

pub draft_unfaulted : {b : List ℕ} {header mac payload len c : ℕ} {h : Head} {code text rest : List ℕ} → HoldsDraft b header mac payload len h c code text rest → AreBytes b → first_fault b ≡ None
draft_unfaulted D bytes = (draft_again D bytes).none

pub draft_read : {b : List ℕ} {header mac payload len c : ℕ} {h : Head} {code text rest : List ℕ} → HoldsDraft b header mac payload len h c code text rest → AreBytes b
    → IsRead b (record { header = header; payload = payload; end = len })
draft_read {b = b} {header = header} {payload = payload} {len = len} {c = c} {h = h} {code = code} {text = text} {rest = rest} D bytes =
    let s : Segment = with_sum (drafted h code text) c in
    let z = sizes D in
    let e : s ≡ fields b = sym (draft_value D bytes) in
    let I : List ℕ = ip_part h code text in
    let T : List ℕ = tcp_bytes (drafted h code text) c in
    let zi = z.ip in let zt = z.tcp in let ze = z.end in let zs = z.spell_long in
    let back : drop len b ≡ rest = ap (drop len) D.bytes ∙ drop_at (spell s) rest len zs in
    let tcp : slice_range b header len ≡ T =
    ap (λ (l : List ℕ). take (len - header) (drop header l)) z.whole ∙ (ap (take (len - header)) (drop_at I (T ++ rest) header zi) ∙ take_at T rest (len - header) (omega arith)) in
    let lx = D.header_is in let least = ip_least h.source.address in
    record {
      fits = subst Fits e (fits_with (drafted h code text) c D.checksum_fits (draft_fits D bytes));
      spelled = D.bytes ∙ (ap (λ (l : List ℕ). spell s ++ l) (sym back) ∙ ap (λ (x : Segment). spell x ++ drop len b) e);
      tcp = tcp ∙ (sym (tcp_with (drafted h code text) c) ∙ ap (λ (x : Segment). tcp_bytes x x.checksum) e);
      end = subst (λ (x : Segment). len ≡ header + tcp_length x) e ze;
      payload = subst (λ (x : Segment). payload ≡ header + (20 + length x.area)) e z.payload_place;
      header = omega arith;
      room = omega (arith, ap length D.bytes, length-append (spell s) rest);
    }

-- the TCP-AO option of a draft is found
pub draft_ao : {b : List ℕ} {header mac payload len c : ℕ} {h : Head} {code text rest : List ℕ} → HoldsDraft b header mac payload len h c code text rest → AreBytes b
    → (ao : Ao) × (find_ao (fields b).area ≡ One ao)
draft_ao {h = h} {code = code} {text = text} D bytes = (_, ap (λ (x : Segment). find_ao x.area) (draft_value D bytes) ∙ drafted_ao h code text)

-- ---- a draft is finished

checksum_in : (d : Segment) (c n : ℕ) → with_checksum (tcp_bytes d c) n ≡ tcp_bytes d n
unfolding tcp_bytes header put2 put4
checksum_in d c n = refl

checksum_over_is : (d : Segment) (c : ℕ) → FitsIp d.ip d → checksum_over (octets d.source.address ++ octets d.destination.address) (tcp_bytes d c) ≡ checksum_of d
unfolding checksum_of
checksum_over_is d c f =
    let w = words_pseudo d (tcp_bytes d 0) f in
    let same : words_sum (octets d.source.address ++ octets d.destination.address) + 6 + length (tcp_bytes d c) + words_sum (with_checksum (tcp_bytes d c) 0) ≡ words_sum (pseudo d (tcp_bytes d 0)) =
    omega (arith, w, tcp_long d c, ap words_sum (checksum_in d c 0)) in
    ap complement_at same ∙ sym (complement_by (pseudo d (tcp_bytes d 0)))

-- what stands in the buffer once the checksum was set
pub summed : {b : List ℕ} {header mac payload len c : ℕ} {h : Head} {code text rest : List ℕ} (after : List ℕ) → HoldsDraft b header mac payload len h c code text rest → AreBytes b → IsSet b after header len
    → HoldsDraft after header mac payload len h (checksum_of (drafted h code text)) code text rest
summed {b = b} {c = c} {h = h} {code = code} {text = text} {rest = rest} after D bytes set =
    let s : Segment = drafted h code text in
    let z = sizes D in
    let f : Fits s = draft_fits D bytes in
    let value : fields b ≡ with_sum s c = draft_value D bytes in
    let I : List ℕ = ip_part h code text in
    let T : List ℕ = tcp_bytes s c in
    let n : ℕ = checksum_of s in
    let zi = z.ip in let zt = z.tcp in let ze = z.end in
    let addresses : addresses_in b ≡ octets s.source.address ++ octets s.destination.address =
    addresses_are b ∙ ap (λ (x : Segment). octets x.source.address ++ octets x.destination.address) value in
    let sum : checksum_over (addresses_in b) T ≡ n = ap (λ (a : List ℕ). checksum_over a T) addresses ∙ checksum_over_is s c f.ip in
    let is : after ≡ I ++ (with_checksum T (checksum_over (addresses_in b) T) ++ rest) = set I T rest zi z.whole (omega arith) (omega arith) in
    let spelled : spell (with_sum s n) ≡ I ++ tcp_bytes s n = spell_with s n ∙ ip_then_tcp h code text (tcp_bytes s n) in
    record {
      bytes = is ∙ (ap (λ (k : ℕ). I ++ (with_checksum T k ++ rest)) sum ∙ (ap (λ (l : List ℕ). I ++ (l ++ rest)) (checksum_in s c n) ∙ (sym (append_assoc I (tcp_bytes s n) rest) ∙ ap (λ (l : List ℕ). l ++ rest) (sym spelled))));
      head = D.head;
      checksum_fits = (finished_fits s f).checksum;
      header_is = D.header_is;
      mac_is = D.mac_is;
      payload_is = D.payload_is;
      len_is = D.len_is;
      mac_length = D.mac_length;
      most = D.most;
    }

pub finishes : {b : List ℕ} {header mac payload len c : ℕ} {h : Head} {code text rest : List ℕ} (after : List ℕ) → HoldsDraft b header mac payload len h c code text rest → AreBytes b → IsSet b after header len
    → IsFinished h code text rest after
finishes {h = h} {code = code} {text = text} after D bytes set =
    let s : Segment = drafted h code text in
    let f : Fits s = draft_fits D bytes in
    record {
      bytes = (summed after D bytes set).bytes;
      fits = finished_fits s f;
      good = finished_good s f.ip;
      again = λ more. finished_again s more f;
    }
