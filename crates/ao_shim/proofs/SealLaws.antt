-- A datagram of the own kernel is laid out with TCP-AO, and its MAC is that of what is sealed.
use Rattle.std.proofs.Common.{◌≡◌, ℕ, zero, suc, ◌+◌, ◌-◌, ◌/◌, ◌%◌, ◌≤◌, Bool, false, List, ◌∷◌, ◌++◌, length, take, drop, replicate, Some, refl, sym, ap, subst, ◌∙◌, arith, length-append, inl, inr}
use Rattle.std.proofs.lemmas.List.{drop_at}
use Rattle.std.specs.List.{list_any}
use Rattle.book_base.specs.Algorithms.{mac_length_of}
use Rattle.book_segments.specs.Bytes.{ring}
use Rattle.book_segments.specs.Options.{Ao, One, find_ao, AreListed, plains, listed, options_of}
use Rattle.book_segments.specs.Segments.{IpHeader, Ipv4, Ipv6, Segment, Read, reading, spell, header, checksum_of}
use Rattle.book_segments.specs.Spelling.{AreBytes, Fits, with_sum}
use Rattle.book_segments.proofs.SumLaws.{same_pseudo}
use Rattle.book_segments.proofs.Again.{read_again}
use Rattle.book_segments.proofs.SpellLaws.{read_stands}
use Rattle.book_macs.specs.MacInput.{covered, mac_input}
use Rattle.book_macs.specs.Keys.{traffic_key, mac}
use Rattle.book_macs.proofs.LengthLaws.{twelve_or_sixteen}
use Rattle.book_keys.specs.Rows.{Row}
use Rattle.book_keys.specs.Coordination.{Sending}
use Rattle.book_endpoint.specs.Emissions.{ao_length, written_ao, no_mac}
use Rattle.book_shim.specs.Relaying.{fitted, relaid, with_area, length_in_header, going}
use Rattle.book_shim.specs.Leaving.{signs, ao_last, as_sent, with_ao, input_for, code_for}
use Rattle.law_shim.proofs.Sealing.{is_fitted, fitted_words, no_code_long, ao_area_words}
use Rattle.law_shim.proofs.Returning.{fitted_found, front_listed}
use Rattle.ao_shim.specs.Laying.{laid}
use Rattle.ao_shim.proofs.LaidLaws.{laid_ip_fits, laid_long, relaid_told}
use Rattle.ao_shim.proofs.SumLaws.{sent_long}
use Rattle.ao_mac.specs.Macs.{IsMacOf}
use Rattle.ao_shim.specs.Guards.{Written}
use Rattle.ao_shim.specs.Plans.{ao_after, HasOne}
use Rattle.law_shim.proofs.LongLaws.{rewritten_long, going_shortens}

-- ---- what is laid out fits its fields

pub laid_fits : (d : Segment) (area : List ℕ) → Fits d → length_in_header d.ip (with_area d area) ≤ 65535 → length area % 4 ≡ 0 → length area ≤ 40 → AreBytes area → AreListed (options_of area) → Fits (laid d area)
laid_fits d area f told words most bytes l = record {
  ip = laid_ip_fits d area f told;
  source_port = f.source_port;
  destination_port = f.destination_port;
  sequence = f.sequence;
  acknowledgement = f.acknowledgement;
  reserved = f.reserved;
  flags = f.flags;
  window = f.window;
  checksum = f.checksum;
  urgent = f.urgent;
  area = record { words = words; most = most; bytes = bytes };
  listed = l;
  payload = f.payload;
}

pub read_fits : (b : List ℕ) (d : Segment) → AreBytes b → reading b ≡ Read d → Fits d
read_fits b d bytes read = (read_stands b d bytes read).1

-- what was read has no more bytes than were given
pub read_room : (b : List ℕ) (d : Segment) → AreBytes b → reading b ≡ Read d → length (spell d) ≤ length b
read_room b d bytes read = let s = read_stands b d bytes read in omega (arith, ap (λ (l : List ℕ). length l) s.2, length-append (spell d) s.0)

-- ---- the options beside TCP-AO

-- the options that fit, and TCP-AO after them with its MAC zero
pub record Beside (d : Segment) (area : List ℕ) (s : Sending) : Type 0 where
  pub mac : mac_length_of s.row.algorithm ≤ 16
  pub room : length area + (4 + mac_length_of s.row.algorithm) ≤ 40
  pub less : length area ≤ length d.area
  pub long : length (area ++ written_ao s (no_mac s)) ≡ length area + (4 + mac_length_of s.row.algorithm)
  pub words : length (area ++ written_ao s (no_mac s)) % 4 ≡ 0
  pub found : find_ao (area ++ written_ao s (no_mac s)) ≡ One (ao_last area s (no_mac s))
  pub list : AreListed (options_of (area ++ written_ao s (no_mac s)))

pub beside : (d : Segment) (area : List ℕ) (s : Sending) → Fits d → list_any signs (plains (listed (options_of d.area))) ≡ false → fitted (40 - ao_length s) d.area ≡ Some area → Beside d area s
beside d area s f none e =
    let fit = is_fitted (40 - ao_length s) d.area area e in
    let m : mac_length_of s.row.algorithm ≤ 16 = elim (twelve_or_sixteen s.row.algorithm) [ inl x ↦ omega arith | inr x ↦ omega arith ] in
    let most = fit.most in
    let n = no_code_long s in
    record {
      mac = m;
      room = omega arith;
      less = subst (λ (l : List ℕ). length l ≤ length d.area) (sym fit.is) (rewritten_long (going fit.trim) d.area (going_shortens fit.trim) f.listed f.area.words);
      long = omega (arith, length-append area (written_ao s (no_mac s)), n);
      words = ao_area_words s area (fitted_words (40 - ao_length s) d.area area e);
      found = fitted_found d area s (no_mac s) f none fit;
      list = front_listed d area s (no_mac s) f none fit;
    }

pub blank_is : (area : List ℕ) (s : Sending) (key_id rnext n : ℕ) → key_id ≡ s.key_id → rnext ≡ s.rnext_key_id → n ≡ mac_length_of s.row.algorithm
    → area ++ ao_after key_id rnext (replicate n 0) ≡ area ++ written_ao s (no_mac s)
blank_is area s key_id rnext n a b c = rw (a, b, c) refl

pub whole_is : (area : List ℕ) (s : Sending) (key_id rnext : ℕ) (code : List ℕ) → key_id ≡ s.key_id → rnext ≡ s.rnext_key_id → area ++ ao_after key_id rnext code ≡ area ++ written_ao s code
whole_is area s key_id rnext code a b = rw (a, b) refl

-- with a MAC of its length there are as many bytes
pub whole_long : (area : List ℕ) (s : Sending) (code : List ℕ) → length code ≡ mac_length_of s.row.algorithm → length (area ++ written_ao s code) ≡ length area + (4 + mac_length_of s.row.algorithm)
whole_long area s code e = omega (arith, length-append area (written_ao s code), e)

-- ---- what is laid out is read again, with its TCP-AO option

pub laid_one : (d : Segment) (area rest out : List ℕ) (ao : Ao) → Fits (laid d area) → find_ao area ≡ One ao → out ≡ spell (laid d area) ++ rest → HasOne out
laid_one d area rest out ao f found e = record { segment = laid d area; ao = ao; read = ap reading e ∙ read_again (laid d area) rest f; found = found }

-- the TCP checksum isn't under the MAC
input_with : (n : ℕ) (d : Segment) (c : ℕ) (ao : Ao) (flag : Bool) → mac_input n (with_sum d c) ao flag ≡ mac_input n d ao flag
unfolding mac_input header
input_with n d c ao flag = ap (λ (l : List ℕ). Rattle.book_segments.specs.Bytes.put4 (n / ring) l) (same_pseudo d c (header d 0 (covered flag d.area ao ++ d.payload)))

pub input_relaid : (n : ℕ) (d : Segment) (area : List ℕ) (ao : Ao) (flag : Bool) → mac_input n (relaid d area) ao flag ≡ mac_input n (laid d area) ao flag
unfolding relaid
input_relaid n d area ao flag = input_with n (laid d area) (checksum_of (laid d area)) ao flag

-- ---- the whole

told_as : (d : Segment) (one two : List ℕ) → length one ≡ length two → length_in_header d.ip (with_area d one) ≡ length_in_header d.ip (with_area d two)
told_as d one two e = by d.ip
  where
    by : (i : IpHeader) → length_in_header i (with_area d one) ≡ length_in_header i (with_area d two)
    by (Ipv4 a b c f g o) = rw e refl
    by (Ipv6 a b) = rw e refl

pub told_with : (d : Segment) (one two : List ℕ) → length one ≡ length two → length_in_header d.ip (relaid d two) ≤ 65535 → length_in_header d.ip (with_area d one) ≤ 65535
told_with d one two e h = subst (λ (n : ℕ). n ≤ 65535) (relaid_told d.ip d two ∙ sym (told_as d one two e)) h

-- laid out with zeros, and again with the MAC, it is what is sealed
pub seals : (d : Segment) (area : List ℕ) (s : Sending) (n : ℕ) (context code blank whole out0 out1 out2 : List ℕ) (k m : ℕ) → Fits d → blank ≡ area ++ written_ao s (no_mac s) → whole ≡ area ++ written_ao s code
    → length code ≡ mac_length_of s.row.algorithm → find_ao blank ≡ One (ao_last area s (no_mac s))
    → IsMacOf code s.row.algorithm (traffic_key s.row.algorithm s.row.master context) (n / ring) (laid d blank) s.row.with_options
    → k ≡ length (spell (laid d blank)) → out1 ≡ spell (laid d blank) ++ drop k out0 → m ≡ length (spell (as_sent (relaid d whole))) → out2 ≡ spell (as_sent (relaid d whole)) ++ drop m out1
    → Written (spell (as_sent (with_ao d area s (code_for s context (input_for d area s n))))) out0 out2 m
seals d area s n context code blank whole out0 out1 out2 k m f eb ew long found is ek e1 em e2 =
    let nl = no_code_long s in
    let lb : length blank ≡ length area + (4 + mac_length_of s.row.algorithm) = ap (λ (l : List ℕ). length l) eb ∙ whole_long area s (no_mac s) nl in
    let lw : length whole ≡ length area + (4 + mac_length_of s.row.algorithm) = ap (λ (l : List ℕ). length l) ew ∙ whole_long area s code long in
    let same : m ≡ k = omega (arith, laid_long d blank d.checksum f, sent_long d whole f) in
    let rest : drop m out1 ≡ drop m out0 =
    ap (λ (l : List ℕ). drop m l) e1 ∙ (drop_at (spell (laid d blank)) (drop k out0) m (omega (arith, same, ek)) ∙ ap (λ (j : ℕ). drop j out0) (sym same)) in
    let input : mac_input n (laid d blank) (ao_last area s (no_mac s)) s.row.with_options ≡ input_for d area s n =
    sym (input_relaid n d blank (ao_last area s (no_mac s)) s.row.with_options) ∙ ap (λ (l : List ℕ). mac_input n (relaid d l) (ao_last area s (no_mac s)) s.row.with_options) eb in
    let code_is : code ≡ code_for s context (input_for d area s n) =
    is n (ao_last area s (no_mac s)) refl found ∙ ap (λ (l : List ℕ). mac s.row.algorithm (traffic_key s.row.algorithm s.row.master context) l) input in
    let segment : relaid d whole ≡ with_ao d area s (code_for s context (input_for d area s n)) = ap (relaid d) ew ∙ ap (λ (l : List ℕ). with_ao d area s l) code_is in
    record {
      count_is = em ∙ ap (λ (x : Segment). length (spell (as_sent x))) segment;
      new_is = e2 ∙ (ap (λ (l : List ℕ). spell (as_sent (relaid d whole)) ++ l) rest ∙ ap (λ (x : Segment). spell (as_sent x) ++ drop m out0) segment);
    }

-- ---- a MAC by equal parts

pub mac_as : (code : List ℕ) (x r : Row) (context : List ℕ) (e f : ℕ) (d c : Segment) → x ≡ r → e ≡ f → d ≡ c
    → IsMacOf code x.algorithm (traffic_key x.algorithm x.master context) e d x.with_options → IsMacOf code r.algorithm (traffic_key r.algorithm r.master context) f c r.with_options
mac_as code x r context e f d c a b g is =
    subst (λ (y : Row). IsMacOf code y.algorithm (traffic_key y.algorithm y.master context) f c y.with_options) a
    (subst (λ (k : ℕ). IsMacOf code x.algorithm (traffic_key x.algorithm x.master context) k c x.with_options) b
    (subst (λ (y : Segment). IsMacOf code x.algorithm (traffic_key x.algorithm x.master context) e y x.with_options) g is))

pub read_same : (d e : Segment) (b : List ℕ) → reading b ≡ Read d → reading b ≡ Read e → d ≡ e
read_same d e b h k = let x : Read d ≡ Read e = sym h ∙ k in cc

-- so many of sixteen zeros
zeros_front : (k n : ℕ) → k ≤ n → take k (replicate {A = ℕ} n 0) ≡ replicate k 0
zeros_front zero n h = refl
zeros_front (suc k) zero h = absurd (omega arith)
zeros_front (suc k) (suc n) h = ap (λ (l : List ℕ). 0 ∷ l) (zeros_front k n (omega arith))

pub zeros_taken : (k : ℕ) → k ≤ 16 → take k (replicate {A = ℕ} 16 0) ≡ replicate k 0
zeros_taken k h = zeros_front k 16 h
