-- The MAC of a draft doesn't depend on what stands in its MAC field.
use Rattle.std.proofs.Common.{◌≡◌, ℕ, ◌+◌, ◌/◌, Bool, true, false, List, [], ◌∷◌, ◌++◌, length, take, drop, replicate, refl, sym, ap, subst, ◌∙◌, arith}
use Rattle.std.proofs.lemmas.List.{take_at, drop_all}
use Rattle.book_base.specs.declared.address.Address.{Address}
use Rattle.book_base.specs.declared.address.Address.TheVariants.{V4, V6}
use Rattle.book_base.specs.declared.algorithm.Algorithm.{Algorithm}
use Rattle.book_segments.specs.Bytes.{put4}
use Rattle.book_segments.specs.Options.{Ao, AoFound, One, find_ao}
use Rattle.book_segments.specs.Segments.{Segment, pseudo_of, pseudo, header}
use Rattle.book_macs.specs.Keys.{mac}
use Rattle.book_macs.specs.MacInput.{covered, mac_input}
use Rattle.tcp_segment.specs.declared.spelling.Head.{Head}
use Rattle.tcp_segment.specs.Drafts.{DatagramMut, Drafted}
use Rattle.tcp_segment.specs.Layout.{written_ip, mss_length, option_heads, drafted}
use Rattle.tcp_segment.proofs.DraftLaws.{drafted_ao}
use Rattle.tcp_segment.proofs.WriteLaws.{heads_long, area_long}
use Rattle.ao_mac.specs.Macs.{IsMacOf}
use Rattle.ao_mac.specs.Sealed.{IsSealed}

-- ---- what the MAC is computed over

abbrev pub ao_in : Head → List ℕ → Ao
ao_in h mac = record { key_id = h.key_id; rnext_key_id = h.rnext; mac = mac; place = mss_length h.mss }

area_same : (h : Head) (m n : List ℕ) → length m ≡ length n → length (option_heads h (length m) ++ m) ≡ length (option_heads h (length n) ++ n)
area_same h m n e = omega (arith, area_long h m, area_long h n, heads_long h (length m), heads_long h (length n))

-- what is covered of the options of a draft
abbrev covers : Head → Bool → List ℕ → List ℕ
covers h flag m = covered flag (option_heads h (length m) ++ m) (ao_in h m)

covered_front : (h : Head) (m : List ℕ) → covers h true m ≡ option_heads h (length m) ++ (replicate (length m) 0 ++ [])
covered_front h m =
    let place : ℕ = mss_length h.mss in
    let long : length (option_heads h (length m)) ≡ 4 + place = heads_long h (length m) in
    let front : take (place + 4) (option_heads h (length m) ++ m) ≡ option_heads h (length m) = take_at (option_heads h (length m)) m (place + 4) (omega arith) in
    let back : drop (place + 4 + length m) (option_heads h (length m) ++ m) ≡ [] = drop_all (place + 4 + length m) (option_heads h (length m) ++ m) (omega (arith, area_long h m)) in
    ap (λ (l : List ℕ). l ++ (replicate (length m) 0 ++ drop (place + 4 + length m) (option_heads h (length m) ++ m))) front
    ∙ ap (λ (l : List ℕ). option_heads h (length m) ++ (replicate (length m) 0 ++ l)) back

covered_blind : (h : Head) (flag : Bool) (m n : List ℕ) → length m ≡ length n → covers h flag m ≡ covers h flag n
covered_blind h true m n e =
    covered_front h m ∙ (ap (λ (k : ℕ). option_heads h k ++ (replicate {A = ℕ} k 0 ++ [])) e ∙ sym (covered_front h n))
covered_blind h false m n e = ap (λ (k : ℕ). 29 ∷ (4 + k) ∷ h.key_id ∷ h.rnext ∷ replicate {A = ℕ} k 0) e

pseudo_blind : (a : Address) (h : Head) (j k : ℕ) (m n payload rest : List ℕ) → length m ≡ length n
    → pseudo_of (written_ip h j a) (drafted h m payload) rest ≡ pseudo_of (written_ip h k a) (drafted h n payload) rest
pseudo_blind (V4 bytes) h j k m n payload rest e = rw (area_same h m n e) refl
pseudo_blind (V6 bytes) h j k m n payload rest e = rw (area_same h m n e) refl

header_blind : (h : Head) (m n payload rest : List ℕ) → length m ≡ length n → header (drafted h m payload) 0 rest ≡ header (drafted h n payload) 0 rest
unfolding header
header_blind h m n payload rest e = rw (area_same h m n e) refl

pub input_blind : (number : ℕ) (h : Head) (m n payload : List ℕ) (flag : Bool) → length m ≡ length n
    → mac_input number (drafted h m payload) (ao_in h m) flag ≡ mac_input number (drafted h n payload) (ao_in h n) flag
unfolding mac_input pseudo
input_blind number h m n payload flag e =
    let d : Segment = drafted h m payload in
    let start : ℕ = number / 4294967296 in
    let j : ℕ = 20 + length (option_heads h (length m) ++ m) + length payload in
    let k : ℕ = 20 + length (option_heads h (length n) ++ n) + length payload in
    ap (λ (c : List ℕ). put4 start (pseudo d (header d 0 (c ++ payload)))) (covered_blind h flag m n e)
    ∙ (ap (λ (l : List ℕ). put4 start (pseudo d l)) (header_blind h m n payload (covers h flag n ++ payload) e)
    ∙ ap (put4 start) (pseudo_blind h.source.address h j k m n payload (header (drafted h n payload) 0 (covers h flag n ++ payload)) e))

one_is : (x : AoFound) (p q : Ao) → x ≡ One p → x ≡ One q → p ≡ q
one_is x p q e f = cc

mac_blind : (bytes : List ℕ) (algorithm : Algorithm) (key : List ℕ) (extension : ℕ) (h : Head) (m n payload : List ℕ) (flag : Bool) → length m ≡ length n
    → IsMacOf bytes algorithm key extension (drafted h m payload) flag → IsMacOf bytes algorithm key extension (drafted h n payload) flag
mac_blind bytes algorithm key extension h m n payload flag e is = λ number ao f found.
    let same : ao_in h n ≡ ao = one_is (find_ao (drafted h n payload).area) (ao_in h n) ao (drafted_ao h n payload) found in
    is number (ao_in h m) f (drafted_ao h m payload)
    ∙ (ap (mac algorithm key) (input_blind number h m n payload flag e)
    ∙ ap (λ (x : Ao). mac algorithm key (mac_input number (drafted h n payload) x flag)) same)

-- ---- the MAC is put in

-- the MAC that was computed over a draft stands in it
pub sealed : (d : DatagramMut) (h : Head) (old payload rest w bytes : List ℕ) (s : Segment) (algorithm : Algorithm) (key : List ℕ) (extension : ℕ) (flag : Bool)
    → Drafted d h w payload rest → w ≡ bytes → length w ≡ length old → s ≡ drafted h old payload → IsMacOf bytes algorithm key extension s flag
    → IsSealed d h old payload rest algorithm key extension flag
sealed d h old payload rest w bytes s algorithm key extension flag D same long is of =
    let of_w : IsMacOf w algorithm key extension (drafted h old payload) flag =
    subst (λ (x : List ℕ). IsMacOf x algorithm key extension (drafted h old payload) flag) (sym same) (subst (λ (x : Segment). IsMacOf bytes algorithm key extension x flag) is of) in
    record {
      mac = w;
      drafted_so = D;
      of_old = of_w;
      of_new = mac_blind w algorithm key extension h old w payload flag (sym long) of_w;
    }
