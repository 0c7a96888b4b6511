-- The written form of a datagram, part by part.
use Rattle.std.proofs.Common.{◌≡◌, ℕ, ◌+◌, ◌-◌, ◌*◌, List, [], ◌∷◌, ◌++◌, length, take, drop, replicate, Option, Some, None, refl, sym, ap, subst, ◌∙◌, arith, append_assoc, inl, inr}
use Rattle.std.specs.Prelude.{◌⊎◌}
use Rattle.std.proofs.lemmas.List.{length-append, length-replicate, take-append-drop, take_at, drop_at, replicate-append-replicate}
use Rattle.book_base.specs.declared.address.Address.{Address}
use Rattle.book_base.specs.declared.address.Address.TheVariants.{V4, V6}
use Rattle.lent_bytes.specs.Part.{with_part}
use Rattle.lent_bytes.proofs.PartLaws.{with_part_is}
use Rattle.book_segments.specs.Bytes.{put2, put4}
use Rattle.book_segments.specs.Sockets.{octets}
use Rattle.book_segments.specs.Segments.{Segment, words_sum, complement_of, tcp_length, header, tcp_bytes, spell_as, spell}
use Rattle.book_segments.specs.Spelling.{with_sum}
use Rattle.tcp_segment.specs.Written.{mss_option, ip_words}
use Rattle.book_segments.proofs.Folding.{complement_by}
use Rattle.book_segments.proofs.SumLaws.{words_append, spell_with}
use Rattle.tcp_segment.specs.declared.spelling.Head.{Head}
use Rattle.tcp_segment.specs.Sums.{complement_at}
use Rattle.tcp_segment.specs.Layout.{written_ip, ip_start, tcp_start, ip_size, mss_length, option_heads, mac_place, drafted, AreSized, IsSized, HoldsDraft, IsFinished}

-- ---- addresses

even_words : (a : Address) (ys : List ℕ) → IsSized a → words_sum (octets a ++ ys) ≡ words_sum (octets a) + words_sum ys
even_words (V4 bytes) ys h = words_append 2 bytes ys (omega arith)
even_words (V6 bytes) ys h = words_append 8 bytes ys (omega arith)

pub ip_words_sum : (h : Head) (total : ℕ) → IsSized h.source.address → words_sum (ip_words h.source.address h.destination.address total) ≡ words_sum (69 ∷ 0 ∷ put2 total (0 ∷ 0 ∷ 64 ∷ 0 ∷ 64 ∷ 6 ∷ put2 0 [])) + (words_sum (octets h.source.address) + words_sum (octets h.destination.address))
unfolding put2
ip_words_sum h total s = omega (arith, even_words h.source.address (octets h.destination.address) s)

pub ip_checksum_is : (h : Head) (total start source destination c : ℕ) → IsSized h.source.address → start ≡ words_sum (69 ∷ 0 ∷ put2 total (0 ∷ 0 ∷ 64 ∷ 0 ∷ 64 ∷ 6 ∷ put2 0 []))
    → source ≡ words_sum (octets h.source.address) → destination ≡ words_sum (octets h.destination.address) → c ≡ complement_at (start + (source + destination)) → c ≡ complement_of (ip_words h.source.address h.destination.address total)
ip_checksum_is h total start source destination c s e1 e2 e3 ec =
    let same : start + (source + destination) ≡ words_sum (ip_words h.source.address h.destination.address total) = omega (arith, ip_words_sum h total s, e1, e2, e3) in
    ec ∙ (ap complement_at same ∙ sym (complement_by (ip_words h.source.address h.destination.address total)))

-- ---- the bytes of a draft

pub spell_start : (a : Address) (h : Head) (size : ℕ) (d : Segment) (t : List ℕ) → tcp_length d ≡ size
    → spell_as (written_ip h size a) d t ≡ ip_start h size a ++ (octets d.source.address ++ (octets d.destination.address ++ t))
unfolding put2 put4
spell_start (V4 bytes) h size d t e = rw e refl
spell_start (V6 bytes) h size d t e = rw e refl

-- all bytes in front of the MAC, with this TCP checksum, for a MAC and a payload of these lengths
abbrev pub before : Head → ℕ → ℕ → ℕ → List ℕ
before h c m p =
    let area = length (option_heads h m) + m in
    ip_start h (20 + area + p) h.source.address ++ (octets h.source.address ++ (octets h.destination.address ++ (tcp_start h c area ++ option_heads h m)))

header_start : (h : Head) (c : ℕ) (mac payload rest : List ℕ) → header (drafted h mac payload) c rest ≡ tcp_start h c (length (option_heads h (length mac) ++ mac)) ++ rest
unfolding header put2 put4
header_start h c mac payload rest =
    let n : 80 + 4 * length (option_heads h (length mac) ++ mac) + 0 ≡ 80 + 4 * length (option_heads h (length mac) ++ mac) = omega arith in
    rw n refl

pub area_long : (h : Head) (mac : List ℕ) → length (option_heads h (length mac) ++ mac) ≡ length (option_heads h (length mac)) + length mac
area_long h mac = length-append (option_heads h (length mac)) mac

tcp_parts : (h : Head) (c : ℕ) (mac payload : List ℕ)
    → tcp_bytes (drafted h mac payload) c ≡ tcp_start h c (length (option_heads h (length mac)) + length mac) ++ (option_heads h (length mac) ++ (mac ++ payload))
unfolding tcp_bytes
tcp_parts h c mac payload =
    header_start h c mac payload ((option_heads h (length mac) ++ mac) ++ payload)
    ∙ ap (λ (n : ℕ). tcp_start h c n ++ ((option_heads h (length mac) ++ mac) ++ payload)) (area_long h mac)
    ∙ ap (λ (l : List ℕ). tcp_start h c (length (option_heads h (length mac)) + length mac) ++ l) (append_assoc (option_heads h (length mac)) mac payload)

regroup : (a b c d e f : List ℕ) → a ++ (b ++ (c ++ (d ++ (e ++ f)))) ≡ (a ++ (b ++ (c ++ (d ++ e)))) ++ f
regroup a b c d e f = simp append_assoc

-- a draft is what is in front of the MAC, the MAC, and the payload
pub parts : (h : Head) (c : ℕ) (mac payload : List ℕ) → spell (with_sum (drafted h mac payload) c) ≡ before h c (length mac) (length payload) ++ (mac ++ payload)
parts h c mac payload =
    let d : Segment = drafted h mac payload in
    let heads : List ℕ = option_heads h (length mac) in
    let size : ℕ = 20 + length (heads ++ mac) + length payload in
    let start = spell_start h.source.address h size d (tcp_bytes d c) refl in
    let n : size ≡ 20 + (length heads + length mac) + length payload = omega (arith, area_long h mac) in
    spell_with d c ∙ (start
    ∙ (ap (λ (k : ℕ). ip_start h k h.source.address ++ (octets h.source.address ++ (octets h.destination.address ++ tcp_bytes d c))) n
    ∙ (ap (λ (l : List ℕ). ip_start h (20 + (length heads + length mac) + length payload) h.source.address ++ (octets h.source.address ++ (octets h.destination.address ++ l))) (tcp_parts h c mac payload)
    ∙ regroup (ip_start h (20 + (length heads + length mac) + length payload) h.source.address) (octets h.source.address) (octets h.destination.address) (tcp_start h c (length heads + length mac)) heads (mac ++ payload))))

pub start_long : (a c : Address) (h : Head) (n : ℕ) → AreSized a c → length (ip_start h n a) + (length (octets a) + length (octets c)) ≡ ip_size a
unfolding put2
start_long (V4 one) (V4 two) h n f = omega (arith, f.1, f.2)
start_long (V4 one) (V6 two) h n f = let apart = f.0 in absurd (cc)
start_long (V6 one) (V4 two) h n f = let apart = f.0 in absurd (cc)
start_long (V6 one) (V6 two) h n f = omega (arith, f.1, f.2)

pub tcp_start_long : (h : Head) (c n : ℕ) → length (tcp_start h c n) ≡ 20
unfolding put2 put4
tcp_start_long h c n = refl

pub mss_long : (o : Option ℕ) → length (mss_option o) ≡ mss_length o
unfolding put2
mss_long None = refl
mss_long (Some m) = refl

pub mss_cases : (o : Option ℕ) → (mss_length o ≡ 0) ⊎ (mss_length o ≡ 4)
mss_cases None = inl refl
mss_cases (Some m) = inr refl

pub heads_long : (h : Head) (m : ℕ) → length (option_heads h m) ≡ 4 + mss_length h.mss
heads_long h m = omega (arith, length-append (mss_option h.mss) (29 ∷ (4 + m) ∷ h.key_id ∷ h.rnext ∷ []), mss_long h.mss)

pub before_long : (h : Head) (c m p : ℕ) → AreSized h.source.address h.destination.address → length (before h c m p) ≡ mac_place h
before_long h c m p f =
    let heads : List ℕ = option_heads h m in
    let area : ℕ = length heads + m in
    let S : List ℕ = octets h.source.address in
    let D : List ℕ = octets h.destination.address in
    let start : List ℕ = ip_start h (20 + area + p) h.source.address in
    let tcp : List ℕ = tcp_start h c area in
    omega (
      arith,
      start_long h.source.address h.destination.address h (20 + area + p) f,
      tcp_start_long h c area,
      heads_long h m,
      length-append start (S ++ (D ++ (tcp ++ heads))),
      length-append S (D ++ (tcp ++ heads)),
      length-append D (tcp ++ heads),
      length-append tcp heads,
    )

-- ---- a part is written

pub regroup3 : (b m p r : List ℕ) → (b ++ (m ++ p)) ++ r ≡ b ++ (m ++ (p ++ r))
regroup3 b m p r = simp append_assoc

-- as many bytes as the payload has are put in as they are
pub payload_set : {b : List ℕ} {header mac payload len c : ℕ} {h : Head} {code old rest : List ℕ} (w : List ℕ) → HoldsDraft b header mac payload len h c code old rest → length w ≡ length old
    → HoldsDraft (with_part b payload len w) header mac payload len h c code w rest
payload_set {b = b} {payload = payload} {len = len} {c = c} {h = h} {code = code} {old = old} {rest = rest} w D e =
    let B : List ℕ = before h c (length code) (length old) in
    let is : b ≡ B ++ (code ++ (old ++ rest)) = D.bytes ∙ (ap (λ (l : List ℕ). l ++ rest) (parts h c code old) ∙ regroup3 B code old rest) in
    let lb = before_long h c (length code) (length old) D.head.family in
    let lm = D.mac_length in
    let cut : b ≡ (B ++ code) ++ (old ++ rest) = is ∙ sym (append_assoc B code (old ++ rest)) in
    let cut2 : b ≡ (B ++ (code ++ old)) ++ rest = is ∙ sym (regroup3 B code old rest) in
    let front : take payload b ≡ B ++ code = ap (take payload) cut ∙ take_at (B ++ code) (old ++ rest) payload (omega (arith, length-append B code, lb, D.payload_is, lm)) in
    let back : drop len b ≡ rest = ap (drop len) cut2 ∙ drop_at (B ++ (code ++ old)) rest len (omega (arith, length-append B (code ++ old), length-append code old, lb, D.len_is, lm)) in
    let again : B ≡ before h c (length code) (length w) = ap (before h c (length code)) (sym e) in
    let put : with_part b payload len w ≡ take payload b ++ (w ++ drop len b) = with_part_is b payload len w (omega (arith, D.len_is, D.payload_is, e)) in
    record {
      bytes = put ∙ rw (front, back) (append_assoc B code (w ++ rest)) ∙ (ap (λ (x : List ℕ). x ++ (code ++ (w ++ rest))) again ∙ (sym (regroup3 (before h c (length code) (length w)) code w rest) ∙ ap (λ (l : List ℕ). l ++ rest) (sym (parts h c code w))));
      head = D.head;
      checksum_fits = D.checksum_fits;
      header_is = D.header_is;
      mac_is = D.mac_is;
      payload_is = D.payload_is;
      len_is = omega (arith, D.len_is, e);
      mac_length = D.mac_length;
      most = D.most;
    }

-- as many bytes as the MAC has are put in as they are
pub mac_set : {b : List ℕ} {header mac payload len c : ℕ} {h : Head} {old text rest : List ℕ} (w : List ℕ) → HoldsDraft b header mac payload len h c old text rest → length w ≡ length old
    → HoldsDraft (with_part b mac payload w) header mac payload len h c w text rest
mac_set {b = b} {mac = mac} {payload = payload} {c = c} {h = h} {old = old} {text = text} {rest = rest} w D e =
    let B : List ℕ = before h c (length old) (length text) in
    let is : b ≡ B ++ (old ++ (text ++ rest)) = D.bytes ∙ (ap (λ (l : List ℕ). l ++ rest) (parts h c old text) ∙ regroup3 B old text rest) in
    let lb = before_long h c (length old) (length text) D.head.family in
    let lm = D.mac_length in
    let cut : b ≡ (B ++ old) ++ (text ++ rest) = is ∙ sym (append_assoc B old (text ++ rest)) in
    let front : take mac b ≡ B = ap (take mac) is ∙ take_at B (old ++ (text ++ rest)) mac (omega (arith, lb, D.mac_is)) in
    let back : drop payload b ≡ text ++ rest = ap (drop payload) cut ∙ drop_at (B ++ old) (text ++ rest) payload (omega (arith, length-append B old, lb, D.payload_is, lm)) in
    let again : B ≡ before h c (length w) (length text) = ap (λ (m : ℕ). before h c m (length text)) (sym e) in
    let put : with_part b mac payload w ≡ take mac b ++ (w ++ drop payload b) = with_part_is b mac payload w (omega (arith, D.mac_is, D.payload_is, D.mac_length, e)) in
    record {
      bytes = put ∙ rw (front, back) (ap (λ (x : List ℕ). x ++ (w ++ (text ++ rest))) again) ∙ (sym (regroup3 (before h c (length w) (length text)) w text rest) ∙ ap (λ (l : List ℕ). l ++ rest) (sym (parts h c w text)));
      head = D.head;
      checksum_fits = D.checksum_fits;
      header_is = D.header_is;
      mac_is = D.mac_is;
      payload_is = D.payload_is;
      len_is = D.len_is;
      mac_length = e ∙ D.mac_length;
      most = D.most;
    }

pub finished_at : (h : Head) (m n p q rest out : List ℕ) → m ≡ n → p ≡ q → IsFinished h m p rest out → IsFinished h n q rest out
finished_at h m n p q rest out e f F = subst (λ (x : List ℕ). IsFinished h n x rest out) f (subst (λ (x : List ℕ). IsFinished h x p rest out) e F)

-- ---- the draft is laid out

nested : (start S D tcp heads zeros : List ℕ) → ((((start ++ S) ++ D) ++ tcp) ++ heads) ++ zeros ≡ (start ++ (S ++ (D ++ (tcp ++ heads)))) ++ zeros
nested start S D tcp heads zeros = simp append_assoc

-- what six writes in a row leave
pub six_writes : (out0 out1 out2 out3 out4 out5 out6 start S D tcp heads : List ℕ) (r1 r2 r3 r4 r5 len m p : ℕ)
    → take r1 out1 ≡ start → take r2 out2 ≡ take r1 out1 ++ S → take r3 out3 ≡ take r2 out2 ++ D → take r4 out4 ≡ take r3 out3 ++ tcp → take r5 out5 ≡ take r4 out4 ++ heads → take len out6 ≡ take r5 out5 ++ replicate {A = ℕ} (len - r5) 0
    → drop len out1 ≡ drop len out0 → drop len out2 ≡ drop len out1 → drop len out3 ≡ drop len out2 → drop len out4 ≡ drop len out3 → drop len out5 ≡ drop len out4 → drop len out6 ≡ drop len out5
    → len - r5 ≡ m + p → out6 ≡ ((start ++ (S ++ (D ++ (tcp ++ heads)))) ++ (replicate {A = ℕ} m 0 ++ replicate {A = ℕ} p 0)) ++ drop len out0
six_writes out0 out1 out2 out3 out4 out5 out6 start S D tcp heads r1 r2 r3 r4 r5 len m p t1 t2 t3 t4 t5 t6 d1 d2 d3 d4 d5 d6 e =
    let zeros : replicate {A = ℕ} (len - r5) 0 ≡ replicate m 0 ++ replicate p 0 = rw e (sym (replicate-append-replicate {A = ℕ} m p 0)) in
    let front : take len out6 ≡ (start ++ (S ++ (D ++ (tcp ++ heads)))) ++ (replicate {A = ℕ} m 0 ++ replicate {A = ℕ} p 0) =
    rw (t6, t5, t4, t3, t2, t1, zeros) (nested start S D tcp heads (replicate {A = ℕ} m 0 ++ replicate {A = ℕ} p 0)) in
    let back : drop len out6 ≡ drop len out0 = d6 ∙ (d5 ∙ (d4 ∙ (d3 ∙ (d2 ∙ d1)))) in
    sym (take-append-drop len out6) ∙ rw (front, back) refl

pub laid_out : (h : Head) (m p : ℕ) (rest out : List ℕ) → out ≡ (before h 0 m p ++ (replicate {A = ℕ} m 0 ++ replicate {A = ℕ} p 0)) ++ rest → out ≡ spell (drafted h (replicate m 0) (replicate p 0)) ++ rest
laid_out h m p rest out e =
    let em : length (replicate {A = ℕ} m 0) ≡ m = length-replicate m 0 in
    let ep : length (replicate {A = ℕ} p 0) ≡ p = length-replicate p 0 in
    let M : List ℕ = replicate {A = ℕ} m 0 in
    let P : List ℕ = replicate {A = ℕ} p 0 in
    e ∙ (ap (λ (k : ℕ). (before h 0 k p ++ (M ++ P)) ++ rest) (sym em) ∙ (ap (λ (k : ℕ). (before h 0 (length M) k ++ (M ++ P)) ++ rest) (sym ep) ∙ ap (λ (l : List ℕ). l ++ rest) (sym (parts h 0 M P))))
