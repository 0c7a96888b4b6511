-- The TCP checksum is set in place.
use Rattle.std.proofs.Common.{◌≡◌, ℕ, ◌+◌, ◌-◌, ◌/◌, ◌%◌, ◌<◌, ◌≤◌, Bool, true, false, List, [], ◌∷◌, ◌++◌, length, take, drop, refl, sym, ap, ◌∙◌, arith, append_assoc}
use Rattle.std.specs.Prelude.{slice_index, ◌==◌, if◌then◌else◌}
use Rattle.std.proofs.lemmas.List.{length-append, length-take, length-drop, take-append-drop, take_at, drop_at, append-nil}
use Rattle.book_segments.specs.Bytes.{put2, put4}
use Rattle.book_segments.specs.Segments.{words_sum, complement_of}
use Rattle.book_segments.specs.Spelling.{with_checksum, with_right_checksum, ip_length, addresses_in, pseudo_in}
use Rattle.book_segments.proofs.ByteLaws.{two_back}
use Rattle.book_segments.proofs.Folding.{complement_by}
use Rattle.book_segments.proofs.SumLaws.{words_append}
use Rattle.tcp_segment.specs.Parts.{spliced}
use Rattle.tcp_segment.specs.Sums.{complement_at, checksum_over, HasPlainHeader, IsSet}
use Rattle.tcp_segment.proofs.PartLaws.{spliced_middle}

pair_length : (x : ℕ) → length (put2 x []) ≡ 2
unfolding put2
pair_length x = refl

spliced_checksum : (t : List ℕ) (x : ℕ) → spliced t 16 (put2 x []) ≡ with_checksum t x
unfolding put2
spliced_checksum t x = append_assoc (take 16 t) (x / 256 % 256 ∷ x % 256 ∷ []) (drop 18 t)

with_length : (t : List ℕ) (x : ℕ) → 20 ≤ length t → length (with_checksum t x) ≡ length t
unfolding put2
with_length t x h = omega (arith, length-append (take 16 t) (x / 256 % 256 ∷ x % 256 ∷ drop 18 t), length-take 16 t, length-drop 18 t)

with_twice : (t : List ℕ) (x y : ℕ) → 20 ≤ length t → with_checksum (with_checksum t x) y ≡ with_checksum t y
unfolding put2
with_twice t x y h =
    let n : length (take 16 t) ≡ 16 = omega (arith, length-take 16 t) in
    let front : take 16 (with_checksum t x) ≡ take 16 t = take_at (take 16 t) (x / 256 % 256 ∷ x % 256 ∷ drop 18 t) 16 n in
    let cut : with_checksum t x ≡ (take 16 t ++ (x / 256 % 256 ∷ x % 256 ∷ [])) ++ drop 18 t = sym (append_assoc (take 16 t) (x / 256 % 256 ∷ x % 256 ∷ []) (drop 18 t)) in
    let back : drop 18 (with_checksum t x) ≡ drop 18 t = ap (drop 18) cut ∙ drop_at (take 16 t ++ (x / 256 % 256 ∷ x % 256 ∷ [])) (drop 18 t) 18 (omega (arith, n, length-append (take 16 t) (x / 256 % 256 ∷ x % 256 ∷ []))) in
    rw (front, back) refl

put_in : (ip t rest : List ℕ) (place x : ℕ) → place ≡ length ip + 16 → 20 ≤ length t → spliced (ip ++ (t ++ rest)) place (put2 x []) ≡ ip ++ (with_checksum t x ++ rest)
put_in ip t rest place x e h =
    let n = pair_length x in
    spliced_middle ip t rest (put2 x []) 16 place e (omega arith) ∙ ap (λ (l : List ℕ). ip ++ (l ++ rest)) (spliced_checksum t x)

pub is_set : (out out1 out2 : List ℕ) (header end addresses tcp c : ℕ) → out1 ≡ spliced out (header + 16) (put2 0 []) → out2 ≡ spliced out1 (header + 16) (put2 c [])
    → addresses ≡ words_sum (addresses_in out) → tcp ≡ words_sum (take (end - header) (drop header out1)) → c ≡ complement_at (addresses + 6 + (end - header) + tcp) → IsSet out out2 header end
is_set out out1 out2 header end addresses tcp c e1 e2 ea et ec ip t rest hl is he long =
    let first : out1 ≡ ip ++ (with_checksum t 0 ++ rest) = e1 ∙ (ap (λ (l : List ℕ). spliced l (header + 16) (put2 0 [])) is ∙ put_in ip t rest (header + 16) 0 (omega arith) long) in
    let n : length (with_checksum t 0) ≡ length t = with_length t 0 long in
    let part : take (end - header) (drop header out1) ≡ with_checksum t 0 =
    ap (λ (l : List ℕ). take (end - header) (drop header l)) first ∙ (ap (take (end - header)) (drop_at ip (with_checksum t 0 ++ rest) header hl) ∙ take_at (with_checksum t 0) rest (end - header) (omega arith)) in
    let size : end - header ≡ length t = omega arith in
    let same : addresses + 6 + (end - header) + tcp ≡ words_sum (addresses_in out) + 6 + length t + words_sum (with_checksum t 0) = omega (arith, ea, et, ap words_sum part, size) in
    let sum : c ≡ checksum_over (addresses_in out) t = ec ∙ ap complement_at same in
    e2 ∙ (ap (λ (l : List ℕ). spliced l (header + 16) (put2 c [])) first ∙ (put_in ip (with_checksum t 0) rest (header + 16) c (omega arith) (omega arith)
    ∙ (ap (λ (l : List ℕ). ip ++ (l ++ rest)) (with_twice t 0 c long) ∙ ap (λ (x : ℕ). ip ++ (with_checksum t x ++ rest)) sum)))

pseudo_words : (four : Bool) (a4 a6 rest : List ℕ) (n4 n6 : ℕ) → length a4 ≡ 8 → length a6 ≡ 32 → (four ≡ true → n4 < 65536) → (four ≡ false → n6 < 65536)
    → words_sum (if four then (if four then a4 else a6) ++ (0 ∷ 6 ∷ put2 n4 rest) else (if four then a4 else a6) ++ put4 n6 (0 ∷ 0 ∷ 0 ∷ 6 ∷ rest)) ≡ words_sum (if four then a4 else a6) + 6 + (if four then n4 else n6) + words_sum rest
unfolding put2 put4
pseudo_words true a4 a6 rest n4 n6 h4 h6 s4 s6 =
    words_append 4 a4 (0 ∷ 6 ∷ n4 / 256 % 256 ∷ n4 % 256 ∷ rest) (omega arith) ∙ omega (arith, two_back n4 (s4 refl))
pseudo_words false a4 a6 rest n4 n6 h4 h6 s4 s6 =
    let small = s6 refl in
    let high : n6 / 16777216 % 256 ≡ 0 = omega arith in
    let next : n6 / 65536 % 256 ≡ 0 = omega arith in
    words_append 16 a6 (n6 / 16777216 % 256 ∷ n6 / 65536 % 256 ∷ n6 / 256 % 256 ∷ n6 % 256 ∷ 0 ∷ 0 ∷ 0 ∷ 6 ∷ rest) (omega arith) ∙ omega (arith, two_back n6 small, high, next)

less_by : (four : Bool) (n : ℕ) → (if four then 20 else 40) + 20 ≤ n → 40 ≤ n
less_by true n h = omega arith
less_by false n h = omega arith

under_four : (four : Bool) (n : ℕ) → n < (if four then 20 else 40) + 65536 → four ≡ true → n - 20 < 65536
under_four true n h e = omega arith
under_four false n h e = absurd (cc)

under_six : (four : Bool) (n : ℕ) → n < (if four then 20 else 40) + 65536 → four ≡ false → n - 40 < 65536
under_six true n h e = absurd (cc)
under_six false n h e = omega arith

size_by : (four : Bool) (n : ℕ) → (if four then n - 20 else n - 40) ≡ n - (if four then 20 else 40)
size_by true n = refl
size_by false n = refl

pub least_forty : (b : List ℕ) → HasPlainHeader b → 40 ≤ length b
least_forty b h = less_by (slice_index b 0 / 16 == 4) (length b) h.least

pseudo_in_words : (b rest : List ℕ) → HasPlainHeader b → words_sum (pseudo_in b rest) ≡ words_sum (addresses_in b) + 6 + (length b - ip_length b) + words_sum rest
pseudo_in_words b rest h =
    let n = least_forty b h in
    let four : Bool = slice_index b 0 / 16 == 4 in
    let w = pseudo_words (slice_index b 0 / 16 == 4) (take 8 (drop 12 b)) (take 32 (drop 8 b)) rest (length b - 20) (length b - 40)
    (omega (arith, length-take 8 (drop 12 b), length-drop 12 b)) (omega (arith, length-take 32 (drop 8 b), length-drop 8 b))
    (under_four (slice_index b 0 / 16 == 4) (length b) h.most) (under_six (slice_index b 0 / 16 == 4) (length b) h.most) in
    w ∙ ap (λ (k : ℕ). words_sum (addresses_in b) + 6 + k + words_sum rest) (size_by (slice_index b 0 / 16 == 4) (length b))

pub fixes : (b after : List ℕ) (header : ℕ) → header ≡ ip_length b → HasPlainHeader b → IsSet b after header (length b) → after ≡ with_right_checksum b
unfolding with_right_checksum
fixes b after header e h set =
    let ip : List ℕ = take (ip_length b) b in
    let t : List ℕ = drop (ip_length b) b in
    let least = h.least in
    let li : length ip ≡ ip_length b = omega (arith, length-take (ip_length b) b) in
    let lt : length t ≡ length b - ip_length b = length-drop (ip_length b) b in
    let whole : b ≡ ip ++ (t ++ []) = sym (take-append-drop (ip_length b) b) ∙ ap (λ (l : List ℕ). ip ++ l) (sym (append-nil t)) in
    let same : words_sum (addresses_in b) + 6 + length t + words_sum (with_checksum t 0) ≡ words_sum (pseudo_in b (with_checksum t 0)) = omega (arith, pseudo_in_words b (with_checksum t 0) h, lt) in
    let sum : checksum_over (addresses_in b) t ≡ complement_of (pseudo_in b (with_checksum t 0)) = ap complement_at same ∙ sym (complement_by (pseudo_in b (with_checksum t 0))) in
    set ip t [] (omega arith) whole (omega arith) (omega arith) ∙ (ap (λ (l : List ℕ). ip ++ l) (append-nil (with_checksum t (checksum_over (addresses_in b) t))) ∙ ap (λ (x : ℕ). ip ++ with_checksum t x) sum)
