-- When two contexts are the same bytes.
use Rattle.std.proofs.Common.{◌≡◌, ◌↔◌, ℕ, ◌^◌, ◌<◌, ◌≤◌, ◌==◌, IsTrue, true, ◌&&◌, List, [], ◌++◌, length, take, drop, refl, sym, ap, ◌∙◌, arith, append_assoc, length-append, length-take}
use Rattle.std.proofs.lemmas.Bool.Decides.{nat_tests}
use Rattle.std.proofs.lemmas.List.{take-append-drop}
use Rattle.book_segments.specs.Bytes.{put2, put4}
use Rattle.book_segments.specs.Sockets.{octets}
use Rattle.book_segments.proofs.Fields.{and_tells, append_split, eqb_is, put2_law, put4_law}
use Rattle.book_macs.specs.declared.context.Context.{Context}
use Rattle.book_macs.specs.Contexts.{bytes_of, context}
use Rattle.link_report.specs.Contexts.{numbers_of}

-- ---- pieces

-- bytes of two pieces are cut where the first one ends
pub cut_is : (whole front back : List ℕ) → length front ≤ length whole → whole ≡ front ++ back → (take (length front) whole ≡ front) × (drop (length front) whole ≡ back)
cut_is whole front back long e =
    let size = length-take (length front) whole in
    append_split (take (length front) whole) front (drop (length front) whole) back (omega arith) (take-append-drop (length front) whole ∙ e)

pub too_short : (whole front back : List ℕ) → length whole < length front → whole ≡ front ++ back → ⊥
too_short whole front back short e =
    let size = length-append front back in
    let same = ap length e in
    absurd (omega (arith, size, same))

pub joined : (whole front back : List ℕ) → take (length front) whole ≡ front → drop (length front) whole ≡ back → whole ≡ front ++ back
joined whole front back f b = sym (take-append-drop (length front) whole) ∙ ap (λ t. t ++ drop (length front) whole) f ∙ ap (λ t. front ++ t) b

-- the shorter of two first pieces begins the longer one
pub shorter_is : (one two three four : List ℕ) → length one ≤ length three → one ++ two ≡ three ++ four → (take (length one) three ≡ one) × (two ≡ drop (length one) three ++ four)
shorter_is one two three four long e =
    let size = length-take (length one) three in
    let whole : three ≡ take (length one) three ++ drop (length one) three = sym (take-append-drop (length one) three) in
    let parts = append_split one (take (length one) three) two (drop (length one) three ++ four) (omega arith)
    (e ∙ ap (λ t. t ++ four) whole ∙ append_assoc (take (length one) three) (drop (length one) three) four) in
    (sym parts.0, parts.1)

pub together : (one two three four : List ℕ) → take (length one) three ≡ one → two ≡ drop (length one) three ++ four → one ++ two ≡ three ++ four
together one two three four f b =
    ap (λ t. one ++ t) b ∙ ap (λ t. t ++ (drop (length one) three ++ four)) (sym f)
    ∙ sym (append_assoc (take (length one) three) (drop (length one) three) four)
    ∙ ap (λ t. t ++ four) (take-append-drop (length one) three)

-- ---- contexts

addresses_of : Context → List ℕ
addresses_of c = octets c.source.address ++ octets c.destination.address

spelled : (c : Context) → bytes_of c ≡ (octets c.source.address ++ octets c.destination.address) ++ numbers_of c
unfolding context
spelled c = sym (append_assoc (octets c.source.address) (octets c.destination.address) (numbers_of c))

twelve : (c : Context) → length (numbers_of c) ≡ 12
unfolding put2 put4
twelve c = refl

same_length : (a b t u : List ℕ) → length t ≡ 12 → length u ≡ 12 → a ++ t ≡ b ++ u → length a ≡ length b
same_length a b t u one two e =
    let left = length-append a t in
    let right = length-append b u in
    let same = ap length e in
    omega (arith, left, right, same, one, two)

-- equal contexts have equal addresses and numbers
pub parts_of : (one other : Context) → bytes_of one ≡ bytes_of other
    → (octets one.source.address ++ octets one.destination.address ≡ octets other.source.address ++ octets other.destination.address) × (numbers_of one ≡ numbers_of other)
parts_of one other e =
    let whole = sym (spelled one) ∙ e ∙ spelled other in
    append_split _ _ (numbers_of one) (numbers_of other) (same_length _ _ (numbers_of one) (numbers_of other) (twelve one) (twelve other) whole) whole

pub of_parts : (one other : Context) → octets one.source.address ++ octets one.destination.address ≡ octets other.source.address ++ octets other.destination.address
    → numbers_of one ≡ numbers_of other → bytes_of one ≡ bytes_of other
of_parts one other a n =
    spelled one ∙ ap (λ t. t ++ numbers_of one) a ∙ ap (λ t. (octets other.source.address ++ octets other.destination.address) ++ t) n ∙ sym (spelled other)

-- ---- numbers

pub numbers_tell : (p q i j r s k l : ℕ) → p < 65536 → q < 65536 → i < 2 ^ 32 → j < 2 ^ 32 → r < 65536 → s < 65536 → k < 2 ^ 32 → l < 2 ^ 32
    → put2 p (put2 q (put4 i (put4 j []))) ≡ put2 r (put2 s (put4 k (put4 l []))) → (p ≡ r) × (q ≡ s) × (i ≡ k) × (j ≡ l)
numbers_tell p q i j r s k l hp hq hi hj hr hs hk hl e =
    let one = put2_law p r _ _ e in
    let two = put2_law q s _ _ one.1 in
    let three = put4_law i k _ _ two.1 in
    let four = put4_law j l _ _ three.1 in
    let a = one.0 in
    let b = two.0 in
    let c = three.0 in
    let d = four.0 in
    (omega (arith, a), omega (arith, b), omega (arith, c), omega (arith, d))

tells_four : (a b c d p q r s : ℕ) → IsTrue ((((a == p) && (b == q)) && (c == r)) && (d == s)) → (a ≡ p) × (b ≡ q) × (c ≡ r) × (d ≡ s)
tells_four a b c d p q r s t =
    let one = and_tells (((a == p) && (b == q)) && (c == r)) (d == s) t in
    let two = and_tells ((a == p) && (b == q)) (c == r) one.0 in
    let three = and_tells (a == p) (b == q) two.0 in
    (eqb_is a p three.0, eqb_is b q three.1, eqb_is c r two.1, eqb_is d s one.1)

four_tell : (a b c d p q r s : ℕ) → a ≡ p → b ≡ q → c ≡ r → d ≡ s → IsTrue ((((a == p) && (b == q)) && (c == r)) && (d == s))
four_tell a b c d p q r s e f g h =
    let one : (a == p) ≡ true = grind (arith, nat_tests, e) in
    let two : (b == q) ≡ true = grind (arith, nat_tests, f) in
    let three : (c == r) ≡ true = grind (arith, nat_tests, g) in
    let four : (d == s) ≡ true = grind (arith, nat_tests, h) in rw (one, two, three, four) refl

pub all_equal : (one other : Context) → one.source.port < 65536 → one.destination.port < 65536 → one.source_isn < 2 ^ 32 → one.dest_isn < 2 ^ 32
    → other.source.port < 65536 → other.destination.port < 65536 → other.source_isn < 2 ^ 32 → other.dest_isn < 2 ^ 32
    → IsTrue ((((one.source.port == other.source.port) && (one.destination.port == other.destination.port)) && (one.source_isn == other.source_isn)) && (one.dest_isn == other.dest_isn))
    ↔ (numbers_of one ≡ numbers_of other)
all_equal one other a b c d p q r s = (
  λ t.
      let e = tells_four one.source.port one.destination.port one.source_isn one.dest_isn other.source.port other.destination.port other.source_isn other.dest_isn t in
      rw (e.0, e.1, e.2, e.3) refl,
  λ h.
      let e =
      numbers_tell one.source.port one.destination.port one.source_isn one.dest_isn other.source.port other.destination.port other.source_isn other.dest_isn a b c d p q r s h in
      four_tell one.source.port one.destination.port one.source_isn one.dest_isn other.source.port other.destination.port other.source_isn other.dest_isn e.0 e.1 e.2 e.3,
)
