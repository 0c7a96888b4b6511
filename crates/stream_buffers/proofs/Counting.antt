-- The first missing position, and the separate runs past it.
use Rattle.std.proofs.Common.{◌≡◌, ℕ, zero, suc, ◌+◌, ◌<◌, ◌≤◌, true, false, List, [], ◌∷◌, length, Option, refl, ◌∙◌, ap, inl, inr, arith}
use Rattle.std.specs.Prelude.{nat_lt, ◌&&◌, ◌||◌, is_some}
use Rattle.std.proofs.lemmas.Bool.{le-leb, lt-ltb, le-ltb, cases_lt, cond-true, cond-false}
use Rattle.stream_buffers.specs.declared.run.Span.{Span}
use Rattle.book_segments.specs.Received.{first_missing, runs}
use Rattle.stream_buffers.specs.Spans.{in_spans, Apart}
use Rattle.stream_buffers.proofs.SpanLaws.{none_below, Apart-order, below, is_within, or_none}

pub first_missing-is : (m : ℕ → Option ℕ) (n p x : ℕ) → p ≤ x → x ≤ p + n → ((q : ℕ) → p ≤ q → q < x → is_some (m q) ≡ true) → is_some (m x) ≡ false → first_missing m p n ≡ x
first_missing-is m zero p x a b there gone = omega arith
first_missing-is m (suc n) p x a b there gone =
    elim (cases_lt p x) [
      | inl lt ↦
          cond-true (is_some (m p)) _ _ (there p (omega arith) lt) ∙ first_missing-is m n (suc p) x (omega arith) (omega arith) (λ q c d. there q (omega arith) d) gone
      | inr ge ↦
          (let e : p ≡ x = omega arith in
          cond-false (is_some (m p)) _ _ (ap (λ q. is_some (m q)) e ∙ gone) ∙ e)
    ]

-- the first span begins at a position or later
abbrev Starts : ℕ → List Span → Type 0
Starts p [] = Unit {0}
Starts p (s ∷ ss) = p ≤ s.first

abbrev Out : (ℕ → Option ℕ) → ℕ → Type 0
Out m n = (p low : ℕ) (ss : List Span) (e : ℕ) → Apart low ss e → Starts p ss → e ≤ p + n → ((q : ℕ) → p ≤ q → is_some (m q) ≡ in_spans q ss) → runs m false p n ≡ length ss

abbrev Inside : (ℕ → Option ℕ) → ℕ → Type 0
Inside m n = (p end : ℕ) (ss : List Span) (e : ℕ) → p ≤ end → Apart end ss e → e ≤ p + n → ((q : ℕ) → p ≤ q → is_some (m q) ≡ (nat_lt q end || in_spans q ss)) → runs m true p n ≡ length ss

out_none : (m : ℕ → Option ℕ) → Out m zero
out_none m p low [] e h s b c = refl
out_none m p low (t ∷ ts) e h s b c = absurd (omega (arith, Apart-order t.end ts e h.2, h.1))

inside_none : (m : ℕ → Option ℕ) → Inside m zero
inside_none m p end [] e a h b c = refl
inside_none m p end (t ∷ ts) e a h b c = absurd (omega (arith, Apart-order t.end ts e h.2, h.0, h.1))

out_more : (m : ℕ → Option ℕ) (n : ℕ) → Out m n → Inside m n → Out m (suc n)
out_more m n out ins p low [] e h s b c =
    let no : is_some (m p) ≡ false = c p (omega arith) in
    let next = out (suc p) low [] e h tt (omega arith) (λ q k. c q (omega arith)) in
    rw no (omega (arith, next))
out_more m n out ins p low (t ∷ ts) e h s b c =
    elim (cases_lt p t.first) [
      | inl lt ↦
          (let no : is_some (m p) ≡ false = c p (omega arith) ∙ or_none _ _ (below t.first t.end p lt) (none_below t.end ts e p h.2 (omega (arith, h.1))) in
          let next = out (suc p) low (t ∷ ts) e h (omega arith) (omega arith) (λ q k. c q (omega arith)) in
          rw no (omega (arith, next)))
      | inr ge ↦
          (let there : is_some (m p) ≡ true = c p (omega arith) ∙ ap (λ x. x || in_spans p ts) (is_within t.first t.end p ge (omega (arith, h.1))) in
          let next = ins (suc p) t.end ts e (omega (arith, h.1)) h.2 (omega arith) (λ q k. c q (omega arith) ∙ ap (λ x. (x && nat_lt q t.end) || in_spans q ts) (le-leb t.first q (omega arith))) in
          rw there (omega (arith, next)))
    ]

inside_more : (m : ℕ → Option ℕ) (n : ℕ) → Out m n → Inside m n → Inside m (suc n)
inside_more m n out ins p end ss e a h b c =
    elim (cases_lt p end) [
      | inl lt ↦
          (let there : is_some (m p) ≡ true = c p (omega arith) ∙ ap (λ x. x || in_spans p ss) (lt-ltb p end lt) in
          let next = ins (suc p) end ss e (omega arith) h (omega arith) (λ q k. c q (omega arith)) in
          rw there (omega (arith, next)))
      | inr ge ↦
          (let no : is_some (m p) ≡ false = c p (omega arith) ∙ or_none _ _ (le-ltb p end ge) (none_below end ss e p h (omega arith)) in
          let next = out (suc p) end ss e h (starts_past ss h) (omega arith) (λ q k. c q (omega arith) ∙ ap (λ x. x || in_spans q ss) (le-ltb q end (omega arith))) in
          rw no (omega (arith, next)))
    ]
  where
    starts_past : (ss : List Span) → Apart end ss e → Starts (suc p) ss
    starts_past [] h = tt
    starts_past (t ∷ ts) h = omega (arith, h.0)

both : (m : ℕ → Option ℕ) (n : ℕ) → Out m n × Inside m n
both m zero = (out_none m, inside_none m)
both m (suc n) = let r = both m n in (out_more m n r.0 r.1, inside_more m n r.0 r.1)

-- the runs past a missing position are its spans
pub runs-are : (m : ℕ → Option ℕ) (x n : ℕ) (ss : List Span) (e : ℕ) → Apart x ss e → e ≤ x + n → ((q : ℕ) → x ≤ q → is_some (m q) ≡ in_spans q ss) → runs m false x n ≡ length ss
runs-are m x n [] e h b c = (both m n).0 x x [] e h tt b c
runs-are m x n (t ∷ ts) e h b c = (both m n).0 x x (t ∷ ts) e h (omega (arith, h.0)) b c
