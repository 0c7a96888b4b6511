-- What the other calls show.
use Rattle.std.proofs.Common.{◌≡◌, ℕ, zero, suc, ◌+◌, ◌-◌, ◌%◌, ◌^◌, ◌<◌, ◌≤◌, true, false, cond, List, [], ◌∷◌, ◌++◌, length, get_or, drop, set, Option, None, Some, refl, sym, ◌∙◌, ap, subst, inl, inr, arith, append_assoc}
use Rattle.std.specs.Prelude.{nat_le, nat_lt, ◌&&◌, ◌||◌, is_some, IsSome, unwrap_or}
use Rattle.std.proofs.lemmas.Bool.{le-leb, lt-leb, cases_lt, cond-true, cond-false, or_right, or_left, false≢true}
use Rattle.std.proofs.lemmas.Bool.Decides.{nat_tests}
use Rattle.std.proofs.lemmas.List.{set_at, drop_more}
use Rattle.stream_buffers.specs.declared.slot.Slot.{Slot}
use Rattle.stream_buffers.specs.Pool.{Pool}
use Rattle.book_segments.specs.Bytes.{ring}
use Rattle.stream_buffers.specs.declared.run.Run.{Run}
use Rattle.stream_buffers.specs.declared.run.Span.{Span}
use Rattle.book_segments.specs.Received.{most_runs, bytes_from}
use Rattle.stream_buffers.specs.Kept.{Kept, byte_at, Shows, RunsFrom, forgotten_below}
use Rattle.stream_buffers.specs.Spans.{span, span_of, spans_of, all_spans, in_span, in_spans, Apart, AreNumbered, IsSound, seen}
use Rattle.stream_buffers.proofs.SpanLaws.{is_within, below, above, or_skip, or_none, none_below}
use Rattle.stream_buffers.proofs.Keeping.{byte_at_now, byte_at_seen, none_before, none_after, is_some-held}

-- the last kept position
last_of : (x : ℕ) (s : Span) (ss : List Span) (end : ℕ) → Apart x (s ∷ ss) end → in_spans (end - 1) (s ∷ ss) ≡ true
last_of x s [] end h = or_left (in_span (end - 1) s) false (is_within s.first s.end (end - 1) (omega (arith, h.1, h.2)) (omega (arith, h.1, h.2)))
last_of x s (t ∷ ts) end h = or_right (in_span (end - 1) s) _ (last_of s.end t ts end h.2)

last_kept : (from x : ℕ) (ss : List Span) (end : ℕ) → Apart x ss end → from < end → in_spans (end - 1) (span from x ∷ ss) ≡ true
last_kept from x [] end h lt = or_left (in_span (end - 1) (span from x)) false (is_within from x (end - 1) (omega arith) (omega (arith, h)))
last_kept from x (s ∷ ss) end h lt = or_right (in_span (end - 1) (span from x)) _ (last_of x s ss end h)

module _ {buffer : List ℕ} {from expected end : ℕ} {slots : Pool Run} {now : Kept} where
  some_at : (h : IsSound buffer from expected end slots) → seen buffer from expected slots.pairs ≡ now → (p : ℕ) → is_some (byte_at now p) ≡ in_spans p (all_spans from expected slots.pairs)
  some_at h e p = ap is_some (byte_at_now h now e p) ∙ is_some-held buffer (all_spans from expected slots.pairs) p

  pub some_past : (h : IsSound buffer from expected end slots) → seen buffer from expected slots.pairs ≡ now → (position : ℕ) → position < end → from < end → (p : ℕ) × (position ≤ p) × IsSome (byte_at now p)
  some_past h e position lt l = (end - 1, omega arith, some_at h e (end - 1) ∙ last_kept from expected (spans_of expected slots.pairs) end h.apart l)

  pub none_past : (h : IsSound buffer from expected end slots) → seen buffer from expected slots.pairs ≡ now → (p : ℕ) → IsSome (byte_at now p) → (from ≤ p) × (p < end)
  none_past h e p s =
      let i = sym (some_at h e p) ∙ s in
      elim (cases_lt p from) [
        | inl lt ↦ absurd (false≢true (sym (none_before h p lt) ∙ i))
        | inr ge ↦ elim (cases_lt p end) [
          | inl lt ↦ (ge, lt)
          | inr past ↦ absurd (false≢true (sym (none_after h p past) ∙ i))
        ]
      ]

-- no byte is kept where a reassembly begins
pub shows_none : (buffer : List ℕ) (first : ℕ) (slots : Pool Run) → IsSound buffer first first first slots → slots.pairs ≡ [] → Shows (seen buffer first first slots.pairs) first first (λ p. None)
shows_none buffer first slots h e = record {
  from = refl;
  expected = refl;
  bytes = λ p. byte_at_seen h p ∙ cond-false _ _ _ (ap (λ ps. in_spans p (all_spans first first ps)) e ∙ or_none _ false (nothing first p) refl);
}
  where
    nothing : (a p : ℕ) → (nat_le a p && nat_lt p a) ≡ false
    nothing a p = grind (arith, nat_tests)

pub sound_none : (buffer : List ℕ) (first : ℕ) (slots : Pool Run) → length buffer ≡ 65536 → slots.capacity ≡ most_runs → slots.pairs ≡ [] → first ≤ 2 ^ 63 → IsSound buffer first first first slots
sound_none buffer first slots size cap e le = record {
  size = size;
  capacity = cap;
  few = rw e (omega arith);
  ordered = omega arith;
  apart = rw e refl;
  numbered = rw e tt;
  near = omega arith;
  within = le;
}

-- the runs of the pool are those of the bytes
runs_of_spans : (m : ℕ → Option ℕ) (at low : ℕ) (ps : List (Slot × Run)) (end : ℕ) → AreNumbered ps → Apart low (spans_of at ps) end → ((p : ℕ) → low ≤ p → is_some (m p) ≡ in_spans p (spans_of at ps)) → RunsFrom m low ps
runs_of_spans m at low [] end n h c = λ p le. none_of (m p) (c p le)
  where
    none_of : (o : Option ℕ) → is_some o ≡ false → o ≡ None
    none_of None e = refl
    none_of (Some x) e = absurd (false≢true (sym e))
runs_of_spans m at low (q ∷ qs) end n h c =
    let s = span_of at q.1 in (
      s.first,
      h.0,
      remainder at q.1.first n.0,
      omega (arith, h.1),
      λ p a b. none_of (m p) (c p a ∙ or_none _ _ (below s.first s.end p b) (none_below s.end (spans_of at qs) end p h.2 (omega (arith, h.1)))),
      λ p a b. c p (omega (arith, h.0)) ∙ or_left _ (in_spans p (spans_of at qs)) (is_within s.first s.end p a b),
      runs_of_spans m at s.end qs end n.1 h.2 (λ p a. c p (omega (arith, h.0, h.1)) ∙ or_skip _ (in_spans p (spans_of at qs)) (above s.first s.end p a)),
    )
  where
    none_of : (o : Option ℕ) → is_some o ≡ false → o ≡ None
    none_of None e = refl
    none_of (Some x) e = absurd (false≢true (sym e))

    remainder : (at k : ℕ) → k < ring → k ≡ (at + (k + ring - at % ring) % ring) % ring
    remainder at k lt = omega arith

pub runs_shown : {buffer : List ℕ} {from expected end : ℕ} {slots : Pool Run} {now : Kept} (h : IsSound buffer from expected end slots) → seen buffer from expected slots.pairs ≡ now → RunsFrom (byte_at now) now.expected slots.pairs
runs_shown {buffer} {from} {expected} {end} {slots} {now} h e =
    let x : expected ≡ now.expected = ap (λ (k : Kept). k.expected) e in
    let P : ℕ → Type 0 = λ n. RunsFrom (byte_at now) n slots.pairs in
    subst P x (runs_of_spans (byte_at now) expected expected slots.pairs end h.numbered h.apart (λ p le. some_at h e p ∙ or_skip _ (in_spans p (spans_of expected slots.pairs)) (above from expected p le)))

-- one byte more is taken
bytes_from-more : (m : ℕ → Option ℕ) (n k : ℕ) → bytes_from m n (suc k) ≡ bytes_from m n k ++ unwrap_or (m (n + k)) 0 ∷ []
bytes_from-more m n zero = ap (λ i. unwrap_or (m i) 0 ∷ []) (omega arith)
bytes_from-more m n (suc k) = ap (λ xs. unwrap_or (m n) 0 ∷ xs) (bytes_from-more m (suc n) k ∙ ap (λ i. bytes_from m (suc n) k ++ unwrap_or (m i) 0 ∷ []) (omega arith))

length-bytes_from : (m : ℕ → Option ℕ) (n k : ℕ) → length (bytes_from m n k) ≡ k
length-bytes_from m n zero = refl
length-bytes_from m n (suc k) = ap suc (length-bytes_from m (suc n) k)

pub take_more : (m : ℕ → Option ℕ) (n k : ℕ) (out now : List ℕ) (y : ℕ) → k < length out → now ≡ bytes_from m n k ++ drop k out → m (n + k) ≡ Some y → set now k y ≡ bytes_from m n (k + 1) ++ drop (k + 1) out
take_more m n k out now y lt e is =
    let A = bytes_from m n k in
    let d = drop_more out k 0 lt in
    let next : bytes_from m n (k + 1) ≡ A ++ y ∷ [] = (let one : k + 1 ≡ suc k = omega arith in ap (bytes_from m n) one) ∙ (bytes_from-more m n k ∙ ap (λ o. A ++ unwrap_or o 0 ∷ []) is) in
    ap (λ xs. set xs k y) (e ∙ ap (λ xs. A ++ xs) d)
    ∙ (set_at A (get_or out k 0) (drop (k + 1) out) y k (length-bytes_from m n k)
    ∙ (sym (append_assoc A (y ∷ []) (drop (k + 1) out)) ∙ ap (λ xs. xs ++ drop (k + 1) out) (sym next)))

pub ready_byte : {buffer : List ℕ} {from expected end : ℕ} {slots : Pool Run} {now : Kept} (h : IsSound buffer from expected end slots) → seen buffer from expected slots.pairs ≡ now → (p : ℕ) → from ≤ p → p < expected → byte_at now p ≡ Some (get_or buffer (p % 65536) 0)
ready_byte {buffer} {from} {expected} {end} {slots} {now} h e p a b = byte_at_now h now e p ∙ cond-true _ _ _ (or_left _ (in_spans p (spans_of expected slots.pairs)) (is_within from expected p a b))

-- what is taken is forgotten
pub taken_out : (buffer : List ℕ) (from to expected end : ℕ) (slots : Pool Run) (now : Kept) (h : IsSound buffer from expected end slots) → seen buffer from expected slots.pairs ≡ now → from ≤ to → to ≤ expected → IsSound buffer to expected end slots → (p : ℕ) → byte_at (seen buffer to expected slots.pairs) p ≡ forgotten_below to (byte_at now) p
taken_out buffer from to expected end slots now h e a b h' p =
    byte_at_seen h' p ∙ elim (cases_lt p to) [
      | inl lt ↦
          cond-false _ _ _ (none_before h' p lt) ∙ sym (cond-false (nat_le to p) (byte_at now p) None (lt-leb to p lt))
      | inr ge ↦
          ap (λ t. cond (t || in_spans p (spans_of expected slots.pairs)) (Some (get_or buffer (p % 65536) 0)) None) (same to from expected p ge a) ∙ (sym (byte_at_now h now e p) ∙ sym (cond-true (nat_le to p) (byte_at now p) None (le-leb to p ge)))
    ]
  where
    same : (a b x p : ℕ) → a ≤ p → b ≤ a → (nat_le a p && nat_lt p x) ≡ (nat_le b p && nat_lt p x)
    same a b x p h k = grind (arith, nat_tests)
