-- A piece that is to be kept, and what it makes of the bytes and their runs.
use Rattle.std.proofs.Common.{◌≡◌, ℕ, ◌+◌, ◌-◌, ◌%◌, ◌^◌, ◌<◌, ◌≤◌, min, max, true, cond, List, [], ◌∷◌, ◌++◌, length, get_or, take, drop, Option, None, Some, refl, sym, ◌∙◌, ap, subst, inl, inr, arith, length-take, length-drop}
use Rattle.std.specs.Prelude.{nat_le, nat_lt, ◌&&◌, ◌||◌, is_some, if◌then◌else◌}
use Rattle.std.proofs.lemmas.Bool.{cases_lt, false≢true}
use Rattle.stream_buffers.specs.declared.slot.Slot.{Slot}
use Rattle.stream_buffers.specs.Pool.{Pool}
use Rattle.book_segments.specs.Bytes.{ring}
use Rattle.stream_buffers.specs.declared.run.Run.{Run}
use Rattle.stream_buffers.specs.declared.run.Span.{Span}
use Rattle.book_segments.specs.Received.{keep, first_known, below_limit}
use Rattle.stream_buffers.specs.Kept.{Kept, byte_at, window, grown, missing_then, runs_then, Shows}
use Rattle.stream_buffers.specs.Spans.{span, span_of, run_of, spans_of, all_spans, in_span, in_spans, Apart, EndBelow, AreNumbered, Grown, IsSound, held, seen}
use Rattle.stream_buffers.proofs.SpanLaws.{above, or_assoc, or_none, none_above, Apart-order, in_spans-append, spans_of-append, length-spans_of, end_of, Apart-parts, position-same, numbered_front, numbered_back}
use Rattle.stream_buffers.proofs.Keeping.{put, byte_at_now, byte_at_seen, none_before, none_after, keep_is_put, is_some-put, held_put, counted}

-- a piece from `low` to `high` is to be kept
pub record IsOffered (buffer : List ℕ) (from expected end : ℕ) (slots : Pool Run) (now : Kept) (n : ℕ) (bytes : List ℕ) (limit : Option ℕ) (low high : ℕ) (piece : List ℕ) : Type 0 where
  pub sound : IsSound buffer from expected end slots
  pub view : seen buffer from expected slots.pairs ≡ now
  pub low_is : low ≡ max n expected
  pub high_is : high ≡ min (below_limit limit (from + 65535)) (n + length bytes)
  pub piece_is : piece ≡ take (high - n - (low - n)) (drop (low - n) bytes)
  pub small : n + length bytes ≤ 2 ^ 63

-- what a reassembly holds once a piece is kept, so that these bytes are
pub record IsLeft (buffer : List ℕ) (from expected end : ℕ) (slots : Pool Run) (now : Kept) (m : ℕ → Option ℕ) : Type 0 where
  pub sound : IsSound buffer from expected end slots
  pub shows : Shows (seen buffer from expected slots.pairs) now.from (missing_then now m) m
  pub runs_then_is : runs_then now m ≡ length slots.pairs

pub end_within : (low : ℕ) (ss : List Span) (to : ℕ) → EndBelow ss to → low ≤ to → end_of low ss ≤ to
end_within low [] to h le = le
end_within low (s ∷ ss) to h le = end_within s.end ss to h.1 (omega (arith, h.0))

-- where the piece begins at the first missing position no run ends before it
pub none_in_front : (at low : ℕ) (before : List (Slot × Run)) (rest : List Span) (high : ℕ) → low ≤ at → Apart at (spans_of at before ++ rest) high → EndBelow (spans_of at before) low → before ≡ []
none_in_front at low [] rest high le h e = refl
none_in_front at low (p ∷ ps) rest high le h e = absurd (omega (arith, h.0, h.1, e.0))

pub span_of-run_of : (at : ℕ) (s : Span) → at ≤ s.first → s.first < at + ring → s.first ≤ s.end → span_of at (run_of s) ≡ s
span_of-run_of at s a b c =
    let e = position-same at s.first a b in
    ap (λ f. span f (f + (s.end - s.first))) e ∙ ap (span s.first) (omega arith)

below_limit_le : (limit : Option ℕ) (n : ℕ) → below_limit limit n ≤ n
below_limit_le None n = omega arith
below_limit_le (Some l) n = omega arith

module _ {buffer : List ℕ} {from expected end : ℕ} {slots : Pool Run} {now : Kept} {n : ℕ} {bytes : List ℕ} {limit : Option ℕ} {low high : ℕ} {piece : List ℕ} where
  pub from_is : IsOffered buffer from expected end slots now n bytes limit low high piece → now.from ≡ from
  from_is o = ap (λ (k : Kept). k.from) (sym o.view)

  pub expected_is : IsOffered buffer from expected end slots now n bytes limit low high piece → now.expected ≡ expected
  expected_is o = ap (λ (k : Kept). k.expected) (sym o.view)

  pub order : IsOffered buffer from expected end slots now n bytes limit low high piece → (expected ≤ end) × (end ≤ from + 65535) × (from ≤ expected)
  order o = (Apart-order expected (spans_of expected slots.pairs) end o.sound.apart, o.sound.near, o.sound.ordered)

  pub edges : IsOffered buffer from expected end slots now n bytes limit low high piece → (expected ≤ low) × (high ≤ from + 65535) × (high ≤ 2 ^ 63) × (end ≤ 2 ^ 63)
  edges o = (omega (arith, o.low_is), omega (arith, o.high_is, below_limit_le limit (from + 65535)), omega (arith, o.high_is, o.small), o.sound.within)

  pub length_is : IsOffered buffer from expected end slots now n bytes limit low high piece → low ≤ high → low + length piece ≡ high
  length_is o le =
      let e = ap length o.piece_is in
      let k = high - n - (low - n) in
      omega (arith, e, length-take k (drop (low - n) bytes), length-drop (low - n) bytes, o.low_is, o.high_is)

  pub grown_is : IsOffered buffer from expected end slots now n bytes limit low high piece → (p : ℕ) → grown now n bytes limit p ≡ put (held buffer (all_spans from expected slots.pairs)) low high piece p
  grown_is o p =
      let t = order o in
      let x = expected_is o in
      let edge : now.expected + window now ≡ from + 65535 = omega (arith, x, from_is o, t.0, t.1, t.2) in
      ap (λ k. keep (byte_at now) (record { number = n; bytes = bytes }) (record { low = k; high = below_limit limit (now.expected + window now) }) p) x
      ∙ (ap (λ k. keep (byte_at now) (record { number = n; bytes = bytes }) (record { low = expected; high = below_limit limit k }) p) edge
      ∙ (keep_is_put (byte_at now) n bytes expected (below_limit limit (from + 65535)) low high piece o.low_is o.high_is o.piece_is p
      ∙ ap (λ v. first_known v (if nat_le low p && nat_lt p high then Some (get_or piece (p - low) 0) else None)) (byte_at_now o.sound now o.view p)))

  -- how many runs then lie past the first missing position, whatever spans they make
  pub runs_are : (o : IsOffered buffer from expected end slots now n bytes limit low high piece) (x : ℕ) (ss : List Span) (e : ℕ) → expected ≤ x → Apart x ss e → e ≤ from + 65535 → ((p : ℕ) → (in_spans p (all_spans from expected slots.pairs) || (nat_le low p && nat_lt p high)) ≡ in_spans p (span from x ∷ ss)) → (missing_then now (grown now n bytes limit) ≡ x) × (runs_then now (grown now n bytes limit) ≡ length ss)
  runs_are o x ss e le h near cover =
      let t = order o in
      let f = from_is o in
      counted now (grown now n bytes limit) x ss e (omega (arith, expected_is o)) (omega (arith, expected_is o)) (omega (arith, expected_is o)) h (omega arith) (λ p.
      ap is_some (grown_is o p) ∙ (is_some-put buffer (all_spans from expected slots.pairs) low high piece p ∙ (cover p ∙ ap (λ k. in_spans p (span k x ∷ ss)) (sym f))))

  -- a sound state that has the spans and the bytes shows them
  pub settled : (o : IsOffered buffer from expected end slots now n bytes limit low high piece) (after : List ℕ) (front old new : List Span) (x e : ℕ) (slots' : Pool Run) → all_spans from expected slots.pairs ≡ front ++ old → ((p : ℕ) → in_spans p front ≡ true → p < low) → Grown buffer after old new low high piece → IsSound after from x e slots' → expected ≤ x → ((p : ℕ) → in_spans p (all_spans from x slots'.pairs) ≡ in_spans p (front ++ new))
      → Shows (seen after from x slots'.pairs) now.from (missing_then now (grown now n bytes limit)) (grown now n bytes limit) × (runs_then now (grown now n bytes limit) ≡ length slots'.pairs)
  settled o after front old new x e slots' parts before g s le same =
      let t = order o in
      let d = edges o in
      let old_is : (p : ℕ) → in_spans p (all_spans from expected slots.pairs) ≡ in_spans p (front ++ old) = λ p. ap (in_spans p) parts in
      let many = runs_are o x (spans_of x slots'.pairs) e le s.apart s.near (λ p.
      ap (λ b. b || (nat_le low p && nat_lt p high)) (old_is p ∙ in_spans-append p front old)
      ∙ (or_assoc (in_spans p front) (in_spans p old) _ ∙ (ap (λ b. in_spans p front || b) (sym (g.cover p)) ∙ (sym (in_spans-append p front new) ∙ sym (same p))))) in (
        record {
          from = sym (from_is o);
          expected = sym many.0;
          bytes = λ p.
              byte_at_seen s p
              ∙ (ap (λ b. cond b (Some (get_or after (p % 65536) 0)) None) (same p)
              ∙ (held_put buffer after front old new from low high piece g before (λ q i. lap q (old_is q ∙ i)) (omega arith) (omega arith) p
              ∙ sym (grown_is o p ∙ ap (λ b. first_known (cond b (Some (get_or buffer (p % 65536) 0)) None) (if nat_le low p && nat_lt p high then Some (get_or piece (p - low) 0) else None)) (old_is p))));
        },
        many.1 ∙ length-spans_of x slots'.pairs,
      )
    where
      lap : (q : ℕ) → in_spans q (all_spans from expected slots.pairs) ≡ true → (from ≤ q) × (q < from + 65536)
      lap q i =
          elim (cases_lt q from) [
            | inl lt ↦ absurd (false≢true (sym (none_before o.sound q lt) ∙ i))
            | inr ge ↦ elim (cases_lt q end) [
              | inl lt ↦ (ge, omega (arith, o.sound.near))
              | inr past ↦ absurd (false≢true (sym (none_after o.sound q past) ∙ i))
            ]
          ]

-- the ready bytes and the runs that end in front of a piece
abbrev pub front_of : ℕ → ℕ → List (Slot × Run) → List Span
front_of from expected before = span from expected ∷ spans_of expected before

module _ {buffer : List ℕ} {from expected end : ℕ} {slots : Pool Run} {now : Kept} {n : ℕ} {bytes : List ℕ} {limit : Option ℕ} {low high : ℕ} {piece : List ℕ} where
  -- the runs, parted in front of the piece
  pub parted : (o : IsOffered buffer from expected end slots now n bytes limit low high piece) (before back : List (Slot × Run)) → slots.pairs ≡ before ++ back → spans_of expected slots.pairs ≡ spans_of expected before ++ spans_of expected back
  parted o before back e = ap (spans_of expected) e ∙ spans_of-append expected before back

  pub numbered_before : (o : IsOffered buffer from expected end slots now n bytes limit low high piece) (before back : List (Slot × Run)) → slots.pairs ≡ before ++ back → AreNumbered before
  numbered_before o before back e = numbered_front before back (subst AreNumbered e o.sound.numbered)

  pub numbered_after : (o : IsOffered buffer from expected end slots now n bytes limit low high piece) (before back : List (Slot × Run)) → slots.pairs ≡ before ++ back → AreNumbered back
  numbered_after o before back e = numbered_back before back (subst AreNumbered e o.sound.numbered)

  pub apart_parts : (o : IsOffered buffer from expected end slots now n bytes limit low high piece) (before back : List (Slot × Run)) → slots.pairs ≡ before ++ back → Apart expected (spans_of expected before) (end_of expected (spans_of expected before)) × Apart (end_of expected (spans_of expected before)) (spans_of expected back) end
  apart_parts o before back e =
      let P : List Span → Type 0 = λ ss. Apart expected ss end in
      Apart-parts expected (spans_of expected before) (spans_of expected back) end (subst P (parted o before back e) o.sound.apart)

  pub front_before : (o : IsOffered buffer from expected end slots now n bytes limit low high piece) (before back : List (Slot × Run)) → slots.pairs ≡ before ++ back → EndBelow (spans_of expected before) low → (p : ℕ) → in_spans p (front_of from expected before) ≡ true → p < low
  front_before o before back e b p t =
      let a = apart_parts o before back e in
      let le = (edges o).0 in
      let mid = end_within expected (spans_of expected before) low b le in
      elim (cases_lt p low) [
        | inl lt ↦ lt
        | inr ge ↦ absurd (false≢true (sym (or_none (in_span p (span from expected)) (in_spans p (spans_of expected before)) (above from expected p (omega arith)) (none_above expected (spans_of expected before) (end_of expected (spans_of expected before)) p a.0 (omega arith))) ∙ t))
      ]

  pub all_parted : (o : IsOffered buffer from expected end slots now n bytes limit low high piece) (before back : List (Slot × Run)) → slots.pairs ≡ before ++ back → all_spans from expected slots.pairs ≡ front_of from expected before ++ spans_of expected back
  all_parted o before back e = ap (λ ss. span from expected ∷ ss) (parted o before back e)
