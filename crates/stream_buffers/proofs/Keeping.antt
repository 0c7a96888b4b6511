-- What a reassembly shows, and what it shows once a piece is kept as well.
use Rattle.std.proofs.Common.{◌≡◌, ℕ, ◌+◌, ◌-◌, ◌%◌, ◌<◌, ◌≤◌, min, max, Bool, true, false, cond, List, ◌∷◌, ◌++◌, length, get_or, take, drop, Option, None, Some, refl, sym, ◌∙◌, ap, subst, inl, inr, arith}
use Rattle.std.specs.Prelude.{nat_le, nat_lt, ◌&&◌, ◌||◌, not, is_some, if◌then◌else◌}
use Rattle.std.proofs.lemmas.Bool.{le-leb, lt-leb, cases_Bool, cases_lt, cond-true, cond-false, and_right, and_left, or_right, or_left}
use Rattle.std.proofs.lemmas.Bool.Decides.{nat_tests}
use Rattle.std.proofs.lemmas.List.{get_or-take, get_or-drop, get_or_past}
use Rattle.std.proofs.lemmas.Option.{slice_get-get_or, slice_get_past}
use Rattle.stream_buffers.specs.Pool.{Pool}
use Rattle.stream_buffers.specs.declared.run.Run.{Run}
use Rattle.stream_buffers.specs.declared.run.Span.{Span}
use Rattle.book_segments.specs.Received.{keep, first_known, runs}
use Rattle.stream_buffers.specs.Kept.{Kept, byte_at, window, missing_then, runs_then, IsKept}
use Rattle.stream_buffers.specs.Spans.{span, spans_of, all_spans, in_span, in_spans, Apart, Grown, IsSound, held, seen, tabulate}
use Rattle.stream_buffers.proofs.SpanLaws.{within, is_within, below, above, or_skip, or_none, none_below, none_above, Apart-order, in_spans-append, get_or-tabulate, length-tabulate}
use Rattle.stream_buffers.proofs.Counting.{first_missing-is, runs-are}

held_in : (buffer : List ℕ) (ss : List Span) (p : ℕ) → in_spans p ss ≡ true → held buffer ss p ≡ Some (get_or buffer (p % 65536) 0)
held_in buffer ss p h = cond-true _ _ _ h

held_out : (buffer : List ℕ) (ss : List Span) (p : ℕ) → in_spans p ss ≡ false → held buffer ss p ≡ None
held_out buffer ss p h = cond-false _ _ _ h

pub is_some-held : (buffer : List ℕ) (ss : List Span) (p : ℕ) → is_some (held buffer ss p) ≡ in_spans p ss
is_some-held buffer ss p = by_test (in_spans p ss) (get_or buffer (p % 65536) 0)
  where
    by_test : (b : Bool) (x : ℕ) → is_some (cond b (Some x) None) ≡ b
    by_test true x = refl
    by_test false x = refl

module _ {buffer : List ℕ} {from expected end : ℕ} {pool' : Pool Run} where
  -- no byte is kept below the first position nor from the window's end on
  pub none_before : (h : IsSound buffer from expected end pool') (p : ℕ) → p < from → in_spans p (all_spans from expected pool'.pairs) ≡ false
  none_before h p lt = or_none _ _ (below from expected p lt) (none_below expected (spans_of expected pool'.pairs) end p h.apart (omega (arith, h.ordered)))

  pub none_after : (h : IsSound buffer from expected end pool') (p : ℕ) → end ≤ p → in_spans p (all_spans from expected pool'.pairs) ≡ false
  none_after h p le = or_none _ _ (above from expected p (omega (arith, Apart-order expected _ end h.apart))) (none_above expected (spans_of expected pool'.pairs) end p h.apart le)

  pub byte_at_seen : (h : IsSound buffer from expected end pool') (p : ℕ) → byte_at (seen buffer from expected pool'.pairs) p ≡ held buffer (all_spans from expected pool'.pairs) p
  byte_at_seen h p =
      let ss = all_spans from expected pool'.pairs in
      let table = tabulate (length buffer) (held buffer ss) from in
      elim (cases_lt p from) [
        | inl lt ↦
            cond-false _ _ _ (lt-leb from p lt) ∙ sym (held_out buffer ss p (none_before h p lt))
        | inr ge ↦ cond-true (nat_le from p) (get_or table (p - from) None) None (le-leb from p ge) ∙ (elim (cases_lt (p - from) (length buffer)) [
          | inl lt ↦
              get_or-tabulate (length buffer) (held buffer ss) from (p - from) lt ∙ ap (held buffer ss) (omega arith)
          | inr past ↦
              get_or_past table (p - from) None (omega (arith, length-tabulate (length buffer) (held buffer ss) from)) ∙ sym (held_out buffer ss p (none_after h p (omega (arith, h.size, h.near))))
        ])
      ]

  pub byte_at_now : (h : IsSound buffer from expected end pool') (now : Kept) → seen buffer from expected pool'.pairs ≡ now → (p : ℕ) → byte_at now p ≡ held buffer (all_spans from expected pool'.pairs) p
  byte_at_now h now e p = ap (λ k. byte_at k p) (sym e) ∙ byte_at_seen h p

  seen_kept : (h : IsSound buffer from expected end pool') → IsKept (seen buffer from expected pool'.pairs)
  seen_kept h =
      let ss = all_spans from expected pool'.pairs in
      let last = Apart-order expected (spans_of expected pool'.pairs) end h.apart in
      record {
        ordered = h.ordered;
        few = omega (arith, h.near);
        within = omega (arith, h.within);
        ready = λ p a b. ap is_some (byte_at_seen h p) ∙ (is_some-held buffer ss p ∙ or_left (in_span p (span from expected)) _ (is_within from expected p a b));
        missing = byte_at_seen h expected ∙ held_out buffer ss expected (or_none _ _ (above from expected expected (omega arith)) (none_below expected (spans_of expected pool'.pairs) end expected h.apart (omega arith)));
        far = λ p a. byte_at_seen h p ∙ held_out buffer ss p (none_after h p (omega (arith, h.near)));
      }

  pub kept_now : (h : IsSound buffer from expected end pool') (now : Kept) → seen buffer from expected pool'.pairs ≡ now → IsKept now
  kept_now h now e = let P : Kept → Type 0 = λ k. IsKept k in subst P e (seen_kept h)

-- a piece kept where nothing is
abbrev pub put : (ℕ → Option ℕ) → ℕ → ℕ → List ℕ → ℕ → Option ℕ
put m low high piece p = first_known (m p) (if nat_le low p && nat_lt p high then Some (get_or piece (p - low) 0) else None)

get_or-part : (bytes : List ℕ) (a n i : ℕ) → i < n → get_or (take n (drop a bytes)) i 0 ≡ get_or bytes (a + i) 0
get_or-part bytes a n i lt = get_or-take n (drop a bytes) i 0 lt ∙ get_or-drop a bytes i 0

-- the bytes of a piece from the first missing position on, below an edge
pub keep_is_put : (m : ℕ → Option ℕ) (n : ℕ) (bytes : List ℕ) (expected edge low high : ℕ) (piece : List ℕ) → low ≡ max n expected → high ≡ min edge (n + length bytes) → piece ≡ take (high - n - (low - n)) (drop (low - n) bytes) → (p : ℕ) → keep m (record { number = n; bytes = bytes }) (record { low = expected; high = edge }) p ≡ put m low high piece p
unfolding keep
keep_is_put m n bytes expected edge low high piece l h e p =
    ap (first_known (m p)) (elim (cases_lt p low) [
      | inl lt ↦
          cond-false _ _ _ (before lt) ∙ sym (cond-false _ _ _ (below low high p lt))
      | inr ge ↦ elim (cases_lt p high) [
        | inl lt ↦
            (let t : (nat_le expected p && nat_lt p edge && nat_le n p) ≡ true = inside (omega arith) (omega arith) (omega arith) in
            cond-true _ _ _ t ∙ (slice_get-get_or bytes (p - n) 0 (omega arith) ∙ (ap Some (found ge lt) ∙ sym (cond-true (nat_le low p && nat_lt p high) (Some (get_or piece (p - low) 0)) None (is_within low high p ge lt)))))
        | inr past ↦
            elim (cases_lt p edge) [
              | inl lt ↦
                  nothing _ _ (slice_get_past bytes (p - n) (omega arith)) ∙ sym (cond-false _ _ _ (above low high p past))
              | inr out ↦
                  cond-false _ _ _ (after out) ∙ sym (cond-false _ _ _ (above low high p past))
            ]
      ]
    ])
  where
    before : p < low → (nat_le expected p && nat_lt p edge && nat_le n p) ≡ false
    before lt = grind (arith, nat_tests)

    inside : expected ≤ p → p < edge → n ≤ p → (nat_le expected p && nat_lt p edge && nat_le n p) ≡ true
    inside a b c = grind (arith, nat_tests)

    after : edge ≤ p → (nat_le expected p && nat_lt p edge && nat_le n p) ≡ false
    after out = grind (arith, nat_tests)

    found : low ≤ p → p < high → get_or bytes (p - n) 0 ≡ get_or piece (p - low) 0
    found ge lt = ap (λ i. get_or bytes i 0) (omega arith) ∙ (sym (get_or-part bytes (low - n) (high - n - (low - n)) (p - low) (omega arith)) ∙ ap (λ xs. get_or xs (p - low) 0) (sym e))

    nothing : (b : Bool) (o : Option ℕ) → o ≡ None → cond b o None ≡ None
    nothing true o e = e
    nothing false o e = refl

pub is_some-put : (buffer : List ℕ) (ss : List Span) (low high : ℕ) (piece : List ℕ) (p : ℕ) → is_some (put (held buffer ss) low high piece p) ≡ (in_spans p ss || (nat_le low p && nat_lt p high))
is_some-put buffer ss low high piece p = by_tests (in_spans p ss) (nat_le low p && nat_lt p high) (get_or buffer (p % 65536) 0) (get_or piece (p - low) 0)
  where
    by_tests : (b c : Bool) (x y : ℕ) → is_some (first_known (cond b (Some x) None) (cond c (Some y) None)) ≡ (b || c)
    by_tests true c x y = refl
    by_tests false true x y = refl
    by_tests false false x y = refl

-- what is filled shows the piece as well
pub held_put : (buffer after : List ℕ) (front old new : List Span) (from low high : ℕ) (piece : List ℕ) → Grown buffer after old new low high piece → ((p : ℕ) → in_spans p front ≡ true → p < low) → ((p : ℕ) → in_spans p (front ++ old) ≡ true → (from ≤ p) × (p < from + 65536)) → from ≤ low → high ≤ from + 65536 → (p : ℕ) → held after (front ++ new) p ≡ put (held buffer (front ++ old)) low high piece p
held_put buffer after front old new from low high piece g before lap a b p =
    let F = in_spans p front in
    let X = in_spans p old in
    let E = nat_le low p && nat_lt p high in
    let fo = in_spans-append p front old in
    let fn = in_spans-append p front new in
    elim (cases_Bool F) [
      | inl f ↦
          (let lt = before p f in
          let r = lap p (fo ∙ or_left F X f) in
          let same = g.bytes from a b p r.0 r.1 ∙ cond-false _ _ _ (and_left E (not X) (below low high p lt)) in
          held_in after (front ++ new) p (fn ∙ or_left F (in_spans p new) f) ∙ (ap Some same ∙ sym (ap (λ o. first_known o (cond E (Some (get_or piece (p - low) 0)) None)) (held_in buffer (front ++ old) p (fo ∙ or_left F X f)))))
      | inr f ↦ elim (cases_Bool X) [
        | inl x ↦
            (let r = lap p (fo ∙ or_right F X x) in
            let same = g.bytes from a b p r.0 r.1 ∙ cond-false _ _ _ (and_right E (not X) (ap not x)) in
            let here = fn ∙ or_right F (in_spans p new) (g.cover p ∙ or_left X E x) in
            held_in after (front ++ new) p here ∙ (ap Some same ∙ sym (ap (λ o. first_known o (cond E (Some (get_or piece (p - low) 0)) None)) (held_in buffer (front ++ old) p (fo ∙ or_right F X x)))))
        | inr x ↦
            (let gone = ap (λ o. first_known o (cond E (Some (get_or piece (p - low) 0)) None)) (held_out buffer (front ++ old) p (fo ∙ or_none F X f x)) in
            elim (cases_Bool E) [
              | inl e ↦
                  (let w = within low high p e in
                  let same = g.bytes from a b p (omega arith) (omega arith) ∙ cond-true _ _ _ (both E (not X) e (ap not x)) in
                  let here = fn ∙ or_right F (in_spans p new) (g.cover p ∙ or_right X E e) in
                  held_in after (front ++ new) p here ∙ (ap Some same ∙ sym (gone ∙ cond-true _ _ _ e)))
              | inr e ↦
                  held_out after (front ++ new) p (fn ∙ or_none F (in_spans p new) f (g.cover p ∙ or_none X E x e)) ∙ sym (gone ∙ cond-false _ _ _ e)
            ])
      ]
    ]
  where
    both : (x y : Bool) → x ≡ true → y ≡ true → (x && y) ≡ true
    both x y a b = rw (a, b) refl

-- the first missing position and the runs past it, by the spans
pub counted : (now : Kept) (m : ℕ → Option ℕ) (x : ℕ) (ss : List Span) (e : ℕ) → now.from ≤ now.expected → now.expected ≤ now.from + 65535 → now.expected ≤ x → Apart x ss e → e ≤ now.from + 65535 → ((p : ℕ) → is_some (m p) ≡ in_spans p (span now.from x ∷ ss)) → (missing_then now m ≡ x) × (runs_then now m ≡ length ss)
counted now m x ss e a b c h d cover =
    let last = Apart-order x ss e h in
    let w = window now in
    let gone : is_some (m x) ≡ false = cover x ∙ or_none _ _ (above now.from x x (omega arith)) (none_below x ss e x h (omega arith)) in
    let found = first_missing-is m w now.expected x c (omega arith) (λ q i j. cover q ∙ or_left _ (in_spans q ss) (is_within now.from x q (omega arith) j)) gone in
    let n = now.expected + w - x in
    let many : runs m false x n ≡ length ss = runs-are m x n ss e h (omega arith) (λ q i. cover q ∙ or_skip _ (in_spans q ss) (above now.from x q i)) in
    (found, ap (λ y. runs m false y (now.expected + w - y)) found ∙ many)
