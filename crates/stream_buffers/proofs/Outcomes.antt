-- The states that a reassembly comes to when a piece is kept.
use Rattle.std.proofs.Common.{◌≡◌, ℕ, ◌+◌, ◌<◌, ◌≤◌, min, max, Bool, true, false, cond, List, [], ◌∷◌, ◌++◌, length, Option, None, Some, refl, sym, ◌∙◌, ap, subst, arith, length-append}
use Rattle.std.specs.Prelude.{nat_le, nat_lt, ◌&&◌, ◌||◌}
use Rattle.std.proofs.lemmas.Bool.{cond-false}
use Rattle.std.proofs.lemmas.Bool.Decides.{nat_tests}
use Rattle.stream_buffers.specs.declared.slot.Slot.{Slot}
use Rattle.stream_buffers.specs.Pool.{Pool, pool}
use Rattle.stream_buffers.specs.declared.run.Run.{Run}
use Rattle.stream_buffers.specs.declared.run.Span.{Span}
use Rattle.book_segments.specs.Received.{most_runs, first_known}
use Rattle.stream_buffers.specs.Kept.{Kept, grown, missing_then, runs_then, Shows}
use Rattle.stream_buffers.specs.Spans.{span, span_of, run_of, spans_of, all_spans, in_span, in_spans, Apart, EndBelow, AreNumbered, Grown, Writes, IsSound}
use Rattle.stream_buffers.specs.Walks.{touching_of, IsReached, IsAbsorbed}
use Rattle.stream_buffers.proofs.SpanLaws.{or_assoc, in_span-parted, none_below, Apart-order, in_spans-append, spans_of-append, length-spans_of, end_of, Apart-join, end_below, spans_of-moves, numbered_join, run_of-numbered}
use Rattle.stream_buffers.proofs.GrownLaws.{grown_more, grown_none}
use Rattle.stream_buffers.proofs.Absorbing.{past_edge, grown_empty}
use Rattle.stream_buffers.proofs.Keeping.{byte_at_now}
use Rattle.stream_buffers.proofs.Offered.{IsOffered, IsLeft, end_within, none_in_front, span_of-run_of, expected_is, order, edges, length_is, grown_is, runs_are, settled, front_of, parted, numbered_before, numbered_after, apart_parts, front_before, all_parted}

module _ {buffer : List ℕ} {from expected end : ℕ} {slots : Pool Run} {now : Kept} {n : ℕ} {bytes : List ℕ} {limit : Option ℕ} {low high : ℕ} {piece : List ℕ} where
  -- (1) the piece and the runs that it touches stay past the first missing position
  pub kept_in_place : (o : IsOffered buffer from expected end slots now n bytes limit low high piece) → low < high → expected < low → (before : List (Slot × Run)) (slot : Slot) (run : Run) (after : List (Slot × Run)) → slots.pairs ≡ before ++ (slot, run) ∷ after → EndBelow (spans_of expected before) low → (base : Span) → IsReached expected low (low + length piece) base run after
      → (left : List ℕ) (between slots2 : Pool Run) (steps later : ℕ) (made : Span) (a : IsAbsorbed expected buffer left slots.capacity between before slot run after low piece steps later made) → slots2 ≡ pool slots.capacity (before ++ (slot, run_of made) ∷ a.rest) → length slots2.pairs ≤ slots2.capacity → (top : ℕ) → top ≡ max end high → IsLeft left from expected top slots2 now (grown now n bytes limit)
  kept_in_place o lh xl before slot run after e b base r left between slots2 steps later made a s2 few2 top t =
      let hi = length_is o (omega arith) in
      let d = edges o in
      let c = order o in
      let parts = apart_parts o before ((slot, run) ∷ after) e in
      let mid = end_of expected (spans_of expected before) in
      let ml = end_below expected (spans_of expected before) low b xl in
      let first = (span_of expected run).first in
      let last = Apart-order (span_of expected run).end (spans_of expected after) end parts.1.2 in
      let ap1 : Apart made.end (spans_of expected a.rest) top = (let Q : ℕ → Type 0 = λ k. Apart made.end (spans_of expected a.rest) k in subst Q (ap (max end) hi ∙ sym t) (a.apart end parts.1.2)) in
      let made_last = Apart-order made.end (spans_of expected a.rest) top ap1 in
      let m1 : mid < made.first = omega (arith, a.first, parts.1.0) in
      let m2 : made.first < made.end = omega (arith, a.first, a.end) in
      let m0 : expected ≤ mid = Apart-order expected (spans_of expected before) mid parts.0 in
      let back : span_of expected (run_of made) ≡ made = span_of-run_of expected made (omega arith) (omega arith) (omega arith) in
      let pairs_are : slots2.pairs ≡ before ++ (slot, run_of made) ∷ a.rest = ap (λ (q : Pool Run). q.pairs) s2 in
      let spans2 : spans_of expected slots2.pairs ≡ spans_of expected before ++ made ∷ spans_of expected a.rest = ap (spans_of expected) pairs_are ∙ (spans_of-append expected before ((slot, run_of made) ∷ a.rest) ∙ ap (λ s. spans_of expected before ++ s ∷ spans_of expected a.rest) back) in
      let P : List Span → Type 0 = λ ss. Apart expected ss top in
      let cap : slots2.capacity ≡ most_runs = ap (λ (q : Pool Run). q.capacity) s2 ∙ o.sound.capacity in
      let sound : IsSound left from expected top slots2 = record {
        size = a.size ∙ o.sound.size;
        capacity = cap;
        few = omega (arith, few2, cap);
        ordered = o.sound.ordered;
        apart = subst P (sym spans2) (Apart-join expected (spans_of expected before) (made ∷ spans_of expected a.rest) mid top parts.0 (m1, m2, ap1));
        numbered = subst AreNumbered (sym pairs_are) (numbered_join before ((slot, run_of made) ∷ a.rest) (numbered_before o before ((slot, run) ∷ after) e) (run_of-numbered slot made a.rest (a.numbered (numbered_after o before ((slot, run) ∷ after) e).1)));
        near = omega (arith, c.1, d.1);
        within = omega (arith, d.2, d.3);
      } in
      let G : ℕ → Type 0 = λ k. Grown buffer left (span_of expected run ∷ spans_of expected after) (made ∷ spans_of expected a.rest) low k piece in
      let shown = settled o left (front_of from expected before) (spans_of expected ((slot, run) ∷ after)) (made ∷ spans_of expected a.rest) expected top slots2 (all_parted o before ((slot, run) ∷ after) e) (front_before o before ((slot, run) ∷ after) e b) (subst G hi a.grown) sound (omega arith) (λ p. ap (λ ss. in_spans p (span from expected ∷ ss)) spans2) in
      record { sound = sound; shows = shown.0; runs_then_is = shown.1 }

  -- (2) they become ready
  pub made_ready : (o : IsOffered buffer from expected end slots now n bytes limit low high piece) → low < high → low ≡ expected → (before : List (Slot × Run)) (slot : Slot) (run : Run) (after : List (Slot × Run)) → slots.pairs ≡ before ++ (slot, run) ∷ after → EndBelow (spans_of expected before) low → (base : Span) → IsReached expected low (low + length piece) base run after
      → (left : List ℕ) (between slots2 : Pool Run) (steps later : ℕ) (made : Span) (a : IsAbsorbed expected buffer left slots.capacity between before slot run after low piece steps later made) → slots2 ≡ pool slots.capacity (before ++ a.rest) → length slots2.pairs ≤ slots2.capacity → (top : ℕ) → top ≡ max end high → IsLeft left from made.end top slots2 now (grown now n bytes limit)
  made_ready o lh xl before slot run after e b base r left between slots2 steps later made a s2 few2 top t =
      let hi = length_is o (omega arith) in
      let d = edges o in
      let c = order o in
      let parts = apart_parts o before ((slot, run) ∷ after) e in
      let Q : List Span → Type 0 = λ ss. Apart expected ss end in
      let empty : before ≡ [] = none_in_front expected low before (spans_of expected ((slot, run) ∷ after)) end (omega arith) (subst Q (parted o before ((slot, run) ∷ after) e) o.sound.apart) b in
      let ap1 : Apart made.end (spans_of expected a.rest) top = (let R : ℕ → Type 0 = λ k. Apart made.end (spans_of expected a.rest) k in subst R (ap (max end) hi ∙ sym t) (a.apart end parts.1.2)) in
      let made_last = Apart-order made.end (spans_of expected a.rest) top ap1 in
      let m0 : expected ≤ end_of expected (spans_of expected before) = Apart-order expected (spans_of expected before) _ parts.0 in
      let first : made.first ≡ expected = omega (arith, a.first, parts.1.0) in
      let moves : spans_of made.end a.rest ≡ spans_of expected a.rest = spans_of-moves expected made.end made.end a.rest top (omega (arith, a.end)) (omega arith) (omega arith) ap1 in
      let pairs_are : slots2.pairs ≡ a.rest = ap (λ (q : Pool Run). q.pairs) s2 ∙ ap (λ qs. qs ++ a.rest) empty in
      let spans2 : spans_of made.end slots2.pairs ≡ spans_of expected a.rest = ap (spans_of made.end) pairs_are ∙ moves in
      let P : List Span → Type 0 = λ ss. Apart made.end ss top in
      let cap : slots2.capacity ≡ most_runs = ap (λ (q : Pool Run). q.capacity) s2 ∙ o.sound.capacity in
      let sound : IsSound left from made.end top slots2 = record {
        size = a.size ∙ o.sound.size;
        capacity = cap;
        few = omega (arith, few2, cap);
        ordered = omega (arith, a.end);
        apart = subst P (sym spans2) ap1;
        numbered = subst AreNumbered (sym pairs_are) (a.numbered (numbered_after o before ((slot, run) ∷ after) e).1);
        near = omega (arith, c.1, d.1);
        within = omega (arith, d.2, d.3);
      } in
      let G : ℕ → Type 0 = λ k. Grown buffer left (span_of expected run ∷ spans_of expected after) (made ∷ spans_of expected a.rest) low k piece in
      let same : (p : ℕ) → in_spans p (all_spans from made.end slots2.pairs) ≡ in_spans p (front_of from expected before ++ made ∷ spans_of expected a.rest) = λ p.
      ap (λ ss. in_spans p (span from made.end ∷ ss)) spans2
      ∙ (ap (λ x. x || in_spans p (spans_of expected a.rest)) (in_span-parted from expected made.end p (omega arith) (omega (arith, a.end)) ∙ ap (λ f. (nat_le from p && nat_lt p expected) || (nat_le f p && nat_lt p made.end)) (sym first))
      ∙ (or_assoc (in_span p (span from expected)) (in_span p made) (in_spans p (spans_of expected a.rest))
      ∙ ap (λ ps. in_spans p (front_of from expected ps ++ made ∷ spans_of expected a.rest)) (sym empty))) in
      let shown = settled o left (front_of from expected before) (spans_of expected ((slot, run) ∷ after)) (made ∷ spans_of expected a.rest) made.end top slots2 (all_parted o before ((slot, run) ∷ after) e) (front_before o before ((slot, run) ∷ after) e b) (subst G hi a.grown) sound (omega (arith, a.end)) same in
      record { sound = sound; shows = shown.0; runs_then_is = shown.1 }

-- a piece that touches no run
fresh : (buffer after : List ℕ) (old : List Span) (low high : ℕ) (piece : List ℕ) → low ≤ high → ((p : ℕ) → p < high → in_spans p old ≡ false) → Writes buffer after low high low piece → Grown buffer after old (span low high ∷ old) low high piece
fresh buffer after old low high piece le none w =
    let m : min low high ≡ low = omega arith in
    let k : min high high ≡ high = omega arith in
    let g = grown_empty buffer buffer old (span low low) high old low (min low high) piece (grown_none buffer old low high piece) in
    let P : ℕ → Type 0 = λ j. Grown buffer after old (span low high ∷ old) low j piece in
    subst P k (grown_more buffer buffer after old low low high high old low high piece (omega arith) (omega arith) le (omega arith) (omega arith) none g w)

module _ {buffer : List ℕ} {from expected end : ℕ} {slots : Pool Run} {now : Kept} {n : ℕ} {bytes : List ℕ} {limit : Option ℕ} {low high : ℕ} {piece : List ℕ} where
  -- no run behind is reached
  untouched : (o : IsOffered buffer from expected end slots now n bytes limit low high piece) (before after : List (Slot × Run)) → slots.pairs ≡ before ++ after → EndBelow (spans_of expected before) low → low < high → None ≡ touching_of expected high after → Apart high (spans_of expected after) (max end high)
  untouched o before after e b lh t =
      let parts = apart_parts o before after e in
      let mid = end_of expected (spans_of expected before) in
      let ml = end_within expected (spans_of expected before) low b (edges o).0 in
      let m : max mid high ≡ high = omega arith in
      let P : ℕ → Type 0 = λ k. Apart k (spans_of expected after) (max end high) in
      subst P m (past_edge expected high mid after end t parts.1)

  -- (3) the piece joins the ready bytes alone
  pub appended : (o : IsOffered buffer from expected end slots now n bytes limit low high piece) → low < high → low ≡ expected → (before after : List (Slot × Run)) → slots.pairs ≡ before ++ after → EndBelow (spans_of expected before) low → None ≡ touching_of expected high after → (left : List ℕ) → length left ≡ length buffer → Writes buffer left low high low piece → (top : ℕ) → top ≡ max end high → IsLeft left from high top slots now (grown now n bytes limit)
  appended o lh xl before after e b none left size w top t =
      let d = edges o in
      let c = order o in
      let Q : List Span → Type 0 = λ ss. Apart expected ss end in
      let empty : before ≡ [] = none_in_front expected low before (spans_of expected after) end (omega arith) (subst Q (parted o before after e) o.sound.apart) b in
      let R : ℕ → Type 0 = λ k. Apart high (spans_of expected after) k in
      let ap1 : Apart high (spans_of expected after) top = subst R (sym t) (untouched o before after e b lh none) in
      let moves : spans_of high after ≡ spans_of expected after = spans_of-moves expected high high after top (omega arith) (omega arith) (omega arith) ap1 in
      let pairs_are : slots.pairs ≡ after = e ∙ ap (λ qs. qs ++ after) empty in
      let spans2 : spans_of high slots.pairs ≡ spans_of expected after = ap (spans_of high) pairs_are ∙ moves in
      let P : List Span → Type 0 = λ ss. Apart high ss top in
      let sound : IsSound left from high top slots = record {
        size = size ∙ o.sound.size;
        capacity = o.sound.capacity;
        few = o.sound.few;
        ordered = omega arith;
        apart = subst P (sym spans2) ap1;
        numbered = o.sound.numbered;
        near = omega (arith, c.1, d.1);
        within = omega (arith, d.2, d.3);
      } in
      let g = fresh buffer left (spans_of expected after) low high piece (omega arith) (λ p k. none_below high (spans_of expected after) top p ap1 (omega arith)) w in
      let same : (p : ℕ) → in_spans p (all_spans from high slots.pairs) ≡ in_spans p (front_of from expected before ++ span low high ∷ spans_of expected after) = λ p.
      ap (λ ss. in_spans p (span from high ∷ ss)) spans2
      ∙ (ap (λ x. x || in_spans p (spans_of expected after)) (in_span-parted from expected high p (omega arith) (omega arith) ∙ ap (λ f. (nat_le from p && nat_lt p expected) || (nat_le f p && nat_lt p high)) (sym xl))
      ∙ (or_assoc (in_span p (span from expected)) (in_span p (span low high)) (in_spans p (spans_of expected after))
      ∙ ap (λ ps. in_spans p (front_of from expected ps ++ span low high ∷ spans_of expected after)) (sym empty))) in
      let shown = settled o left (front_of from expected before) (spans_of expected after) (span low high ∷ spans_of expected after) high top slots (all_parted o before after e) (front_before o before after e b) g sound (omega arith) same in
      record { sound = sound; shows = shown.0; runs_then_is = shown.1 }

  -- the spans with the piece as a run of its own
  apart_with : (o : IsOffered buffer from expected end slots now n bytes limit low high piece) → low < high → expected < low → (before after : List (Slot × Run)) → slots.pairs ≡ before ++ after → EndBelow (spans_of expected before) low → None ≡ touching_of expected high after → Apart expected (spans_of expected before ++ span low high ∷ spans_of expected after) (max end high)
  apart_with o lh xl before after e b none =
      let parts = apart_parts o before after e in
      let mid = end_of expected (spans_of expected before) in
      Apart-join expected (spans_of expected before) (span low high ∷ spans_of expected after) mid (max end high) parts.0 (end_below expected (spans_of expected before) low b xl, lh, untouched o before after e b lh none)

  -- (4) the piece is a run of its own
  pub added : (o : IsOffered buffer from expected end slots now n bytes limit low high piece) → low < high → expected < low → (before after : List (Slot × Run)) → slots.pairs ≡ before ++ after → EndBelow (spans_of expected before) low → None ≡ touching_of expected high after → (slot : Slot) (slots2 : Pool Run) → slots2 ≡ pool slots.capacity (before ++ (slot, run_of (span low high)) ∷ after) → length slots2.pairs ≤ slots2.capacity → (left : List ℕ) → length left ≡ length buffer → Writes buffer left low high low piece → (top : ℕ) → top ≡ max end high → IsLeft left from expected top slots2 now (grown now n bytes limit)
  added o lh xl before after e b none slot slots2 s2 few2 left size w top t =
      let d = edges o in
      let c = order o in
      let back : span_of expected (run_of (span low high)) ≡ span low high = span_of-run_of expected (span low high) (omega arith) (omega arith) (omega arith) in
      let spans2 : spans_of expected slots2.pairs ≡ spans_of expected before ++ span low high ∷ spans_of expected after = ap (λ (q : Pool Run). spans_of expected q.pairs) s2 ∙ (spans_of-append expected before ((slot, run_of (span low high)) ∷ after) ∙ ap (λ s. spans_of expected before ++ s ∷ spans_of expected after) back) in
      let P : List Span → Type 0 = λ ss. Apart expected ss top in
      let R : ℕ → Type 0 = λ k. Apart expected (spans_of expected before ++ span low high ∷ spans_of expected after) k in
      let cap : slots2.capacity ≡ most_runs = ap (λ (q : Pool Run). q.capacity) s2 ∙ o.sound.capacity in
      let sound : IsSound left from expected top slots2 = record {
        size = size ∙ o.sound.size;
        capacity = cap;
        few = omega (arith, few2, cap);
        ordered = o.sound.ordered;
        apart = subst P (sym spans2) (subst R (sym t) (apart_with o lh xl before after e b none));
        numbered = subst AreNumbered (sym (ap (λ (q : Pool Run). q.pairs) s2)) (numbered_join before ((slot, run_of (span low high)) ∷ after) (numbered_before o before after e) (run_of-numbered slot (span low high) after (numbered_after o before after e)));
        near = omega (arith, c.1, d.1);
        within = omega (arith, d.2, d.3);
      } in
      let u = untouched o before after e b lh none in
      let g = fresh buffer left (spans_of expected after) low high piece (omega arith) (λ p k. none_below high (spans_of expected after) (max end high) p u (omega arith)) w in
      let shown = settled o left (front_of from expected before) (spans_of expected after) (span low high ∷ spans_of expected after) expected top slots2 (all_parted o before after e) (front_before o before after e b) g sound (omega arith) (λ p. ap (λ ss. in_spans p (span from expected ∷ ss)) spans2) in
      record { sound = sound; shows = shown.0; runs_then_is = shown.1 }

  -- (5) one run too many
  pub refused : (o : IsOffered buffer from expected end slots now n bytes limit low high piece) → low < high → expected < low → (before after : List (Slot × Run)) → slots.pairs ≡ before ++ after → EndBelow (spans_of expected before) low → None ≡ touching_of expected high after → runs_then now (grown now n bytes limit) ≡ length slots.pairs + 1
  refused o lh xl before after e b none =
      let d = edges o in
      let c = order o in
      let ss = spans_of expected before ++ span low high ∷ spans_of expected after in
      let many = runs_are o expected ss (max end high) (omega arith) (apart_with o lh xl before after e b none) (omega (arith, c.1, d.1)) (λ p.
      ap (λ x. x || (nat_le low p && nat_lt p high)) (ap (in_spans p) (all_parted o before after e) ∙ in_spans-append p (front_of from expected before) (spans_of expected after))
      ∙ (or_swap (in_spans p (front_of from expected before)) (in_spans p (spans_of expected after)) (nat_le low p && nat_lt p high) ∙ sym (in_spans-append p (front_of from expected before) (span low high ∷ spans_of expected after)))) in
      many.1 ∙ (length-append (spans_of expected before) (span low high ∷ spans_of expected after) ∙ omega (arith, length-spans_of expected before, length-spans_of expected after, ap length e, length-append before after))
    where
      or_swap : (x y z : Bool) → ((x || y) || z) ≡ (x || (z || y))
      or_swap true y z = refl
      or_swap false true true = refl
      or_swap false true false = refl
      or_swap false false true = refl
      or_swap false false false = refl

  -- (6) nothing to keep
  pub nothing : (o : IsOffered buffer from expected end slots now n bytes limit low high piece) → high ≤ low → Shows now now.from (missing_then now (grown now n bytes limit)) (grown now n bytes limit) × (runs_then now (grown now n bytes limit) ≡ length slots.pairs)
  nothing o hl =
      let c = order o in
      let many = runs_are o expected (spans_of expected slots.pairs) end (omega arith) o.sound.apart o.sound.near (λ p. or_no (in_spans p (all_spans from expected slots.pairs)) _ (none low high p hl)) in (
        record {
          from = refl;
          expected = expected_is o ∙ sym many.0;
          bytes = λ p. byte_at_now o.sound now o.view p ∙ (or_else_no _ _ _ (none low high p hl) ∙ sym (grown_is o p));
        },
        many.1 ∙ length-spans_of expected slots.pairs,
      )
    where
      or_no : (x y : Bool) → y ≡ false → (x || y) ≡ x
      or_no true y e = refl
      or_no false y e = e

      none : (a b p : ℕ) → b ≤ a → (nat_le a p && nat_lt p b) ≡ false
      none a b p h = grind (arith, nat_tests)

      or_else_no : (m : Option ℕ) (b : Bool) (o : Option ℕ) → b ≡ false → m ≡ first_known m (cond b o None)
      or_else_no (Some x) b o e = refl
      or_else_no None b o e = sym (cond-false _ _ _ e)
