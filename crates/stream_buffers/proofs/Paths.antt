-- The ways through the keeping of a piece.
use Rattle.std.proofs.Common.{◌≡◌, ℕ, ◌+◌, ◌-◌, ◌^◌, ◌<◌, ◌≤◌, min, max, List, ◌∷◌, ◌++◌, length, take, drop, Option, sym, ◌∙◌, ap, subst, arith, length-append, refl, inl, inr}
use Rattle.std.proofs.lemmas.Bool.{cases_lt}
use Rattle.stream_buffers.specs.declared.slot.Slot.{Slot}
use Rattle.stream_buffers.specs.Pool.{Pool, pool, At, IsPool, last_slot}
use Rattle.book_segments.specs.Received.{most_runs, below_limit}
use Rattle.stream_buffers.specs.declared.run.Run.{Run}
use Rattle.stream_buffers.specs.declared.run.Span.{Span}
use Rattle.stream_buffers.specs.declared.walk.Placed.{Placed}
use Rattle.stream_buffers.specs.Kept.{Kept, grown, runs_then}
use Rattle.stream_buffers.specs.Spans.{span, span_of, run_of, spans_of, Apart, EndBelow, Writes, IsSound, seen}
use Rattle.stream_buffers.specs.Walks.{IsTouched, IsBetween, IsReached, IsReachedIn, IsJoined}
use Rattle.stream_buffers.proofs.Offered.{IsOffered, IsLeft, length_is, apart_parts, edges, order}
use Rattle.stream_buffers.proofs.Outcomes.{kept_in_place, made_ready, appended, added, refused}

pub offer : {buffer : List ℕ} {from expected end : ℕ} {slots : Pool Run} {now : Kept} {n : ℕ} {bytes : List ℕ} {limit : Option ℕ} {low high edge : ℕ} → IsSound buffer from expected end slots → seen buffer from expected slots.pairs ≡ now → low ≡ max n expected → edge ≡ below_limit limit (from + 65535) → high ≡ min edge (n + length bytes) → n + length bytes ≤ 2 ^ 63
    → IsOffered buffer from expected end slots now n bytes limit low high (take (high - n - (low - n)) (drop (low - n) bytes))
offer {n = n} {bytes = bytes} s v l e h k = record {
  sound = s;
  view = v;
  low_is = l;
  high_is = h ∙ ap (λ x. min x (n + length bytes)) e;
  piece_is = refl;
  small = k;
}

-- the bytes of the buffer under another name
abbrev IsLeftAs : List ℕ → ℕ → ℕ → ℕ → Pool Run → Kept → (ℕ → Option ℕ) → Type 0
IsLeftAs after from x top slots now m = (held : List ℕ) → held ≡ after → IsLeft held from x top slots now m

left_as : {after : List ℕ} {from x top : ℕ} {slots : Pool Run} {now : Kept} {m : ℕ → Option ℕ} → IsLeft after from x top slots now m → IsLeftAs after from x top slots now m
left_as {from = from} {x = x} {top = top} {slots = slots} {now = now} {m = m} l held e = let P : List ℕ → Type 0 = λ xs. IsLeft xs from x top slots now m in subst P (sym e) l

pub few_left : {after : List ℕ} {from x top : ℕ} {slots : Pool Run} {now : Kept} {m : ℕ → Option ℕ} → IsLeft after from x top slots now m → runs_then now m ≤ most_runs
few_left l = omega (arith, l.runs_then_is, l.sound.few)

-- the run that the piece touches first, and the steps up to it
pub record IsPlacedAt (at low high : ℕ) (base : Placed) (pairs : List (Slot × Run)) (steps later : ℕ) : Type 0 where
  pub in_list : IsReachedIn at low high base pairs
  pub below : EndBelow (spans_of at in_list.before) low
  pub walked : later ≡ steps + length in_list.before

-- what `join` ensures of that run
abbrev pub Joins : ℕ → List ℕ → List ℕ → Pool Run → Pool Run → Placed → ℕ → List ℕ → ℕ → ℕ → ℕ → Type 0
Joins at buffer left slots joined base low piece steps later now =
    At slots.pairs base.slot (λ before x after. IsReached at low (low + length piece) base.span x after → IsJoined at buffer left slots.capacity joined before base.slot x after low piece steps later now)

-- what `write` ensures of the bytes of the whole piece
abbrev Written : ℕ → ℕ → List ℕ → List ℕ → List ℕ → Type 0
Written low high piece left was = (length left ≡ length was) × Writes was left low high low piece

module _ {buffer : List ℕ} {from expected end : ℕ} {slots : Pool Run} {now : Kept} {n : ℕ} {bytes : List ℕ} {limit : Option ℕ} {low high : ℕ} {piece : List ℕ} where
  pub place : (o : IsOffered buffer from expected end slots now n bytes limit low high piece) → low < high → {steps later : ℕ} {base : Placed} → IsTouched expected low high slots.pairs steps later base → IsPlacedAt expected low (low + length piece) base slots.pairs steps later
  place o lh {base = base} t =
      let a = apart_parts o t.before ((base.slot, t.run) ∷ t.after) t.parts in
      let first : base.span.first ≡ (span_of expected t.run).first = ap (λ (s : Span). s.first) t.is in
      let last : base.span.end ≡ (span_of expected t.run).end = ap (λ (s : Span). s.end) t.is in
      let A : ℕ → Type 0 = λ k. Apart k (spans_of expected t.after) end in
      let c = order o in
      let hi = length_is o (omega arith) in
      record {
        in_list = record {
          before = t.before;
          run = t.run;
          after = t.after;
          parts = t.parts;
          reached = record {
            is = t.is;
            begins = omega (arith, t.begins, hi);
            ends = t.ends;
            proper = omega (arith, a.1.1);
            top = end;
            apart = subst A (sym last) a.1.2;
            near = omega (arith, c.1, c.2, hi, (edges o).1);
          };
        };
        below = t.below;
        walked = t.counted;
      }

  module _ (o : IsOffered buffer from expected end slots now n bytes limit low high piece) (lh : low < high) {steps mid : ℕ} {base : Placed} (t : IsTouched expected low high slots.pairs steps mid base) (was left : List ℕ) (joined : Pool Run) (later x : ℕ) (j : Joins expected was left slots joined base low piece mid later x) (same : was ≡ buffer) where
    joined_at : (p : IsPlacedAt expected low (low + length piece) base slots.pairs steps mid) → IsJoined expected buffer left slots.capacity joined p.in_list.before base.slot p.in_list.run p.in_list.after low piece mid later x
    joined_at p =
        let l = p.in_list in
        let P : List ℕ → Type 0 = λ r. IsJoined expected r left slots.capacity joined l.before base.slot l.run l.after low piece mid later x in
        subst P same (j l.before l.run l.after l.parts l.reached)

    pub few_steps : later ≤ steps + 65
    few_steps =
        let p = place o lh t in
        let b = joined_at p in
        let l = p.in_list in
        omega (arith, b.absorbed.counted, p.walked, ap length l.parts, length-append l.before ((base.slot, l.run) ∷ l.after), o.sound.few)

    -- the piece and the runs that it touches become one
    pub left_joined : IsPool joined → (top : ℕ) → top ≡ max end high → IsLeftAs left from x top joined now (grown now n bytes limit)
    left_joined fits top is =
        let p = place o lh t in
        let b = joined_at p in
        let l = p.in_list in
        let P : ℕ → Type 0 = λ k. IsLeft left from k top joined now (grown now n bytes limit) in
        left_as (elim (cases_lt expected low) [
          | inl lt ↦
              (let r = b.kept lt in
              subst P (sym r.1) (kept_in_place o lh lt l.before base.slot l.run l.after l.parts p.below base.span l.reached left b.between joined mid later b.made b.absorbed r.0 fits.fits top is))
          | inr ge ↦
              (let e : low ≡ expected = omega (arith, (edges o).0) in
              let r = b.ready e in
              subst P (sym r.1) (made_ready o lh e l.before base.slot l.run l.after l.parts p.below base.span l.reached left b.between joined mid later b.made b.absorbed r.0 fits.fits top is))
        ])

  module _ (o : IsOffered buffer from expected end slots now n bytes limit low high piece) (lh : low < high) {steps mid : ℕ} {last : Option Slot} (b : IsBetween expected low high slots.pairs steps mid last) where
    -- the piece alone becomes ready
    pub left_ready : low ≡ expected → (was left : List ℕ) → was ≡ buffer → length left ≡ length was → Writes was left low high low piece → (top : ℕ) → top ≡ max end high → IsLeftAs left from high top slots now (grown now n bytes limit)
    left_ready e was left same size w top is =
        let P : List ℕ → Type 0 = Written low high piece left in
        let w' = subst P same (size, w) in
        left_as (appended o lh e b.before b.after b.parts b.below b.past left w'.0 w'.1 top is)

    -- it becomes a run of its own
    pub left_added : expected < low → (slot : Slot) (item : Run) → item ≡ run_of (span low high) → (more : Pool Run) → ((before after : List (Slot × Run)) → slots.pairs ≡ before ++ after → last_slot before ≡ last → more ≡ pool slots.capacity (before ++ (slot, item) ∷ after)) → IsPool more → (was left : List ℕ) → was ≡ buffer → length left ≡ length was → Writes was left low high low piece → (top : ℕ) → top ≡ max end high
        → IsLeftAs left from expected top more now (grown now n bytes limit)
    left_added lt slot item item_is more put fits was left same size w top is =
        let P : List ℕ → Type 0 = Written low high piece left in
        let w' = subst P same (size, w) in
        let m : more ≡ pool slots.capacity (b.before ++ (slot, run_of (span low high)) ∷ b.after) = put b.before b.after b.parts b.last_is ∙ ap (λ r. pool slots.capacity (b.before ++ (slot, r) ∷ b.after)) item_is in
        left_as (added o lh lt b.before b.after b.parts b.below b.past slot more m fits.fits left w'.0 w'.1 top is)

    -- one run too many
    pub too_many : expected < low → runs_then now (grown now n bytes limit) ≡ length slots.pairs + 1
    too_many lt = refused o lh lt b.before b.after b.parts b.below b.past
