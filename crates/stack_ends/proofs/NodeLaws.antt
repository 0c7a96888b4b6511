-- What the calls of a node do to the map of its ends.
use Rattle.std.proofs.Common.{◌≡◌, ℕ, ◌+◌, Bool, true, false, List, [], ◌∷◌, length, Option, Some, None, refl, ap, ◌∙◌, arith}
use Rattle.std.specs.Prelude.{cond, is_some, if◌then◌else◌}
use Rattle.std.specs.BTreeMap.{is_at}
use Rattle.std.specs.Map.{lookup, set_value}
use Rattle.std.specs.Map.Calls.{RetainsPairs}
use Rattle.book_base.specs.declared.address.Pair.{Pair}
use Rattle.book_base.specs.Orders.{by_pair}
use Rattle.book_segments.specs.Segments.{Segment, Reading, Read}
use Rattle.book_keys.specs.Rows.{Row}
use Rattle.book_segments.specs.Segments.{pair_reached}
use Rattle.law_node.proofs.PairMaps.{pair_finds}
use Rattle.law_node.proofs.Pairs.{same_pair-refl}
use Rattle.tcp_endpoint.specs.declared.arrival.Arrived.{Arrived}
use Rattle.tcp_endpoint.specs.declared.endpoint.Endpoint.{Endpoint}
use Rattle.tcp_endpoint.specs.Arrivals.{Costs, IsBeforeCheck}
use Rattle.stack_ends.specs.declared.answer.NodeArrival.{NodeArrival}
use Rattle.stack_ends.specs.declared.answer.NodeArrival.TheVariants as answers
use Rattle.stack_ends.specs.EndsArrivals.{Comes, Hears}
use Rattle.stack_ends.specs.EndsCosts.{CostsHeard}
use Rattle.stack_ends.specs.Held.{Holding, end_at, holds, Adds, Removes, TicksAt, TicksEnd}
use Rattle.stack_ends.specs.Loans.{written}
use Rattle.stack_ends.proofs.MapLaws.{written_finds, written_count}

-- a node with these entries
abbrev pub of_entries : ℕ → List (Pair × Endpoint) → Holding
of_entries most es = record { most = most; entries = es }

module _ (most : ℕ) (es after : List (Pair × Endpoint)) (p : Pair) (n : Holding) (view : of_entries most es ≡ n) where
  -- an end was put for a pair that wasn't held
  pub put_adds : (e : Endpoint) (o : Option Endpoint) → ((q : Pair) → lookup (is_at (by_pair q)) after ≡ cond (is_at (by_pair p) q) (Some e) (lookup (is_at (by_pair q)) es))
      → o ≡ lookup (is_at (by_pair p)) es → holds n p ≡ false → length after ≡ length es + (if is_some o then 0 else 1) → Adds n (of_entries most after) p e
  put_adds e o finds old apart len =
      let apart_es : is_some (lookup (is_at (by_pair p)) es) ≡ false = rw (← view) at apart in
      let none : is_some o ≡ false = ap is_some old ∙ apart_es in
      rw (← view) (record { most = refl; finds = λ q. finds q ∙ rw (pair_finds p q) refl; count = len ∙ rw none refl })

  -- the end of a pair was dropped
  pub drop_removes : (o : Option Endpoint) → ((q : Pair) → lookup (is_at (by_pair q)) after ≡ cond (is_at (by_pair p) q) None (lookup (is_at (by_pair q)) es))
      → o ≡ lookup (is_at (by_pair p)) es → length after + (if is_some o then 1 else 0) ≡ length es → Removes n (of_entries most after) p
  drop_removes o finds old len =
      rw (← view) (record { most = refl; finds = λ q. finds q ∙ rw (pair_finds p q) refl; count = rw old at len })

  -- the end of a pair was written
  pub set_writes : (e : Endpoint) → after ≡ set_value (is_at (by_pair p)) es e → of_entries most after ≡ written p n e
  set_writes e is = rw (is, ← view) refl

  -- what is found by the order is held for the pair
  pub found_at : (o : Option Endpoint) → o ≡ lookup (is_at (by_pair p)) es → end_at n p ≡ o
  found_at o is = rw (is, ← view) refl

-- ---- arrivals

pub comes_none : (rows : List Row) (now : ℕ) (r : Reading) (d : Segment) (before after : Holding) (told : NodeArrival) → r ≡ Read d → end_at before (pair_reached d) ≡ None
    → told ≡ answers.NoConnection → after ≡ before → Comes rows now before after told r
comes_none rows now r d before after told is none answer same = rw (is, none) (answer, same)

pub comes_some : (rows : List Row) (now : ℕ) (r : Reading) (d : Segment) (before after : Holding) (told : NodeArrival) (e f : Endpoint) (arrived : Arrived) → r ≡ Read d
    → end_at before (pair_reached d) ≡ Some e → told ≡ answers.At (pair_reached d) arrived → after ≡ written (pair_reached d) before f → Hears rows now d e f arrived
    → Comes rows now before after told r
comes_some rows now r d before after told e f arrived is found answer new hears =
    let held : holds before (pair_reached d) ≡ true = rw found refl in
    rw (is, found) (
      arrived,
      answer,
      record {
        next = f;
        hears = hears;
        most = rw new refl;
        finds = λ q. rw new (written_finds before (pair_reached d) q f held);
        count = rw new (written_count before (pair_reached d) f);
      },
    )

-- a segment that no end hears costs nothing
pub costs_none : (rows : List Row) (now : ℕ) (d : Segment) (before after : Holding) (told : NodeArrival) (old new : ℕ) → told ≡ answers.NoConnection → new ≡ old
    → CostsHeard rows now d before after told old new
costs_none rows now d before after told old new answer same = rw answer same

-- a segment that an end hears costs what it costs this end
pub costs_some : (rows : List Row) (now : ℕ) (d : Segment) (before after : Holding) (told : NodeArrival) (p : Pair) (e f : Endpoint) (arrived : Arrived) (old new : ℕ)
    → end_at before p ≡ Some e → told ≡ answers.At p arrived → after ≡ written p before f → (IsBeforeCheck arrived.arrival → new ≡ old) → Costs rows now d e f arrived old new
    → CostsHeard rows now d before after told old new
costs_some rows now d before after told p e f arrived old new found answer is free costs =
    let held : holds before p ≡ true = rw found refl in
    let next : end_at after p ≡ Some f = rw is (written_finds before p p f held ∙ rw (same_pair-refl p) refl) in
    rw answer (record { heard = e; next = f; was = found; is = next; untouched = free; costs = costs })

-- ---- the clock

pub record TicksPairs (now : ℕ) (es kept : List (Pair × Endpoint)) : Type 0 where
  pub each : (q : Pair) → TicksAt now (lookup (is_at (by_pair q)) es) (lookup (is_at (by_pair q)) kept)
  pub count : length kept ≡ length es

pub ticks_pairs : {F : Type 0} (T : F → Pair → Endpoint → Bool → Endpoint → F → Type 0) (now : ℕ) (f : F)
    → ((k : Pair) (v : Endpoint) (b : Bool) (w : Endpoint) (g : F) → T f k v b w g → (b ≡ true) × TicksEnd now v w × (g ≡ f))
    → (es kept : List (Pair × Endpoint)) → RetainsPairs T f es kept → TicksPairs now es kept
ticks_pairs T now f does [] kept h = rw h (record { each = λ q. refl; count = refl })
ticks_pairs T now f does (e ∷ es) kept h =
    let t = does e.0 e.1 h.0 h.1 h.2 h.4 in
    let rest = ticks_pairs T now f does es h.3 (rw t.2 at h.5) in
    let is : kept ≡ (e.0, h.1) ∷ h.3 = h.6 ∙ rw t.0 refl in
    rw is (record { each = λ q. at q (is_at (by_pair q) e.0) (rest.each q); count = let c = rest.count in omega arith })
  where
    at : (q : Pair) (v : Bool) → TicksAt now (lookup (is_at (by_pair q)) es) (lookup (is_at (by_pair q)) h.3)
        → TicksAt now (cond v (Some e.1) (lookup (is_at (by_pair q)) es)) (cond v (Some h.1) (lookup (is_at (by_pair q)) h.3))
    at q true i = (h.1, refl, (does e.0 e.1 h.0 h.1 h.2 h.4).1)
    at q false i = i
