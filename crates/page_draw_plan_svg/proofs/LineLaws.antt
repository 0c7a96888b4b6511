-- The text of bars is that of the lines that a picture draws.
use Rattle.std.proofs.Common.{◌≡◌, ℕ, Bool, true, false, List, [], ◌∷◌, ◌++◌, map, length, Option, Some, None, refl, ap, ◌∙◌, if◌then◌else◌}
use Rattle.std.specs.Prelude.{codes, flat_map}
use Rattle.std.proofs.lemmas.List.{append-nil}
use Rattle.std.proofs.lemmas.List.Concat.{flat_map-append}
use Rattle.book_base.specs.declared.address.Address.{Address}
use Rattle.book_base.specs.declared.address.Pair.{Pair}
use Rattle.book_scope_plan.specs.declared.bar.Bar.{Bar}
use Rattle.book_scope_plan.specs.BarOrders.{bars_of}
use Rattle.book_scope_plan.specs.Bars.{bar_line, bar_text, both_bars, drawing_text, drawings_text, good_plans, nodes_bars, scale_line, summary_line, wrong_bytes, wrong_text}
use Rattle.book_scope_plan.specs.Slices.{slices_of}
use Rattle.page_draw_plan_svg.specs.PlanLines.{PlannedPair, PlanLine, Barred, Wrong, both_lines, drawing_lines, drawings_lines, plan_line_text, missing_lines, planned_lines, wrong_lines}
use Rattle.book_keys.specs.declared.plan.Plan.{Plan}
use Rattle.book_keys.specs.Rows.{Table}
use Rattle.book_lines.specs.Said.{Said}
use Rattle.book_scope_plan.specs.PlanTexts.{connection_line, has_none, missing_text, node_with, plan_findings}

module _ (plan : Plan) where
  abbrev texts : List PlanLine → List ℕ
  texts ls = flat_map (plan_line_text plan) ls

  bar_texts : (j : PlannedPair) (bars : List Bar) → texts (map (Barred j) bars) ≡ flat_map (bar_text j.a j.b j.pair plan) bars
  bar_texts j [] = refl
  bar_texts j (bar ∷ bars) = ap (λ (x : List ℕ). bar_text j.a j.b j.pair plan bar ++ x) (bar_texts j bars)

  abbrev mark_line : PlannedPair → List ℕ
  mark_line j = bar_line (wrong_bytes j.a j.b j.pair j.findings (slices_of plan.from plan.to)) (codes "wrong")

  by_none : (j : PlannedPair) (b : Bool) → texts (if b then [] else Wrong j ∷ []) ≡ (if b then [] else mark_line j)
  by_none j true = refl
  by_none j false = append-nil (mark_line j)

  wrong_texts : (j : PlannedPair) → texts (wrong_lines j) ≡ wrong_text j.a j.b j.pair plan j.findings
  wrong_texts j = by_none j (has_none j.findings)

  both_texts : (j : PlannedPair) → texts (both_lines plan j) ≡ both_bars j.a j.b j.pair plan j.findings
  unfolding both_lines both_bars
  both_texts j =
      let bars = bars_of j.a j.b j.pair plan in
      ap (λ (x : List ℕ). scale_line plan ++ x)
      (flat_map-append (plan_line_text plan) (map (Barred j) bars) (wrong_lines j) ∙ rw (bar_texts j bars, wrong_texts j) refl)

  missing_texts : (node : Option Table) (address : Address) → texts (missing_lines node address) ≡ missing_text node address
  missing_texts None address = append-nil (missing_text None address)
  missing_texts (Some t) address = refl

  two_missing : (a b : Option Table) (pair : Pair)
      → texts (missing_lines a pair.local.address ++ missing_lines b pair.remote.address) ≡ missing_text a pair.local.address ++ missing_text b pair.remote.address
  two_missing a b pair =
      flat_map-append (plan_line_text plan) (missing_lines a pair.local.address) (missing_lines b pair.remote.address)
      ∙ rw (missing_texts a pair.local.address, missing_texts b pair.remote.address) refl

  nodes_texts : (a b : Option Table) (tables : List Table) (pair : Pair)
      → texts (planned_lines a b plan pair (plan_findings tables plan pair)) ≡ nodes_bars a b tables plan pair
  nodes_texts (Some a) (Some b) tables pair = both_texts (record { a = a; b = b; pair = pair; findings = plan_findings tables plan pair })
  nodes_texts (Some a) None tables pair = two_missing (Some a) None pair
  nodes_texts None (Some b) tables pair = two_missing None (Some b) pair
  nodes_texts None None tables pair = two_missing None None pair

  drawing_texts : (tables : List Table) (pair : Pair) → texts (drawing_lines tables plan pair) ≡ drawing_text tables plan pair
  unfolding drawing_lines drawing_text
  drawing_texts tables pair =
      ap (λ (x : List ℕ). connection_line pair ++ x) (nodes_texts (node_with tables pair.local.address) (node_with tables pair.remote.address) tables pair)

said_texts : (tables : List Table) (plan : Plan) (said : List (Said Pair))
    → flat_map (plan_line_text plan) (drawings_lines tables plan said) ≡ flat_map (λ s. drawing_text tables plan s.value) said
said_texts tables plan [] = refl
said_texts tables plan (s ∷ said) =
    flat_map-append (plan_line_text plan) (drawing_lines tables plan s.value) (drawings_lines tables plan said)
    ∙ rw (drawing_texts plan tables s.value, said_texts tables plan said) refl

pub all_texts : (tables : List Table) (plan : Plan) (said : List (Said Pair))
    → summary_line (length said) (good_plans tables plan said) ++ flat_map (plan_line_text plan) (drawings_lines tables plan said) ≡ drawings_text tables plan said
unfolding drawings_text
all_texts tables plan said =
    ap (λ (x : List ℕ). summary_line (length said) (good_plans tables plan said) ++ x) (said_texts tables plan said)
