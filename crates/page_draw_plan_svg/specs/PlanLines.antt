-- The lines that are drawn of planned rollovers, in order; text and picture are two ways to draw
-- them. Its tops are `drawings_lines` and `plan_line_text`.
use Rattle.std.specs.Prelude.{ℕ, List, [], ◌∷◌, ◌++◌, flat_map, map, codes, Option, Some, None}
use Rattle.std.specs.Prelude.{if◌then◌else◌}
use Rattle.book_base.specs.declared.address.Address.{Address}
use Rattle.book_base.specs.declared.address.Pair.{Pair}
use Rattle.book_scope_plan.specs.declared.bar.Bar.{Bar}
use Rattle.book_scope_plan.specs.BarOrders.{bars_of}
use Rattle.book_scope_plan.specs.Bars.{bar_line, bar_text, scale_line, wrong_bytes}
use Rattle.book_scope_plan.specs.Slices.{slices_of}
use Rattle.book_keys.specs.declared.plan.Plan.{Plan}
use Rattle.book_keys.specs.Rows.{Table}
use Rattle.book_lines.specs.Said.{Said}
use Rattle.book_plans.specs.declared.finding.Finding.{Finding}
use Rattle.book_scope_plan.specs.PlanTexts.{connection_line, has_none, missing_text, node_with}
use Rattle.book_scope_plan.specs.PlanTexts.{plan_findings}

-- the nodes of the two ends of a connection, the pair as end a sees it, and what doesn't hold (own)
pub record PlannedPair : Type 0 where
  pub a : Table
  pub b : Table
  pub pair : Pair
  pub findings : List Finding

-- a line that is drawn: the name of a connection, that no node has an address, the time, a bar of a
-- connection, or the marks of what is wrong (own)
pub data PlanLine : Type 0 where
  Named : (pair : Pair) → PlanLine
  Missing : (address : Address) → PlanLine
  Scale : PlanLine
  Barred : (judged : PlannedPair) → (bar : Bar) → PlanLine
  Wrong : (judged : PlannedPair) → PlanLine

-- the line of what is wrong, where something is (own)
abbrev pub wrong_lines : PlannedPair → List PlanLine
wrong_lines j = if has_none j.findings then [] else Wrong j ∷ []

-- the lines of a connection between two nodes, after its name (own)
unfoldable pub both_lines : Plan → PlannedPair → List PlanLine
both_lines plan j =
    Scale ∷ (map (Barred j) (bars_of j.a j.b j.pair plan) ++ wrong_lines j)

-- that no node has the address, where none has (own)
abbrev pub missing_lines : Option Table → Address → List PlanLine
missing_lines (Some t) address = []
missing_lines None address = Missing address ∷ []

-- the lines of a connection by the nodes of its ends, after its name (own)
abbrev pub planned_lines : (a b : Option Table) → Plan → Pair → List Finding → List PlanLine
planned_lines (Some a) (Some b) plan pair fs =
    both_lines plan (record { a = a; b = b; pair = pair; findings = fs })
planned_lines a b plan pair fs =
    missing_lines a pair.local.address ++ missing_lines b pair.remote.address

-- the lines of a connection (own)
unfoldable pub drawing_lines : List Table → Plan → Pair → List PlanLine
drawing_lines tables plan pair =
    Named pair
    ∷ planned_lines (node_with tables pair.local.address) (node_with tables pair.remote.address)
    plan pair (plan_findings tables plan pair)

-- the lines of the connections, one after another (own)
abbrev pub drawings_lines : List Table → Plan → List (Said Pair) → List PlanLine
drawings_lines tables plan said = flat_map (λ s. drawing_lines tables plan s.value) said

-- the line as text (own)
abbrev pub plan_line_text : Plan → PlanLine → List ℕ
plan_line_text plan (Named pair) = connection_line pair
plan_line_text plan (Missing address) = missing_text None address
plan_line_text plan Scale = scale_line plan
plan_line_text plan (Barred j bar) = bar_text j.a j.b j.pair plan bar
plan_line_text plan (Wrong j) =
    bar_line (wrong_bytes j.a j.b j.pair j.findings (slices_of plan.from plan.to)) (codes "wrong")
