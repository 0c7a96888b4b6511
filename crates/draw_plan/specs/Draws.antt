-- What it is to draw lines of a picture, as the book has them.
use Rattle.std.specs.Prelude.{◌≡◌, ℕ, ◌+◌, ◌++◌, List, [], ◌∷◌, length}
use Rattle.book_scope_plan.specs.declared.bar.Bar.{Bar}
use Rattle.book_scope_plan.specs.declared.slice.Slice.{Slice}
use Rattle.book_scope_plan.specs.Bars.{shown_bar}
use Rattle.page_draw_plan_svg.specs.PlanLines as book
use Rattle.page_draw_plan_svg.specs.PlanPictures.{bar_svg, lines_svg}
use Rattle.book_keys.specs.declared.plan.Plan.{Plan}
use Rattle.book_plans.specs.declared.finding.Finding.{Finding}
use Rattle.draw_plan.specs.declared.wrong.Connected.{Connected}
use Rattle.toml.specs.Data.{Members}

-- the book's form of a connection between two nodes, of whose plan this doesn't hold
abbrev pub judged_of : Connected → List Finding → book.PlannedPair
judged_of ends fs = record { a = ends.tables.a.now; b = ends.tables.b.now; pair = ends.pair; findings = fs }

-- the bars of a connection, the first one in the line of this number
abbrev pub bars_svg : Members → Slice → Connected → (line : ℕ) → List Bar → List ℕ
bars_svg document time ends line [] = []
bars_svg document time ends line (bar ∷ bars) =
    bar_svg document line (shown_bar ends.tables.a.now ends.tables.b.now ends.pair time bar) ++ bars_svg document time ends (line + 1) bars

-- these lines are drawn behind a text, the first one having this number; so there is this text, and the next one has that number
pub record Draws (document : Members) (plan : Plan) (ls : List book.PlanLine) (before : List ℕ) (line : ℕ) (after : List ℕ) (next : ℕ) : Type 0 where
  pub text : after ≡ before ++ lines_svg document plan line ls
  pub count : next ≡ line + length ls
