-- What is answered on the planned rollovers of an input.
use Rattle.std.specs.Prelude.{ℕ, ◌+◌, ◌++◌, ◌||◌, false, List, [], ◌∷◌, length, codes, Result, Ok, Err}
use Rattle.book_base.specs.declared.address.Pair.{Pair}
use Rattle.book_base.specs.Results.{◌>>=◌}
use Rattle.book_answer.specs.Answers.{Answer, done}
use Rattle.book_scope_plan.specs.Bars.{drawing_text, drawings_text, good_plans, summary_line}
use Rattle.book_scope_plan.specs.declared.form.PlanForm.{PlanForm}
use Rattle.book_scope_plan.specs.declared.form.PlanForm.TheVariants.{Bars, Lines, Picture}
use Rattle.page_draw_plan_svg.specs.PlanLines.{drawing_lines}
use Rattle.page_draw_plan_svg.specs.PlanPictures.{lines_svg, picture_height, picture_text, plan_head, summary_svg}
use Rattle.page_draw_plan_svg.specs.RowNames.{picture_width}
use Rattle.book_keys.specs.declared.plan.Plan.{Plan}
use Rattle.book_lines.specs.declared.text_fault.TextFault.{TextFault}
use Rattle.book_lines.specs.Said.{Said, said_in}
use Rattle.book_scope_plan.specs.AdminNames.{KeyFile}
use Rattle.book_scope_plan.specs.Connections.{plan_pair_of}
use Rattle.book_scope_plan.specs.PlanTexts.{connection_text, has_wrong_plan, plans_text}
use Rattle.scope_plan.specs.declared.planned.Planned.{Planned}

-- what is said of the connections, one after another, in the form
abbrev pub plans_as : PlanForm → KeyFile → Plan → List (Said Pair) → List ℕ
plans_as Lines keys plan said = plans_text keys plan said
plans_as Bars keys plan said = drawings_text keys.tables plan said
plans_as Picture keys plan said = picture_text keys plan said

-- the answer on connections: what is said of each; something wrong with one is amiss
abbrev pub planned_answer : PlanForm → KeyFile → Plan → List (Said Pair) → Answer
planned_answer form keys plan said = done (has_wrong_plan keys.tables plan said) (plans_as form keys plan said)

-- what is said of a connection, in the form; in a picture its first line has this number
abbrev pub connection_as : PlanForm → KeyFile → Plan → (line : ℕ) → Pair → List ℕ
connection_as Lines keys plan line pair = connection_text keys plan pair
connection_as Bars keys plan line pair = drawing_text keys.tables plan pair
connection_as Picture keys plan line pair = lines_svg keys.document plan line (drawing_lines keys.tables plan pair)

-- how many lines of a picture a connection has, where the form is one
abbrev pub lines_as : PlanForm → KeyFile → Plan → Pair → ℕ
lines_as Lines keys plan pair = 0
lines_as Bars keys plan pair = 0
lines_as Picture keys plan pair = length (drawing_lines keys.tables plan pair)

-- what is said of the connections, one after another, without what stands around it
abbrev pub body_as : PlanForm → KeyFile → Plan → (line : ℕ) → List (Said Pair) → List ℕ
body_as form keys plan line [] = []
body_as form keys plan line (s ∷ said) =
    connection_as form keys plan line s.value ++ body_as form keys plan (line + lines_as form keys plan s.value) said

-- how many lines of a picture they have
abbrev pub count_as : PlanForm → KeyFile → Plan → List (Said Pair) → ℕ
count_as form keys plan [] = 0
count_as form keys plan (s ∷ said) = lines_as form keys plan s.value + count_as form keys plan said

-- the whole text of what is said of so many connections, with so many of which nothing is wrong; it has so many lines of a picture
abbrev pub framed : PlanForm → KeyFile → (all good count : ℕ) → List ℕ → List ℕ
framed Lines keys all good n text = text
framed Bars keys all good n text = summary_line all good ++ text
framed Picture keys all good n text =
    plan_head (picture_width keys) (picture_height n) ++ (summary_svg all good ++ (text ++ codes "</svg>\n"))

-- the same of what was planned
abbrev pub framed_plan : PlanForm → KeyFile → Planned → List ℕ
framed_plan form keys p = framed form keys p.all p.good p.lines p.text

-- what is planned of these connections
abbrev pub planned_of : PlanForm → KeyFile → Plan → List (Said Pair) → Planned
planned_of form keys plan said = record {
  text = body_as form keys plan 0 said;
  lines = count_as form keys plan said;
  all = length said;
  good = good_plans keys.tables plan said;
  has_wrong = has_wrong_plan keys.tables plan said;
}

-- what is said of the connections of a text, and whether something is wrong; or the first faulty line
unfoldable pub plannings : PlanForm → KeyFile → Plan → List ℕ → Result Planned TextFault
plannings form keys plan text = do
  said ← said_in plan_pair_of text
  Ok (planned_of form keys plan said)

-- what was planned before, and then the connections that are said
abbrev pub planned_after : PlanForm → KeyFile → Plan → Planned → List (Said Pair) → Planned
planned_after form keys plan p said = record {
  text = p.text ++ body_as form keys plan p.lines said;
  lines = p.lines + count_as form keys plan said;
  all = p.all + length said;
  good = p.good + good_plans keys.tables plan said;
  has_wrong = p.has_wrong || has_wrong_plan keys.tables plan said;
}

-- the answer so far, and then the connections that are said
abbrev pub planned_from : PlanForm → KeyFile → Plan → Planned → Result (List (Said Pair)) TextFault → Result Planned TextFault
planned_from form keys plan p (Ok said) = Ok (planned_after form keys plan p said)
planned_from form keys plan p (Err e) = Err e

-- nothing planned
abbrev pub no_plan : Planned
no_plan = record { text = []; lines = 0; all = 0; good = 0; has_wrong = false }
