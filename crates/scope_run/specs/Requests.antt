-- What the words ask for, by the texts that were written (own).
use Rattle.std.specs.Prelude.{ℕ, Bool, true, false, List, [], Option, Some, None, option_map}
use Rattle.std.specs.Prelude.{is_some, Result, Ok, Err, if◌then◌else◌}
use Rattle.book_base.specs.Results.{◌>>=◌}
use Rattle.book_scope_plan.specs.declared.form.PlanForm.{PlanForm}
use Rattle.book_scope_plan.specs.declared.form.PlanForm.TheVariants as plan_form
use Rattle.book_keys.specs.declared.plan.Plan.{Plan}
use Rattle.book_scope_run.specs.declared.halt.Halt.{Halt}
use Rattle.book_scope_run.specs.Words.{drawn_alone, every_asked, laps_asked, numbered_packet}
use Rattle.book_scope_run.specs.Words.{plan_asked, retired_alone, session_asked, within_asked}
use Rattle.page_draw_svg.specs.declared.form.LadderForm.{LadderForm}
use Rattle.page_draw_svg.specs.declared.form.LadderForm.TheVariants as ladder_form
use Rattle.page_draw_svg.specs.declared.placed.Form.{Form}
use Rattle.page_draw_svg.specs.declared.placed.Form.TheVariants as form
use Rattle.page_sessions_json.specs.declared.form.TableForm.{TableForm}
use Rattle.page_sessions_json.specs.declared.form.TableForm.TheVariants as table_form
use Rattle.page_sessions_json.specs.declared.form.TableRequest.{TableRequest}
use Rattle.scope_ladder.specs.declared.draw.LadderRequest.{LadderRequest}
use Rattle.scope_run.specs.declared.asked.Asked.{Asked}
use Rattle.scope_run.specs.declared.asked.Asked.TheVariants as asked
use Rattle.scope_run.specs.declared.asked.DrawAsked.{DrawAsked}
use Rattle.scope_run.specs.declared.asked.PacketAsked.{PacketAsked}
use Rattle.scope_run.specs.declared.asked.PlanAsked.{PlanAsked}
use Rattle.scope_run.specs.declared.asked.SessionsAsked.{SessionsAsked}
use Rattle.scope_run.specs.declared.tables.TablesWanted.{TablesWanted}
use Rattle.scope_why.specs.declared.write.WhyRequest.{WhyRequest}

-- a word, or none (own)
abbrev pub word_or_none : Option (List ℕ) → List ℕ
word_or_none None = []
word_or_none (Some word) = word

-- the word by which `--retire` names keys, if it is there (own)
abbrev pub retired_by : SessionsAsked → List ℕ
retired_by s = word_or_none (option_map (λ w. w.now) s.retire)

-- the same of all words (own)
abbrev pub retired_word : Asked → List ℕ
retired_word (asked.Sessions s) = retired_by s
retired_word other = []

-- in which form what is said of planned rollovers is written (own)
abbrev pub plan_form_of : PlanAsked → PlanForm
plan_form_of p =
    if p.draw then (if p.svg then plan_form.Picture else plan_form.Bars) else plan_form.Lines

-- the plan that is asked for (own)
abbrev pub plan_wanted : PlanAsked → Result Plan Halt
plan_wanted p = plan_asked p.lead.now p.lag.now p.from.now p.to.now

-- in which form a run is drawn (own)
abbrev pub form_of : DrawAsked → Form
form_of d = if d.svg then form.Svg else form.Text

-- in which form tables are written (own)
abbrev pub table_form_of : (json : Bool) → TableForm
table_form_of json = if json then table_form.Json else table_form.Lines

-- in which form a session is drawn (own)
abbrev pub ladder_form_of : (svg : Bool) → LadderForm
ladder_form_of svg = if svg then ladder_form.Picture else ladder_form.Text

-- the table that is asked for, and over how many laps is searched (own)
abbrev pub tables_wanted : SessionsAsked → Result TablesWanted Halt
tables_wanted s = do
  every ← every_asked (option_map (λ t. t.now) s.every)
  laps ← laps_asked (option_map (λ t. t.now) s.laps)
  Ok (record {
    request = record {
      form = table_form_of s.json;
      all = s.all;
      every = every;
    };
    laps = laps;
  })

-- over how many laps is searched, where it is asked whether keys may go (own)
abbrev pub retiring_wanted : SessionsAsked → Result ℕ Halt
retiring_wanted s = do
  alone ← retired_alone s.json s.all (is_some s.every) (is_some s.draw)
  laps_asked (option_map (λ t. t.now) s.laps)

-- the ladder that is asked for of the session that the text numbers (own)
abbrev pub ladder_wanted : SessionsAsked → List ℕ → Result LadderRequest Halt
ladder_wanted s text = do
  alone ← drawn_alone s.json (is_some s.every) s.all
  laps ← laps_asked (option_map (λ t. t.now) s.laps)
  number ← session_asked text
  within ← within_asked (option_map (λ t. t.now) s.from) (option_map (λ t. t.now) s.to)
  Ok (record {
    form = ladder_form_of s.svg;
    laps = laps;
    number = number;
    within = within;
  })

-- the packet that is asked for (own)
abbrev pub why_wanted : PacketAsked → Result WhyRequest Halt
why_wanted p = do
  number ← numbered_packet p.number.now
  Ok (record { number = number; with_key = p.with_key })
