-- What each word reads and writes, in which order, and how it ends. Its top is `Acts` (own).
use Rattle.std.specs.Prelude.{◌≡◌, ℕ, Bool, true, false, List, [], Option, Some, None, option_map}
use Rattle.std.specs.Prelude.{Result, Ok, Err}
use Rattle.ao_base.specs.Outside.{Side}
use Rattle.book_answer.specs.Answers.{Answer, if_read}
use Rattle.book_cmd_check.specs.declared.given.GivenIsns.{GivenIsns}
use Rattle.book_cmd_link.specs.declared.script.KeysFrom.TheVariants as keys_from
use Rattle.book_cmd_link.specs.LinkFiles.{script_of}
use Rattle.book_keys.specs.Nodes.{tables_of}
use Rattle.book_keys.specs.Rows.{Table}
use Rattle.book_keys.specs.declared.fault.TableFault.{TableFault}
use Rattle.book_keys.specs.declared.plan.Plan.{Plan}
use Rattle.book_scope_plan.specs.declared.form.PlanForm.{PlanForm}
use Rattle.book_scope_plan.specs.AdminNames.{KeyFile as Sheets}
use Rattle.book_scope_run.specs.declared.halt.Halt.{Halt}
use Rattle.book_scope_run.specs.declared.halt.Origin.TheVariants.{KeyFile, Input}
use Rattle.book_sessions.specs.declared.retiring.Retiring.{Retiring}
use Rattle.capture_walk.specs.declared.walking.WalkHalt.{WalkHalt}
use Rattle.command_report.specs.declared.report.Report.{Report}
use Rattle.page_draw_svg.specs.declared.placed.Form.{Form}
use Rattle.packet_check.specs.Reading.{Checks as ChecksCapture}
use Rattle.scope_draw.specs.Forms.{drawn, drawn_by_shared}
use Rattle.scope_draw.specs.EchoForms.{echoed_by_shared, echoed_over}
use Rattle.scope_ladder.specs.declared.draw.LadderHalt.{LadderHalt}
use Rattle.scope_ladder.specs.declared.draw.LadderRequest.{LadderRequest}
use Rattle.scope_ladder.specs.Drawing.{request_of}
use Rattle.scope_ladder.specs.Writing.{Writes as DrawsLadder}
use Rattle.scope_lines.specs.declared.write.LinesHalt.{LinesHalt}
use Rattle.scope_lines.specs.Writes.{Writes as WritesLines}
use Rattle.scope_keys.specs.KeyFiles.{key_file_in}
use Rattle.scope_sessions.specs.Reading.{series_of}
use Rattle.scope_sessions.specs.Writing.{Writes as WritesTables, at_end, retire_report}
use Rattle.scope_sessions.specs.Writing.{table_report}
use Rattle.scope_why.specs.declared.write.WhyRequest.{WhyRequest}
use Rattle.scope_why.specs.Writing.{Writes as WritesWhy, question_of}
use Rattle.scope_run.specs.declared.asked.Asked.{Asked}
use Rattle.scope_run.specs.declared.asked.Asked.TheVariants as asked
use Rattle.scope_run.specs.declared.asked.CheckAsked.{CheckAsked}
use Rattle.scope_run.specs.declared.asked.DrawAsked.{DrawAsked}
use Rattle.scope_run.specs.declared.asked.EchoAsked.{EchoAsked}
use Rattle.scope_run.specs.declared.asked.PacketAsked.{PacketAsked}
use Rattle.scope_run.specs.declared.asked.PlanAsked.{PlanAsked}
use Rattle.scope_run.specs.declared.asked.SessionsAsked.{SessionsAsked}
use Rattle.scope_run.specs.declared.tables.TablesWanted.{TablesWanted}
use Rattle.scope_run.specs.Answers.{MakesKeyReport, WritesAnswer, WritesReport, plan_answer}
use Rattle.scope_run.specs.Halts.{judged_end, ladder_end, lines_end, retiring_end, why_end}
use Rattle.scope_run.specs.Readings.{JudgedFiles, KeysGive, ReadsJudged, ReadsWhole}
use Rattle.scope_run.specs.Requests.{form_of, ladder_wanted, plan_form_of, plan_wanted}
use Rattle.scope_run.specs.Requests.{retiring_wanted, tables_wanted, why_wanted}
use Rattle.scope_run.specs.Sides.{Flow, Given, Sides, Unread, flow}

-- the words are refused: nothing is read and nothing written (own)
pub record NotBegun (why : Halt) (g : Given) (b n : Sides) (end : Result Bool Halt) : Type 0 where
  pub is : end ≡ Err why
  pub keys : Unread g.keys b.keys n.keys
  pub isns : Unread g.isns b.isns n.isns
  pub input : Unread g.input b.input n.input
  pub out : n.out ≡ b.out

-- what comes where the words write what is asked for; else they are refused (own)
abbrev pub Begins : {A : Type 0} → Result A Halt → (A → Type 0) → Given → (b n : Sides) →
    Result Bool Halt → Type 0
Begins (Ok x) Next g b n end = Next x
Begins (Err why) Next g b n end = NotBegun why g b n end

-- it ended before the input was read, and nothing was written (own)
pub record NoInput (why : Halt) (f : Flow) (end : Result Bool Halt) : Type 0 where
  pub is : end ≡ Err why
  pub input : Unread f.given f.input_before f.input_now
  pub out : f.out_now ≡ f.out_before

-- what comes where a stage in front of the input gave this; else it ended all (own)
abbrev pub Then : {A : Type 0} → Result A Halt → (A → Type 0) → Flow → Result Bool Halt → Type 0
Then (Ok x) Next f end = Next x
Then (Err why) Next f end = NoInput why f end

-- the key file is read, then the initial sequence numbers, where the words ask for them; they are
-- judged, the key file first; and then this comes (own)
abbrev pub WithFiles : Bool → (Sheets → List GivenIsns → Type 0) → Given → (b n : Sides) →
    Result Bool Halt → Type 0
WithFiles has_isns Next g b n end =
    (judged : Result JudgedFiles Halt)
    × ReadsJudged has_isns g.keys g.isns b.keys n.keys b.isns n.isns judged
    × Then judged (λ j. Next j.file j.isns) (flow g b n) end

-- what `check` says of each packet of a capture is written, by these tables and initial sequence
-- numbers (own)
abbrev pub Checks : (all : Bool) → List Table → List GivenIsns → Flow → Result Bool Halt → Type 0
Checks all tables isns f end =
    (r : Result Bool WalkHalt)
    × ChecksCapture all tables isns f.given f.input_before f.input_now f.out_before f.out_now r
    × (end ≡ judged_end r)

-- the tables of a capture are written, by this key file and initial sequence numbers (own)
abbrev pub Tabulates : TablesWanted → Sheets → List GivenIsns → Flow → Result Bool Halt → Type 0
Tabulates w file isns f end =
    (r : Result Bool WalkHalt)
    × WritesTables (table_report w.request)
    (series_of file.document file.tables w.laps isns w.request) f.given f.input_before f.input_now
    f.out_before f.out_now r × (end ≡ judged_end r)

-- it is written whether the keys that a word names may go (own)
abbrev pub Retires : (word : List ℕ) → (laps : ℕ) → Sheets → List GivenIsns → Flow →
    Result Bool Halt → Type 0
Retires word laps file isns f end =
    (r : Result Retiring WalkHalt)
    × WritesTables (retire_report word) (series_of file.document file.tables laps isns at_end)
    f.given f.input_before f.input_now f.out_before f.out_now r × (end ≡ retiring_end r)

-- a session of a capture is drawn, by these tables and initial sequence numbers (own)
abbrev pub DrawsBy : LadderRequest → List Table → List GivenIsns → Flow → Result Bool Halt → Type 0
DrawsBy w tables isns f end =
    (r : Result (Unit {0}) LadderHalt)
    × DrawsLadder (request_of w tables isns) f.given f.input_before f.input_now f.out_before
    f.out_now r × (end ≡ ladder_end w.number r)

-- the answer on a packet is written, by this key file and initial sequence numbers (own)
abbrev pub Explains : WhyRequest → Sheets → List GivenIsns → Flow → Result Bool Halt → Type 0
Explains w file isns f end =
    (r : Result Bool WalkHalt)
    × WritesWhy file (question_of w isns) f.given f.input_before f.input_now f.out_before f.out_now
    r × (end ≡ why_end r)

-- the files are read and judged, and then what `check` says written (own)
abbrev pub ReadsAndChecks : (has_isns all : Bool) → Given → (b n : Sides) →
    Result Bool Halt → Type 0
ReadsAndChecks has_isns all g b n end =
    WithFiles has_isns (λ k isns. Checks all k.tables isns (flow g b n) end) g b n end

-- the files are read and judged, and then the tables written (own)
abbrev pub ReadsAndTabulates : Bool → TablesWanted → Given → (b n : Sides) →
    Result Bool Halt → Type 0
ReadsAndTabulates has_isns w g b n end =
    WithFiles has_isns (λ k isns. Tabulates w k isns (flow g b n) end) g b n end

-- the files are read and judged, and then it is written whether keys may go (own)
abbrev pub ReadsAndRetires : Bool → (word : List ℕ) → (laps : ℕ) → Given → (b n : Sides) →
    Result Bool Halt → Type 0
ReadsAndRetires has_isns word laps g b n end =
    WithFiles has_isns (λ k isns. Retires word laps k isns (flow g b n) end) g b n end

-- the files are read and judged, and then a session is drawn (own)
abbrev pub ReadsAndDraws : Bool → LadderRequest → Given → (b n : Sides) → Result Bool Halt → Type 0
ReadsAndDraws has_isns w g b n end =
    WithFiles has_isns (λ k isns. DrawsBy w k.tables isns (flow g b n) end) g b n end

-- the files are read and judged, and then the answer on a packet written (own)
abbrev pub ReadsAndExplains : Bool → WhyRequest → Given → (b n : Sides) → Result Bool Halt → Type 0
ReadsAndExplains has_isns w g b n end =
    WithFiles has_isns (λ k isns. Explains w k isns (flow g b n) end) g b n end

-- `sessions`: whether keys may go, where a word names some; else a session is drawn, where one is
-- numbered; else the tables are written (own)
abbrev pub SessionsBy : (retire draw : Option (List ℕ)) → SessionsAsked → Given → (b n : Sides) →
    Result Bool Halt → Type 0
SessionsBy (Some word) draw s g b n end =
    Begins (retiring_wanted s) (λ laps. ReadsAndRetires s.has_isns word laps g b n end) g b n end
SessionsBy None (Some text) s g b n end =
    Begins (ladder_wanted s text) (λ w. ReadsAndDraws s.has_isns w g b n end) g b n end
SessionsBy None None s g b n end =
    Begins (tables_wanted s) (λ w. ReadsAndTabulates s.has_isns w g b n end) g b n end

-- the input was read, and its answer is written; or it wasn't, and nothing is (own)
abbrev pub AnswersText : Result (List ℕ) Halt → (List ℕ → Answer) → Flow → Result Bool Halt → Type 0
AnswersText (Ok input) answer f end = WritesAnswer (answer input) f.out_before f.out_now end
AnswersText (Err why) answer f end = (end ≡ Err why) × (f.out_now ≡ f.out_before)

-- the input is read whole, and then its answer written (own)
abbrev pub AnswersInput : (List ℕ → Answer) → Flow → Result Bool Halt → Type 0
AnswersInput answer f end =
    (text : Result (List ℕ) Halt) × ReadsWhole Input f.given f.input_before f.input_now text
    × AnswersText text answer f end

-- a link file's run is drawn over these tables (own)
abbrev pub DrawsRun : Form → List Table → Flow → Result Bool Halt → Type 0
DrawsRun form tables f end =
    AnswersInput (λ input. if_read (drawn form tables) (script_of keys_from.KeyFile input)) f end

-- a link file's run is drawn over the key that it names (own)
abbrev pub DrawsSharedRun : Form → Flow → Result Bool Halt → Type 0
DrawsSharedRun form f end = AnswersInput
    (λ input. if_read (drawn_by_shared form) (script_of keys_from.LinkFile input)) f end

-- a link file is echoed over these tables (own)
abbrev pub Echoes : List Table → Flow → Result Bool Halt → Type 0
Echoes tables f end =
    AnswersInput
    (λ input. if_read (echoed_over tables input) (script_of keys_from.KeyFile input)) f end

-- a link file is echoed over the key that it names (own)
abbrev pub EchoesShared : Flow → Result Bool Halt → Type 0
EchoesShared f end =
    AnswersInput
    (λ input. if_read (echoed_by_shared input) (script_of keys_from.LinkFile input)) f end

-- the key file was read, and what it gives is this (own)
abbrev pub FileGives : {A : Type 0} → (List ℕ → Result A TableFault) → Result (List ℕ) Halt →
    Result A Halt → Type 0
FileGives read (Ok keys) result = KeysGive (read keys) result
FileGives read (Err why) result = result ≡ Err why

-- the key file is read and judged (own)
abbrev pub ReadsKeys : {A : Type 0} → (List ℕ → Result A TableFault) → (given : List ℕ) →
    (before now : Side) → Result A Halt → Type 0
ReadsKeys read given before now result =
    (text : Result (List ℕ) Halt) × ReadsWhole KeyFile given before now text
    × FileGives read text result

-- the key file is read and judged, and then this comes (own)
abbrev pub WithKeys : {A : Type 0} → (List ℕ → Result A TableFault) → (A → Type 0) → Given →
    (b n : Sides) → Result Bool Halt → Type 0
WithKeys {A} read Next g b n end =
    (file : Result A Halt) × ReadsKeys read g.keys b.keys n.keys file
    × Then file Next (flow g b n) end

-- `draw`: over the tables of the key file, where the words ask for it (own)
abbrev pub Draws : (has_keys : Bool) → Form → Given → (b n : Sides) → Result Bool Halt → Type 0
Draws true form g b n end =
    WithKeys tables_of (λ t. DrawsRun form t (flow g b n) end) g b n end
Draws false form g b n end =
    Unread g.keys b.keys n.keys × DrawsSharedRun form (flow g b n) end

-- `echo`: the same (own)
abbrev pub EchoesBy : (has_keys : Bool) → Given → (b n : Sides) → Result Bool Halt → Type 0
EchoesBy true g b n end = WithKeys tables_of (λ t. Echoes t (flow g b n) end) g b n end
EchoesBy false g b n end = Unread g.keys b.keys n.keys × EchoesShared (flow g b n) end

-- what is wrong with a key file that was read is written; or it wasn't, and nothing is (own)
abbrev pub ReportsKeys : Result (List ℕ) Halt → (out_before out_now : Side) →
    Result Bool Halt → Type 0
ReportsKeys (Ok keys) out_before out_now end =
    (made : Result Report Halt) × MakesKeyReport keys made
    × WritesReport made out_before out_now end
ReportsKeys (Err why) out_before out_now end = (end ≡ Err why) × (out_now ≡ out_before)

-- the key file is read, and what is wrong with it written (own)
abbrev pub JudgesKeys : (given : List ℕ) → (keys_before keys_now out_before out_now : Side) →
    Result Bool Halt → Type 0
JudgesKeys given keys_before keys_now out_before out_now end =
    (text : Result (List ℕ) Halt) × ReadsWhole KeyFile given keys_before keys_now text
    × ReportsKeys text out_before out_now end

-- the lines of a capture are written (own)
abbrev pub Lists : Flow → Result Bool Halt → Type 0
Lists f end =
    (r : Result (Unit {0}) LinesHalt)
    × WritesLines f.given f.input_before f.input_now f.out_before f.out_now r × (end ≡ lines_end r)

-- what is planned of connections is answered by this key file (own)
abbrev pub Plans : PlanForm → Plan → Sheets → Flow → Result Bool Halt → Type 0
Plans form plan file f end = AnswersInput (plan_answer form file plan) f end

-- `why`: the answer on the packet that is asked for (own)
abbrev pub ExplainsBy : PacketAsked → Given → (b n : Sides) → Result Bool Halt → Type 0
ExplainsBy p g b n end =
    Begins (why_wanted p) (λ w. ReadsAndExplains p.has_isns w g b n end) g b n end

-- `plan`: the key file is read, and what is planned of connections answered (own)
abbrev pub ReadsAndPlans : PlanForm → Plan → Given → (b n : Sides) → Result Bool Halt → Type 0
ReadsAndPlans form plan g b n end = Unread g.isns b.isns n.isns
    × WithKeys key_file_in (λ k. Plans form plan k (flow g b n) end) g b n end

-- the same of the plan that is asked for (own)
abbrev pub PlansBy : PlanAsked → Given → (b n : Sides) → Result Bool Halt → Type 0
PlansBy p g b n end =
    Begins (plan_wanted p) (λ plan. ReadsAndPlans (plan_form_of p) plan g b n end) g b n end

-- what each word reads and writes, and how it ends; a source that it doesn't ask for stays as it
-- was (own)
abbrev pub Acts : Asked → Given → (b n : Sides) → Result Bool Halt → Type 0
Acts asked.Lines g b n end =
    Unread g.keys b.keys n.keys × (Unread g.isns b.isns n.isns × Lists (flow g b n) end)
Acts (asked.Check c) g b n end = ReadsAndChecks c.has_isns c.all g b n end
Acts (asked.Sessions s) g b n end = SessionsBy (option_map (λ w. w.now) s.retire)
    (option_map (λ w. w.now) s.draw) s g b n end
Acts (asked.Why p) g b n end = ExplainsBy p g b n end
Acts asked.Keys g b n end = Unread g.isns b.isns n.isns × (Unread g.input b.input n.input
    × JudgesKeys g.keys b.keys n.keys b.out n.out end)
Acts (asked.Plan p) g b n end = PlansBy p g b n end
Acts (asked.Draw d) g b n end =
    Unread g.isns b.isns n.isns × Draws d.has_keys (form_of d) g b n end
Acts (asked.Echo e) g b n end = Unread g.isns b.isns n.isns × EchoesBy e.has_keys g b n end
