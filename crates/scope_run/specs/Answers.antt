-- A report that is made of what was read, and written (own).
use Rattle.std.specs.Prelude.{◌≡◌, ◌↔◌, ℕ, ◌<◌, Bool, true, false, List, [], ◌∷◌, length, take}
use Rattle.std.specs.Prelude.{Result, Ok, Err}
use Rattle.ao_base.specs.Outside.{Side, WasWritten, Rose}
use Rattle.book_answer.specs.Answers.{Answer, done, refusal}
use Rattle.book_scope_plan.specs.declared.form.PlanForm.{PlanForm}
use Rattle.book_keys.specs.declared.plan.Plan.{Plan}
use Rattle.book_keys.specs.Nodes.{tables_of}
use Rattle.book_keys.specs.Rows.{Table}
use Rattle.book_lines.specs.Faults.{input_fault_text}
use Rattle.book_lines.specs.Said.{Said, said_in}
use Rattle.book_lines.specs.declared.text_fault.TextFault.{TextFault}
use Rattle.book_base.specs.declared.address.Pair.{Pair}
use Rattle.book_scope_plan.specs.AdminNames.{KeyFile}
use Rattle.book_scope_plan.specs.Connections.{plan_pair_of}
use Rattle.book_scope_plan.specs.PlanTexts.{plans_text}
use Rattle.book_scope_run.specs.declared.halt.Halt.{Halt}
use Rattle.book_scope_run.specs.declared.halt.Halt.TheVariants as halt
use Rattle.book_scope_run.specs.Endings.{halt_status, halt_text}
use Rattle.command_report.specs.declared.report.Report.{Report}
use Rattle.scope_keys.specs.Reports.{IsKeyReport}
use Rattle.scope_plan.specs.Plannings.{planned_answer}
use Rattle.book_scope_texts.specs.FileFindings.{has_nodes}

-- the answer without output of a run that ends early (own)
abbrev pub ended : Halt → Answer
ended why = refusal (halt_status why) (halt_text [] why)

-- what was made is the answer, unless memory ran out (own)
abbrev pub Makes : Result Report Halt → Answer → Type 0
Makes (Ok r) a = a ≡ done r.is_amiss r.text
Makes (Err halt.Memory) a = Unit {0}
Makes (Err why) a = a ≡ ended why

-- a text was written, whole, or a front part of it where a write failed; whether something in it is
-- amiss is answered (own)
abbrev pub WritesText : List ℕ → Bool → (out_before out_now : Side) → Result Bool Halt → Type 0
WritesText text amiss out_before out_now (Ok answer) =
    (answer ≡ amiss) × WasWritten text out_before out_now
WritesText text amiss out_before out_now (Err halt.Write) =
    (n : ℕ) × (n < length text) × WasWritten (take n text) out_before out_now
    × Rose out_before out_now
WritesText text amiss out_before out_now (Err other) = ⊥

-- a report was written that was made, or nothing (own)
abbrev pub WritesReport : Result Report Halt → (out_before out_now : Side) →
    Result Bool Halt → Type 0
WritesReport (Ok r) out_before out_now end = WritesText r.text r.is_amiss out_before out_now end
WritesReport (Err why) out_before out_now end = (end ≡ Err why) × (out_now ≡ out_before)

-- the answer was made and written (own)
abbrev pub WritesAnswer : Answer → (out_before out_now : Side) → Result Bool Halt → Type 0
WritesAnswer a out_before out_now end =
    (made : Result Report Halt) × Makes made a × WritesReport made out_before out_now end

-- what was made is the report of a key file: something is amiss unless it is taken and has a node;
-- or memory ran out (own)
abbrev pub MakesKeyReport : List ℕ → Result Report Halt → Type 0
MakesKeyReport text (Ok r) =
    IsKeyReport text r.text × ((r.is_amiss ≡ false) ↔ (has_nodes (tables_of text) ≡ true))
MakesKeyReport text (Err halt.Memory) = Unit {0}
MakesKeyReport text (Err other) = ⊥

-- the answer on connections; it must be said of one (own)
abbrev pub said_answer : PlanForm → KeyFile → Plan → List (Said Pair) → List ℕ → Answer
said_answer form keys plan said [] = ended halt.NoConnection
said_answer form keys plan said text = planned_answer form keys plan said

-- the answer on connections, or why their lines are refused (own)
abbrev pub connections_answer : PlanForm → KeyFile → Plan →
    Result (List (Said Pair)) TextFault → Answer
connections_answer form keys plan (Ok said) =
    said_answer form keys plan said (plans_text keys plan said)
connections_answer form keys plan (Err fault) = refusal 4 (input_fault_text fault)

-- the answer on the connections of an input by these tables; there must be one (own)
abbrev pub tables_answer : PlanForm → KeyFile → Plan → List ℕ → List Table → Answer
tables_answer form keys plan input [] = ended halt.NoNode
tables_answer form keys plan input tables =
    connections_answer form keys plan (said_in plan_pair_of input)

-- the answer of `plan` by a key file (own)
abbrev pub plan_answer : PlanForm → KeyFile → Plan → List ℕ → Answer
plan_answer form keys plan input = tables_answer form keys plan input keys.tables
