-- A table of sessions in the form that is asked for. Its top is `written_as`.
use Rattle.std.specs.Prelude.{ℕ, Bool, List}
use Rattle.book_scope_plan.specs.AdminNames.{KeyFile}
use Rattle.book_sessions.specs.Sessions.{SessionTable}
use Rattle.book_sessions.specs.TableTexts.{sessions_text}
use Rattle.page_sessions_json.specs.declared.form.TableForm.{TableForm}
use Rattle.page_sessions_json.specs.declared.form.TableForm.TheVariants.{Lines, Json}
use Rattle.page_sessions_json.specs.declared.form.TableRequest.{TableRequest}
use Rattle.page_sessions_json.specs.SessionJson.{sessions_json}

-- the text of a table of sessions in this form, with or without foreign sessions (own)
abbrev pub written_in : TableForm → (all : Bool) → KeyFile → SessionTable → List ℕ
written_in Lines all keys t = sessions_text all keys t
written_in Json all keys t = sessions_json all keys t

-- the text of a table of sessions that is asked for (own)
abbrev pub written_as : TableRequest → KeyFile → SessionTable → List ℕ
written_as request keys t = written_in request.form request.all keys t
