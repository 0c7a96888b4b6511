-- The answer of `draw`, as a command's.
use Rattle.std.specs.Prelude.{List, false}
use Rattle.book_answer.specs.Answers.{Answer, done}
use Rattle.book_cmd_link.specs.declared.script.Script.{Script}
use Rattle.book_cmd_link.specs.LinkFiles.{shared_by}
use Rattle.book_draw.specs.Rungs.{rungs}
use Rattle.page_draw_svg.specs.declared.placed.Form.{Form}
use Rattle.page_draw_svg.specs.Pictures.{drawn_as}
use Rattle.book_keys.specs.Rows.{Table}
use Rattle.book_link.specs.declared.event.Event.{Event}
use Rattle.book_link.specs.Worlds.{Setup, setup_of}

-- the ladder of a run in a form; nothing in it is amiss (own)
abbrev pub drawing : Form → Setup → List Event → Answer
drawing form setup events = done false (drawn_as form (rungs setup events))

-- the ladder of a script's run over these tables (own)
abbrev pub drawn : Form → List Table → Script → Answer
drawn form tables s = drawing form (setup_of tables s.a s.b) s.events

-- the ladder of a script's run over the key that it names (own)
abbrev pub drawn_by_shared : Form → Script → Answer
drawn_by_shared form s = drawn form (shared_by s s.shared) s
