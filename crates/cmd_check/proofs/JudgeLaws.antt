-- One more segment is judged.
use Rattle.std.proofs.Common.{◌≡◌, ℕ, Bool, false, not, ◌||◌, List, [], ◌∷◌, ◌++◌, Ok, sym, ap, ◌∙◌}
use Rattle.book_keys.specs.Rows.{Table}
use Rattle.book_lines.specs.Texts.{numbered_text}
use Rattle.book_cmd_check.specs.Captures.{Connection, Saying, Stored, has_refusal, hear, is_pass, saying_texts}
use Rattle.capture_check.specs.declared.answer.CheckLine.{CheckLine}
use Rattle.capture_check.specs.Answers.{Says}
use Rattle.capture_check.specs.Checkers.{Hears, StandsFor}
use Rattle.cmd_check.specs.Judges.{Gathers, HasHeard, Judging, held_after, line_after}
use Rattle.cmd_check.proofs.RunLaws.{held_more, refusal_more, saying_after}

-- nothing was heard yet
pub heard_none : (judge : Judging) → StandsFor judge.checking.entries [] → judge.amiss ≡ false → HasHeard judge []
heard_none judge stands amiss = record { stands = stands; amiss = amiss }

module _ (before now : Judging) (stored : List Stored) (s : Stored) (answer : CheckLine) (line : List ℕ) (heard : HasHeard before stored)
    (tables : now.checking.tables ≡ before.checking.tables)
    (hears : (held : List Connection) → StandsFor before.checking.entries held → Hears now.checking.entries answer (hear before.checking.tables held s.time s.bytes))
    (texts : (w : Saying) → Says answer w → line ≡ numbered_text s.number (saying_texts w)) where
  next : Hears now.checking.entries answer (hear before.checking.tables (held_after before.checking.tables [] stored) s.time s.bytes)
  next = hears (held_after before.checking.tables [] stored) heard.stands

  line_is : line ≡ line_after before.checking.tables stored s
  line_is = texts (saying_after before.checking.tables [] stored s) next.says

  heard_then : (pass : Bool) → ((w : Saying) → Says answer w → pass ≡ is_pass w) → now.amiss ≡ (before.amiss || not pass) → HasHeard now (stored ++ s ∷ [])
  heard_then pass passes amiss =
      let passed : pass ≡ is_pass (saying_after before.checking.tables [] stored s) = passes (saying_after before.checking.tables [] stored s) next.says in
      record {
        stands = rw (tables, held_more before.checking.tables [] stored s) next.stands;
        amiss = amiss ∙ (ap (λ (x : Bool). x || not pass) heard.amiss ∙ (ap (λ (x : Bool). has_refusal before.checking.tables stored || not x) passed
            ∙ (sym (refusal_more before.checking.tables stored s) ∙ ap (λ (t : List Table). has_refusal t (stored ++ s ∷ [])) (sym tables))));
      }

  pub gathered : (pass : Bool) (u : Unit {0}) (lines lines_now : List ℕ) {E : Type 0} → ((w : Saying) → Says answer w → pass ≡ is_pass w) → now.amiss ≡ (before.amiss || not pass) → lines_now ≡ lines ++ line →
      Gathers {E = E} before now stored s lines lines_now (Ok u)
  gathered pass u lines lines_now passes amiss more =
      record {
        tables = tables;
        heard = heard_then pass passes amiss;
        lines = more ∙ ap (λ (xs : List ℕ). lines ++ xs) line_is;
      }
