-- A judge of stored segments: what it has heard, and what it says (own). Its top is `Gathers`.
use Rattle.std.specs.Prelude.{◌≡◌, ℕ, Bool, List, [], ◌∷◌, ◌++◌, Result, Ok, Err, IfOk}
use Rattle.book_keys.specs.Rows.{Table}
use Rattle.book_lines.specs.Texts.{numbered_text}
use Rattle.book_cmd_check.specs.Captures.{Connection, Stored, has_refusal, hear, saying_texts}
use Rattle.capture_check.specs.Checkers.{Checking, StandsFor}

-- a judge is: what its checker knows, and whether a segment was no pass (own)
pub record Judging : Type 0 where
  pub checking : Checking
  pub amiss : Bool

-- the connections that are held after these segments (own)
abbrev pub held_after : List Table → List Connection → List Stored → List Connection
held_after tables held [] = held
held_after tables held (s ∷ rest) =
    held_after tables (hear tables held s.time s.bytes).connections rest

-- the judge has heard these segments (own)
pub record HasHeard (judging : Judging) (stored : List Stored) : Type 0 where
  pub stands : StandsFor judging.checking.entries (held_after judging.checking.tables [] stored)
  pub amiss : judging.amiss ≡ has_refusal judging.checking.tables stored

-- the line of a segment that comes behind these (own)
abbrev pub line_after : List Table → List Stored → Stored → List ℕ
line_after tables stored s =
    numbered_text s.number
    (saying_texts (hear tables (held_after tables [] stored) s.time s.bytes).saying)

-- the lines that are gathered, with this one behind them, unless memory ran out (own)
abbrev pub and_line : {E : Type 0} → List ℕ → List ℕ → Result (Unit {0}) E → List ℕ
and_line lines line (Ok done) = lines ++ line
and_line lines line (Err error) = lines

-- one more segment is judged by those before it, and its line gathered (own)
pub record Gathers {E : Type 0} (before now : Judging) (stored : List Stored) (s : Stored)
    (lines_before lines_now : List ℕ) (result : Result (Unit {0}) E) : Type 0 where
  pub tables : now.checking.tables ≡ before.checking.tables
  pub heard : IfOk result (λ _. HasHeard now (stored ++ s ∷ []))
  pub lines : lines_now ≡ and_line lines_before (line_after before.checking.tables stored s) result
