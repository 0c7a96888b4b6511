-- What one call of a reader of lines does (own).
use Rattle.std.specs.Prelude.{◌≡◌, ℕ, ◌+◌, ◌-◌, ◌<◌, ◌≤◌, Bool, true, false, List, [], ◌∷◌, ◌++◌, length, drop, Option, None, Some}
use Rattle.std.specs.List.{position_or_len}
use Rattle.ao_base.specs.Outside.{Side, Gave, Rose, IsAtEnd, told}
use Rattle.book_base.specs.Lines.{is_newline, lines_of}
use Rattle.ao_base.specs.declared.reader.LineStep.{LineStep}
use Rattle.ao_base.specs.declared.reader.LineStep.TheVariants.{Line, End, Fault, TooLong, LongLine}

-- a reader of lines is: its limits, the bytes that it took and hasn't handed out, the number of bytes that it took, whether the line that it showed last has no newline, whether a call has answered anything but Line, and the line of the last call, where it answered Line
pub record Reading : Type 0 where
  pub longest : ℕ
  pub most : ℕ
  pub kept : List ℕ
  pub taken : ℕ
  pub lacks_newline : Bool
  pub over : Bool
  pub line : Option (List ℕ)

-- the first line of a text, and what follows it and its newline byte
pub record IsFirstLine (text line rest : List ℕ) : Type 0 where
  pub first : lines_of text ≡ line ∷ lines_of rest
  pub follows : rest ≡ drop (length line + 1) text

-- the first line has more than so many bytes
abbrev pub IsLong : ℕ → List (List ℕ) → Type 0
IsLong longest [] = ⊥
IsLong longest (line ∷ lines) = longest < length line

-- no line has more than so many bytes
abbrev pub NoneLong : ℕ → List (List ℕ) → Type 0
NoneLong longest [] = Unit {0}
NoneLong longest (line ∷ lines) = (length line ≤ longest) × NoneLong longest lines

-- no newline byte is in the line
abbrev pub IsPlain : List ℕ → Type 0
IsPlain line = position_or_len is_newline line ≡ length line

-- the line stands in front of the text with its newline byte; or it is the whole text, at the source's end
abbrev pub IsCut : (text line rest : List ℕ) → (lacks_newline : Bool) → Side → Type 0
IsCut text line rest false source = text ≡ line ++ 10 ∷ rest
IsCut text line rest true source = (text ≡ line) × (rest ≡ []) × (0 < length line) × IsAtEnd source

-- the line is shown that comes first in what was kept, what was given and what the source has left
pub record Shows (before now : Reading) (source_now : Side) (given line : List ℕ) : Type 0 where
  pub shown : now.line ≡ Some line
  pub first : IsFirstLine ((before.kept ++ given) ++ told source_now.bytes) line (now.kept ++ told source_now.bytes)
  pub plain : IsPlain line
  pub cut : IsCut (before.kept ++ given) line now.kept now.lacks_newline source_now
  pub short : length line ≤ before.longest
  pub within : now.taken - length now.kept ≤ before.most
  pub going : now.over ≡ false

-- no line is shown, and no call may follow
pub record Stops (before now : Reading) (given : List ℕ) : Type 0 where
  pub line : now.line ≡ None
  pub kept : now.kept ≡ before.kept ++ given
  pub lacks_newline : now.lacks_newline ≡ before.lacks_newline
  pub over : now.over ≡ true

-- at the source's end, with all lines shown
pub record Ends (before now : Reading) (source_now : Side) : Type 0 where
  pub at_end : IsAtEnd source_now
  pub all : now.kept ≡ []
  pub most : now.taken ≤ before.most

-- what each answer says
abbrev pub Answers : Reading → Reading → Side → Side → List ℕ → LineStep → Type 0
Answers before now source_before source_now given Line = (line : List ℕ) × Shows before now source_now given line
Answers before now source_before source_now given End = Stops before now given × Ends before now source_now
Answers before now source_before source_now given Fault = Stops before now given × Rose source_before source_now
Answers before now source_before source_now given TooLong = Stops before now given × (before.most < now.taken)
Answers before now source_before source_now given LongLine = Stops before now given × IsLong before.longest (lines_of now.kept)

-- one call of `next`, in which the source gave these bytes
pub record Advances (before now : Reading) (source_before source_now : Side) (given : List ℕ) (step : LineStep) : Type 0 where
  pub gave : Gave given source_before source_now
  pub longest : now.longest ≡ before.longest
  pub most : now.most ≡ before.most
  pub taken : now.taken ≡ before.taken + length given
  pub counted : length now.kept ≤ now.taken
  -- the bytes that the call had at once, and those that it left
  pub held : length (before.kept ++ given) ≤ before.longest + 65536
  pub bound : length now.kept ≤ before.longest + 65536
  pub answers : Answers before now source_before source_now given step

-- a line, or the end
abbrev pub IsLineOrEnd : LineStep → Type 0
IsLineOrEnd Line = Unit {0}
IsLineOrEnd End = Unit {0}
IsLineOrEnd _ = ⊥

-- with these bytes left no limit is passed, and the count doesn't rise
pub record IsQuiet (reading : Reading) (source_before source_now : Side) (left : List ℕ) : Type 0 where
  pub told : source_before.bytes ≡ Some left
  pub most : reading.taken + length left ≤ reading.most
  pub longest : NoneLong reading.longest (lines_of (reading.kept ++ left))
  pub quiet : ¬ Rose source_before source_now
