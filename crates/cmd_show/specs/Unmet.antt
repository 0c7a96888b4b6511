-- Rows that hear what is sent from the other end, and the answer for a row that isn't met there.
use Rattle.std.specs.Prelude.{ℕ, ◌&&◌, Bool, List, Option, option_map}
use Rattle.book_base.specs.declared.address.Pair.{Pair}
use Rattle.book_base.specs.declared.end.End.{End}
use Rattle.book_keys.specs.declared.lint.LintAnswer.{LintAnswer}
use Rattle.book_keys.specs.Plans.{mirrored, misaligned_answer, misaligned_by, unmet_reason}
use Rattle.book_keys.specs.Rows.{Row, matches, receives}

-- the other end's row is for what comes in there over the pair, at whatever time (RFC 7210, section 3)
abbrev pub hears : Pair → Row → Bool
hears pair other = matches other (mirrored pair) && receives other.direction

-- the answer for the row of this end and number, if it sends for the pair and isn't met
abbrev pub unmet_answer : End → ℕ → List Row → Pair → ℕ → ℕ → Row → Option LintAnswer
unmet_answer end n others pair lead lag r = option_map misaligned_answer (option_map (misaligned_by end n) (unmet_reason others pair lead lag r))
