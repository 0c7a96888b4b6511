-- What a loop over the lines of a text left, beside what the lines say.
use Rattle.std.specs.Prelude.{ℕ, ◌+◌, List, ◌++◌, length, count_by, Result, Ok, Err}
use Rattle.std.specs.List.{flat_map}
use Rattle.book_lines.specs.declared.text_fault.TextFault.{TextFault}
use Rattle.book_lines.specs.Said.{Said}
use Rattle.cmd_show.specs.declared.vector_lines.Totals.{Totals}
use Rattle.book_cmd_check.specs.Show.{shown_line}
use Rattle.book_cmd_check.specs.Vectors.{Vector}
use Rattle.book_cmd_check.specs.Verified.{differs, verdict_line}

-- the text so far, and then the lines that are said
abbrev pub shown_from : List ℕ → Result (List (Said (List ℕ))) TextFault → Result (List ℕ) TextFault
shown_from out (Ok said) = Ok (out ++ flat_map shown_line said)
shown_from out (Err e) = Err e

-- the text that a call left where it answered Ok
abbrev pub shown_after : Result (Unit {0}) TextFault → List ℕ → Result (List ℕ) TextFault
shown_after (Ok done) out = Ok out
shown_after (Err e) out = Err e

-- the text so far, how many vectors it shows and how many of them differ
pub record Sums : Type 0 where
  pub text : List ℕ
  pub count : ℕ
  pub differing : ℕ

-- the sums so far, and then the vectors that are said
abbrev pub sums_from : Sums → Result (List (Said Vector)) TextFault → Result Sums TextFault
sums_from s (Ok said) = Ok (record { text = s.text ++ flat_map verdict_line said; count = s.count + length said; differing = s.differing + count_by differs said })
sums_from s (Err e) = Err e

-- the sums that a call left where it answered Ok
abbrev pub sums_after : Result Totals TextFault → List ℕ → Result Sums TextFault
sums_after (Ok t) out = Ok (record { text = out; count = t.count; differing = t.differing })
sums_after (Err e) out = Err e

-- no text and no vector
abbrev pub no_sums : List ℕ → Sums
no_sums out = record { text = out; count = 0; differing = 0 }
