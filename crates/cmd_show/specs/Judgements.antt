-- What is answered on connections.
use Rattle.std.specs.Prelude.{ℕ, ◌++◌, ◌||◌, Bool, List, Result, Ok, Err}
use Rattle.book_base.specs.declared.address.Pair.{Pair}
use Rattle.book_keys.specs.Rows.{Table}
use Rattle.book_lines.specs.declared.text_fault.TextFault.{TextFault}
use Rattle.book_lines.specs.Said.{Said, said_in}
use Rattle.book_base.specs.Results.{◌>>=◌}
use Rattle.book_keys.specs.declared.plan.Plan.{Plan}
use Rattle.book_cmd_link.specs.LintTexts.{lint_pair_of, has_misfit, lint_text}
use Rattle.cmd_show.specs.declared.judged.Judged.{Judged}

-- the lines of the connections of a text, and whether some connection isn't aligned; or the first faulty line
unfoldable pub judgements : List Table → Plan → List ℕ → Result Judged TextFault
judgements tables plan text = do
  said ← said_in lint_pair_of text
  Ok (record { text = lint_text tables plan said; has_misfit = has_misfit tables plan said })

-- the answer so far, and then the connections that are said
abbrev pub judged_from : List Table → Plan → List ℕ → Bool → Result (List (Said Pair)) TextFault → Result Judged TextFault
judged_from tables plan out misfit (Ok said) = Ok (record { text = out ++ lint_text tables plan said; has_misfit = misfit || has_misfit tables plan said })
judged_from tables plan out misfit (Err e) = Err e
