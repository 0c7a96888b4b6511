-- The last line of a report.
use Rattle.std.proofs.Common.{◌≡◌, ℕ, List, ◌++◌, sym, ◌∙◌, append_assoc}
use Rattle.book_base.specs.declared.end.End.TheVariants.{A, B}
use Rattle.book_link.specs.declared.event.Event.{Event}
use Rattle.book_link.specs.Reports.{report, summary, lines_from, session_lines, counts_line}
use Rattle.book_link.specs.Runs.{empty, run, outcomes_from}
use Rattle.book_link.specs.Worlds.{Setup}

regroup : (a b c d : List ℕ) → a ++ (b ++ (c ++ d)) ≡ ((a ++ b) ++ c) ++ d
regroup a b c d = sym (append_assoc (a ++ b) c d ∙ append_assoc a b (c ++ d))

pub last_line : (setup : Setup) (events : List Event) → (front : List ℕ) × (report setup events ≡ front ++ counts_line (run setup events))
unfolding report summary
last_line setup events =
    let w = run setup events in
    let lines = lines_from 1 (outcomes_from setup (empty setup) events) in (
      (lines ++ session_lines A w.a.sessions) ++ session_lines B w.b.sessions,
      regroup lines (session_lines A w.a.sessions) (session_lines B w.b.sessions) (counts_line w),
    )
