-- The lines of sessions, by what is told of them.
use Rattle.std.specs.Prelude.{ℕ, suc, List, [], ◌∷◌, ◌++◌, length, codes, decimal}
use Rattle.book_base.specs.declared.end.End.{End}
use Rattle.book_lines.specs.Texts.{end_text, line_text}
use Rattle.book_link.specs.Reports.{number_text, shown_text}
use Rattle.link_report.specs.Sides.{Facts}

-- the line of a session with these facts, at this place of its end's sessions
abbrev pub facts_line : End → ℕ → List ℕ → Facts → List ℕ
facts_line e index phase f =
    line_text (codes "session" ∷ end_text e ∷ decimal index ∷ codes "isn" ∷ decimal f.isn ∷ codes "peer" ∷ number_text f.peer_isn ∷ phase
    ∷ codes "given" ∷ decimal f.given ∷ codes "delivered" ∷ decimal f.delivered ∷ shown_text f.shown ∷ [])

-- the lines of dropped sessions with these facts, the newest first
abbrev pub kept_lines : End → List Facts → List ℕ
kept_lines e [] = []
kept_lines e (f ∷ older) = kept_lines e older ++ facts_line e (suc (length older)) (codes "dropped") f
