-- Which findings are of one row of an end, or of its gaps, and a connection of which rows are changed.
use Rattle.std.specs.Prelude.{◌≡◌, ℕ}
use Rattle.book_base.specs.declared.end.End.{End}
use Rattle.book_base.specs.declared.end.End.TheVariants.{A, B}
use Rattle.book_keys.specs.declared.lint.LintAnswer.TheVariants as answer
use Rattle.book_keys.specs.Overlaps.{IsValid}
use Rattle.book_keys.specs.Plans.{lint_rows}
use Rattle.book_keys.specs.Rows.{Row}
use Rattle.book_plans.specs.Ways.{changed_row}
use Rattle.book_scope_plan.specs.FindingTexts.{Facing}
use Rattle.book_scope_plan.specs.Reconfiguring.{switched}
use Rattle.book_plans.specs.declared.finding.Finding.{Finding}
use Rattle.book_plans.specs.declared.finding.Finding.TheVariants as finding

-- the finding is that the row of this end and number isn't met
abbrev pub IsOfRow : End → (n : ℕ) → Finding → Type 0
IsOfRow end n (finding.NoPeerRow e m) = (e ≡ end) × (m ≡ n)
IsOfRow end n (finding.ShortAccept e m) = (e ≡ end) × (m ≡ n)
IsOfRow end n (finding.Gap e first last) = ⊥

-- the finding is that the row of this end and number isn't met, or a gap of this end
abbrev pub IsGapOrRow : End → (n : ℕ) → Finding → Type 0
IsGapOrRow end n (finding.NoPeerRow e m) = (e ≡ end) × (m ≡ n)
IsGapOrRow end n (finding.ShortAccept e m) = (e ≡ end) × (m ≡ n)
IsGapOrRow end n (finding.Gap e first last) = e ≡ end

-- the end that this one sends to
abbrev pub far_end : End → End
far_end A = B
far_end B = A

-- a connection whose row of this end and number is another; it is given as end a sees it
abbrev pub changed_at : End → (Row → Row) → (n : ℕ) → Facing → Facing
changed_at A change n f = record f { node = record f.node { rows = changed_row change n 1 f.node.rows } }
changed_at B change n f = record f { other = record f.other { rows = changed_row change n 1 f.other.rows } }

-- the tables of both ends are valid, and the judgement on the connection is `Aligned`
abbrev pub IsMended : Facing → Type 0
IsMended f = IsValid f.node.rows × (IsValid f.other.rows × (lint_rows f.node.rows f.other.rows f.pair f.plan ≡ answer.Aligned))

-- a connection whose end sends with its old row until the time, and from then on with the new one; it is given as end a
-- sees it
abbrev pub switched_at : End → (old new time : ℕ) → Facing → Facing
switched_at A n m time f = record f { node = record f.node { rows = switched f.plan n m time f.node.rows } }
switched_at B n m time f = record f { other = record f.other { rows = switched f.plan n m time f.other.rows } }

-- the judgement on the connection is `Aligned`
abbrev pub IsAligned : Facing → Type 0
IsAligned f = lint_rows f.node.rows f.other.rows f.pair f.plan ≡ answer.Aligned
