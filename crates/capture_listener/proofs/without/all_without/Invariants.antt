use Rattle.std.proofs.Common.{◌≡◌, ◌||◌, drop, not}
use Rattle.std.specs.List.{list_all}
use Rattle.book_sessions.specs.Retiring.{both_without, is_at_row, wants_row}
use Rattle.capture_listener.proofs.without.all_without.Given as goal

abbrev pub invariant-loop-one : goal.invariant-loop-one
invariant-loop-one l = list_all (λ u. not (is_at_row l.table l.row u) || both_without (wants_row l.table l.number l.row) l.evidence.uses u) (drop l.one-index l.evidence.live)
    ≡ list_all (λ u. not (is_at_row l.table l.row u) || both_without (wants_row l.table l.number l.row) l.evidence.uses u) l.evidence.live
