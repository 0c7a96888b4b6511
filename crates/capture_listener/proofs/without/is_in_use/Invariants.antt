use Rattle.std.proofs.Common.{◌≡◌, ◌&&◌, drop, not}
use Rattle.std.specs.List.{list_any}
use Rattle.book_sessions.specs.OutcomeTexts.{is_verified}
use Rattle.book_sessions.specs.Retiring.{goes_without, wants_row}
use Rattle.capture_listener.proofs.without.is_in_use.Given as goal

abbrev pub invariant-loop-one : goal.invariant-loop-one
invariant-loop-one l = list_any (λ u. (is_verified u.outcome && wants_row l.table l.number l.row u) && not (goes_without (wants_row l.table l.number l.row) l.evidence.uses u)) (drop l.one-index l.evidence.live)
    ≡ list_any (λ u. (is_verified u.outcome && wants_row l.table l.number l.row u) && not (goes_without (wants_row l.table l.number l.row) l.evidence.uses u)) l.evidence.live
