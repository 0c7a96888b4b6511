use Rattle.std.proofs.Common.{◌≡◌, ◌++◌, drop}
use Rattle.book_draw.specs.Folds.{fold_start, folded_lines}
use Rattle.draw_session_rungs.proofs.fold.session_lines.Given as goal

abbrev pub invariant-loop-rung : goal.invariant-loop-rung
invariant-loop-rung l = l.lines.items ++ folded_lines l.ends l.folding (drop l.rung-index l.rungs) ≡ folded_lines l.ends fold_start l.rungs
