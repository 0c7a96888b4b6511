use Rattle.std.proofs.Common.{◌≡◌, ◌+◌, ◌++◌, drop}
use Rattle.book_scope_run.specs.Echoes.{echoes_from, echoes_text}
use Rattle.scope_draw.proofs.echo.push_echoes.Given as goal

abbrev pub invariant-loop-index : goal.invariant-loop-index
invariant-loop-index l =
    l.out.items ++ echoes_text (echoes_from (l.index + 1) l.lines (drop l.index l.events) l.report)
    ≡ l.fn.out.items ++ echoes_text (echoes_from 1 l.fn.lines l.events l.fn.report)
