use Rattle.std.proofs.Common.{◌+◌, arith}
use Rattle.tcp_segment.specs.Counter.{number}
use Rattle.tcp_endpoint.proofs.RingLaws.{fits_none, fits_first, fits_last}
use Rattle.tcp_endpoint.proofs.windows.fits_around.Goals as goal

pub returns-then-length-eq0 : goal.returns-then-length-eq0
returns-then-length-eq0 c = λ n m.
    fits_none c.is_in_window.result n (n + 0) c.args.length (number c.args.expected) c.args.window c.if-length-eq0.true (λ z. absurd (omega (arith, z, c.if-window-eq0.false))) (omega arith) (c.is_in_window.ensures n m)

pub returns-then-is_in_window : goal.returns-then-is_in_window
returns-then-is_in_window c = λ n m.
    fits_first c.is_in_window-2.result n (n + 0) c.args.length (number c.args.expected) c.args.window (omega (arith, c.if-length-eq0.false)) (omega arith) (c.is_in_window-2.ensures n m) c.if-is_in_window.true

pub returns-else-is_in_window : goal.returns-else-is_in_window
returns-else-is_in_window c = λ n m.
    fits_last c.is_in_window-2.result c.is_in_window-else-is_in_window.result n (n + 0) c.args.length (number c.args.expected) c.args.window (omega (arith, c.if-length-eq0.false)) (omega arith) (c.is_in_window-2.ensures n m)
    (c.is_in_window-else-is_in_window.ensures n m) c.if-is_in_window.false
