use Rattle.std.proofs.Common.{◌≡◌, drop}
use Rattle.page_draw_svg.specs.SessionPictures.{keys_after, keys_drawn}
use Rattle.draw_session_rungs.proofs.keys.keys_drawn.Given as goal

abbrev pub invariant-loop-rung : goal.invariant-loop-rung
invariant-loop-rung l = keys_after l.known.items (drop l.rung-index l.rungs) ≡ keys_drawn l.rungs
