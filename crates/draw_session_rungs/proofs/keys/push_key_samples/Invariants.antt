use Rattle.std.proofs.Common.{◌≡◌, ◌++◌, drop}
use Rattle.page_draw_svg.specs.SessionPictures.{key_samples_from}
use Rattle.draw_session_rungs.proofs.keys.push_key_samples.Given as goal

abbrev pub invariant-loop-place : goal.invariant-loop-place
invariant-loop-place l = l.out.items ++ key_samples_from l.place (drop l.place l.keys) ≡ l.fn.out.items ++ key_samples_from 0 l.keys
