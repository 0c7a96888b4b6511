use Rattle.std.proofs.Common.{[], ◌++◌, refl}
use Rattle.capture_walk.proofs.Parts.{between_new}
use Rattle.capture_walk.proofs.walking.walk.Goals as goal

pub parts-init : goal.parts-init
parts-init g c = (
  rw c.requires refl,
  λ q begins nothing. ([], [], between_new (g.H.Hearer.told q) (g.H.Hearer.stands q c.args.hearer.now) c.args.reader.now _ _ c.requires begins nothing),
)

pub parts-preserved : goal.parts-preserved
parts-preserved g c = (
  c.in-Ok-None.ensures.over (rw c.in-Ok-None.field-0-is refl),
  λ q begins nothing.
      let been = c.parts.invariant.1 q begins nothing in
      let next = rw c.in-Ok-None.field-0-is at (c.in-Ok-None.ensures.hears q been.0 been.1 _ _ been.2) in
      (been.0 ++ next.0, been.1 ++ next.1.0, next.1.1),
)

pub returns-in-Ok-Some : goal.returns-in-Ok-Some
returns-in-Ok-Some g c = λ q begins nothing.
    let been = c.parts.invariant.1 q begins nothing in
    let next = rw c.in-Ok-Some.field-0-is at (c.in-Ok-Some.ensures.hears q been.0 been.1 _ _ been.2) in
    (been.0 ++ next.0, next.1)

pub returns-in-Err : goal.returns-in-Err
returns-in-Err g c = λ q begins nothing.
    let been = c.parts.invariant.1 q begins nothing in
    let next = c.in-Err.ensures.hears q been.0 been.1 _ _ been.2 in
    (been.0 ++ next.0, next.1)
