use Rattle.std.proofs.Common.{◌∙◌, refl, arith}
use Rattle.capture_check.proofs.GivenLaws.{holds_one}
use Rattle.capture_listener.proofs.HeldLaws.{KnowsHeld, holding}
use Rattle.capture_listener.proofs.listener.Listener.behind.Goals as goal

pub loop-given-preserved : goal.loop-given-preserved
loop-given-preserved c = record {
  judging = c.in_ok-_has_room.ensures.judging ∙ c.loop-given.invariant.judging;
  holds = holds_one (KnowsHeld c.loop-given.listener) (KnowsHeld c.hold.new.self) c.args.isns.now c.loop-given.given-index _ _
      (omega (arith, c.loop-given-test.true, c.loop-given.auto.given-index-end)) refl c.loop-given.invariant.holds (λ held. c.in_ok-_has_room.ensures.knows (holding held));
}
