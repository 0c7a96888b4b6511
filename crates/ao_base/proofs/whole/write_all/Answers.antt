use Rattle.std.proofs.Common.{◌≡◌, ◌-◌, length, take, drop, arith}
use Rattle.std.proofs.lemmas.List.{length-drop}
use Rattle.std.proofs.lemmas.List.{take_rest}
use Rattle.ao_base.proofs.Sides.{rose_after, took_and_none, took_piece}
use Rattle.ao_base.proofs.whole.write_all.Goals as goal

pub loop-at-preserved : goal.loop-at-preserved
loop-at-preserved g c =
    let rest : take (length c.args.bytes.now - c.loop-at.at) (drop c.loop-at.at c.args.bytes.now) ≡ drop c.loop-at.at c.args.bytes.now = take_rest c.args.bytes.now c.loop-at.at in (
      grind (arith, length-drop, c.in-Ok.ensures.room),
      took_piece c.args.bytes.now c.loop-at.at c.in-Ok.n _ _ _ c.loop-at.invariant.1 (rw rest at c.in-Ok.ensures.took),
    )

pub returns-in_default : goal.returns-in_default
returns-in_default g c = (
  c.loop-at.at,
  record {
    within = c.loop-at.invariant.0;
    took = took_and_none _ _ _ _ c.loop-at.invariant.1 c.in_default.ensures.failed.0;
    whole = tt;
    failed = (c.loop-at-test.true, rose_after _ (g.S.Sink.side c.args.sink.now) (g.S.Sink.side c.loop-at.sink) (g.S.Sink.side c.write.new.self) c.loop-at.invariant.1.counts c.in_default.ensures.failed.1);
  },
)
