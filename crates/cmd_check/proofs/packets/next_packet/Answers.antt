use Rattle.std.proofs.Common.{[], inl, refl}
use Rattle.cmd_check.proofs.Walk.{written_in_time}
use Rattle.cmd_check.proofs.packets.next_packet.Goals as goal

pub returns-then-next_kept : goal.returns-then-next_kept
returns-then-next_kept g c = (
  [],
  record {
    steps = c.if-next_kept.ensures.steps refl (g.I.Source.side c.args.input.now);
    goes = c.if-next_kept.ensures.goes refl;
    in_time = inl (record { nothing = refl; lines = refl; out = refl });
  },
)

pub returns-in-Ok : goal.returns-in-Ok
returns-in-Ok g c =
    let same = c.if-next_kept.ensures.same refl in
    let next = rw same at c.next.ensures.steps in
    (next.0, record { steps = next.1; goes = next.2; in_time = written_in_time _ _ _ _ _ c.next.result c.in-Ok.ensures })
