use Rattle.ao_shim.proofs.SumLaws.{both_replaced, first_kept, second_kept}
use Rattle.ao_shim.proofs.sums.replace.Goals as goal

pub returns-then-room-place-ne0 : goal.returns-then-room-place-ne0
returns-then-room-place-ne0 c front back k l most e = first_kept c.args.place c.args.room.now front back k l most e c.if-room-place-ne0.true

pub returns-then-room-place-ne0-2 : goal.returns-then-room-place-ne0-2
returns-then-room-place-ne0-2 c front back k l most e = second_kept c.args.place c.args.room.now front back k l most e c.if-room-place-ne0-2.true

pub returns : goal.returns
returns c front back k l most e = both_replaced c.args.place c.args.room.now front back k l most e c.if-room-place-ne0.false c.if-room-place-ne0-2.false
