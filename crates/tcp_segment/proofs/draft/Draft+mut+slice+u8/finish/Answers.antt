use Rattle.std.proofs.Common.{arith}
use Rattle.tcp_segment.proofs.DraftLaws.{finishes}
use Rattle.tcp_segment.proofs.HoldLaws.{holds_by, holds_lies, holds_summed}
use Rattle.tcp_segment.proofs.draft.Draft+mut+slice+u8.finish.Goals as goal

pub returns-clause-finished : goal.returns-clause-finished
returns-clause-finished c = λ h mac payload rest D. finishes c.set_checksum.new.out D c.set_checksum.ensures.bytes c.set_checksum.ensures.set

pub invariant_of-self : goal.invariant_of-self
invariant_of-self c =
    let d = c.args.self in
    record {
      order = d.order;
      ends = d.ends;
      room = omega (arith, c.set_checksum.auto.out, d.room);
      headed = holds_summed (holds_by d.order d.ends d.room d.headed) c.set_checksum.ensures.bytes c.set_checksum.ensures.set;
    }

pub set_checksum-requires-clause-addresses : goal.set_checksum-requires-clause-addresses
set_checksum-requires-clause-addresses c = let d = c.args.self in let l = holds_lies (holds_by d.order d.ends d.room d.headed) in omega (arith, l.header_least, l.mac_behind, l.payload_behind, l.end_behind, l.room)

pub set_checksum-requires-clause-least : goal.set_checksum-requires-clause-least
set_checksum-requires-clause-least c = let d = c.args.self in let l = holds_lies (holds_by d.order d.ends d.room d.headed) in omega (arith, l.mac_behind, l.payload_behind, l.end_behind)

pub set_checksum-requires-clause-most : goal.set_checksum-requires-clause-most
set_checksum-requires-clause-most c = let d = c.args.self in let l = holds_lies (holds_by d.order d.ends d.room d.headed) in omega (arith, l.most)

pub set_checksum-requires-clause-room : goal.set_checksum-requires-clause-room
set_checksum-requires-clause-room c = let d = c.args.self in let l = holds_lies (holds_by d.order d.ends d.room d.headed) in omega (arith, l.room)
