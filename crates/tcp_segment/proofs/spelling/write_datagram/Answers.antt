use Rattle.tcp_segment.proofs.DraftLaws.{lies}
use Rattle.tcp_segment.proofs.HoldLaws.{front_held}
use Rattle.tcp_segment.proofs.spelling.write_datagram.Goals as goal

pub invariant_of-result : goal.invariant_of-result
invariant_of-result c =
    let D = c.lay_out-header.ensures in
    let l = lies D in
    record { order = l.payload_behind; ends = l.end_behind; room = l.room; headed = ∣ front_held D ∣₁ }
