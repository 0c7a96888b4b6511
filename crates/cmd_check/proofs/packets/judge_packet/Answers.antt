use Rattle.std.proofs.Common.{◌≡◌, ◌<◌, ◌∙◌, length, map, sym, arith}
use Rattle.std.proofs.lemmas.Bool.{eqb-false}
use Rattle.book_cmd_check.specs.StoredPackets.{stored_packet}
use Rattle.cmd_check.proofs.Heard.{packet_result}
use Rattle.cmd_check.proofs.packets.judge_packet.Goals as goal

pub returns : goal.returns
returns g c = λ p shown is heard.
    let datagram = rw is at c.datagram-datagram.ensures in
    let number = c.from-number.ensures ∙ rw is at c.number.ensures in
    let seconds = c.from-seconds.ensures ∙ rw is at c.seconds.ensures in
    let none : length c.datagram-datagram.result.now ≡ 0 → ⊥ = eqb-false _ _ (sym c.is_empty.ensures ∙ c.if-is_empty.false) in
    let some : 0 < length c.datagram-datagram.result.now = omega (arith, none) in
    packet_result c.args.judge.now c.hear.new.self shown p c.from-number.result c.from-seconds.result c.datagram-datagram.result.now _ _ number seconds datagram some c.hear.result (c.hear.ensures.gathers (map stored_packet shown) heard)
