use Rattle.packet_check.proofs.TallyLaws.{total_put}
use Rattle.packet_check.proofs.tally.Tally.push_total.Goals as goal

pub returns : goal.returns
returns c = λ classes tallies.
    total_put c.push_newline.result c.args.self classes c.in_ok-packets.packets c.args.out.now.items c.extend_from_slice.new.self.items c.push_decimal.new.out.items c.push_field.new.out.items c.push_field-2.new.out.items
    c.push_field-3.new.out.items c.push_field-4.new.out.items c.push_newline.new.out.items tallies c.in_ok-packets.ensures c.in_ok-extend_from_slice.ensures.items c.in_ok-push_decimal.ensures c.in_ok-push_field.ensures c.in_ok-push_field-2.ensures
    c.in_ok-push_field-3.ensures c.in_ok-push_field-4.ensures c.push_newline.ensures
