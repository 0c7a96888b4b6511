use Rattle.std.proofs.Common.{ap}
use Rattle.book_base.specs.Addresses.{address_text}
use Rattle.book_base.proofs.AddressLaws.{address_text-V4, address_text-V6}
use Rattle.ao_base.proofs.address_text.print_address.Goals as goal
use Rattle.ao_base.proofs.address_text.print_address.Goals.{in-V4+in_ok-push_dotted-in-V4, in-V6+in_ok-push_hex-in-V6}

pub returns : goal.returns
returns c = elim c.match-address.branch [
  | in-V4+in_ok-push_dotted-in-V4 w ↦
      let pushed = rw c.new-text.ensures.items at w.in_ok-push_dotted-in-V4.ensures in
      let text = address_text-V4 w.in-V4.numbers in
      let whole = ap address_text w.in-V4.is in cc
  | in-V6+in_ok-push_hex-in-V6 w ↦
      let pushed = rw (c.new-text.ensures.items, w.as_slice.ensures) at w.in_ok-push_hex-in-V6.ensures in
      let text = address_text-V6 w.in-V6.bytes in
      let whole = ap address_text w.in-V6.is in cc
]
