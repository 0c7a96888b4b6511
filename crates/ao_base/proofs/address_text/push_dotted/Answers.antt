use Rattle.book_base.proofs.AddressLaws.{four_pushed}
use Rattle.ao_base.proofs.address_text.push_dotted.Goals as goal

pub returns : goal.returns
returns c =
    let whole = four_pushed c.args.numbers.now c.args.text.now.items c.told-numbers in
    rw (c.in_ok-push_after_dot-3.ensures, c.in_ok-push_after_dot-2.ensures, c.in_ok-push_after_dot.ensures, c.in_ok-push_decimal.ensures, c.from.ensures) whole
