use Rattle.std.proofs.Common.{◌∙◌, sym}
use Rattle.book_base.proofs.AddressLaws.{none_one, none_two, none_three, none_five, just_four}
use Rattle.ao_base.proofs.address_text.read_dotted.Goals as goal

pub returns-in_err-a : goal.returns-in_err-a
returns-in_err-a c = c.from_residual.ensures ∙ sym (none_one c.args.word.now c.in_err-a.ensures)

pub returns-in_err-b : goal.returns-in_err-b
returns-in_err-b c = c.from_residual-in_err-b.ensures ∙ sym (none_two c.args.word.now _ _ c.in_ok-a.ensures c.in_err-b.ensures)

pub returns-in_err-c : goal.returns-in_err-c
returns-in_err-c c = c.from_residual-in_err-c.ensures ∙ sym (none_three c.args.word.now _ _ _ _ c.in_ok-a.ensures c.in_ok-b.ensures c.in_err-c.ensures)

pub returns-in-Some : goal.returns-in-Some
returns-in-Some c = sym (none_five c.args.word.now _ _ _ _ _ _ _ _ c.in_ok-a.ensures c.in_ok-b.ensures c.in_ok-c.ensures c.in-Some.ensures)

pub returns-in-None : goal.returns-in-None
returns-in-None c = c.read_four.ensures ∙ sym (just_four c.args.word.now _ _ _ _ _ _ c.in_ok-a.ensures c.in_ok-b.ensures c.in_ok-c.ensures c.in-None.ensures)
