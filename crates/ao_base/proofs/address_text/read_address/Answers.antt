use Rattle.std.proofs.Common.{◌∙◌, sym}
use Rattle.book_base.proofs.AddressLaws.{not_32, hex_ok, hex_err}
use Rattle.ao_base.proofs.address_text.read_address.Goals as goal

pub returns-then-word-ne32 : goal.returns-then-word-ne32
returns-then-word-ne32 c = c.read_dotted.ensures ∙ sym (not_32 c.args.word.now (λ e. c.if-word-ne32.true e))

pub returns-in-Ok : goal.returns-in-Ok
returns-in-Ok c = hex_ok c.args.word.now c.decode_to_slice.new.out c.decode_to_slice.result c.if-word-ne32.false c.decode_to_slice.ensures.value c.in-Ok.is

pub returns-in-Err : goal.returns-in-Err
returns-in-Err c = hex_err c.args.word.now c.decode_to_slice.new.out c.decode_to_slice.result _ c.if-word-ne32.false c.decode_to_slice.ensures.value c.in-Err.is
