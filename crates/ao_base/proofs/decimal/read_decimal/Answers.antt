use Rattle.std.proofs.Common.{sym, ◌∙◌, arith}
use Rattle.book_base.proofs.DecimalLaws.{none_long, none_other, parsed, digits_utf8, all_digits}
use Rattle.ao_base.proofs.decimal.read_decimal.Goals as goal

pub returns-then-word-gt20 : goal.returns-then-word-gt20
returns-then-word-gt20 c = sym (none_long c.args.word.now (omega arith))

pub returns-then-not-is_digits : goal.returns-then-not-is_digits
returns-then-not-is_digits c = sym (none_other c.args.word.now (sym (all_digits c.args.word.now) ∙ cc))

pub returns-in-Ok : goal.returns-in-Ok
returns-in-Ok c = c.ok.ensures.value ∙ parsed c.args.word.now c.parse.result (rw c.in-Ok.ensures.cases.0 at c.parse.ensures.value.0) (omega arith)
    (sym (all_digits c.args.word.now) ∙ cc)

pub returns-in-Err : goal.returns-in-Err
returns-in-Err c = absurd (c.in-Err.ensures.cases.0 (digits_utf8 c.args.word.now (sym (all_digits c.args.word.now) ∙ cc)))
