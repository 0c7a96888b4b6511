use Rattle.std.proofs.Common.{arith}
use Rattle.ao_base.proofs.HexadecimalLanes.{block_read, first_other, second_other, kept_before}
use Rattle.ao_base.proofs.hexadecimal.decode_block.Goals as goal

pub returns-then-are_digits-clause-before : goal.returns-then-are_digits-clause-before
returns-then-are_digits-clause-before c =
    kept_before c.args.word.now c.digits-first.result c.digits-second.result c.args.at (omega arith) c.digits-first.ensures.lanes c.digits-second.ensures.lanes
    c.digits-first.ensures.values c.digits-second.ensures.values c.args.bytes.now

pub returns-then-are_digits-clause-yes : goal.returns-then-are_digits-clause-yes
returns-then-are_digits-clause-yes c = λ yes.
    block_read c.args.word.now c.digits-first.result c.digits-second.result c.args.at (omega arith) c.digits-first.ensures.lanes c.digits-second.ensures.lanes
    c.digits-first.ensures.values c.digits-second.ensures.values c.args.bytes.now c.requires.room
    (c.are_digits.ensures.yes c.if-are_digits.true) (c.are_digits-then-are_digits.ensures.yes yes)

pub returns-then-are_digits-clause-no : goal.returns-then-are_digits-clause-no
returns-then-are_digits-clause-no c = λ no.
    second_other c.args.word.now c.digits-first.result c.digits-second.result c.args.at (omega arith) c.digits-first.ensures.lanes c.digits-second.ensures.lanes
    c.digits-first.ensures.values c.digits-second.ensures.values (c.are_digits-then-are_digits.ensures.no no)

pub returns-else-are_digits-clause-before : goal.returns-else-are_digits-clause-before
returns-else-are_digits-clause-before c =
    kept_before c.args.word.now c.digits-first.result c.digits-second.result c.args.at (omega arith) c.digits-first.ensures.lanes c.digits-second.ensures.lanes
    c.digits-first.ensures.values c.digits-second.ensures.values c.args.bytes.now

pub returns-else-are_digits-clause-no : goal.returns-else-are_digits-clause-no
returns-else-are_digits-clause-no c = λ no.
    first_other c.args.word.now c.digits-first.result c.digits-second.result c.args.at (omega arith) c.digits-first.ensures.lanes c.digits-second.ensures.lanes
    c.digits-first.ensures.values c.digits-second.ensures.values (c.are_digits.ensures.no no)
