use Rattle.std.proofs.Common.{◌+◌, add-one}
use Rattle.std.proofs.lemmas.List.{take_rest}
use Rattle.book_base.proofs.AddressLaws.{split_some, split_none}
use Rattle.ao_base.proofs.address_text.split_dot.Goals as goal

pub returns-in-Some : goal.returns-in-Some
returns-in-Some c = rw (take_rest c.args.word.now (c.in-Some.place + 1), add-one) (split_some c.args.word.now c.in-Some.place cc)

pub returns-in-None : goal.returns-in-None
returns-in-None c = split_none c.args.word.now cc
