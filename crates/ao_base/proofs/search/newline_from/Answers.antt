use Rattle.std.proofs.lemmas.List.{take_rest}
use Rattle.ao_base.proofs.Newlines.{none_from, found_from}
use Rattle.ao_base.proofs.search.newline_from.Goals as goal

pub returns-in-None : goal.returns-in-None
returns-in-None c = none_from c.args.bytes.now _ c.args.from (take_rest c.args.bytes.now c.args.from) c.requires.within c.requires.none c.in-None.ensures

pub returns-in-Some : goal.returns-in-Some
returns-in-Some c =
    let found = found_from c.args.bytes.now _ c.args.from c.in-Some.n (take_rest c.args.bytes.now c.args.from) c.requires.within c.requires.none c.in-Some.ensures in
    (found.at, found.within)
