use Rattle.std.proofs.Common.{refl}
use Rattle.book_cmd_node.specs.declared.node.Act.TheVariants as act
use Rattle.book_stack.specs.Counters.{no_tally}
use Rattle.ao_stack.specs.declared.counted_stack.CountedStack.{CountedStack}
use Rattle.ao_stack.proofs.CountersStandLaws.{become_back, become_there, begun_so, refused_so}
use Rattle.ao_stack.proofs.counted_stack.CountedStack.listen.Goals as goal

pub put_back-requires : goal.put_back-requires
put_back-requires c = become_there c.args.self.now.tallies c.put.new.self c.args.pair no_tally c.in_ok-put.ensures.put

pub returns-in-Ok : goal.returns-in-Ok
returns-in-Ok c s n S =
    let k = c.args.self.now in
    let after : CountedStack = record { stack = c.listen.new.self; tallies = c.put.new.self; node = k.node } in
    begun_so k after s n S c.args.pair (act.Listen c.args.isn) _ refl (c.in-Ok.ensures s S.stack) refl c.in_ok-put.ensures.put

pub returns-in-Err : goal.returns-in-Err
returns-in-Err c s n S =
    let k = c.args.self.now in
    let after : CountedStack = record { stack = c.listen.new.self; tallies = c.put_back.new.self; node = k.node } in
    refused_so k after s n S c.args.pair (act.Listen c.args.isn) c.in-Err.refusal (c.in-Err.ensures s S.stack) refl
    (become_back k.tallies c.put.new.self c.put_back.new.self c.args.pair no_tally c.get-before.result c.get-before.ensures c.in_ok-put.ensures.put c.put_back.ensures)
