use Rattle.std.proofs.Common.{Option, refl, sym, subst}
use Rattle.std.specs.Prelude.{option_map}
use Rattle.book_stack.specs.Counters.{arrival_counted, tallied}
use Rattle.book_stack.specs.KeyIds.{key_ids_heard}
use Rattle.book_stack.specs.declared.key_ids.KeyIds.{KeyIds}
use Rattle.stack_ends.specs.declared.answer.NodeArrival.{NodeArrival}
use Rattle.ao_stack.specs.CountersAnswers.{CountsTold}
use Rattle.ao_stack.specs.Tallies.{Becomes, tally_at}
use Rattle.ao_stack.specs.declared.counted_stack.CountedStack.{CountedStack}
use Rattle.ao_stack.proofs.counted_stack.CountedStack.count_told.Goals as goal

pub returns-in-NoConnection-clause-counts : goal.returns-in-NoConnection-clause-counts
returns-in-NoConnection-clause-counts c =
    let k = c.args.self.now in
    let after : CountedStack = record { stack = k.stack; tallies = k.tallies; node = c.stray-self.result } in
    subst (λ (x : NodeArrival). CountsTold k after c.args.moved x) (sym c.in-NoConnection.is) (c.stray-self.ensures, refl)

pub returns-in-Bad-clause-counts : goal.returns-in-Bad-clause-counts
returns-in-Bad-clause-counts c =
    let k = c.args.self.now in
    let after : CountedStack = record { stack = k.stack; tallies = k.tallies; node = c.arrived-self.result } in
    subst (λ (x : NodeArrival). CountsTold k after c.args.moved x) (sym c.in-Bad.is) (c.arrived-self.ensures, refl)

pub returns-in-At-clause-counts : goal.returns-in-At-clause-counts
returns-in-At-clause-counts c =
    let k = c.args.self.now in
    let p = c.in-At.pair in
    let a = c.in-At.answer in
    subst (λ (x : NodeArrival). CountsTold k c.count.new.self c.args.moved x) (sym c.in-At.is)
    (c.count.ensures.node, subst (λ (i : Option KeyIds). Becomes k.tallies c.count.new.self.tallies p (option_map (tallied (arrival_counted a.arrival) (key_ids_heard c.args.moved a.arrival i)) (tally_at k.tallies p))) c.ids_passed-ids.ensures c.count.ensures.tallies)
