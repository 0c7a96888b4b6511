use Rattle.std.proofs.Common.{refl, sym, ap, ◌∙◌, subst}
use Rattle.book_base.specs.declared.address.Pair.{Pair}
use Rattle.book_base.specs.declared.address.Socket.{Socket}
use Rattle.book_segments.specs.Segments.{Reading, Read, Bad}
use Rattle.book_stack.specs.Calls.{Incoming}
use Rattle.book_stack.specs.Turns.{clocked}
use Rattle.stack_ends.specs.declared.answer.NodeArrival.TheVariants as arrivals
use Rattle.ao_stack.specs.declared.input.Heard.TheVariants as heards
use Rattle.ao_stack.specs.Costs.{CostsInput}
use Rattle.ao_stack.specs.Passed.{PassesAs}
use Rattle.ao_stack.proofs.ArriveLaws.{came_bad, inputs}
use Rattle.ao_stack.proofs.stack.Stack.input_counted.Goals as goal

pub returns-in-Err-clause-told : goal.returns-in-Err-clause-told
returns-in-Err-clause-told g c s S =
    let coming : Incoming = record { now = c.args.now; bytes = c.args.bytes.now } in
    inputs _ coming s (Bad c.in-Err.fault) (heards.Told (arrivals.Bad c.in-Err.fault)) c.in-Err.ensures.refused (came_bad _ coming c.in-Err.fault _ (c.set_clock.ensures s S))

pub returns-in-Err-clause-passed : goal.returns-in-Err-clause-passed
returns-in-Err-clause-passed g c s S = tt

pub meet-requires-clause-reached : goal.meet-requires-clause-reached
meet-requires-clause-reached g c =
    ap (λ (x : Socket). let k : Pair = record { local = x; remote = c.source.result } in k) c.destination.ensures.value
    ∙ ap (λ (x : Socket). let k : Pair = record { local = c.in-Ok.datagram.destination; remote = x } in k) c.source.ensures.value

pub returns-in-Ok-clause-told : goal.returns-in-Ok-clause-told
returns-in-Ok-clause-told g c s S =
    let coming : Incoming = record { now = c.args.now; bytes = c.args.bytes.now } in
    let came = c.in-Ok.ensures.read in
    inputs _ coming s (Read c.in-Ok.datagram) c.meet.result came (c.meet.ensures.told _ coming.bytes (c.set_clock.ensures s S) came)

pub returns-in-Ok-clause-passed : goal.returns-in-Ok-clause-passed
returns-in-Ok-clause-passed g c s S =
    subst (λ (x : Reading). PassesAs (clocked c.args.now s).stack x c.meet.result) (sym c.in-Ok.ensures.read)
    (c.meet.ensures.passed (clocked c.args.now s).stack (c.set_clock.ensures s S))

pub returns-in-Err-clause-costs : goal.returns-in-Err-clause-costs
returns-in-Err-clause-costs g c s S =
    subst (λ (x : Reading). CostsInput (clocked c.args.now s).stack x (heards.Told (arrivals.Bad c.in-Err.fault)) c.args.steps.now c.args.steps.now) (sym c.in-Err.ensures.refused) refl

pub returns-in-Ok-clause-costs : goal.returns-in-Ok-clause-costs
returns-in-Ok-clause-costs g c s S =
    subst (λ (x : Reading). CostsInput (clocked c.args.now s).stack x c.meet.result c.args.steps.now c.meet.new.steps) (sym c.in-Ok.ensures.read)
    (c.meet.ensures.costs (clocked c.args.now s).stack (c.set_clock.ensures s S))
