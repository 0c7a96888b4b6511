use Rattle.std.proofs.Common.{refl, arith, ◌∙◌}
use Rattle.book_base.specs.declared.end.End.TheVariants.{A, B}
use Rattle.link_world.specs.Stands.{setup_of}
use Rattle.cmd_link.proofs.FollowLaws.{reader_of, starts, whole_text}
use Rattle.cmd_link.proofs.BgpRunLaws.{followed, one_more, stood}
use Rattle.cmd_link.proofs.TellLaws.{tells_run}
use Rattle.cmd_link.proofs.bgp_runs.run_bgp.Goals as goal

pub loop-event-init : goal.loop-event-init
loop-event-init c = (
  c.in_ok-world.ensures.stands,
  c.in_ok-world.ensures.steps,
  refl,
  omega arith,
  rw c.new-2.ensures.items (starts (setup_of c.args.setup) c.args.readers.now c.requires.a c.requires.b),
)

pub loop-event-preserved : goal.loop-event-preserved
loop-event-preserved c =
    let l = c.loop-event in
    one_more l.world c.step.new.self (setup_of c.args.setup) c.args.events.now l.event-index l.number c.event-item.result l.readers c.follow.new.readers
    l.said.text.items c.follow.new.said.text.items l.said.faults c.follow.new.said.faults (rw c.as_slice-event-items.ensures at c.loop-event-test.true)
    (rw c.as_slice-event-items.ensures at c.event-item.is) l.invariant c.in_ok-step.ensures.stands c.in_ok-step.ensures.steps c.in_ok-follow.ensures.follows
    c.in_ok-follow.ensures.few

pub returns-clause-text : goal.returns-clause-text
returns-clause-text c =
    let l = c.loop-event in
    let le = rw c.as_slice-event-items.ensures at c.loop-event-test.false in
    let setup = setup_of c.args.setup in
    let events = c.args.events.now in
    let more = rw c.as_slice.ensures at c.in_ok-extend_from_slice.ensures.items in
    whole_text setup events l.readers l.said.text.items c.from_vec.result c.in_ok-summary.summary l.said.faults
    (followed setup events l.event-index l.readers l.said.text.items l.said.faults le l.invariant.4) (c.from_vec.ensures ∙ more)
    (c.in_ok-summary.ensures setup events (stood l.world setup events l.event-index le l.invariant.0))

pub returns-clause-a : goal.returns-clause-a
returns-clause-a c =
    let l = c.loop-event in
    let le = rw c.as_slice-event-items.ensures at c.loop-event-test.false in
    let setup = setup_of c.args.setup in
    let events = c.args.events.now in
    reader_of setup events A l.readers l.said.text.items l.said.faults (followed setup events l.event-index l.readers l.said.text.items l.said.faults le l.invariant.4)

pub returns-clause-b : goal.returns-clause-b
returns-clause-b c =
    let l = c.loop-event in
    let le = rw c.as_slice-event-items.ensures at c.loop-event-test.false in
    let setup = setup_of c.args.setup in
    let events = c.args.events.now in
    reader_of setup events B l.readers l.said.text.items l.said.faults (followed setup events l.event-index l.readers l.said.text.items l.said.faults le l.invariant.4)

pub returns-clause-forgeries : goal.returns-clause-forgeries
returns-clause-forgeries c =
    let l = c.loop-event in
    let le = rw c.as_slice-event-items.ensures at c.loop-event-test.false in
    let setup = setup_of c.args.setup in
    let events = c.args.events.now in
    c.forgeries.ensures setup events (stood l.world setup events l.event-index le l.invariant.0)

pub returns-clause-faults : goal.returns-clause-faults
returns-clause-faults c =
    let l = c.loop-event in
    let le = rw c.as_slice-event-items.ensures at c.loop-event-test.false in
    let setup = setup_of c.args.setup in
    let events = c.args.events.now in
    (followed setup events l.event-index l.readers l.said.text.items l.said.faults le l.invariant.4).faults_are

pub returns-clause-told : goal.returns-clause-told
returns-clause-told c =
    let l = c.loop-event in
    let le = rw c.as_slice-event-items.ensures at c.loop-event-test.false in
    let setup = setup_of c.args.setup in
    let events = c.args.events.now in
    let more = rw c.as_slice.ensures at c.in_ok-extend_from_slice.ensures.items in
    let f = followed setup events l.event-index l.readers l.said.text.items l.said.faults le l.invariant.4 in
    tells_run setup events c.from_vec.result l.said.faults
    (whole_text setup events l.readers l.said.text.items c.from_vec.result c.in_ok-summary.summary l.said.faults f (c.from_vec.ensures ∙ more)
    (c.in_ok-summary.ensures setup events (stood l.world setup events l.event-index le l.invariant.0))) f.faults_are
