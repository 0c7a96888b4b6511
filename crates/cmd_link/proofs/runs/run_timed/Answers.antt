use Rattle.std.proofs.Common.{refl}
use Rattle.link_world.specs.Stands.{setup_of}
use Rattle.cmd_link.specs.declared.timed_link.Link.{Link}
use Rattle.cmd_link.proofs.RunLaws.{begins, ran, reported, ran_too_far}
use Rattle.cmd_link.proofs.runs.run_timed.Goals as goal

pub returns-in-Err-TooMany : goal.returns-in-Err-TooMany
returns-in-Err-TooMany c =
    let l : Link = record { world = c.in_ok-new.field-0; watches = record { a = c.new-2.result; b = c.new-3.result } } in
    ran_too_far l c.happen_all.new.self (setup_of c.args.setup) c.args.events.now (begins l (setup_of c.args.setup) c.in_ok-new.ensures.stands c.new-2.ensures c.new-3.ensures)
    (rw c.as_slice.ensures at (rw c.in-Err-TooMany.field-0-is at c.in-Err-TooMany.ensures))

pub returns : goal.returns
returns c =
    let l : Link = record { world = c.in_ok-new.field-0; watches = record { a = c.new-2.result; b = c.new-3.result } } in
    let there = ran l c.happen_all.new.self (setup_of c.args.setup) c.args.events.now (begins l (setup_of c.args.setup) c.in_ok-new.ensures.stands c.new-2.ensures c.new-3.ensures)
    (rw c.as_slice.ensures at c.in-Ok.ensures) in
    reported c.happen_all.new.self (setup_of c.args.setup) c.args.events.now _ c.in_ok-report.report c.forgeries.result refl refl there
    (c.in_ok-report.ensures (setup_of c.args.setup) _ there.stands.world_is) (c.forgeries.ensures (setup_of c.args.setup) _ there.stands.world_is)
