use Rattle.std.proofs.Common.{refl}
use Rattle.link_world.specs.Stands.{setup_of}
use Rattle.cmd_link.proofs.link.report_of.Goals as goal

pub returns : goal.returns
returns c =
    let text = c.in_ok-text.ensures (setup_of c.args.setup) c.args.events.now c.in_ok-world.ensures in
    let counted = c.forgeries-is_amiss.ensures (setup_of c.args.setup) c.args.events.now c.in_ok-world.ensures in
    rw (text, counted) refl
