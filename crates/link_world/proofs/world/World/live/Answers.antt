use Rattle.std.proofs.Common.{ap}
use Rattle.book_link.specs.Runs.{run}
use Rattle.book_link.specs.Worlds.{live, side}
use Rattle.link_report.proofs.ActLaws.{live_is}
use Rattle.link_world.proofs.world.World.live.Goals as goal

pub returns-in-Some : goal.returns-in-Some
returns-in-Some c = λ setup events h.
    let is = live_is c.side.result.now (side (run setup events) c.args.end) c.in-Some.live.now c.in-Some.ensures.some (c.side.ensures setup events h) in
    (is.session, ap live is.are, rw c.endpoint.ensures is.stands)
