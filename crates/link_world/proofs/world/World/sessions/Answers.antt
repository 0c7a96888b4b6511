use Rattle.std.proofs.Common.{◌≡◌, length, sym, ap, ◌∙◌, arith}
use Rattle.std.proofs.lemmas.List.{length-map, length-reverse}
use Rattle.book_link.specs.Runs.{run}
use Rattle.book_link.specs.Worlds.{side}
use Rattle.link_report.specs.Sides.{facts_of, kept_facts}
use Rattle.link_report.proofs.ActLaws.{live_is}
use Rattle.link_world.proofs.world.World.sessions.Goals as goal

pub returns-in-Some : goal.returns-in-Some
returns-in-Some c = λ setup events h.
    let dropped = c.side-side.result.now.dropped.items in
    let is = live_is c.side-side.result.now (side (run setup events) c.args.end) c.in-Some.field-0.now c.in-Some.ensures.some (c.side-side.ensures setup events h) in
    let few : length is.older ≡ length dropped =
    sym (length-map is.older facts_of) ∙ ap length is.facts ∙ length-reverse _ ∙ length-map dropped kept_facts in
    let all = ap length is.are in
    let told = ap length c.dropped.ensures in
    omega (arith, few, all, told)
