use Rattle.capture_check.proofs.LaterLaws.{later}
use Rattle.capture_check.proofs.datagrams.hear_next.Goals as goal

pub returns-clause-heard : goal.returns-clause-heard
returns-clause-heard g c =
    let all = later c.args.tables.now c.args.table.now c.args.connections.now.entries c.hear_later.new.connections.entries c.args.time c.args.given c.args.datagram.now c.in_ok-verdict.verdict c.args.steps.now c.hear_later.new.steps
    c.requires.sound c.requires.differ c.requires.table c.requires.later c.in_ok-verdict.ensures.heard in
    λ held S. rw c.checksum_in-checksum.ensures (all.heard held S)

pub returns-clause-sound : goal.returns-clause-sound
returns-clause-sound g c =
    let all = later c.args.tables.now c.args.table.now c.args.connections.now.entries c.hear_later.new.connections.entries c.args.time c.args.given c.args.datagram.now c.in_ok-verdict.verdict c.args.steps.now c.hear_later.new.steps
    c.requires.sound c.requires.differ c.requires.table c.requires.later c.in_ok-verdict.ensures.heard in
    all.sound

pub returns-clause-keys : goal.returns-clause-keys
returns-clause-keys g c =
    let all = later c.args.tables.now c.args.table.now c.args.connections.now.entries c.hear_later.new.connections.entries c.args.time c.args.given c.args.datagram.now c.in_ok-verdict.verdict c.args.steps.now c.hear_later.new.steps
    c.requires.sound c.requires.differ c.requires.table c.requires.later c.in_ok-verdict.ensures.heard in
    all.keys

pub returns-clause-derives : goal.returns-clause-derives
returns-clause-derives g c =
    let all = later c.args.tables.now c.args.table.now c.args.connections.now.entries c.hear_later.new.connections.entries c.args.time c.args.given c.args.datagram.now c.in_ok-verdict.verdict c.args.steps.now c.hear_later.new.steps
    c.requires.sound c.requires.differ c.requires.table c.requires.later c.in_ok-verdict.ensures.heard in
    all.derives
