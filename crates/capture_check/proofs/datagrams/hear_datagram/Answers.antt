use Rattle.std.proofs.Common.{sym, ◌∙◌}
use Rattle.capture_check.proofs.HearLaws.{no_node, one_socket, none_given}
use Rattle.capture_check.proofs.datagrams.hear_datagram.Goals as goal

pub returns-in-None-clause-heard : goal.returns-in-None-clause-heard
returns-in-None-clause-heard g c = λ held S.
    no_node c.args.tables.now c.args.connections.now.entries held c.args.time c.args.datagram.now c.args.given S
    (rw (← c.destination-destination.ensures.value) (sym c.in-None.ensures))

pub returns-then-is_same_socket-clause-heard : goal.returns-then-is_same_socket-clause-heard
returns-then-is_same_socket-clause-heard g c = λ held S.
    one_socket c.args.tables.now c.args.connections.now.entries held c.args.time c.args.datagram.now c.args.given c.in-Some.table.now S
    (rw (← c.destination-destination.ensures.value) (sym c.in-Some.ensures))
    (rw (← c.source.ensures.value, ← c.destination-destination.ensures.value) (sym c.is_same_socket.ensures.told ∙ c.if-is_same_socket.true))

pub returns-then-has-clause-heard : goal.returns-then-has-clause-heard
returns-then-has-clause-heard g c = λ held S.
    let none = none_given c.args.given _ c.requires.later (sym c.has.ensures ∙ c.if-has.true) in
    rw none (c.hear_first.ensures.heard held S)
