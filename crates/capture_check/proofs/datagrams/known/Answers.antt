use Rattle.std.proofs.Common.{sym, Some, ◌∙◌}
use Rattle.capture_check.proofs.HearLaws.{numbers_told, at_low, few_expected}
use Rattle.capture_check.proofs.datagrams.known.Goals as goal

pub returns-clause-known : goal.returns-clause-known
returns-clause-known c = λ held S ne.
    numbers_told c.args.connections.now.entries held c.args.source c.args.destination (Some c.numbers.result) S ne
    (at_low c.args.connections.now.entries c.args.source c.args.destination c.is_low-low.result c.sorted-ends.result c.in_ok-flows.flows.now c.numbers.result
    c.is_low-low.ensures c.sorted-ends.ensures (sym c.in_ok-flows.ensures.value) c.numbers.ensures)

pub returns-clause-limit : goal.returns-clause-limit
returns-clause-limit c = λ tables sound.
    few_expected tables c.args.connections.now.entries c.args.source c.args.destination c.is_low-low.result c.sorted-ends.result c.in_ok-flows.flows.now c.numbers.result
    c.is_low-low.ensures c.sorted-ends.ensures (sym c.in_ok-flows.ensures.value) c.numbers.ensures (sym c.is_same_socket.ensures.told ∙ c.if-is_same_socket.false) sound
