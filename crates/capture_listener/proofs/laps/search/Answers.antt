use Rattle.std.proofs.Common.{◌+◌, refl, arith}
use Rattle.capture_listener.proofs.LapLaws.{none_left, none_further, goes_on, is_found, on_err}
use Rattle.capture_listener.proofs.laps.search.Goals as goal

pub returns-then-number-lt-LAP-clause-finds : goal.returns-then-number-lt-LAP-clause-finds
returns-then-number-lt-LAP-clause-finds g c =
    let S = c.loop-ahead.invariant in
    let limit = S.limit in
    (none_further c.args.tables.now c.args.laps c.args.time c.args.expected c.args.datagram.now c.args.connections.now c.loop-ahead.connections c.loop-ahead.number c.loop-ahead.ahead S
    (omega (arith, limit, c.if-number-lt-LAP.true))).finds

pub returns-in_err-line-clause-stands : goal.returns-in_err-line-clause-stands
returns-in_err-line-clause-stands g c = λ held one S is. on_err c.from_residual.result _ (rw c.in_err-line.ensures.unchanged (c.loop-ahead.invariant.stands held one S is))

pub returns-then-is_pass-clause-finds : goal.returns-then-is_pass-clause-finds
returns-then-is_pass-clause-finds g c =
    let S = c.loop-ahead.invariant in
    let limit = S.limit in
    (is_found c.args.tables.now c.args.laps c.args.time c.args.expected c.args.datagram.now c.args.connections.now c.loop-ahead.connections c.hear_as.new.self c.loop-ahead.number (c.loop-ahead.number + 4294967296) c.loop-ahead.ahead c.in_ok-line.line c.is_pass.result
    S c.loop-ahead-test.true refl (omega (arith, limit, c.if-number-lt-LAP.false)) c.in_ok-line.ensures.sound c.in_ok-line.ensures.heard (λ h says. c.is_pass.ensures h.saying says) c.if-is_pass.true).finds

pub loop-ahead-preserved : goal.loop-ahead-preserved
loop-ahead-preserved g c =
    let S = c.loop-ahead.invariant in
    let limit = S.limit in
    goes_on c.args.tables.now c.args.laps c.args.time c.args.expected c.args.datagram.now c.args.connections.now c.loop-ahead.connections c.hear_as.new.self c.loop-ahead.number (c.loop-ahead.number + 4294967296) c.loop-ahead.ahead c.in_ok-line.line c.is_pass.result
    S c.loop-ahead-test.true refl (omega (arith, limit, c.if-number-lt-LAP.false)) c.in_ok-line.ensures.sound c.in_ok-line.ensures.heard (λ h says. c.is_pass.ensures h.saying says) c.if-is_pass.false

pub returns-clause-finds : goal.returns-clause-finds
returns-clause-finds g c =
    (none_left c.args.tables.now c.args.laps c.args.time c.args.expected c.args.datagram.now c.args.connections.now c.loop-ahead.connections c.loop-ahead.number c.loop-ahead.ahead c.loop-ahead.invariant
    c.loop-ahead-test.false).finds
