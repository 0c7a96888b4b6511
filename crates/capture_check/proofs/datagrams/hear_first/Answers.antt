use Rattle.std.proofs.Common.{true, false, sym, ◌∙◌}
use Rattle.capture_check.proofs.StepLaws.{differing}
use Rattle.capture_check.proofs.FixLaws.{first, first_refused, first_alone}
use Rattle.capture_check.proofs.datagrams.hear_first.Goals as goal

pub returns-then-not-is_pass-clause-heard : goal.returns-then-not-is_pass-clause-heard
returns-then-not-is_pass-clause-heard g c = λ held S.
    let pass = sym c.is_pass.ensures ∙ c.if-not-is_pass.true in
    let all = first_refused c.args.table.now.rows c.args.connections.now.entries held c.args.time c.acknowledged_isn-own.result c.args.datagram.now c.in_ok-verdict.verdict S c.requires.first c.acknowledged_isn-own.ensures
    c.in_ok-verdict.ensures.alone pass in
    rw c.checksum_in-checksum.ensures (rw c.requires.table (differing _ _ _ _ _ c.requires.differ all))

pub returns-then-not-has-clause-heard : goal.returns-then-not-has-clause-heard
returns-then-not-has-clause-heard g c = λ held S.
    let ack = sym c.has.ensures ∙ c.if-not-has.true in
    let all = first_alone c.args.table.now.rows c.args.connections.now.entries held c.args.time c.acknowledged_isn-own.result c.args.datagram.now c.in_ok-verdict.verdict S c.requires.first c.acknowledged_isn-own.ensures
    c.in_ok-verdict.ensures.alone ack in
    rw c.checksum_in-checksum.ensures (rw c.requires.table (differing _ _ _ _ _ c.requires.differ all))

pub returns-in-Ok-true-clause-heard : goal.returns-in-Ok-true-clause-heard
returns-in-Ok-true-clause-heard g c = λ held S.
    let pass = sym c.is_pass.ensures ∙ c.if-not-is_pass.false in
    let ack = sym c.has.ensures ∙ c.if-not-has.false in
    let all = first c.args.tables.now c.args.table.now.rows c.args.connections.now.entries c.fix.new.connections.entries c.args.time c.acknowledged_isn-own.result c.args.datagram.now c.in_ok-verdict.verdict true
    c.requires.sound c.requires.differ c.requires.first ack c.acknowledged_isn-own.ensures c.in_ok-verdict.ensures.alone pass c.fix.ensures.sequence (rw c.in-Ok-true.field-0-test at c.in-Ok-true.ensures.fixed) in
    rw c.checksum_in-checksum.ensures (rw c.requires.table (differing _ _ _ _ _ c.requires.differ (all.heard held S)))

pub returns-in-Ok-true-clause-sound : goal.returns-in-Ok-true-clause-sound
returns-in-Ok-true-clause-sound g c =
    let pass = sym c.is_pass.ensures ∙ c.if-not-is_pass.false in
    let ack = sym c.has.ensures ∙ c.if-not-has.false in
    let all = first c.args.tables.now c.args.table.now.rows c.args.connections.now.entries c.fix.new.connections.entries c.args.time c.acknowledged_isn-own.result c.args.datagram.now c.in_ok-verdict.verdict true
    c.requires.sound c.requires.differ c.requires.first ack c.acknowledged_isn-own.ensures c.in_ok-verdict.ensures.alone pass c.fix.ensures.sequence (rw c.in-Ok-true.field-0-test at c.in-Ok-true.ensures.fixed) in
    all.sound

pub returns-in-Ok-true-clause-keys : goal.returns-in-Ok-true-clause-keys
returns-in-Ok-true-clause-keys g c =
    let pass = sym c.is_pass.ensures ∙ c.if-not-is_pass.false in
    let ack = sym c.has.ensures ∙ c.if-not-has.false in
    let all = first c.args.tables.now c.args.table.now.rows c.args.connections.now.entries c.fix.new.connections.entries c.args.time c.acknowledged_isn-own.result c.args.datagram.now c.in_ok-verdict.verdict true
    c.requires.sound c.requires.differ c.requires.first ack c.acknowledged_isn-own.ensures c.in_ok-verdict.ensures.alone pass c.fix.ensures.sequence (rw c.in-Ok-true.field-0-test at c.in-Ok-true.ensures.fixed) in
    all.keys

pub returns-in-Ok-false-clause-heard : goal.returns-in-Ok-false-clause-heard
returns-in-Ok-false-clause-heard g c = λ held S.
    let pass = sym c.is_pass.ensures ∙ c.if-not-is_pass.false in
    let ack = sym c.has.ensures ∙ c.if-not-has.false in
    let all = first c.args.tables.now c.args.table.now.rows c.args.connections.now.entries c.fix.new.connections.entries c.args.time c.acknowledged_isn-own.result c.args.datagram.now c.in_ok-verdict.verdict false
    c.requires.sound c.requires.differ c.requires.first ack c.acknowledged_isn-own.ensures c.in_ok-verdict.ensures.alone pass c.fix.ensures.sequence (rw c.in-Ok-false.field-0-test at c.in-Ok-false.ensures.fixed) in
    rw c.checksum_in-checksum.ensures (rw c.requires.table (differing _ _ _ _ _ c.requires.differ (all.heard held S)))

pub returns-in-Ok-false-clause-sound : goal.returns-in-Ok-false-clause-sound
returns-in-Ok-false-clause-sound g c =
    let pass = sym c.is_pass.ensures ∙ c.if-not-is_pass.false in
    let ack = sym c.has.ensures ∙ c.if-not-has.false in
    let all = first c.args.tables.now c.args.table.now.rows c.args.connections.now.entries c.fix.new.connections.entries c.args.time c.acknowledged_isn-own.result c.args.datagram.now c.in_ok-verdict.verdict false
    c.requires.sound c.requires.differ c.requires.first ack c.acknowledged_isn-own.ensures c.in_ok-verdict.ensures.alone pass c.fix.ensures.sequence (rw c.in-Ok-false.field-0-test at c.in-Ok-false.ensures.fixed) in
    all.sound
