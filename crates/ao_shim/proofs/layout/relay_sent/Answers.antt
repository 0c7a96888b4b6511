use Rattle.std.proofs.Common.{ℕ, ◌+◌, length, drop, ap, sym, ◌∙◌, arith}
use Rattle.std.proofs.lemmas.List.{length-append}
use Rattle.book_segments.specs.Segments.{spell}
use Rattle.book_shim.specs.Relaying.{relaid}
use Rattle.ao_shim.proofs.LaidLaws.{fronts, not_empty, relaid_long}
use Rattle.ao_shim.proofs.SumLaws.{sent_long, replaces}
use Rattle.ao_shim.proofs.layout.relay_sent.Goals as goal

pub header_length-header-requires : goal.header_length-header-requires
header_length-header-requires c = not_empty c.args.bytes.now c.args.datagram.now (λ i. omega (arith, c.type_inv.bytes i)) c.requires.read

pub replace-requires : goal.replace-requires
replace-requires c =
    let f = fronts c.args.bytes.now c.args.datagram.now c.header_length-header.result (λ i. omega (arith, c.type_inv.bytes i)) c.requires.read c.header_length-header.ensures in
    let o = ap length c.relay-end.ensures.relaid in
    let a = length-append (spell (relaid c.args.datagram.now c.args.area.now)) (drop c.relay-end.result c.args.out.now) in
    omega (arith, o, a, f.r_is, relaid_long c.args.datagram.now c.args.area.now f.fits)

pub returns-clause-end : goal.returns-clause-end
returns-clause-end c =
    let f = fronts c.args.bytes.now c.args.datagram.now c.header_length-header.result (λ i. omega (arith, c.type_inv.bytes i)) c.requires.read c.header_length-header.ensures in
    c.relay-end.ensures.end ∙ (relaid_long c.args.datagram.now c.args.area.now f.fits ∙ sym (sent_long c.args.datagram.now c.args.area.now f.fits))

pub returns-clause-sent : goal.returns-clause-sent
returns-clause-sent c =
    let f = fronts c.args.bytes.now c.args.datagram.now c.header_length-header.result (λ i. omega (arith, c.type_inv.bytes i)) c.requires.read c.header_length-header.ensures in
    replaces c.args.datagram.now c.args.area.now c.relay-end.new.out (drop c.relay-end.result c.args.out.now) c.replace.new.room (c.header_length-header.result + 16) f.fits c.relay-end.ensures.relaid (ap (λ (n : ℕ). n + 16) f.r_is) c.replace.ensures
