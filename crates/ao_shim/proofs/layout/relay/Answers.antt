use Rattle.std.proofs.Common.{length, drop, ap, sym, ◌∙◌, arith}
use Rattle.std.proofs.lemmas.List.{length-append}
use Rattle.book_segments.specs.Segments.{spell}
use Rattle.book_shim.specs.Relaying.{with_area}
use Rattle.ao_shim.specs.Laying.{laid}
use Rattle.ao_shim.proofs.LaidLaws.{fronts, not_empty, tcp_told, laid_long, relaid_long, finishes}
use Rattle.ao_shim.proofs.layout.relay.Goals as goal

pub header_length-requires : goal.header_length-requires
header_length-requires c = not_empty c.args.bytes.now c.args.datagram.now (λ i. omega (arith, c.type_inv.bytes i)) c.requires.read

pub set_checksum-requires-clause-addresses : goal.set_checksum-requires-clause-addresses
set_checksum-requires-clause-addresses c =
    let f = fronts c.args.bytes.now c.args.datagram.now c.header_length.result (λ i. omega (arith, c.type_inv.bytes i)) c.requires.read c.header_length.ensures in
    let o = ap length c.lay_out-end.ensures.laid in
    let a = length-append (spell (laid c.args.datagram.now c.args.area.now)) (drop c.lay_out-end.result c.args.out.now) in
    omega (arith, o, a, laid_long c.args.datagram.now c.args.area.now c.args.datagram.now.checksum f.fits, f.least)

pub set_checksum-requires-clause-least : goal.set_checksum-requires-clause-least
set_checksum-requires-clause-least c =
    let f = fronts c.args.bytes.now c.args.datagram.now c.header_length.result (λ i. omega (arith, c.type_inv.bytes i)) c.requires.read c.header_length.ensures in
    omega (arith, c.lay_out-end.ensures.end, laid_long c.args.datagram.now c.args.area.now c.args.datagram.now.checksum f.fits, f.r_is)

pub set_checksum-requires-clause-most : goal.set_checksum-requires-clause-most
set_checksum-requires-clause-most c =
    let f = fronts c.args.bytes.now c.args.datagram.now c.header_length.result (λ i. omega (arith, c.type_inv.bytes i)) c.requires.read c.header_length.ensures in
    omega (arith, c.lay_out-end.ensures.end, laid_long c.args.datagram.now c.args.area.now c.args.datagram.now.checksum f.fits, f.r_is, tcp_told c.args.datagram.now.ip (with_area c.args.datagram.now c.args.area.now) c.requires.whole)

pub set_checksum-requires-clause-room : goal.set_checksum-requires-clause-room
set_checksum-requires-clause-room c =
    let f = fronts c.args.bytes.now c.args.datagram.now c.header_length.result (λ i. omega (arith, c.type_inv.bytes i)) c.requires.read c.header_length.ensures in
    let o = ap length c.lay_out-end.ensures.laid in
    let a = length-append (spell (laid c.args.datagram.now c.args.area.now)) (drop c.lay_out-end.result c.args.out.now) in
    omega (arith, o, a, c.lay_out-end.ensures.end)

pub returns-clause-end : goal.returns-clause-end
returns-clause-end c =
    let f = fronts c.args.bytes.now c.args.datagram.now c.header_length.result (λ i. omega (arith, c.type_inv.bytes i)) c.requires.read c.header_length.ensures in
    c.lay_out-end.ensures.end ∙ (laid_long c.args.datagram.now c.args.area.now c.args.datagram.now.checksum f.fits ∙ sym (relaid_long c.args.datagram.now c.args.area.now f.fits))

pub returns-clause-relaid : goal.returns-clause-relaid
returns-clause-relaid c =
    let f = fronts c.args.bytes.now c.args.datagram.now c.header_length.result (λ i. omega (arith, c.type_inv.bytes i)) c.requires.read c.header_length.ensures in
    finishes c.args.datagram.now c.args.area.now c.lay_out-end.new.out (drop c.lay_out-end.result c.args.out.now) c.set_checksum.new.out c.header_length.result c.lay_out-end.result f.fits c.requires.whole c.lay_out-end.ensures.laid f.r_is c.lay_out-end.ensures.end c.set_checksum.ensures.set
