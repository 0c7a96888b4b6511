use Rattle.std.proofs.Common.{◌≡◌, ℕ, ◌+◌, List, [], ◌++◌, length, take, ap, sym, refl, ◌∙◌, arith, true, false}
use Rattle.std.specs.Prelude.{slice_index, slice_set, ◌/◌, ◌==◌}
use Rattle.book_segments.specs.Segments.{header, spell_as, tcp_length}
use Rattle.book_shim.specs.Relaying.{with_area, summed}
use Rattle.ao_shim.specs.Starts.{ip_again, offset_of}
use Rattle.ao_shim.specs.Laying.{laid}
use Rattle.ao_shim.proofs.LaidLaws.{fronts, not_empty, six_long, four_told, any_told, again_is, tcp_start_is, laid_out, laid_long}
use Rattle.ao_shim.proofs.layout.lay_out.Goals as goal

pub header_length-header-requires : goal.header_length-header-requires
header_length-header-requires c = not_empty c.args.bytes.now c.args.datagram.now (λ i. omega (arith, c.type_inv.bytes i)) c.requires.read

pub slice_bounds-put_ip-end : goal.slice_bounds-put_ip-end
slice_bounds-put_ip-end c =
    let f = fronts c.args.bytes.now c.args.datagram.now c.header_length-header.result (λ i. omega (arith, c.type_inv.bytes i)) c.requires.read c.header_length-header.ensures in
    f.r_is ∙ sym f.long

pub put_ip-at-requires-clause-least : goal.put_ip-at-requires-clause-least
put_ip-at-requires-clause-least c =
    let f = fronts c.args.bytes.now c.args.datagram.now c.header_length-header.result (λ i. omega (arith, c.type_inv.bytes i)) c.requires.read c.header_length-header.ensures in
    omega (arith, f.long, f.least)

pub put_ip-at-requires-clause-six : goal.put_ip-at-requires-clause-six
put_ip-at-requires-clause-six c =
    let f = fronts c.args.bytes.now c.args.datagram.now c.header_length-header.result (λ i. omega (arith, c.type_inv.bytes i)) c.requires.read c.header_length-header.ensures in
    λ e.
    let t : (slice_index (spell_as c.args.datagram.now.ip c.args.datagram.now []) 0 / 16 == 4) ≡ false = ap (λ (l : List ℕ). slice_index l 0 / 16 == 4) (sym f.front) ∙ e in
    omega (arith, f.long, six_long c.args.datagram.now.ip c.args.datagram.now f.fits.ip t)

pub put_ip-at-requires-clause-whole : goal.put_ip-at-requires-clause-whole
put_ip-at-requires-clause-whole c =
    let f = fronts c.args.bytes.now c.args.datagram.now c.header_length-header.result (λ i. omega (arith, c.type_inv.bytes i)) c.requires.read c.header_length-header.ensures in
    let n : 20 + length c.args.area.now + length c.payload-payload.result.now ≡ tcp_length (with_area c.args.datagram.now c.args.area.now) = omega (arith, ap length c.payload-payload.ensures.value) in
    omega (arith, f.long, n, any_told c.args.datagram.now.ip (with_area c.args.datagram.now c.args.area.now) c.requires.whole)

pub put_ip-at-requires-clause-told : goal.put_ip-at-requires-clause-told
put_ip-at-requires-clause-told c =
    let f = fronts c.args.bytes.now c.args.datagram.now c.header_length-header.result (λ i. omega (arith, c.type_inv.bytes i)) c.requires.read c.header_length-header.ensures in
    λ e.
    let n : 20 + length c.args.area.now + length c.payload-payload.result.now ≡ tcp_length (with_area c.args.datagram.now c.args.area.now) = omega (arith, ap length c.payload-payload.ensures.value) in
    let t : (slice_index (spell_as c.args.datagram.now.ip c.args.datagram.now []) 0 / 16 == 4) ≡ true = ap (λ (l : List ℕ). slice_index l 0 / 16 == 4) (sym f.front) ∙ e in
    omega (arith, f.long, n, four_told c.args.datagram.now.ip c.args.datagram.now (with_area c.args.datagram.now c.args.area.now) f.fits.ip t c.requires.whole)

pub put_ip-at-requires-clause-room : goal.put_ip-at-requires-clause-room
put_ip-at-requires-clause-room c =
    let f = fronts c.args.bytes.now c.args.datagram.now c.header_length-header.result (λ i. omega (arith, c.type_inv.bytes i)) c.requires.read c.header_length-header.ensures in
    omega (arith, f.long, f.whole, c.requires.room)

pub put-at-requires : goal.put-at-requires
put-at-requires c =
    let f = fronts c.args.bytes.now c.args.datagram.now c.header_length-header.result (λ i. omega (arith, c.type_inv.bytes i)) c.requires.read c.header_length-header.ensures in
    omega (arith, f.long, f.whole, c.requires.room, c.put_ip-at.auto.out, c.put_ip-at.ensures.end)

pub put-at-requires-2 : goal.put-at-requires-2
put-at-requires-2 c =
    let f = fronts c.args.bytes.now c.args.datagram.now c.header_length-header.result (λ i. omega (arith, c.type_inv.bytes i)) c.requires.read c.header_length-header.ensures in
    omega (arith, f.long, f.whole, c.requires.room, c.put_ip-at.auto.out, c.put_ip-at.ensures.end, c.put-at.auto.out, c.put-at.ensures.end)

pub put-requires : goal.put-requires
put-requires c =
    let f = fronts c.args.bytes.now c.args.datagram.now c.header_length-header.result (λ i. omega (arith, c.type_inv.bytes i)) c.requires.read c.header_length-header.ensures in
    omega (arith, f.long, f.whole, c.requires.room, ap length c.payload-payload.ensures.value, c.put_ip-at.auto.out, c.put_ip-at.ensures.end, c.put-at.auto.out, c.put-at.ensures.end, c.put-at-2.auto.out, c.put-at-2.ensures.end)

pub returns-clause-end : goal.returns-clause-end
returns-clause-end c =
    let f = fronts c.args.bytes.now c.args.datagram.now c.header_length-header.result (λ i. omega (arith, c.type_inv.bytes i)) c.requires.read c.header_length-header.ensures in
    omega (arith, f.long, laid_long c.args.datagram.now c.args.area.now c.args.datagram.now.checksum f.fits, ap length c.payload-payload.ensures.value, c.put_ip-at.ensures.end, c.put-at.ensures.end, c.put-at-2.ensures.end, c.put.ensures.end)

pub returns-clause-laid : goal.returns-clause-laid
returns-clause-laid c =
    let f = fronts c.args.bytes.now c.args.datagram.now c.header_length-header.result (λ i. omega (arith, c.type_inv.bytes i)) c.requires.read c.header_length-header.ensures in
    let n : 20 + length c.args.area.now + length c.payload-payload.result.now ≡ tcp_length (with_area c.args.datagram.now c.args.area.now) = omega (arith, ap length c.payload-payload.ensures.value) in
    let r4 : ℕ = c.put.result in
    let front : take c.put_ip-at.result c.put_ip-at.new.out ≡ spell_as (summed c.args.datagram.now.ip (with_area c.args.datagram.now c.args.area.now)) (with_area c.args.datagram.now c.args.area.now) [] =
    c.put_ip-at.ensures.front ∙ (ap (λ (l : List ℕ). ip_again l (20 + length c.args.area.now + length c.payload-payload.result.now)) f.front
    ∙ again_is c.args.datagram.now.ip (20 + length c.args.area.now + length c.payload-payload.result.now) c.args.datagram.now (with_area c.args.datagram.now c.args.area.now) f.fits.ip refl refl n) in
    let head : c.tcp_start-head.result ≡ header (laid c.args.datagram.now c.args.area.now) c.args.datagram.now.checksum [] =
    c.tcp_start-head.ensures ∙ (ap (λ (l : List ℕ). slice_set l 12 (offset_of l (length c.args.area.now))) c.header.ensures.bytes ∙ tcp_start_is c.args.datagram.now c.args.area.now f.fits) in
    laid_out c.args.datagram.now c.args.area.now c.args.out.now c.put_ip-at.new.out c.put-at.new.out c.put-at-2.new.out c.put.new.out c.put_ip-at.result c.put-at.result c.put-at-2.result c.put.result
    front
    (c.put-at.ensures.front ∙ ap (λ (l : List ℕ). take c.put_ip-at.result c.put_ip-at.new.out ++ l) head)
    c.put-at-2.ensures.front
    (c.put.ensures.front ∙ ap (λ (l : List ℕ). take c.put-at-2.result c.put-at-2.new.out ++ l) c.payload-payload.ensures.value)
    (c.put_ip-at.ensures.rest r4 (omega (arith, c.put-at.ensures.end, c.put-at-2.ensures.end, c.put.ensures.end)))
    (c.put-at.ensures.rest r4 (omega (arith, c.put-at-2.ensures.end, c.put.ensures.end)))
    (c.put-at-2.ensures.rest r4 (omega (arith, c.put.ensures.end)))
    (c.put.ensures.rest r4 (omega arith))
