use Rattle.std.proofs.Common.{◌≡◌, ℕ, [], length, ap, sym, ◌∙◌, arith, true, false}
use Rattle.std.specs.Prelude.{slice_index, ◌/◌, ◌==◌}
use Rattle.book_segments.specs.Segments.{spell_as}
use Rattle.book_shim.specs.Relaying.{with_area}
use Rattle.ao_shim.proofs.LaidLaws.{stands, not_empty, first_is, told_four, told_six}
use Rattle.ao_shim.proofs.layout.length_told.Goals as goal

pub is_ipv4-requires : goal.is_ipv4-requires
is_ipv4-requires c = not_empty c.args.bytes.now c.args.datagram.now (λ i. omega (arith, c.type_inv.bytes i)) c.requires.read

pub returns-then-is_ipv4 : goal.returns-then-is_ipv4
returns-then-is_ipv4 c =
    let s = stands c.args.bytes.now c.args.datagram.now (λ i. omega (arith, c.type_inv.bytes i)) c.requires.read in
    let test : (slice_index (spell_as c.args.datagram.now.ip c.args.datagram.now []) 0 / 16 == 4) ≡ true = ap (λ (n : ℕ). n / 16 == 4) (sym (first_is c.args.bytes.now c.args.datagram.now (λ i. omega (arith, c.type_inv.bytes i)) c.requires.read)) ∙ (sym c.is_ipv4.ensures ∙ c.if-is_ipv4.true) in
    omega (arith, told_four c.args.datagram.now.ip c.args.datagram.now (with_area c.args.datagram.now c.args.area.now) s.fits.ip test, c.header_length.ensures, s.header, ap length c.payload.ensures.value)

pub returns-else-is_ipv4 : goal.returns-else-is_ipv4
returns-else-is_ipv4 c =
    let s = stands c.args.bytes.now c.args.datagram.now (λ i. omega (arith, c.type_inv.bytes i)) c.requires.read in
    let test : (slice_index (spell_as c.args.datagram.now.ip c.args.datagram.now []) 0 / 16 == 4) ≡ false = ap (λ (n : ℕ). n / 16 == 4) (sym (first_is c.args.bytes.now c.args.datagram.now (λ i. omega (arith, c.type_inv.bytes i)) c.requires.read)) ∙ (sym c.is_ipv4.ensures ∙ c.if-is_ipv4.false) in
    omega (arith, told_six c.args.datagram.now.ip c.args.datagram.now (with_area c.args.datagram.now c.args.area.now) s.fits.ip test, ap length c.payload.ensures.value)
