use Rattle.std.proofs.Common.{◌≡◌, ℕ, [], ap, sym, ◌∙◌, arith, true, false}
use Rattle.std.specs.Prelude.{slice_index, ◌/◌, ◌==◌}
use Rattle.book_segments.specs.Segments.{spell_as}
use Rattle.ao_shim.proofs.LaidLaws.{stands, not_empty, first_is, least_four, least_six}
use Rattle.ao_shim.proofs.layout.least_headers.Goals as goal

pub is_ipv4-requires : goal.is_ipv4-requires
is_ipv4-requires c = not_empty c.args.bytes.now c.args.datagram.now (λ i. omega (arith, c.type_inv.bytes i)) c.requires

pub returns-then-is_ipv4 : goal.returns-then-is_ipv4
returns-then-is_ipv4 c =
    let test : (slice_index (spell_as c.args.datagram.now.ip c.args.datagram.now []) 0 / 16 == 4) ≡ true = ap (λ (n : ℕ). n / 16 == 4) (sym (first_is c.args.bytes.now c.args.datagram.now (λ i. omega (arith, c.type_inv.bytes i)) c.requires)) ∙ (sym c.is_ipv4.ensures ∙ c.if-is_ipv4.true) in
    least_four c.args.datagram.now.ip c.args.datagram.now (stands c.args.bytes.now c.args.datagram.now (λ i. omega (arith, c.type_inv.bytes i)) c.requires).fits.ip test

pub returns-else-is_ipv4 : goal.returns-else-is_ipv4
returns-else-is_ipv4 c =
    let test : (slice_index (spell_as c.args.datagram.now.ip c.args.datagram.now []) 0 / 16 == 4) ≡ false = ap (λ (n : ℕ). n / 16 == 4) (sym (first_is c.args.bytes.now c.args.datagram.now (λ i. omega (arith, c.type_inv.bytes i)) c.requires)) ∙ (sym c.is_ipv4.ensures ∙ c.if-is_ipv4.false) in
    least_six c.args.datagram.now.ip c.args.datagram.now (stands c.args.bytes.now c.args.datagram.now (λ i. omega (arith, c.type_inv.bytes i)) c.requires).fits.ip test
