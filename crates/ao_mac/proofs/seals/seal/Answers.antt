use Rattle.std.proofs.Common.{◌≡◌, ◌-◌, ℕ, List, length, drop, ap, ◌∙◌, rules, arith}
use Rattle.std.proofs.lemmas.List.{length-take, length-drop}
use Rattle.tcp_segment.specs.Loans.{with_mac}
use Rattle.tcp_segment.proofs.WriteLaws.{mac_set}
use Rattle.ao_mac.proofs.SealLaws.{sealed}
use Rattle.ao_mac.proofs.seals.seal.Goals as goal

pub mac-code-requires-clause-one : goal.mac-code-requires-clause-one
mac-code-requires-clause-one c = c.as_datagram.ensures.one_ao

pub copy_from_slice-requires : goal.copy_from_slice-requires
copy_from_slice-requires c =
    let d = c.args.datagram.now in
    omega (
      arith,
      d.order,
      d.ends,
      d.room,
      c.mac-code.ensures.length,
      ap length c.as_slice.ensures.bytes,
      c.requires.field,
      ap length c.mac_mut.ensures.part,
      length-take (d.payload - d.mac) (drop d.mac d.out.now),
      length-drop d.mac d.out.now,
    )

pub returns-clause-sealed : goal.returns-clause-sealed
returns-clause-sealed c = λ h old payload rest D.
    let w : List ℕ = c.copy_from_slice.new.self in
    let long : length w ≡ length old =
    omega (arith, c.mac-code.ensures.length, ap length c.as_slice.ensures.bytes, c.requires.field, D.mac_is, D.payload_is, D.mac_length, ap length c.copy_from_slice.ensures.after) in
    let g = sealed (with_mac c.args.datagram.now w) h old payload rest w c.mac-code.result _ c.args.alg c.args.key.now c.args.sne c.args.with_options (mac_set w D long)
    (c.copy_from_slice.ensures.after ∙ c.as_slice.ensures.bytes) long (c.as_datagram.ensures.drafted h old payload rest D) c.mac-code.ensures.mac in search (rules, g)
