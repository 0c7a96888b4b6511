use Rattle.std.proofs.Common.{refl, sym, ◌∙◌}
use Rattle.ao_shim.proofs.LaidLaws.{four_put, six_put}
use Rattle.ao_shim.proofs.layout.put_ip.Goals as goal

pub returns-then-is_ipv4-clause-front : goal.returns-then-is_ipv4-clause-front
returns-then-is_ipv4-clause-front c =
    four_put c.args.header.now c.ipv4_start.result _ _ _ c.args.tcp_length c.ipv4_checksum-checksum.result (sym c.is_ipv4.ensures ∙ c.if-is_ipv4.true) refl c.ipv4_checksum-checksum.ensures c.ipv4_start.ensures
    c.put-at.ensures.front c.put.ensures.front

pub returns-else-is_ipv4-clause-front : goal.returns-else-is_ipv4-clause-front
returns-else-is_ipv4-clause-front c =
    six_put c.args.header.now c.ipv6_start.result _ _ _ c.args.tcp_length (sym c.is_ipv4.ensures ∙ c.if-is_ipv4.false) refl c.ipv6_start.ensures
    c.put-at-else-is_ipv4.ensures.front c.put-else-is_ipv4.ensures.front
