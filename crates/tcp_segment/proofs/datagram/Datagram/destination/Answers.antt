use Rattle.std.proofs.Common.{ap, sym, ◌∙◌}
use Rattle.book_segments.specs.Segments.{Segment}
use Rattle.book_segments.proofs.Fields.{eqb_is}
use Rattle.tcp_segment.proofs.ReadLaws.{destination_v4, destination_v6, not_four}
use Rattle.tcp_segment.proofs.datagram.Datagram.destination.Goals as goal

pub returns-then-is_ipv4-clause-value : goal.returns-then-is_ipv4-clause-value
returns-then-is_ipv4-clause-value c =
    destination_v4 c.self.inside.bytes.now c.self.inside.places c.address_v4-address.result c.two-port.result c.self.invariant (eqb_is _ 4 (sym c.is_ipv4.ensures ∙ c.if-is_ipv4.true)) c.address_v4-address.ensures c.two-port.ensures
    ∙ ap (λ (d : Segment). d.destination) c.self.view_is

pub returns-else-is_ipv4-clause-value : goal.returns-else-is_ipv4-clause-value
returns-else-is_ipv4-clause-value c =
    destination_v6 c.self.inside.bytes.now c.self.inside.places c.address_v6-address.result c.two-port.result c.self.invariant (not_four _ (sym c.is_ipv4.ensures ∙ c.if-is_ipv4.false)) c.address_v6-address.ensures c.two-port.ensures
    ∙ ap (λ (d : Segment). d.destination) c.self.view_is
