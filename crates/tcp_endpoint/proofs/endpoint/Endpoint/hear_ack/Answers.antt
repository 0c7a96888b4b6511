use Rattle.std.proofs.Common.{◌≡◌, refl, sym, ap, ◌∙◌, subst}
use Rattle.book_segments.specs.Meant.{meant}
use Rattle.tcp_segment.specs.Counter.{number}
use Rattle.book_endpoint.specs.declared.phase.Phase.TheVariants.{Established}
use Rattle.book_endpoint.specs.Hearing as hearing
use Rattle.tcp_endpoint.specs.Arrivals.{Reaches}
use Rattle.tcp_endpoint.proofs.AckLaws.{syn_acked}
use Rattle.tcp_endpoint.proofs.endpoint.Endpoint.hear_ack.Goals as goal

pub returns-else-past-clause-reaches : goal.returns-else-past-clause-reaches
returns-else-past-clause-reaches g c = λ s h.
    let a = c.acknowledged_by-acknowledged.result in
    let k = c.acknowledge.ensures.stands s h in
    let is : a ≡ meant c.args.datagram.now.acknowledgement s.una =
    c.acknowledged_by-acknowledged.ensures ∙ ap (λ z. meant z (number c.args.self.now.sequence.una)) c.acknowledgement.ensures ∙ ap (λ z. meant c.args.datagram.now.acknowledgement z) h.una in
    let go = c.go_on.ensures.reaches (record (hearing.acked s a) { phase = Established })
    (record {
      phase = refl;
      isn = k.isn;
      peer_isn = k.peer_isn;
      una = k.una;
      next = k.next;
      send_window = k.send_window;
      wl1 = k.wl1;
      wl2 = k.wl2;
      expected = k.expected;
      fin = k.fin;
      given = k.given;
      queue = k.queue;
      taken = k.taken;
      bytes = k.bytes;
      ack_owed = k.ack_owed;
      closing = k.closing;
      rst_owed = k.rst_owed;
      mss = k.mss;
      deadline = k.deadline;
      current = k.current;
    }) in
    let eq = syn_acked s c.args.datagram.now c.args.number c.args.now c.value-una.result c.value.result a (meant c.args.datagram.now.acknowledgement s.una) s.phase (sym c.in-SynReceived.is ∙ h.phase) is (c.value-una.ensures ∙ h.una) (c.value.ensures ∙ h.next)
    (sym c.if-not-is_above.ensures) (sym c.if-past.ensures) in
    subst (λ m. Reaches c.go_on.new.self c.go_on.result m) (sym eq) go
