use Rattle.std.proofs.Common.{sym, subst}
use Rattle.book_endpoint.specs.Arrivals as book
use Rattle.tcp_endpoint.specs.Arrivals.{Reaches}
use Rattle.tcp_endpoint.proofs.AckLaws.{ordinary_ack, current_heard}
use Rattle.tcp_endpoint.proofs.endpoint.Endpoint.hear_acceptable.Goals as goal

pub returns-clause-reaches : goal.returns-clause-reaches
returns-clause-reaches g c = λ s h.
    let e = c.args.self.now in
    let f = book.heard c.args.table.now.rows e.pair c.args.now s c.args.rnext in
    let go = c.hear_ack.ensures.reaches f
    (record {
      phase = h.phase;
      isn = h.isn;
      peer_isn = h.peer_isn;
      una = h.una;
      next = h.next;
      send_window = h.send_window;
      wl1 = h.wl1;
      wl2 = h.wl2;
      expected = h.expected;
      fin = h.fin;
      given = h.given;
      queue = h.queue;
      taken = h.taken;
      bytes = h.bytes;
      ack_owed = h.ack_owed;
      closing = h.closing;
      rst_owed = h.rst_owed;
      mss = h.mss;
      deadline = h.deadline;
      current = current_heard e.association c.follow.new.self c.args.table.now.rows e.pair c.args.rnext c.args.now s.current c.follow.ensures.current e.bound.pair h.current;
    }) in
    let eq = ordinary_ack s f c.args.datagram.now c.args.number c.args.now (sym c.if-has.ensures) (sym c.if-has-2.ensures) (sym c.if-not-has.ensures) in
    subst (λ m. Reaches c.hear_ack.new.self c.hear_ack.result m) (sym eq) go
