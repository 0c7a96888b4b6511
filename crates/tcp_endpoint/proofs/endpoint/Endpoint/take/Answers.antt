use Rattle.std.proofs.Common.{◌+◌, ◌++◌, drop, length, sym, ap, ◌∙◌, arith, length-append}
use Rattle.book_segments.specs.Received.{bytes_from}
use Rattle.stream_buffers.specs.Kept.{byte_at}
use Rattle.book_endpoint.specs.States.{taking}
use Rattle.tcp_endpoint.proofs.ReadyLaws.{taking_is, taking_count, bytes_taken, owed_taken, forgotten_none, untaken_still}
use Rattle.tcp_endpoint.proofs.endpoint.Endpoint.take.Goals as goal

pub returns-clause-count : goal.returns-clause-count
returns-clause-count c = λ s h. c.take-count.ensures.count ∙ sym (taking_count c.args.self.now s h (length c.args.out.now))

pub returns-clause-taken : goal.returns-clause-taken
returns-clause-taken c = λ s h.
    let e = c.args.self.now in
    c.take-count.ensures.taken
    ∙ ap (λ l. l ++ drop c.take-count.result c.args.out.now) (ap (λ k. bytes_from (byte_at e.reassembly) e.reassembly.from k) c.take-count.ensures.count ∙ taking_is e s h (length c.args.out.now))

pub returns-clause-stands : goal.returns-clause-stands
returns-clause-stands c = λ s h.
    let e = c.args.self.now in
    let n = length c.args.out.now in
    let shows = c.take-count.ensures.rest in
    record {
      phase = h.phase;
      isn = h.isn;
      peer_isn = h.peer_isn;
      una = h.una;
      next = h.next;
      send_window = h.send_window;
      wl1 = h.wl1;
      wl2 = h.wl2;
      expected = h.expected;
      fin = h.fin;
      given = h.given;
      queue = h.queue;
      taken = ap (λ k. k + c.take-count.result) h.taken ∙ ap (λ k. length s.taken + k) (c.take-count.ensures.count ∙ sym (taking_count e s h n)) ∙ sym (length-append s.taken (taking n s));
      bytes = bytes_taken e s h n c.take-count.result e.reassembly.expected c.take-count.new.self c.take-count.ensures.count shows;
      ack_owed = owed_taken e s h n c.take-count.new.self (shows.from ∙ ap (λ k. e.reassembly.from + k) c.take-count.ensures.count) shows.expected c.window-before.result c.window.result c.opens-opens.result c.window-before.ensures c.window.ensures c.opens-opens.ensures;
      closing = h.closing;
      rst_owed = h.rst_owed;
      mss = h.mss;
      deadline = h.deadline;
      current = h.current;
    }

pub invariant_of-self : goal.invariant_of-self
invariant_of-self c =
    let r = c.args.self.now.receives in
    let shows = c.take-count.ensures.rest in
    record {
      bound = c.args.self.now.bound;
      owes = c.args.self.now.owes;
      sends = c.args.self.now.sends;
      receives = record {
        from = omega (arith, r.from, shows.from);
        missing = shows.expected ∙ r.missing;
        most = r.most;
        same = r.same;
        unknown = r.unknown;
        known = r.known;
        hearing = λ h. shows.expected ∙ r.hearing h;
        untaken = λ w. untaken_still c.args.self.now w c.args.self.now.reassembly.expected (length c.args.out.now) c.take-count.result c.take-count.ensures.count;
        empty = λ w p. shows.bytes p ∙ forgotten_none (c.args.self.now.reassembly.from + c.take-count.result) (byte_at c.args.self.now.reassembly) p (r.empty w p);
        last = r.last;
        clear = λ f p h le. shows.bytes p ∙ forgotten_none (c.args.self.now.reassembly.from + c.take-count.result) (byte_at c.args.self.now.reassembly) p (r.clear f p h le);
      };
    }
