use Rattle.std.proofs.Common.{◌≡◌, ◌+◌, ◌-◌, ◌≤◌, ◌++◌, false, length, sym, ap, ◌∙◌, arith, rules, length-append}
use Rattle.std.proofs.lemmas.List.{drop-append-le}
use Rattle.book_endpoint.specs.States.{room}
use Rattle.tcp_endpoint.proofs.ReadyLaws.{room_is, una_given, gives_true, offered_is}
use Rattle.tcp_endpoint.proofs.endpoint.Endpoint.give.Goals as goal

pub unreachable-requires : goal.unreachable-requires
unreachable-requires c = let h = c.in-Err.ensures.variant.1 (omega (arith, c.free.ensures.value, c.free.ensures.small, c.if-free-piece.false)) in absurd (cc)

pub returns-clause-stands : goal.returns-clause-stands
returns-clause-stands c = λ s h.
    let open_too : c.args.self.now.closing ≡ false = search rules in
    let still : Rattle.book_endpoint.specs.States.is_closed c.args.self.now.phase ≡ false = search rules in
    let fits : length c.args.piece.now ≤ room s = rw (← room_is c.args.self.now s h, ← c.free.ensures.value) c.if-free-piece.false in
    let few = una_given c.args.self.now s h open_too still in
    rw (offered_is s c.args.piece.now (gives_true s (sym h.closing ∙ open_too) (rw (← h.phase) still)) fits)
    (record {
      phase = h.phase;
      isn = h.isn;
      peer_isn = h.peer_isn;
      una = h.una;
      next = h.next;
      send_window = h.send_window;
      wl1 = h.wl1;
      wl2 = h.wl2;
      expected = h.expected;
      fin = h.fin;
      given = ap (λ n. n + length c.args.piece.now) h.given ∙ sym (length-append s.given c.args.piece.now);
      queue = c.in-Ok.ensures.ok ∙ ap (λ q. q ++ c.args.piece.now) h.queue ∙ sym (drop-append-le (s.una - (s.isn + 1)) s.given c.args.piece.now few);
      taken = h.taken;
      bytes = h.bytes;
      ack_owed = h.ack_owed;
      closing = h.closing;
      rst_owed = h.rst_owed;
      mss = h.mss;
      deadline = h.deadline;
      current = h.current;
    })
