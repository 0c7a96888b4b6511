use Rattle.std.proofs.Common.{Some, refl, sym, ap, ◌∙◌}
use Rattle.book_endpoint.specs.Emissions as book
use Rattle.book_keys.specs.Coordination.{choose, current_after}
use Rattle.tcp_endpoint.specs.Plans.{draft_of}
use Rattle.tcp_endpoint.proofs.MakeLaws.{picked, chosen_same, none_chosen, keyed_same, with_row, emit_none, emit_keyless, emit_some, emits_made, emits_quiet, emits_keyless}
use Rattle.tcp_endpoint.proofs.endpoint.Endpoint.emit.Goals as goal

pub returns-in-None-clause-emits : goal.returns-in-None-clause-emits
returns-in-None-clause-emits g c = λ s h.
    let e = c.args.self.now in
    emits_quiet s _ h (emit_none c.args.table.now.rows e.pair c.args.now s (λ most. c.in-None.ensures.planned s most h))

pub returns-in-Some-choose-clause-emits : goal.returns-in-Some-choose-clause-emits
returns-in-Some-choose-clause-emits g c = λ s h.
    let e = c.args.self.now in
    let rows = c.args.table.now.rows in
    let now = c.args.now in
    let p = c.in-Some.plan in
    let k = picked e s rows now c.in-Some-choose.sending h c.in-Some-choose.ensures.sending in
    let chosen = k.sending in
    let most = book.most_bytes e.pair s chosen in
    let row = with_row s chosen.number in
    let made = c.make.ensures.makes row chosen
    (record {
      phase = h.phase;
      isn = h.isn;
      peer_isn = h.peer_isn;
      una = h.una;
      next = h.next;
      send_window = h.send_window;
      wl1 = h.wl1;
      wl2 = h.wl2;
      expected = h.expected;
      fin = h.fin;
      given = h.given;
      queue = h.queue;
      taken = h.taken;
      bytes = h.bytes;
      ack_owed = h.ack_owed;
      closing = h.closing;
      rst_owed = h.rst_owed;
      mss = h.mss;
      deadline = h.deadline;
      current = ap (λ b. b.current) c.in-Some-choose.ensures.current ∙ ap (λ o. current_after e.association.current o) (chosen_same e s rows now h ∙ k.is);
    })
    refl k.told_is k.here in
    emits_made s (book.made_under e.pair row chosen (draft_of row most p)) _ made
    (emit_some rows e.pair now s chosen (draft_of s most p) (c.in-Some.ensures.planned s most h) k.is ∙ sym (keyed_same e.pair s chosen chosen.number most p))

pub returns-in-None-choose-clause-emits : goal.returns-in-None-choose-clause-emits
returns-in-None-choose-clause-emits g c = λ s h.
    let e = c.args.self.now in
    let rows = c.args.table.now.rows in
    let now = c.args.now in
    let none = none_chosen (choose e.association.current rows e.association.pair now) c.in-None-choose.ensures.sending in
    emits_keyless s _
    (record {
      phase = h.phase;
      isn = h.isn;
      peer_isn = h.peer_isn;
      una = h.una;
      next = h.next;
      send_window = h.send_window;
      wl1 = h.wl1;
      wl2 = h.wl2;
      expected = h.expected;
      fin = h.fin;
      given = h.given;
      queue = h.queue;
      taken = h.taken;
      bytes = h.bytes;
      ack_owed = h.ack_owed;
      closing = h.closing;
      rst_owed = h.rst_owed;
      mss = h.mss;
      deadline = h.deadline;
      current = ap (λ b. b.current) c.in-None-choose.ensures.current ∙ ap (λ o. current_after e.association.current o) none ∙ h.current;
    })
    (emit_keyless rows e.pair now s (draft_of s 0 c.in-Some.plan) (c.in-Some.ensures.planned s 0 h) (sym (chosen_same e s rows now h) ∙ none))
