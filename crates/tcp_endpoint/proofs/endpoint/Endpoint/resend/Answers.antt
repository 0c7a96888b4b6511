use Rattle.std.proofs.Common.{Some, refl, sym, ap, ◌∙◌}
use Rattle.book_endpoint.specs.Emissions as book
use Rattle.book_keys.specs.Coordination.{choose, current_after}
use Rattle.tcp_endpoint.specs.Plans.{draft_of}
use Rattle.tcp_endpoint.proofs.MakeLaws.{picked, chosen_same, none_chosen, keyed_same, with_row, resend_none, resend_keyless, resend_some, resends_made, resends_quiet, resends_keyless}
use Rattle.tcp_endpoint.proofs.endpoint.Endpoint.resend.Goals as goal

pub returns-in-None-clause-resends : goal.returns-in-None-clause-resends
returns-in-None-clause-resends g c = λ s h.
    let e = c.args.self.now in
    resends_quiet s _ h (resend_none c.args.table.now.rows e.pair c.args.now s (λ most. c.in-None.ensures.planned s most h))

pub returns-in-Some-choose-clause-resends : goal.returns-in-Some-choose-clause-resends
returns-in-Some-choose-clause-resends g c = λ s h.
    let e = c.args.self.now in
    let rows = c.args.table.now.rows in
    let now = c.args.now in
    let p = c.in-Some.plan in
    let k = picked e s rows now c.in-Some-choose.sending h c.in-Some-choose.ensures.sending in
    let chosen = k.sending in
    let most = book.most_bytes e.pair s chosen in
    let row = with_row s chosen.number in
    let made = c.make.ensures.makes row chosen
    (record {
      phase = h.phase;
      isn = h.isn;
      peer_isn = h.peer_isn;
      una = h.una;
      next = h.next;
      send_window = h.send_window;
      wl1 = h.wl1;
      wl2 = h.wl2;
      expected = h.expected;
      fin = h.fin;
      given = h.given;
      queue = h.queue;
      taken = h.taken;
      bytes = h.bytes;
      ack_owed = h.ack_owed;
      closing = h.closing;
      rst_owed = h.rst_owed;
      mss = h.mss;
      deadline = h.deadline;
      current = ap (λ b. b.current) c.in-Some-choose.ensures.current ∙ ap (λ o. current_after e.association.current o) (chosen_same e s rows now h ∙ k.is);
    })
    refl k.told_is k.here in
    resends_made s (book.made_under e.pair row chosen (draft_of row most p)) _ made
    (resend_some rows e.pair now s chosen (draft_of s most p) (c.in-Some.ensures.planned s most h) k.is ∙ sym (keyed_same e.pair s chosen chosen.number most p))

pub returns-in-None-choose-clause-resends : goal.returns-in-None-choose-clause-resends
returns-in-None-choose-clause-resends g c = λ s h.
    let e = c.args.self.now in
    let rows = c.args.table.now.rows in
    let now = c.args.now in
    let none = none_chosen (choose e.association.current rows e.association.pair now) c.in-None-choose.ensures.sending in
    resends_keyless s _
    (record {
      phase = h.phase;
      isn = h.isn;
      peer_isn = h.peer_isn;
      una = h.una;
      next = h.next;
      send_window = h.send_window;
      wl1 = h.wl1;
      wl2 = h.wl2;
      expected = h.expected;
      fin = h.fin;
      given = h.given;
      queue = h.queue;
      taken = h.taken;
      bytes = h.bytes;
      ack_owed = h.ack_owed;
      closing = h.closing;
      rst_owed = h.rst_owed;
      mss = h.mss;
      deadline = h.deadline;
      current = ap (λ b. b.current) c.in-None-choose.ensures.current ∙ ap (λ o. current_after e.association.current o) none ∙ h.current;
    })
    (resend_keyless rows e.pair now s (draft_of s 0 c.in-Some.plan) (c.in-Some.ensures.planned s 0 h) (sym (chosen_same e s rows now h) ∙ none))
